-- What is spelled as an object the reader accepts.
use Rattle.std.proofs.Common.{◌≡◌, ℕ, zero, suc, ◌<◌, ◌≤◌, Bool, true, false, List, [], ◌∷◌, ◌++◌, length, ℤ, pos, negsuc, None, codes, refl, ap, ◌∙◌, subst, arith}
use Rattle.format.specs.Bytes.{Bytes, ok, same}
use Rattle.format.specs.Objects.{Obj, null, boolean, integer, decimal, literal, hexadecimal, named, array, dict, ref, Objs, no_objs, more_objs, Entries, no_entries, more_entries, Reader, ref_rest, tried, trial, word_obj, mark_obj, of_token, closes_array, items, holds, closes, key, next, valued, keyed, entry_at, entries, one, too_deep, in_array, in_dict, object_by}
use Rattle.format.specs.Strings.{turns}
use Rattle.format.specs.Tokens.{Kind, int, real, name, text, hex, mark, word, open_array, close_array, open_dict, close_dict, Token, token_at}
use Rattle.locality.proofs.Dictionaries.{key_bytes_at, value_bytes_at, behind_key}
use Rattle.grammar.specs.Lexing.{Lexeme, Lexes}
use Rattle.grammar.specs.Trees.{bytes_of, Refers, Absent, Spells, Items, Pairs, Ahead}
use Rattle.grammar.proofs.Keys.{Apart, apart_more, apart_none}
use Rattle.grammar.proofs.References.{ref_found, refers_at, ref_none}
use Rattle.grammar.proofs.Sequences.{Head, head, lexes_split, lexes_shorter, lexes_none, ahead_more, single, value_bytes}
use Rattle.grammar.proofs.Sound.{object_skips}

-- how the inside of an array and of a dictionary is read
abbrev array_by : ℕ → ℕ → Reader
array_by zero = too_deep
array_by (suc d) = in_array (object_by d)

abbrev dict_by : ℕ → ℕ → Reader
dict_by zero = too_deep
dict_by (suc d) = in_dict (object_by d)

by_kind : (d p : ℕ) (xs : Bytes) (k : Kind) → (token_at p xs).kind ≡ k → object_by d p xs ≡ of_token (array_by d (token_at p xs).from) (dict_by d (token_at p xs).from) k (token_at p xs)
unfolding object_by one
by_kind zero p xs k e = ap (λ j. of_token (too_deep (token_at p xs).from) (too_deep (token_at p xs).from) j (token_at p xs)) e
by_kind (suc d) p xs k e = ap (λ j. of_token (in_array (object_by d) (token_at p xs).from) (in_dict (object_by d) (token_at p xs).from) j (token_at p xs)) e

-- an object of one token
leaf_read : (d p : ℕ) (xs : Bytes) (t : Lexeme) (k : Kind) (o : Obj) (q : ℕ) (rest : Bytes) → length xs < turns → t.kind ≡ k → Lexes p xs (t ∷ []) q rest →
    ((A D : Reader) (u : Token) → of_token A D k u ≡ ok o u.to u.rest) → object_by d p xs ≡ ok o q rest
leaf_read d p xs t k o q rest h e l f =
    let s = single l h in
    let a = s.to in
    let b = s.left in
    by_kind d p xs k (s.kind ∙ e) ∙ f (array_by d (token_at p xs).from) (dict_by d (token_at p xs).from) (token_at p xs) ∙ (λ i. ok o (a i) (b i))

int_read : (d p : ℕ) (xs : Bytes) (t : Lexeme) (u : Bool) (z : ℤ) (us : List Lexeme) (q : ℕ) (rest : Bytes) → length xs < turns → t.kind ≡ int u z → Lexes p xs (t ∷ []) q rest →
    Ahead q rest us → ((g : ℕ) → Refers u z g us → ⊥) → object_by d p xs ≡ ok (integer z) q rest
unfolding of_token trial tried
int_read d p xs t false z us q rest h e l a f = leaf_read d p xs t (int false z) (integer z) q rest h e l (λ A D v. refl)
int_read d p xs t true (negsuc n) us q rest h e l a f = leaf_read d p xs t (int true (negsuc n)) (integer (negsuc n)) q rest h e l (λ A D v. refl)
int_read d p xs t true (pos n) us q rest h e l a f =
    let s = single l h in
    let c = s.to in
    let b = s.left in
    let m = lexes_shorter l in
    let r : ref_rest n (token_at q rest) ≡ None = ref_none n q rest us (omega arith) a f in
    let r' : ref_rest n (token_at (token_at p xs).to (token_at p xs).rest) ≡ None = (λ i. ref_rest n (token_at (c i) (b i))) ∙ r in
    by_kind d p xs (int true (pos n)) (s.kind ∙ e) ∙ rw (r', tried) (λ i. ok (integer (pos n)) (c i) (b i))

ref_read : (d n g p : ℕ) (xs : Bytes) (a b c : Lexeme) (q : ℕ) (rest : Bytes) → length xs < turns → a.kind ≡ int true (pos n) → Refers true (pos n) g (b ∷ c ∷ []) → Lexes p xs (a ∷ b ∷ c ∷ []) q rest →
    object_by d p xs ≡ ok (ref n g) q rest
unfolding of_token trial tried
ref_read d n g p xs a b c q rest h e r l =
    let u = head l h in
    let p₁ : ℕ = (token_at p xs).to in
    let x₁ : Bytes = (token_at p xs).rest in
    let h₁ : length (token_at p xs).rest < turns = (let s = u.shorter in omega arith) in
    let v = head u.more h₁ in
    let h₂ : length (token_at (token_at p xs).to (token_at p xs).rest).rest < turns = (let s = v.shorter in omega arith) in
    let w = single v.more h₂ in
    let f = ref_found n g p₁ x₁ (refers_at r h₁ u.more) in
    let i₁ = w.to in
    let i₂ = w.left in
    by_kind d p xs (int true (pos n)) (ap (λ (x : Lexeme). x.kind) u.lex ∙ e) ∙ rw (f, tried) (λ i. ok (ref n g) (i₁ i) (i₂ i))

-- an object has a first token, which closes no array
pub record Opens (ts : List Lexeme) : Type 0 where
  pub first : Lexeme
  pub others : List Lexeme
  pub is : ts ≡ first ∷ others
  pub stays : closes_array first.kind ≡ false

pub opens : {d : ℕ} {o : Obj} {ts us : List Lexeme} → Spells d o ts us → Opens ts
unfolding closes_array
opens (Spells.null_word {t = t} e) = record { first = t; others = []; is = refl; stays = ap closes_array e }
opens (Spells.true_word {t = t} e) = record { first = t; others = []; is = refl; stays = ap closes_array e }
opens (Spells.false_word {t = t} e) = record { first = t; others = []; is = refl; stays = ap closes_array e }
opens (Spells.an_integer {t = t} e f) = record { first = t; others = []; is = refl; stays = ap closes_array e }
opens (Spells.a_real {t = t} e) = record { first = t; others = []; is = refl; stays = ap closes_array e }
opens (Spells.a_literal {t = t} e) = record { first = t; others = []; is = refl; stays = ap closes_array e }
opens (Spells.a_hexadecimal {t = t} e) = record { first = t; others = []; is = refl; stays = ap closes_array e }
opens (Spells.a_name {t = t} e) = record { first = t; others = []; is = refl; stays = ap closes_array e }
opens (Spells.an_array {a = a} {b = b} {ts = ts} e i f) = record { first = a; others = ts ++ (b ∷ []); is = refl; stays = ap closes_array e }
opens (Spells.a_dictionary {a = a} {b = b} {ts = ts} e i f) = record { first = a; others = ts ++ (b ∷ []); is = refl; stays = ap closes_array e }
opens (Spells.a_reference {a = a} {b = b} {c = c} e r) = record { first = a; others = b ∷ c ∷ []; is = refl; stays = ap closes_array e }

-- its tokens take bytes, and the reader meets the first
record Takes (p : ℕ) (xs : Bytes) (q : ℕ) (rest : Bytes) : Type 0 where
  stays : closes_array (token_at p xs).kind ≡ false
  shorter : length rest < length xs

takes : {ts : List Lexeme} {p : ℕ} {xs : Bytes} {q : ℕ} {rest : Bytes} → Opens ts → length xs < turns → Lexes p xs ts q rest → Takes p xs q rest
takes {ts} {p} {xs} {q} {rest} o h l = go (head (subst (λ us. Lexes p xs us q rest) o.is l) h)
  where
    go : Head p xs o.first o.others q rest → Takes p xs q rest
    go k = record {
      stays = ap (λ (x : Lexeme). closes_array x.kind) k.lex ∙ o.stays;
      shorter = let s = k.shorter in let t = lexes_shorter k.more in omega arith;
    }

some_opens : {ts : List Lexeme} → Opens ts → 1 ≤ length ts
some_opens {ts} o = let e : length ts ≡ suc (length o.others) = ap length o.is in omega arith

-- one turn of reading elements
items_close : (elem : Reader) (n p : ℕ) (xs : Bytes) → closes_array (token_at p xs).kind ≡ true → items elem (suc n) p xs ≡ ok no_objs (token_at p xs).to (token_at p xs).rest
unfolding items
items_close elem n p xs e = rw (e, items) refl

items_go : (elem : Reader) (n p : ℕ) (xs : Bytes) (o : Obj) (q : ℕ) (ys : Bytes) (os : Objs) (r : ℕ) (rest : Bytes) → closes_array (token_at p xs).kind ≡ false →
    elem p xs ≡ ok o q ys → items elem n q ys ≡ ok os r rest → items elem (suc n) p xs ≡ ok (more_objs o os) r rest
unfolding items
items_go elem n p xs o q ys os r rest e a b = rw (e, items) (rw a (rw b refl))

-- one turn of reading entries
next_close : (p : ℕ) (k : Kind) → k ≡ mark close_dict → next p k ≡ closes
unfolding next
next_close p k e = rw e refl

next_name : (p : ℕ) (k : Kind) (d : Bytes) → k ≡ name d → next p k ≡ key d
unfolding next
next_name p k d e = rw e refl

entries_close : (elem : Reader) (n : ℕ) (seen : Entries) (p : ℕ) (xs : Bytes) → (token_at p xs).kind ≡ mark close_dict → entries elem (suc n) seen p xs ≡ ok no_entries (token_at p xs).to (token_at p xs).rest
unfolding entries entry_at
entries_close elem n seen p xs e = rw (next_close (token_at p xs).from (token_at p xs).kind e, entry_at) refl

entries_go : (elem : Reader) (n : ℕ) (seen : Entries) (p : ℕ) (xs : Bytes) (k : Bytes) (o : Obj) (q : ℕ) (ys : Bytes) (es : Entries) (r : ℕ) (rest : Bytes) →
    (token_at p xs).kind ≡ name k → holds k seen ≡ false → elem (behind_key p xs).0 (behind_key p xs).1 ≡ ok o q ys →
    entries elem n (more_entries k (key_bytes_at p xs) (value_bytes_at p xs q) o seen) q ys ≡ ok es r rest →
    entries elem (suc n) seen p xs ≡ ok (more_entries k (key_bytes_at p xs) (value_bytes_at p xs q) o es) r rest
unfolding entries entry_at keyed valued
entries_go elem n seen p xs k o q ys es r rest e f a b =
    rw (next_name (token_at p xs).from (token_at p xs).kind k e, entry_at) (rw (f, keyed) (rw a (rw b refl)))

-- an array, given how its elements are read
array_read : (d p : ℕ) (xs : Bytes) (a b : Lexeme) (ts us : List Lexeme) (os : Objs) (q : ℕ) (rest : Bytes) → length xs < turns → a.kind ≡ mark open_array → b.kind ≡ mark close_array →
    Lexes p xs (a ∷ (ts ++ (b ∷ []))) q rest → Ahead q rest us →
    ((n p' : ℕ) (ys : Bytes) (r : ℕ) (zs : Bytes) → length ys < n → length ys < turns → Lexes p' ys ts r zs → Ahead r zs (b ∷ us) → closes_array (token_at r zs).kind ≡ true →
    items (object_by d) n p' ys ≡ ok os (token_at r zs).to (token_at r zs).rest) → object_by (suc d) p xs ≡ ok (array os) q rest
unfolding of_token mark_obj in_array closes_array
array_read d p xs a b ts us os q rest h e f l w i =
    let u = head l h in
    let s = lexes_split ts u.more in
    let h₁ : length (token_at p xs).rest < turns = (let k = u.shorter in omega arith) in
    let h₂ : length s.bytes < turns = (let k = lexes_shorter s.before in omega arith) in
    let t = single s.behind h₂ in
    let c : closes_array (token_at s.place s.bytes).kind ≡ true = ap closes_array (t.kind ∙ f) in
    let m = i turns (token_at p xs).to (token_at p xs).rest s.place s.bytes h₁ h₁ s.before (ahead_more s.behind w) c in
    let y = t.to in
    let z = t.left in
    by_kind (suc d) p xs (mark open_array) (ap (λ (x : Lexeme). x.kind) u.lex ∙ e) ∙ rw m (λ j. ok (array os) (y j) (z j))

-- a dictionary, given how its entries are read
dict_read : (d p : ℕ) (xs : Bytes) (a b : Lexeme) (ts us : List Lexeme) (es : Entries) (q : ℕ) (rest : Bytes) → length xs < turns → a.kind ≡ mark open_dict → b.kind ≡ mark close_dict →
    Lexes p xs (a ∷ (ts ++ (b ∷ []))) q rest → Ahead q rest us →
    ((n : ℕ) (seen : Entries) (p' : ℕ) (ys : Bytes) (r : ℕ) (zs : Bytes) → length ys < n → length ys < turns → Apart es seen → Lexes p' ys ts r zs → Ahead r zs (b ∷ us) → (token_at r zs).kind ≡ mark close_dict →
    entries (object_by d) n seen p' ys ≡ ok es (token_at r zs).to (token_at r zs).rest) → object_by (suc d) p xs ≡ ok (dict es) q rest
unfolding of_token mark_obj in_dict
dict_read d p xs a b ts us es q rest h e f l w i =
    let u = head l h in
    let s = lexes_split ts u.more in
    let h₁ : length (token_at p xs).rest < turns = (let k = u.shorter in omega arith) in
    let h₂ : length s.bytes < turns = (let k = lexes_shorter s.before in omega arith) in
    let t = single s.behind h₂ in
    let m = i turns no_entries (token_at p xs).to (token_at p xs).rest s.place s.bytes h₁ h₁ (apart_none es) s.before (ahead_more s.behind w) (t.kind ∙ f) in
    let y = t.to in
    let z = t.left in
    by_kind (suc d) p xs (mark open_dict) (ap (λ (x : Lexeme). x.kind) u.lex ∙ e) ∙ rw m (λ j. ok (dict es) (y j) (z j))

-- an entry, given how its value and the entries behind it are read
pair_read : (d n : ℕ) (seen : Entries) (p : ℕ) (xs : Bytes) (k : Bytes) (o : Obj) (es : Entries) (t : Lexeme) (ts vs us : List Lexeme) (r : ℕ) (ys : Bytes) → length xs < suc n → length xs < turns →
    t.kind ≡ name k → Absent k es → Opens ts → Apart (more_entries k t.own (bytes_of ts) o es) seen → Lexes p xs (t ∷ (ts ++ vs)) r ys → Ahead r ys us →
    ((p' : ℕ) (zs : Bytes) (q : ℕ) (rest : Bytes) → length zs < turns → Lexes p' zs ts q rest → Ahead q rest (vs ++ us) → object_by d p' zs ≡ ok o q rest) →
    ((seen' : Entries) (p' : ℕ) (zs : Bytes) → length zs < n → length zs < turns → Apart es seen' → Lexes p' zs vs r ys → entries (object_by d) n seen' p' zs ≡ ok es (token_at r ys).to (token_at r ys).rest) →
    entries (object_by d) (suc n) seen p xs ≡ ok (more_entries k t.own (bytes_of ts) o es) (token_at r ys).to (token_at r ys).rest
pair_read d n seen p xs k o es t ts vs us r ys b h e a so ap' l w f g =
    let u = head l h in
    let s = lexes_split ts u.more in
    let h₁ : length (token_at p xs).rest < turns = (let c = u.shorter in omega arith) in
    let c = takes so h₁ s.before in
    let h₂ : length s.bytes < turns = (let j = c.shorter in omega arith) in
    let h₃ : length s.bytes < n = (let j = c.shorter in let m = u.shorter in omega arith) in
    let kb : key_bytes_at p xs ≡ t.own = ap (λ (x : Lexeme). x.own) u.lex in
    let vb : value_bytes_at p xs s.place ≡ bytes_of ts = value_bytes ts s.before (some_opens so) h₁ in
    let v = f (token_at p xs).to (token_at p xs).rest s.place s.bytes h₁ s.before (ahead_more s.behind w) in
    let m = g (more_entries k (key_bytes_at p xs) (value_bytes_at p xs s.place) o seen) s.place s.bytes h₃ h₂
    (apart_more k (key_bytes_at p xs) (value_bytes_at p xs s.place) o es seen a ap'.1) s.behind in
    entries_go (object_by d) n seen p xs k o s.place s.bytes es (token_at r ys).to (token_at r ys).rest (ap (λ (x : Lexeme). x.kind) u.lex ∙ e) ap'.0
    (object_skips d (token_at p xs).to (token_at p xs).rest ∙ v) m
    ∙ (λ i. ok (more_entries k (kb i) (vb i) o es) (token_at r ys).to (token_at r ys).rest)

-- an element, given how it and the elements behind it are read
item_read : (d n p : ℕ) (xs : Bytes) (o : Obj) (os : Objs) (ts vs us : List Lexeme) (r : ℕ) (ys : Bytes) → length xs < suc n → length xs < turns → Opens ts → Lexes p xs (ts ++ vs) r ys → Ahead r ys us →
    ((p' : ℕ) (zs : Bytes) (q : ℕ) (rest : Bytes) → length zs < turns → Lexes p' zs ts q rest → Ahead q rest (vs ++ us) → object_by d p' zs ≡ ok o q rest) →
    ((p' : ℕ) (zs : Bytes) → length zs < n → length zs < turns → Lexes p' zs vs r ys → items (object_by d) n p' zs ≡ ok os (token_at r ys).to (token_at r ys).rest) →
    items (object_by d) (suc n) p xs ≡ ok (more_objs o os) (token_at r ys).to (token_at r ys).rest
item_read d n p xs o os ts vs us r ys b h so l w f g =
    let s = lexes_split ts l in
    let c = takes so h s.before in
    let h₂ : length s.bytes < turns = (let j = c.shorter in omega arith) in
    let h₃ : length s.bytes < n = (let j = c.shorter in omega arith) in
    items_go (object_by d) n p xs o s.place s.bytes os (token_at r ys).to (token_at r ys).rest c.stays
    (f p xs s.place s.bytes h s.before (ahead_more s.behind w)) (g s.place s.bytes h₃ h₂ s.behind)

no_items_fact : (d n p : ℕ) (xs : Bytes) (r : ℕ) (ys : Bytes) → Lexes p xs [] r ys → closes_array (token_at r ys).kind ≡ true → items (object_by d) (suc n) p xs ≡ ok no_objs (token_at r ys).to (token_at r ys).rest
no_items_fact d n p xs r ys l c = let e = lexes_none l in let a = e.0 in let b = e.1 in (λ i. items (object_by d) (suc n) (a i) (b i)) ∙ items_close (object_by d) n r ys c

no_pairs_fact : (d n : ℕ) (seen : Entries) (p : ℕ) (xs : Bytes) (r : ℕ) (ys : Bytes) → Lexes p xs [] r ys → (token_at r ys).kind ≡ mark close_dict →
    entries (object_by d) (suc n) seen p xs ≡ ok no_entries (token_at r ys).to (token_at r ys).rest
no_pairs_fact d n seen p xs r ys l c = let e = lexes_none l in let a = e.0 in let b = e.1 in (λ i. entries (object_by d) (suc n) seen (a i) (b i)) ∙ entries_close (object_by d) n seen r ys c

-- the objects of one token
pub of_null : (A D : Reader) (u : Token) → of_token A D (word (codes "null")) u ≡ ok null u.to u.rest
unfolding of_token word_obj same
of_null A D u = refl

pub of_true : (A D : Reader) (u : Token) → of_token A D (word (codes "true")) u ≡ ok (boolean true) u.to u.rest
unfolding of_token word_obj same
of_true A D u = refl

pub of_false : (A D : Reader) (u : Token) → of_token A D (word (codes "false")) u ≡ ok (boolean false) u.to u.rest
unfolding of_token word_obj same
of_false A D u = refl

pub of_real : (w : Bytes) (A D : Reader) (u : Token) → of_token A D (real w) u ≡ ok (decimal w) u.to u.rest
unfolding of_token
of_real w A D u = refl

pub of_text : (w : Bytes) (A D : Reader) (u : Token) → of_token A D (text w) u ≡ ok (literal w) u.to u.rest
unfolding of_token
of_text w A D u = refl

pub of_hex : (w : Bytes) (A D : Reader) (u : Token) → of_token A D (hex w) u ≡ ok (hexadecimal w) u.to u.rest
unfolding of_token
of_hex w A D u = refl

pub of_name : (w : Bytes) (A D : Reader) (u : Token) → of_token A D (name w) u ≡ ok (named w) u.to u.rest
unfolding of_token
of_name w A D u = refl

mutual
  pub spells_read : {d : ℕ} {o : Obj} {ts us : List Lexeme} → Spells d o ts us → (p : ℕ) (xs : Bytes) (q : ℕ) (rest : Bytes) → length xs < turns → Lexes p xs ts q rest → Ahead q rest us → object_by d p xs ≡ ok o q rest
  spells_read (Spells.null_word {d} {t} e) p xs q rest h l a = leaf_read d p xs t (word (codes "null")) null q rest h e l of_null
  spells_read (Spells.true_word {d} {t} e) p xs q rest h l a = leaf_read d p xs t (word (codes "true")) (boolean true) q rest h e l of_true
  spells_read (Spells.false_word {d} {t} e) p xs q rest h l a = leaf_read d p xs t (word (codes "false")) (boolean false) q rest h e l of_false
  spells_read (Spells.an_integer {d} {u} {z} {t} {us} e f) p xs q rest h l a = int_read d p xs t u z us q rest h e l a f
  spells_read (Spells.a_real {d} {w} {t} e) p xs q rest h l a = leaf_read d p xs t (real w) (decimal w) q rest h e l (of_real w)
  spells_read (Spells.a_literal {d} {w} {t} e) p xs q rest h l a = leaf_read d p xs t (text w) (literal w) q rest h e l (of_text w)
  spells_read (Spells.a_hexadecimal {d} {w} {t} e) p xs q rest h l a = leaf_read d p xs t (hex w) (hexadecimal w) q rest h e l (of_hex w)
  spells_read (Spells.a_name {d} {w} {t} e) p xs q rest h l a = leaf_read d p xs t (name w) (named w) q rest h e l (of_name w)
  spells_read (Spells.an_array {d} {os} {a = a₁} {b} {ts} {us} e i f) p xs q rest h l a = array_read d p xs a₁ b ts us os q rest h e f l a (items_read i)
  spells_read (Spells.a_dictionary {d} {es} {a = a₁} {b} {ts} {us} e i f) p xs q rest h l a = dict_read d p xs a₁ b ts us es q rest h e f l a (pairs_read i)
  spells_read (Spells.a_reference {d} {n} {g} {a = a₁} {b} {c} e r) p xs q rest h l a = ref_read d n g p xs a₁ b c q rest h e r l

  items_read : {d : ℕ} {os : Objs} {ts us : List Lexeme} → Items d os ts us → (n p : ℕ) (xs : Bytes) (r : ℕ) (ys : Bytes) → length xs < n → length xs < turns → Lexes p xs ts r ys → Ahead r ys us →
      closes_array (token_at r ys).kind ≡ true → items (object_by d) n p xs ≡ ok os (token_at r ys).to (token_at r ys).rest
  items_read (Items.no_items {d}) zero p xs r ys b h l a c = absurd (omega arith)
  items_read (Items.no_items {d}) (suc n) p xs r ys b h l a c = no_items_fact d n p xs r ys l c
  items_read (Items.more_items {d} {o} {os} {ts} {vs} {us} s i) zero p xs r ys b h l a c = absurd (omega arith)
  items_read (Items.more_items {d} {o} {os} {ts} {vs} {us} s i) (suc n) p xs r ys b h l a c =
      item_read d n p xs o os ts vs us r ys b h (opens s) l a (spells_read s) (λ p' zs b' h' l'. items_read i n p' zs r ys b' h' l' a c)

  pairs_read : {d : ℕ} {es : Entries} {ts us : List Lexeme} → Pairs d es ts us → (n : ℕ) (seen : Entries) (p : ℕ) (xs : Bytes) (r : ℕ) (ys : Bytes) → length xs < n → length xs < turns → Apart es seen → Lexes p xs ts r ys → Ahead r ys us →
      (token_at r ys).kind ≡ mark close_dict → entries (object_by d) n seen p xs ≡ ok es (token_at r ys).to (token_at r ys).rest
  pairs_read (Pairs.no_pairs {d}) zero seen p xs r ys b h s l a c = absurd (omega arith)
  pairs_read (Pairs.no_pairs {d}) (suc n) seen p xs r ys b h s l a c = no_pairs_fact d n seen p xs r ys l c
  pairs_read (Pairs.more_pairs {d} {k} {o} {es} {t} {ts} {vs} {us} e f v i) zero seen p xs r ys b h s l a c = absurd (omega arith)
  pairs_read (Pairs.more_pairs {d} {k} {o} {es} {t} {ts} {vs} {us} e f v i) (suc n) seen p xs r ys b h s l a c =
      pair_read d n seen p xs k o es t ts vs us r ys b h e f (opens v) s l a (spells_read v) (λ seen' p' zs b' h' s' l'. pairs_read i n seen' p' zs r ys b' h' s' l' a c)
