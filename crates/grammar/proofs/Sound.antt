-- What the reader accepts as an object is spelled as one.
use Rattle.std.proofs.Common.{◌≡◌, ℕ, zero, suc, ◌<◌, ◌≤◌, Bool, true, false, List, [], ◌∷◌, ◌++◌, length, ℤ, pos, negsuc, codes, sym, refl, ap, ◌∙◌, subst, arith}
use Rattle.format.specs.Bytes.{Bytes, ok, then, same}
use Rattle.format.specs.Objects.{Obj, null, boolean, integer, decimal, literal, hexadecimal, named, array, dict, ref, Objs, more_objs, Entries, no_entries, more_entries, Reader, ref_rest, tried, trial, word_obj, mark_obj, of_token, closes_array, items, holds, entries, one, too_deep, in_array, in_dict, object_by}
use Rattle.format.specs.Space.{skip}
use Rattle.format.specs.Strings.{turns}
use Rattle.format.specs.Tokens.{Mark, Kind, int, real, name, text, hex, mark, word, open_array, close_array, open_dict, close_dict, ended, flawed, Token, token_at}
use Rattle.locality.specs.Locality.{Good}
use Rattle.locality.proofs.Arrays.{closing}
use Rattle.locality.proofs.Cases.{cases, cases_o}
use Rattle.locality.proofs.Dictionaries.{key_bytes_at, value_bytes_at, Turn, ends, goes, turn}
use Rattle.locality.proofs.Local.{never, same_rest, same_value, same_place, then_ok}
use Rattle.locality.proofs.Objects.{same_eq}
use Rattle.grammar.specs.Lexing.{Lexeme, Lexes}
use Rattle.grammar.specs.Reading.{lexeme_of}
use Rattle.grammar.specs.Trees.{bytes_of, refers, Spells, Items, Pairs, Ahead}
use Rattle.grammar.proofs.Keys.{Apart, apart_absent, apart_fewer}
use Rattle.grammar.proofs.References.{RefAt, behind, ref_read, not_signed, not_negative, none_refers, good_word}
use Rattle.grammar.proofs.Sequences.{one_lexes, lexes_join, lexes_shorter, ahead_more, token_skips, value_bytes}

-- an object that was read, and its tokens, whatever tokens stand ahead
pub record Told (d p : ℕ) (xs : Bytes) (o : Obj) (q : ℕ) (rest : Bytes) : Type 0 where
  pub tokens : List Lexeme
  pub some : 1 ≤ length tokens
  pub lexes : Lexes p xs tokens q rest
  pub spells : (us : List Lexeme) → Ahead q rest us → Spells d o tokens us

-- a reader all of whose answers are told
abbrev pub Tells : ℕ → Reader → Type 0
Tells d r = (p : ℕ) (xs : Bytes) (o : Obj) (q : ℕ) (rest : Bytes) → length xs < turns → r p xs ≡ ok o q rest → Told d p xs o q rest

told_at : {d p : ℕ} {xs : Bytes} {o o' : Obj} {q q' : ℕ} {rest rest' : Bytes} → ok o q rest ≡ ok o' q' rest' → Told d p xs o q rest → Told d p xs o' q' rest'
told_at {d} {p} {xs} {o} {o'} {q} {q'} {rest} {rest'} e t =
    subst (λ z. Told d p xs o' q' z) (same_rest e) (subst (λ z. Told d p xs o' z rest) (same_place e) (subst (λ z. Told d p xs z q rest) (same_value e) t))

-- an object of one token
leaf : (d p : ℕ) (xs : Bytes) (k : Kind) (o : Obj) → (token_at p xs).kind ≡ k → Good k →
    ((t : Lexeme) → t.kind ≡ k → (us : List Lexeme) → Ahead (token_at p xs).to (token_at p xs).rest us → Spells d o (t ∷ []) us) → Told d p xs o (token_at p xs).to (token_at p xs).rest
leaf d p xs k o e g f = record {
  tokens = lexeme_of p xs (token_at p xs) ∷ [];
  some = omega arith;
  lexes = one_lexes p xs (subst Good (sym e) g);
  spells = λ us a. f (lexeme_of p xs (token_at p xs)) e us a;
}

-- behind a token there are fewer bytes
behind_token : (p : ℕ) (xs : Bytes) → Good (token_at p xs).kind → length xs < turns → length (token_at p xs).rest < turns
behind_token p xs g h = let s = lexes_shorter (one_lexes p xs g) in omega arith

int_good : (k : Kind) (u : Bool) (z : ℤ) → k ≡ int u z → Good k
unfolding Good
int_good k u z e = rw e tt

ref_told : (d n g p : ℕ) (xs : Bytes) → (token_at p xs).kind ≡ int true (pos n) → RefAt n g (token_at p xs).to (token_at p xs).rest →
    Told d p xs (ref n g) (behind n g (token_at p xs).to (token_at p xs).rest).1 (behind n g (token_at p xs).to (token_at p xs).rest).2
ref_told d n g p xs k r =
    let p₁ : ℕ = (token_at p xs).to in
    let x₁ : Bytes = (token_at p xs).rest in
    let p₂ : ℕ = (token_at p₁ x₁).to in
    let x₂ : Bytes = (token_at p₁ x₁).rest in
    record {
      tokens = lexeme_of p xs (token_at p xs) ∷ lexeme_of p₁ x₁ (token_at p₁ x₁) ∷ lexeme_of p₂ x₂ (token_at p₂ x₂) ∷ [];
      some = omega arith;
      lexes = lexes_join (one_lexes p xs (int_good (token_at p xs).kind true (pos n) k))
          (lexes_join (one_lexes p₁ x₁ (int_good (token_at p₁ x₁).kind true (pos g) r.gen)) (one_lexes p₂ x₂ (good_word (token_at p₂ x₂).kind (codes "R") r.mark)));
      spells = λ us a. Spells.a_reference k (refers r.low r.small r.gen r.mark);
    }

int_told : (d p : ℕ) (xs : Bytes) (u : Bool) (z : ℤ) (o : Obj) (q : ℕ) (rest : Bytes) → length xs < turns → (token_at p xs).kind ≡ int u z → trial u z (token_at p xs) ≡ ok o q rest → Told d p xs o q rest
unfolding trial tried Good
int_told d p xs false z o q rest h k e = told_at e (leaf d p xs (int false z) (integer z) k tt (λ t i us a. Spells.an_integer i (λ g r. not_signed r)))
int_told d p xs true (negsuc n) o q rest h k e = told_at e (leaf d p xs (int true (negsuc n)) (integer (negsuc n)) k tt (λ t i us a. Spells.an_integer i (λ g r. not_negative r)))
int_told d p xs true (pos n) o q rest h k e =
    cases_o (ref_rest n (token_at (token_at p xs).to (token_at p xs).rest))
    (λ b. told_at (rw (b, tried) at e)
    (leaf d p xs (int true (pos n)) (integer (pos n)) k tt
    (λ t i us a. Spells.an_integer i (none_refers n (token_at p xs).to (token_at p xs).rest us (behind_token p xs (int_good (token_at p xs).kind true (pos n) k) h) a b))))
    (λ r b.
    let v = ref_read n (token_at p xs).to (token_at p xs).rest r b in
    let m : ok r.0 r.1 r.2 ≡ ok o q rest = rw (b, tried) at e in
    told_at ((λ i. ok (v.2 i).0 (v.2 i).1 (v.2 i).2) ∙ m) (ref_told d n v.0 p xs k v.1))

word_told : (d p : ℕ) (xs : Bytes) (w : Bytes) (o : Obj) (q : ℕ) (rest : Bytes) → (token_at p xs).kind ≡ word w → word_obj w (token_at p xs) ≡ ok o q rest → Told d p xs o q rest
unfolding word_obj Good
word_told d p xs w o q rest k e =
    cases (same w (codes "true"))
    (λ a. told_at (rw (a, word_obj) at e) (leaf d p xs (word (codes "true")) (boolean true) (k ∙ ap word (same_eq w (codes "true") a)) tt (λ t i us _. Spells.true_word i)))
    (λ a.
    cases (same w (codes "false"))
    (λ b. told_at (rw (a, b, word_obj) at e) (leaf d p xs (word (codes "false")) (boolean false) (k ∙ ap word (same_eq w (codes "false") b)) tt (λ t i us _. Spells.false_word i)))
    (λ b.
    cases (same w (codes "null"))
    (λ c. told_at (rw (a, b, c, word_obj) at e) (leaf d p xs (word (codes "null")) null (k ∙ ap word (same_eq w (codes "null") c)) tt (λ t i us _. Spells.null_word i)))
    (λ c. never (rw (a, b, c, word_obj) at e))))

-- what stands behind an opening mark, up to the closing one
record Inner (m : Mark) (d p : ℕ) (xs : Bytes) (o : Obj) (q : ℕ) (rest : Bytes) : Type 0 where
  tokens : List Lexeme
  lexes : Lexes p xs tokens q rest
  spells : (a : Lexeme) → a.kind ≡ mark m → (us : List Lexeme) → Ahead q rest us → Spells d o (a ∷ tokens) us

abbrev Inners : Mark → ℕ → (ℕ → Reader) → Type 0
Inners m d A = (s p : ℕ) (xs : Bytes) (o : Obj) (q : ℕ) (rest : Bytes) → length xs < turns → A s p xs ≡ ok o q rest → Inner m d p xs o q rest

mark_good : (k : Kind) (m : Mark) → k ≡ mark m → Good k
unfolding Good
mark_good k m e = rw e tt

mark_told : (m : Mark) (d : ℕ) (A : ℕ → Reader) → Inners m d A → (p : ℕ) (xs : Bytes) (o : Obj) (q : ℕ) (rest : Bytes) → length xs < turns → (token_at p xs).kind ≡ mark m →
    A (token_at p xs).from (token_at p xs).to (token_at p xs).rest ≡ ok o q rest → Told d p xs o q rest
mark_told m d A f p xs o q rest h k e = made (f (token_at p xs).from (token_at p xs).to (token_at p xs).rest o q rest (behind_token p xs (mark_good (token_at p xs).kind m k) h) e)
  where
    made : Inner m d (token_at p xs).to (token_at p xs).rest o q rest → Told d p xs o q rest
    made i = record {
      tokens = lexeme_of p xs (token_at p xs) ∷ i.tokens;
      some = omega arith;
      lexes = lexes_join (one_lexes p xs (mark_good (token_at p xs).kind m k)) i.lexes;
      spells = λ us a. i.spells (lexeme_of p xs (token_at p xs)) k us a;
    }

one_told : (d : ℕ) (A D : ℕ → Reader) → Inners open_array d A → Inners open_dict d D → Tells d (one A D)
unfolding one of_token mark_obj Good
one_told d A D fa fd p xs o q rest h e = go (token_at p xs).kind refl e
  where
    go : (k : Kind) → (token_at p xs).kind ≡ k → of_token (A (token_at p xs).from) (D (token_at p xs).from) k (token_at p xs) ≡ ok o q rest → Told d p xs o q rest
    go (int u z) k b = int_told d p xs u z o q rest h k b
    go (real w) k b = told_at b (leaf d p xs (real w) (decimal w) k tt (λ t i us _. Spells.a_real i))
    go (name w) k b = told_at b (leaf d p xs (name w) (named w) k tt (λ t i us _. Spells.a_name i))
    go (text w) k b = told_at b (leaf d p xs (text w) (literal w) k tt (λ t i us _. Spells.a_literal i))
    go (hex w) k b = told_at b (leaf d p xs (hex w) (hexadecimal w) k tt (λ t i us _. Spells.a_hexadecimal i))
    go (word w) k b = word_told d p xs w o q rest k b
    go (mark open_array) k b = mark_told open_array d A fa p xs o q rest h k b
    go (mark open_dict) k b = mark_told open_dict d D fd p xs o q rest h k b
    go (mark close_array) k b = never b
    go (mark close_dict) k b = never b
    go ended k b = never b
    go (flawed f) k b = never b

-- the elements of an array, and the mark that closes it
record ItemsTold (d p : ℕ) (xs : Bytes) (os : Objs) (q : ℕ) (rest : Bytes) : Type 0 where
  tokens : List Lexeme
  close : Lexeme
  place : ℕ
  bytes : Bytes
  lexes : Lexes p xs tokens place bytes
  closes : Lexes place bytes (close ∷ []) q rest
  is : close.kind ≡ mark close_array
  spells : (us : List Lexeme) → Ahead q rest us → Items d os tokens (close ∷ us)

items_at : {d p : ℕ} {xs : Bytes} {o o' : Objs} {q q' : ℕ} {rest rest' : Bytes} → ok o q rest ≡ ok o' q' rest' → ItemsTold d p xs o q rest → ItemsTold d p xs o' q' rest'
items_at {d} {p} {xs} {o} {o'} {q} {q'} {rest} {rest'} e t =
    subst (λ z. ItemsTold d p xs o' q' z) (same_rest e) (subst (λ z. ItemsTold d p xs o' z rest) (same_place e) (subst (λ z. ItemsTold d p xs z q rest) (same_value e) t))

items_more : (d p : ℕ) (xs : Bytes) (o : Obj) (q : ℕ) (ys : Bytes) (os : Objs) (r : ℕ) (rest : Bytes) → Told d p xs o q ys → ItemsTold d q ys os r rest → ItemsTold d p xs (more_objs o os) r rest
items_more d p xs o q ys os r rest t i = record {
  tokens = t.tokens ++ i.tokens;
  close = i.close;
  place = i.place;
  bytes = i.bytes;
  lexes = lexes_join t.lexes i.lexes;
  closes = i.closes;
  is = i.is;
  spells = λ us a. Items.more_items (t.spells (i.tokens ++ (i.close ∷ us)) (ahead_more i.lexes (ahead_more i.closes a))) (i.spells us a);
}

items_told : (d : ℕ) (elem : Reader) → Tells d elem → (n p : ℕ) (xs : Bytes) (os : Objs) (q : ℕ) (rest : Bytes) → length xs < turns → items elem n p xs ≡ ok os q rest → ItemsTold d p xs os q rest
unfolding items
items_told d elem f zero p xs os q rest h e = never e
items_told d elem f (suc n) p xs os q rest h e =
    cases (closes_array (token_at p xs).kind)
    (λ b.
    let k = closing (token_at p xs).kind b in
    items_at (rw (b, items) at e)
    (record {
      tokens = [];
      close = lexeme_of p xs (token_at p xs);
      place = p;
      bytes = xs;
      lexes = Lexes.none;
      closes = one_lexes p xs (mark_good (token_at p xs).kind close_array k);
      is = k;
      spells = λ us a. Items.no_items;
    }))
    (λ b.
    let u = then_ok (elem p xs) (λ o q' ys. then (items elem n q' ys) (λ os' r zs. ok (more_objs o os') r zs)) os q rest (rw (b, items) at e) in
    let v = then_ok (items elem n u.1 u.2) (λ os' r zs. ok (more_objs u.0 os') r zs) os q rest u.4 in
    let t = f p xs u.0 u.1 u.2 h u.3 in
    let s : length u.2 ≤ length xs = lexes_shorter t.lexes in
    items_at v.4 (items_more d p xs u.0 u.1 u.2 v.0 v.1 v.2 t (items_told d elem f n u.1 u.2 v.0 v.1 v.2 (omega arith) v.3)))

array_inner : (d : ℕ) (elem : Reader) → Tells d elem → Inners open_array (suc d) (in_array elem)
unfolding in_array
array_inner d elem f s p xs o q rest h e =
    let u = then_ok (items elem turns p xs) (λ os r zs. ok (array os) r zs) o q rest e in
    made u.0 (same_value u.4)
    (subst (λ z. ItemsTold d p xs u.0 q z) (same_rest u.4) (subst (λ z. ItemsTold d p xs u.0 z u.2) (same_place u.4) (items_told d elem f turns p xs u.0 u.1 u.2 h u.3)))
  where
    made : (os : Objs) → array os ≡ o → ItemsTold d p xs os q rest → Inner open_array (suc d) p xs o q rest
    made os m i = record {
      tokens = i.tokens ++ (i.close ∷ []);
      lexes = lexes_join i.lexes i.closes;
      spells = λ a k us b. subst (λ z. Spells (suc d) z (a ∷ (i.tokens ++ (i.close ∷ []))) us) m (Spells.an_array k (i.spells us b) i.is);
    }

-- the entries of a dictionary, and the mark that closes it
record PairsTold (d : ℕ) (seen : Entries) (p : ℕ) (xs : Bytes) (es : Entries) (q : ℕ) (rest : Bytes) : Type 0 where
  tokens : List Lexeme
  close : Lexeme
  place : ℕ
  bytes : Bytes
  lexes : Lexes p xs tokens place bytes
  closes : Lexes place bytes (close ∷ []) q rest
  is : close.kind ≡ mark close_dict
  apart : Apart es seen
  spells : (us : List Lexeme) → Ahead q rest us → Pairs d es tokens (close ∷ us)

name_good : (k : Kind) (w : Bytes) → k ≡ name w → Good k
unfolding Good
name_good k w e = rw e tt

-- a reader of objects starts behind what it skips
one_skips : (A D : ℕ → Reader) (p : ℕ) (xs : Bytes) → one A D (skip false p xs).0 (skip false p xs).1 ≡ one A D p xs
unfolding one
one_skips A D p xs = ap (λ (t : Token). of_token (A t.from) (D t.from) t.kind t) (token_skips p xs)

pub object_skips : (d p : ℕ) (xs : Bytes) → object_by d (skip false p xs).0 (skip false p xs).1 ≡ object_by d p xs
unfolding object_by
object_skips zero p xs = one_skips too_deep too_deep p xs
object_skips (suc d) p xs = one_skips (in_array (object_by d)) (in_dict (object_by d)) p xs

pairs_more : (d : ℕ) (seen : Entries) (p : ℕ) (xs : Bytes) (k : Bytes) (o : Obj) (q : ℕ) (ys : Bytes) (es : Entries) (r : ℕ) (rest : Bytes) → length xs < turns → (token_at p xs).kind ≡ name k → holds k seen ≡ false →
    Told d (token_at p xs).to (token_at p xs).rest o q ys → PairsTold d (more_entries k (key_bytes_at p xs) (value_bytes_at p xs q) o seen) q ys es r rest →
    PairsTold d seen p xs (more_entries k (key_bytes_at p xs) (value_bytes_at p xs q) o es) r rest
pairs_more d seen p xs k o q ys es r rest h e n t i =
    let v : value_bytes_at p xs q ≡ bytes_of t.tokens = value_bytes t.tokens t.lexes t.some (behind_token p xs (name_good (token_at p xs).kind k e) h) in
    record {
      tokens = lexeme_of p xs (token_at p xs) ∷ (t.tokens ++ i.tokens);
      close = i.close;
      place = i.place;
      bytes = i.bytes;
      lexes = lexes_join (one_lexes p xs (name_good (token_at p xs).kind k e)) (lexes_join t.lexes i.lexes);
      closes = i.closes;
      is = i.is;
      apart = (n, apart_fewer k (key_bytes_at p xs) (value_bytes_at p xs q) o es seen i.apart);
      spells = λ us a.
          subst (λ b. Pairs d (more_entries k (key_bytes_at p xs) b o es) (lexeme_of p xs (token_at p xs) ∷ (t.tokens ++ i.tokens)) (i.close ∷ us)) (sym v)
          (Pairs.more_pairs e (apart_absent k (key_bytes_at p xs) (value_bytes_at p xs q) o es seen i.apart)
          (t.spells (i.tokens ++ (i.close ∷ us)) (ahead_more i.lexes (ahead_more i.closes a))) (i.spells us a));
    }

pairs_told : (d : ℕ) → Tells d (object_by d) → (n : ℕ) (seen : Entries) (p : ℕ) (xs : Bytes) (es : Entries) (q : ℕ) (rest : Bytes) → length xs < turns → entries (object_by d) n seen p xs ≡ ok es q rest → PairsTold d seen p xs es q rest
unfolding entries
pairs_told d f zero seen p xs es q rest h e = never e
pairs_told d f (suc n) seen p xs es q rest h e = go (turn (object_by d) n seen p xs es q rest e) (λ seen' p' ys fs b m. pairs_told d f n seen' p' ys fs q rest b m)
  where
    go : Turn (object_by d) n seen p xs es q rest →
        ((seen' : Entries) (p' : ℕ) (ys : Bytes) (fs : Entries) → length ys < turns → entries (object_by d) n seen' p' ys ≡ ok fs q rest → PairsTold d seen' p' ys fs q rest) → PairsTold d seen p xs es q rest
    go (ends k s t r) more =
        subst (λ z. PairsTold d seen p xs es q z) r (subst (λ z. PairsTold d seen p xs es z (token_at p xs).rest) t (subst (λ z. PairsTold d seen p xs z (token_at p xs).to (token_at p xs).rest) s
        (record {
          tokens = [];
          close = lexeme_of p xs (token_at p xs);
          place = p;
          bytes = xs;
          lexes = Lexes.none;
          closes = one_lexes p xs (mark_good (token_at p xs).kind close_dict k);
          is = k;
          apart = tt;
          spells = λ us a. Pairs.no_pairs;
        })))
    go (goes w o q₁ ys fs k n' v m s) more =
        let b = behind_token p xs (name_good (token_at p xs).kind w k) h in
        let t = f (token_at p xs).to (token_at p xs).rest o q₁ ys b (sym (object_skips d (token_at p xs).to (token_at p xs).rest) ∙ v) in
        let l : length ys ≤ length (token_at p xs).rest = lexes_shorter t.lexes in
        subst (λ z. PairsTold d seen p xs z q rest) s
        (pairs_more d seen p xs w o q₁ ys fs q rest h k n' t (more (more_entries w (key_bytes_at p xs) (value_bytes_at p xs q₁) o seen) q₁ ys fs (omega arith) m))

dict_inner : (d : ℕ) → Tells d (object_by d) → Inners open_dict (suc d) (in_dict (object_by d))
unfolding in_dict
dict_inner d f s p xs o q rest h e =
    let u = then_ok (entries (object_by d) turns no_entries p xs) (λ es r zs. ok (dict es) r zs) o q rest e in
    made u.0 (same_value u.4)
    (subst (λ z. PairsTold d no_entries p xs u.0 q z) (same_rest u.4) (subst (λ z. PairsTold d no_entries p xs u.0 z u.2) (same_place u.4) (pairs_told d f turns no_entries p xs u.0 u.1 u.2 h u.3)))
  where
    made : (es : Entries) → dict es ≡ o → PairsTold d no_entries p xs es q rest → Inner open_dict (suc d) p xs o q rest
    made es m i = record {
      tokens = i.tokens ++ (i.close ∷ []);
      lexes = lexes_join i.lexes i.closes;
      spells = λ a k us b. subst (λ z. Spells (suc d) z (a ∷ (i.tokens ++ (i.close ∷ []))) us) m (Spells.a_dictionary k (i.spells us b) i.is);
    }

-- what is read as an object is spelled as one
pub object_told : (d : ℕ) → Tells d (object_by d)
unfolding object_by too_deep
object_told zero = one_told zero too_deep too_deep (λ s p xs o q rest h e. never e) (λ s p xs o q rest h e. never e)
object_told (suc d) = one_told (suc d) (in_array (object_by d)) (in_dict (object_by d)) (array_inner d (object_by d) (object_told d)) (dict_inner d (object_told d))
