-- Tokens spell one object at most.
use Rattle.std.proofs.Common.{◌≡◌, ℕ, Bool, true, false, List, [], ◌∷◌, ◌++◌, ℤ, pos, codes, sym, refl, ap, ◌∙◌, subst, append_assoc}
use Rattle.std.proofs.lemmas.List.{append_cancel_left}
use Rattle.format.specs.Bytes.{Bytes, ok}
use Rattle.format.specs.Objects.{Obj, null, boolean, integer, decimal, literal, hexadecimal, named, array, dict, ref, Objs, no_objs, more_objs, Entries, no_entries, more_entries, Reader, of_token, closes_array, too_deep}
use Rattle.format.specs.Tokens.{Kind, int, real, name, text, hex, mark, word, open_array, close_array, open_dict, close_dict, ended, flawed, Token, token_at}
use Rattle.locality.proofs.Cases.{not_both}
use Rattle.locality.proofs.Local.{same_value}
use Rattle.locality.proofs.Tests.{clash}
use Rattle.grammar.specs.Lexing.{Lexeme}
use Rattle.grammar.specs.Trees.{bytes_of, Refers, refers, Spells, Items, Pairs}
use Rattle.grammar.proofs.Complete.{Opens, opens, of_null, of_true, of_false, of_real, of_text, of_hex, of_name}

-- kinds of tokens that are objects by themselves, whatever follows
plain : Kind → Bool
plain (real w) = true
plain (name w) = true
plain (text w) = true
plain (hex w) = true
plain (word w) = true
plain (int u z) = false
plain (mark m) = false
plain ended = false
plain (flawed f) = false

-- an object behind its first token, by the kind of that
data View (k : Kind) (v : Obj) (os us : List Lexeme) : Type 0 where
  alone : plain k ≡ true → ((A D : Reader) (u : Token) → of_token A D k u ≡ ok v u.to u.rest) → os ≡ [] → View k v os us
  number : (u : Bool) (z : ℤ) → k ≡ int u z → v ≡ integer z → os ≡ [] → ((g : ℕ) → Refers u z g us → ⊥) → View k v os us
  reference : (n g : ℕ) (b c : Lexeme) → k ≡ int true (pos n) → v ≡ ref n g → os ≡ b ∷ c ∷ [] → Refers true (pos n) g (b ∷ c ∷ []) → View k v os us
  listed : (d : ℕ) (os' : Objs) (ts : List Lexeme) (b : Lexeme) → k ≡ mark open_array → v ≡ array os' → os ≡ ts ++ (b ∷ []) → Items d os' ts (b ∷ us) → b.kind ≡ mark close_array → View k v os us
  keyed : (d : ℕ) (es : Entries) (ts : List Lexeme) (b : Lexeme) → k ≡ mark open_dict → v ≡ dict es → os ≡ ts ++ (b ∷ []) → Pairs d es ts (b ∷ us) → b.kind ≡ mark close_dict → View k v os us

alone_as : (k j : Kind) (v : Obj) (us : List Lexeme) → k ≡ j → plain j ≡ true → ((A D : Reader) (u : Token) → of_token A D j u ≡ ok v u.to u.rest) → View k v [] us
alone_as k j v us e p f = subst (λ i. View i v [] us) (sym e) (alone p f refl)

view : {d : ℕ} {v : Obj} {a : Lexeme} {os us : List Lexeme} → Spells d v (a ∷ os) us → View a.kind v os us
unfolding plain
view (Spells.null_word {t = t} {us = us} e) = alone_as t.kind (word (codes "null")) null us e refl of_null
view (Spells.true_word {t = t} {us = us} e) = alone_as t.kind (word (codes "true")) (boolean true) us e refl of_true
view (Spells.false_word {t = t} {us = us} e) = alone_as t.kind (word (codes "false")) (boolean false) us e refl of_false
view (Spells.an_integer {u = u} {z = z} e f) = number u z e refl refl f
view (Spells.a_real {w = w} {t = t} {us = us} e) = alone_as t.kind (real w) (decimal w) us e refl (of_real w)
view (Spells.a_literal {w = w} {t = t} {us = us} e) = alone_as t.kind (text w) (literal w) us e refl (of_text w)
view (Spells.a_hexadecimal {w = w} {t = t} {us = us} e) = alone_as t.kind (hex w) (hexadecimal w) us e refl (of_hex w)
view (Spells.a_name {w = w} {t = t} {us = us} e) = alone_as t.kind (name w) (named w) us e refl (of_name w)
view (Spells.an_array {d = d} {os = os} {b = b} {ts = ts} e i f) = listed d os ts b e refl refl i f
view (Spells.a_dictionary {d = d} {es = es} {b = b} {ts = ts} e i f) = keyed d es ts b e refl refl i f
view (Spells.a_reference {n = n} {g = g} {b = b} {c = c} e r) = reference n g b c e refl refl r

plain_int_fact : (k : Kind) (u : Bool) (z : ℤ) → plain k ≡ true → k ≡ int u z → ⊥
unfolding plain
plain_int_fact k u z p e = not_both (plain k) p (ap plain e)

plain_open : (k : Kind) → plain k ≡ true → (k ≡ mark open_array → ⊥) × (k ≡ mark open_dict → ⊥)
unfolding plain
plain_open k p = (λ e. not_both (plain k) p (ap plain e), λ e. not_both (plain k) p (ap plain e))

alone_unique : (k : Kind) (o v : Obj) (os us : List Lexeme) → plain k ≡ true → ((A D : Reader) (u : Token) → of_token A D k u ≡ ok o u.to u.rest) → View k v os us → (o ≡ v) × ([] ≡ os)
alone_unique k o v os us p f (alone p' g e) = (same_value (sym (f (too_deep 0) (too_deep 0) (token_at 0 [])) ∙ g (too_deep 0) (too_deep 0) (token_at 0 [])), sym e)
alone_unique k o v os us p f (number u z e a b r) = absurd (plain_int_fact k u z p e)
alone_unique k o v os us p f (reference n g b c e a q r) = absurd (plain_int_fact k true (pos n) p e)
alone_unique k o v os us p f (listed d os' ts b e a q i r) = absurd ((plain_open k p).0 e)
alone_unique k o v os us p f (keyed d es ts b e a q i r) = absurd ((plain_open k p).1 e)

refers_before : {u : Bool} {z : ℤ} {g : ℕ} (b c : Lexeme) {us : List Lexeme} (vs : List Lexeme) → Refers u z g (b ∷ c ∷ us) → Refers u z g (b ∷ c ∷ vs)
refers_before b c vs (refers l s e f) = refers l s e f

number_unique : (k : Kind) (u : Bool) (z : ℤ) (us : List Lexeme) (v : Obj) (os vs : List Lexeme) → k ≡ int u z → ((g : ℕ) → Refers u z g us → ⊥) → View k v os vs → us ≡ os ++ vs → (integer z ≡ v) × ([] ≡ os)
number_unique k u z us v os vs e f (alone p g q) l = absurd (plain_int_fact k u z p e)
number_unique k u z us v os vs e f (number u' z' e' a b r) l = let q : z ≡ z' = cc in (ap integer q ∙ sym a, sym b)
number_unique k u z us v os vs e f (reference n g b c e' a q r) l =
    let h : int true (pos n) ≡ int u z = sym e' ∙ e in
    let s : true ≡ u = cc in
    let t : pos n ≡ z = cc in
    let m : b ∷ c ∷ vs ≡ us = ap (λ ws. ws ++ vs) (sym q) ∙ sym l in
    absurd (f g (subst (Refers u z g) m (subst (λ y. Refers u y g (b ∷ c ∷ vs)) t (subst (λ x. Refers x (pos n) g (b ∷ c ∷ vs)) s (refers_before b c vs r)))))
number_unique k u z us v os vs e f (listed d os' ts b e' a q i r) l = clash (let h : int u z ≡ mark open_array = sym e ∙ e' in cc)
number_unique k u z us v os vs e f (keyed d es ts b e' a q i r) l = clash (let h : int u z ≡ mark open_dict = sym e ∙ e' in cc)

gen_of : {n g : ℕ} {b c : Lexeme} {us : List Lexeme} → Refers true (pos n) g (b ∷ c ∷ us) → b.kind ≡ int true (pos g)
gen_of (refers l s e f) = e

same_gen : (k : Kind) (g h : ℕ) → k ≡ int true (pos g) → k ≡ int true (pos h) → g ≡ h
same_gen k g h a b = let e : int true (pos g) ≡ int true (pos h) = sym a ∙ b in cc

pair_same : (n m g h : ℕ) → n ≡ m → g ≡ h → ref n g ≡ ref m h
pair_same n m g h a b = λ i. ref (a i) (b i)

reference_unique : (k : Kind) (n g : ℕ) (b c : Lexeme) (us : List Lexeme) (v : Obj) (os vs : List Lexeme) → k ≡ int true (pos n) → Refers true (pos n) g (b ∷ c ∷ []) → View k v os vs → b ∷ c ∷ us ≡ os ++ vs → (ref n g ≡ v) × (b ∷ c ∷ [] ≡ os)
reference_unique k n g b c us v os vs e r (alone p f q) l = absurd (plain_int_fact k true (pos n) p e)
reference_unique k n g b c us v os vs e r (number u z e' a q f) l =
    let h : int true (pos n) ≡ int u z = sym e ∙ e' in
    let s : true ≡ u = cc in
    let t : pos n ≡ z = cc in
    let m : b ∷ c ∷ us ≡ vs = l ∙ ap (λ ws. ws ++ vs) q in
    absurd (f g (subst (Refers u z g) m (subst (λ y. Refers u y g (b ∷ c ∷ us)) t (subst (λ x. Refers x (pos n) g (b ∷ c ∷ us)) s (refers_before b c us r)))))
reference_unique k n g b c us v os vs e r (reference n' g' b' c' e' a q r') l =
    let m : b ∷ c ∷ us ≡ b' ∷ c' ∷ vs = l ∙ ap (λ ws. ws ++ vs) q in
    let x : b ≡ b' = cc in
    let y : c ≡ c' = cc in
    let j : g ≡ g' = same_gen b.kind g g' (gen_of r) (ap (λ (t : Lexeme). t.kind) x ∙ gen_of r') in
    let i : n ≡ n' = same_gen k n n' e e' in
    (pair_same n n' g g' i j ∙ sym a, (λ h. x h ∷ y h ∷ []) ∙ sym q)
reference_unique k n g b c us v os vs e r (listed d os' ts b' e' a q i r') l = clash (let h : int true (pos n) ≡ mark open_array = sym e ∙ e' in cc)
reference_unique k n g b c us v os vs e r (keyed d es ts b' e' a q i r') l = clash (let h : int true (pos n) ≡ mark open_dict = sym e ∙ e' in cc)

-- what is unique of the insides
abbrev ItemsUnique : Objs → List Lexeme → List Lexeme → Type 0
ItemsUnique os ts us = (e : ℕ) (os' : Objs) (ts' : List Lexeme) (b : Lexeme) (us' : List Lexeme) → Items e os' ts' (b ∷ us') → b.kind ≡ mark close_array → ts ++ us ≡ ts' ++ (b ∷ us') → (os ≡ os') × (ts ≡ ts')

abbrev PairsUnique : Entries → List Lexeme → List Lexeme → Type 0
PairsUnique es ts us = (e : ℕ) (es' : Entries) (ts' : List Lexeme) (b : Lexeme) (us' : List Lexeme) → Pairs e es' ts' (b ∷ us') → b.kind ≡ mark close_dict → ts ++ us ≡ ts' ++ (b ∷ us') → (es ≡ es') × (ts ≡ ts')

closed_same : (ts ts' : List Lexeme) (b b' : Lexeme) (us us' : List Lexeme) → ts ++ (b ∷ us) ≡ ts' ++ (b' ∷ us') → ts ≡ ts' → ts ++ (b ∷ []) ≡ ts' ++ (b' ∷ [])
closed_same ts ts' b b' us us' l e =
    let m : ts ++ (b ∷ us) ≡ ts ++ (b' ∷ us') = l ∙ ap (λ ws. ws ++ (b' ∷ us')) (sym e) in
    let n : b ∷ us ≡ b' ∷ us' = append_cancel_left ts (b ∷ us) (b' ∷ us') m in
    let q : b ≡ b' = cc in
    λ i. e i ++ (q i ∷ [])

listed_unique : (k : Kind) (os : Objs) (b : Lexeme) (ts us : List Lexeme) (v : Obj) (os' vs : List Lexeme) → k ≡ mark open_array → ItemsUnique os ts (b ∷ us) → View k v os' vs → (ts ++ (b ∷ [])) ++ us ≡ os' ++ vs →
    (array os ≡ v) × (ts ++ (b ∷ []) ≡ os')
listed_unique k os b ts us v os' vs e f (alone p g q) l = absurd ((plain_open k p).0 e)
listed_unique k os b ts us v os' vs e f (number u z e' a q r) l = clash (let h : int u z ≡ mark open_array = sym e' ∙ e in cc)
listed_unique k os b ts us v os' vs e f (reference n g b' c e' a q r) l = clash (let h : int true (pos n) ≡ mark open_array = sym e' ∙ e in cc)
listed_unique k os b ts us v os' vs e f (listed d os₂ ts₂ b₂ e' a q i r) l =
    let m : ts ++ (b ∷ us) ≡ ts₂ ++ (b₂ ∷ vs) = sym (append_assoc ts (b ∷ []) us) ∙ l ∙ ap (λ ws. ws ++ vs) q ∙ append_assoc ts₂ (b₂ ∷ []) vs in
    let s = f d os₂ ts₂ b₂ vs i r m in
    (ap array s.0 ∙ sym a, closed_same ts ts₂ b b₂ us vs m s.1 ∙ sym q)
listed_unique k os b ts us v os' vs e f (keyed d es ts₂ b₂ e' a q i r) l = clash (let h : mark open_array ≡ mark open_dict = sym e ∙ e' in cc)

keyed_unique : (k : Kind) (es : Entries) (b : Lexeme) (ts us : List Lexeme) (v : Obj) (os' vs : List Lexeme) → k ≡ mark open_dict → PairsUnique es ts (b ∷ us) → View k v os' vs → (ts ++ (b ∷ [])) ++ us ≡ os' ++ vs →
    (dict es ≡ v) × (ts ++ (b ∷ []) ≡ os')
keyed_unique k es b ts us v os' vs e f (alone p g q) l = absurd ((plain_open k p).1 e)
keyed_unique k es b ts us v os' vs e f (number u z e' a q r) l = clash (let h : int u z ≡ mark open_dict = sym e' ∙ e in cc)
keyed_unique k es b ts us v os' vs e f (reference n g b' c e' a q r) l = clash (let h : int true (pos n) ≡ mark open_dict = sym e' ∙ e in cc)
keyed_unique k es b ts us v os' vs e f (listed d os₂ ts₂ b₂ e' a q i r) l = clash (let h : mark open_dict ≡ mark open_array = sym e ∙ e' in cc)
keyed_unique k es b ts us v os' vs e f (keyed d es₂ ts₂ b₂ e' a q i r) l =
    let m : ts ++ (b ∷ us) ≡ ts₂ ++ (b₂ ∷ vs) = sym (append_assoc ts (b ∷ []) us) ∙ l ∙ ap (λ ws. ws ++ vs) q ∙ append_assoc ts₂ (b₂ ∷ []) vs in
    let s = f d es₂ ts₂ b₂ vs i r m in
    (ap dict s.0 ∙ sym a, closed_same ts ts₂ b b₂ us vs m s.1 ∙ sym q)

-- what is unique of an object
abbrev Unique : Obj → List Lexeme → List Lexeme → Type 0
Unique o ts us = (e : ℕ) (v : Obj) (ts' us' : List Lexeme) → Spells e v ts' us' → ts ++ us ≡ ts' ++ us' → (o ≡ v) × (ts ≡ ts')

-- by the first token
by_first : (o : Obj) (a : Lexeme) (os us : List Lexeme) → ((v : Obj) (os' us' : List Lexeme) → View a.kind v os' us' → os ++ us ≡ os' ++ us' → (o ≡ v) × (os ≡ os')) → Unique o (a ∷ os) us
by_first o a os us f e v ts' us' s l = go (opens s)
  where
    go : Opens ts' → (o ≡ v) × (a ∷ os ≡ ts')
    go w =
        let m : a ∷ (os ++ us) ≡ w.first ∷ (w.others ++ us') = l ∙ ap (λ ws. ws ++ us') w.is in
        let x : w.first ≡ a = cc in
        let y : os ++ us ≡ w.others ++ us' = cc in
        let k : View w.first.kind v w.others us' = view (subst (λ ws. Spells e v ws us') w.is s) in
        let r = f v w.others us' (subst (λ (t : Lexeme). View t.kind v w.others us') x k) y in
        let z = r.1 in
        (r.0, (λ i. sym x i ∷ z i) ∙ sym w.is)

alone_first : (o : Obj) (t : Lexeme) (us : List Lexeme) (k : Kind) → t.kind ≡ k → plain k ≡ true → ((A D : Reader) (u : Token) → of_token A D k u ≡ ok o u.to u.rest) → Unique o (t ∷ []) us
alone_first o t us k e p f =
    by_first o t [] us
    (λ v os vs w l. alone_unique t.kind o v os vs (subst (λ j. plain j ≡ true) (sym e) p) (subst (λ j. (A D : Reader) (u : Token) → of_token A D j u ≡ ok o u.to u.rest) (sym e) f) w)

-- an object does not begin as an array ends
open_close : {ts : List Lexeme} (b : Lexeme) (us vs : List Lexeme) → Opens ts → b.kind ≡ mark close_array → b ∷ us ≡ ts ++ vs → ⊥
unfolding closes_array
open_close {ts} b us vs o e l =
    let m : b ∷ us ≡ o.first ∷ (o.others ++ vs) = l ∙ ap (λ ws. ws ++ vs) o.is in
    let q : b ≡ o.first = cc in
    not_both (closes_array o.first.kind) (ap (λ (t : Lexeme). closes_array t.kind) (sym q) ∙ ap closes_array e) o.stays

no_items_unique : (b : Lexeme) (us : List Lexeme) → b.kind ≡ mark close_array → ItemsUnique no_objs [] (b ∷ us)
no_items_unique b us k e os' ts' b' us' Items.no_items k' l = (refl, refl)
no_items_unique b us k e os' ts' b' us' (Items.more_items {ts = ts} {vs = vs} s i) k' l = absurd (open_close b us (vs ++ (b' ∷ us')) (opens s) k (l ∙ append_assoc ts vs (b' ∷ us')))

more_items_unique : (o : Obj) (os : Objs) (ts vs us : List Lexeme) → Opens ts → Unique o ts (vs ++ us) → ItemsUnique os vs us → ItemsUnique (more_objs o os) (ts ++ vs) us
more_items_unique o os ts vs us w f g e os' ts' b us' Items.no_items k l = absurd (open_close b us' (vs ++ us) w k (sym l ∙ append_assoc ts vs us))
more_items_unique o os ts vs us w f g e os' ts' b us' (Items.more_items {o = o₂} {os = os₂} {ts = ts₂} {vs = vs₂} s i) k l =
    let m : ts ++ (vs ++ us) ≡ ts₂ ++ (vs₂ ++ (b ∷ us')) = sym (append_assoc ts vs us) ∙ l ∙ append_assoc ts₂ vs₂ (b ∷ us') in
    let r = f e o₂ ts₂ (vs₂ ++ (b ∷ us')) s m in
    let n : vs ++ us ≡ vs₂ ++ (b ∷ us') = append_cancel_left ts (vs ++ us) (vs₂ ++ (b ∷ us')) (m ∙ ap (λ ws. ws ++ (vs₂ ++ (b ∷ us'))) (sym r.1)) in
    let q = g e os₂ vs₂ b us' i k n in
    let x = r.0 in
    let y = q.0 in
    let t = r.1 in
    let z = q.1 in
    (λ j. more_objs (x j) (y j), λ j. t j ++ z j)

key_close : (b t : Lexeme) (k : Bytes) (us vs : List Lexeme) → b.kind ≡ mark close_dict → t.kind ≡ name k → b ∷ us ≡ t ∷ vs → ⊥
key_close b t k us vs e f l = let q : b ≡ t = cc in clash (let h : mark close_dict ≡ name k = sym e ∙ ap (λ (x : Lexeme). x.kind) q ∙ f in cc)

no_pairs_unique : (b : Lexeme) (us : List Lexeme) → b.kind ≡ mark close_dict → PairsUnique no_entries [] (b ∷ us)
no_pairs_unique b us k e es' ts' b' us' Pairs.no_pairs k' l = (refl, refl)
no_pairs_unique b us k e es' ts' b' us' (Pairs.more_pairs {k = w} {t = t} {ts = ts} {vs = vs} f a s i) k' l = absurd (key_close b t w us ((ts ++ vs) ++ (b' ∷ us')) k f l)

more_pairs_unique : (k : Bytes) (o : Obj) (es : Entries) (t : Lexeme) (ts vs us : List Lexeme) → t.kind ≡ name k → Unique o ts (vs ++ us) → PairsUnique es vs us →
    PairsUnique (more_entries k t.own (bytes_of ts) o es) (t ∷ (ts ++ vs)) us
more_pairs_unique k o es t ts vs us h f g e es' ts' b us' Pairs.no_pairs c l = absurd (key_close b t k us' ((ts ++ vs) ++ us) c h (sym l))
more_pairs_unique k o es t ts vs us h f g e es' ts' b us' (Pairs.more_pairs {k = k₂} {o = o₂} {es = es₂} {t = t₂} {ts = ts₂} {vs = vs₂} h₂ a s i) c l =
    let x : t ≡ t₂ = cc in
    let l' : (ts ++ vs) ++ us ≡ (ts₂ ++ vs₂) ++ (b ∷ us') = cc in
    let m : ts ++ (vs ++ us) ≡ ts₂ ++ (vs₂ ++ (b ∷ us')) = sym (append_assoc ts vs us) ∙ l' ∙ append_assoc ts₂ vs₂ (b ∷ us') in
    let r = f e o₂ ts₂ (vs₂ ++ (b ∷ us')) s m in
    let n : vs ++ us ≡ vs₂ ++ (b ∷ us') = append_cancel_left ts (vs ++ us) (vs₂ ++ (b ∷ us')) (m ∙ ap (λ ws. ws ++ (vs₂ ++ (b ∷ us'))) (sym r.1)) in
    let q = g e es₂ vs₂ b us' i c n in
    let nk : name k ≡ name k₂ = sym h ∙ ap (λ (y : Lexeme). y.kind) x ∙ h₂ in
    let kk : k ≡ k₂ = cc in
    let oo = r.0 in
    let tt₁ = r.1 in
    let ee = q.0 in
    let zz = q.1 in
    (λ j. more_entries (kk j) (x j).own (bytes_of (tt₁ j)) (oo j) (ee j), λ j. x j ∷ (tt₁ j ++ zz j))

plain_word : (w : Bytes) → (plain (word w) ≡ true) × (plain (real w) ≡ true) × (plain (text w) ≡ true) × (plain (hex w) ≡ true) × (plain (name w) ≡ true)
unfolding plain
plain_word w = (refl, refl, refl, refl, refl)

-- tokens that end as an array or a dictionary does
record Ended (c : Kind) (us : List Lexeme) : Type 0 where
  mk : Lexeme
  others : List Lexeme
  is : us ≡ mk ∷ others
  kind : mk.kind ≡ c

mutual
  spells_unique : {d : ℕ} {o : Obj} {ts us : List Lexeme} → Spells d o ts us → Unique o ts us
  spells_unique (Spells.null_word {t = t} {us = us} e) = alone_first null t us (word (codes "null")) e (plain_word (codes "null")).0 of_null
  spells_unique (Spells.true_word {t = t} {us = us} e) = alone_first (boolean true) t us (word (codes "true")) e (plain_word (codes "true")).0 of_true
  spells_unique (Spells.false_word {t = t} {us = us} e) = alone_first (boolean false) t us (word (codes "false")) e (plain_word (codes "false")).0 of_false
  spells_unique (Spells.an_integer {u = u} {z = z} {t = t} {us = us} e f) = by_first (integer z) t [] us (λ v os vs w l. number_unique t.kind u z us v os vs e f w l)
  spells_unique (Spells.a_real {w = w} {t = t} {us = us} e) = alone_first (decimal w) t us (real w) e (plain_word w).1 (of_real w)
  spells_unique (Spells.a_literal {w = w} {t = t} {us = us} e) = alone_first (literal w) t us (text w) e (plain_word w).2 (of_text w)
  spells_unique (Spells.a_hexadecimal {w = w} {t = t} {us = us} e) = alone_first (hexadecimal w) t us (hex w) e (plain_word w).3 (of_hex w)
  spells_unique (Spells.a_name {w = w} {t = t} {us = us} e) = alone_first (named w) t us (name w) e (plain_word w).4 (of_name w)
  spells_unique (Spells.an_array {os = os} {a = a} {b = b} {ts = ts} {us = us} e i f) =
      by_first (array os) a (ts ++ (b ∷ [])) us (λ v os' vs w l. listed_unique a.kind os b ts us v os' vs e (items_unique i (record { mk = b; others = us; is = refl; kind = f })) w l)
  spells_unique (Spells.a_dictionary {es = es} {a = a} {b = b} {ts = ts} {us = us} e i f) =
      by_first (dict es) a (ts ++ (b ∷ [])) us (λ v os' vs w l. keyed_unique a.kind es b ts us v os' vs e (pairs_unique i (record { mk = b; others = us; is = refl; kind = f })) w l)
  spells_unique (Spells.a_reference {n = n} {g = g} {a = a} {b = b} {c = c} {us = us} e r) = by_first (ref n g) a (b ∷ c ∷ []) us (λ v os vs w l. reference_unique a.kind n g b c us v os vs e r w l)

  items_unique : {d : ℕ} {os : Objs} {ts us : List Lexeme} → Items d os ts us → Ended (mark close_array) us → ItemsUnique os ts us
  items_unique (Items.no_items {us = us}) c = subst (λ ws. ItemsUnique no_objs [] ws) (sym c.is) (no_items_unique c.mk c.others c.kind)
  items_unique (Items.more_items {o = o} {os = os} {ts = ts} {vs = vs} {us = us} s i) c = more_items_unique o os ts vs us (opens s) (spells_unique s) (items_unique i c)

  pairs_unique : {d : ℕ} {es : Entries} {ts us : List Lexeme} → Pairs d es ts us → Ended (mark close_dict) us → PairsUnique es ts us
  pairs_unique (Pairs.no_pairs {us = us}) c = subst (λ ws. PairsUnique no_entries [] ws) (sym c.is) (no_pairs_unique c.mk c.others c.kind)
  pairs_unique (Pairs.more_pairs {k = k} {o = o} {es = es} {t = t} {ts = ts} {vs = vs} {us = us} h a s i) c = more_pairs_unique k o es t ts vs us h (spells_unique s) (pairs_unique i c)

-- the same tokens begin with one object at most
pub spelled_once : (d e : ℕ) (o v : Obj) (ts vs us ws : List Lexeme) → Spells d o ts us → Spells e v vs ws → ts ++ us ≡ vs ++ ws → (o ≡ v) × (ts ≡ vs)
spelled_once d e o v ts vs us ws s t l = spells_unique s e v vs ws t l
