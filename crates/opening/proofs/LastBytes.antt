-- The last bytes of a file tell the offset that its own tail gives.
use Rattle.std.proofs.Common.{◌≡◌, ℕ, zero, suc, ◌+◌, ◌-◌, ◌<◌, ◌≤◌, Bool, true, false, eqb, [], ◌∷◌, ◌++◌, reverse, length, take, drop, Some, None, codes, Option, sym, refl, ap, ◌∙◌, ⊎_elim, arith}
use Rattle.std.proofs.lemmas.List.{take-append-drop, reverse-append, length-reverse, length-drop}
use Rattle.std.proofs.lemmas.Bool.{cases_lt}
use Rattle.format.specs.Bytes.{Bytes, is_digit, span, value}
use Rattle.format.specs.Frames.{behind}
use Rattle.format.specs.Sections.{back_eol, on, back_digits, last_offset}
use Rattle.locality.proofs.Cases.{cases}
use Rattle.opening.proofs.Backwards.{back_cr, back_other, back_lf_last, back_crlf, back_lf, back_none, behind_all, behind_none, behind_fits, behind_misfits, picked, back_on, back_start, back_on_fact, back_many, span_place}
use Rattle.opening.proofs.Runs.{span_on, span_stops, span_none}

-- the same bytes, as far as the first k go
data Alike : ℕ → Bytes → Bytes → Type 0 where
  far : {xs ys : Bytes} → Alike zero xs ys
  ends : {k : ℕ} → Alike k [] []
  more : {k x : ℕ} {xs ys : Bytes} → Alike k xs ys → Alike (suc k) (x ∷ xs) (x ∷ ys)

nearer : (k : ℕ) {xs ys : Bytes} → Alike (suc k) xs ys → Alike k xs ys
nearer zero a = far
nearer (suc k) ends = ends
nearer (suc k) (more a) = more (nearer k a)

data AlikeO (k : ℕ) : Option Bytes → Option Bytes → Type 0 where
  neither : AlikeO k None None
  both : {xs ys : Bytes} → Alike k xs ys → AlikeO k (Some xs) (Some ys)

data AlikeN (k : ℕ) : Option (ℕ × Bytes) → Option (ℕ × Bytes) → Type 0 where
  neither_n : AlikeN k None None
  both_n : {v : ℕ} {xs ys : Bytes} → Alike k xs ys → AlikeN k (Some (v, xs)) (Some (v, ys))

on_alike : {B : Type 0} {k : ℕ} {x y : Option Bytes} (f : Bytes → Option B) → AlikeO k x y → ((a b : Bytes) → Alike k a b → f a ≡ f b) → on x f ≡ on y f
on_alike f neither h = refl
on_alike f (both {xs} {ys} a) h = h xs ys a

on_n_alike : {B : Type 0} {k : ℕ} {x y : Option (ℕ × Bytes)} (f : (ℕ × Bytes) → Option B) → AlikeN k x y → ((v : ℕ) (a b : Bytes) → Alike k a b → f (v, a) ≡ f (v, b)) → on x f ≡ on y f
on_n_alike f neither_n h = refl
on_n_alike f (both_n {v} {xs} {ys} a) h = h v xs ys a

-- behind an end of line
lf_alike : (k x : ℕ) {xs ys : Bytes} → eqb x 10 ≡ true → Alike (suc k) xs ys → AlikeO k (back_eol (x ∷ xs)) (back_eol (x ∷ ys))
lf_alike k x e ends = rw (back_lf_last x e) (both ends)
lf_alike k x e (more {x = y} {xs = us} {ys = vs} a) =
    cases (eqb y 13)
    (λ f. rw (back_crlf x y us e f, back_crlf x y vs e f) (both a))
    (λ f. rw (back_lf x y us e f, back_lf x y vs e f) (both (nearer k (more a))))

eol_alike : (k : ℕ) {xs ys : Bytes} → Alike (suc (suc k)) xs ys → AlikeO k (back_eol xs) (back_eol ys)
eol_alike k ends = rw back_none neither
eol_alike k (more {x} {xs = us} {ys = vs} a) =
    cases (eqb x 10)
    (λ e. lf_alike k x e a)
    (λ e.
    cases (eqb x 13)
    (λ f. rw (back_cr x us e f, back_cr x vs e f) (both (nearer k a)))
    (λ f. rw (back_other x us e f, back_other x vs e f) neither))

-- behind a word
abbrev added : Bytes → ℕ → ℕ
added [] k = k
added (w ∷ ws) k = suc (added ws k)

word_alike : (ws : Bytes) (k : ℕ) {xs ys : Bytes} → Alike (added ws k) xs ys → AlikeO k (behind ws xs) (behind ws ys)
word_alike [] k {xs} {ys} a = rw (behind_all xs, behind_all ys) (both a)
word_alike (w ∷ ws) k ends = rw (behind_none w ws) neither
word_alike (w ∷ ws) k (more {x} {xs = us} {ys = vs} a) =
    cases (eqb w x)
    (λ e. rw (behind_fits w x ws us e, behind_fits w x ws vs e) (word_alike ws k a))
    (λ e. rw (behind_misfits w x ws us e, behind_misfits w x ws vs e) neither)

-- behind digits, of which the eleventh is one too many
abbrev reach : ℕ → ℕ → ℕ
reach zero k = k
reach (suc j) k = suc (reach j k)

nearest : (j k : ℕ) (xs ys : Bytes) → Alike (reach j k) xs ys → Alike k xs ys
nearest zero k xs ys a = a
nearest (suc j) k xs ys a = nearest j k xs ys (nearer (reach j k) a)

picked_alike : (b : Bool) (k v : ℕ) (xs ys : Bytes) → Alike k xs ys → AlikeN k (picked b v xs) (picked b v ys)
picked_alike true k v xs ys a = both_n a
picked_alike false k v xs ys a = neither_n

stop_alike : (k p : ℕ) (seen xs ys : Bytes) → Alike k xs ys → AlikeN k (back_on seen ([], p, xs)) (back_on seen ([], p, ys))
unfolding back_on
stop_alike k p seen xs ys a = picked_alike _ k (value seen) xs ys a

run_alike : (j k p : ℕ) (seen : Bytes) {xs ys : Bytes} → p + j ≡ 11 → Alike (reach j k) xs ys → AlikeN k (back_on seen (span is_digit p xs)) (back_on seen (span is_digit p ys))
run_alike zero k p seen {xs} {ys} e a =
    rw (back_many seen (span is_digit p xs) (omega (arith, span_place p xs)), back_many seen (span is_digit p ys) (omega (arith, span_place p ys))) neither_n
run_alike (suc j) k p seen e ends = rw (span_none p) (stop_alike k p seen [] [] ends)
run_alike (suc j) k p seen e (more {x} {xs = us} {ys = vs} a) =
    cases (is_digit x)
    (λ d.
    let r = span is_digit (suc p) us in
    let s = span is_digit (suc p) vs in
    rw (span_on p x us d, span_on p x vs d, back_on_fact x r.1 seen r.0 r.2, back_on_fact x s.1 seen s.0 s.2) (run_alike j k (suc p) (x ∷ seen) (omega arith) a))
    (λ d. rw (span_stops p x us d, span_stops p x vs d) (stop_alike k p seen (x ∷ us) (x ∷ vs) (nearest (suc j) k (x ∷ us) (x ∷ vs) (more a))))

digits_alike : (k : ℕ) (xs ys : Bytes) → Alike (reach 11 k) xs ys → AlikeN k (back_digits (span is_digit 0 xs)) (back_digits (span is_digit 0 ys))
digits_alike k xs ys a = rw (back_start (span is_digit 0 xs), back_start (span is_digit 0 ys)) at (run_alike 11 k 0 [] refl a)

-- how many of the last bytes are looked at
abbrev looked : ℕ
looked = suc (suc (added (codes "FOE%%") (suc (suc (reach 11 (suc (suc (added (codes "ferxtrats") 0))))))))

tail_alike : (f g : Bytes) → Alike looked (reverse f) (reverse g) → last_offset f ≡ last_offset g
unfolding last_offset
tail_alike f g h =
    on_alike _ (eol_alike _ h)
    (λ a b i.
    on_alike _ (word_alike (codes "FOE%%") _ i)
    (λ c d j.
    on_alike _ (eol_alike _ j)
    (λ e l m.
    on_n_alike _ (digits_alike _ e l m)
    (λ v n o q.
    on_alike _ (eol_alike _ q)
    (λ r s t. on_alike _ (word_alike (codes "ferxtrats") _ t) (λ _ _ _. refl))))))

-- a list and its front
alike_front : (k : ℕ) (xs ys : Bytes) → k ≤ length xs → Alike k (xs ++ ys) xs
alike_front zero xs ys h = far
alike_front (suc k) [] ys h = absurd (omega arith)
alike_front (suc k) (x ∷ xs) ys h = more (alike_front k xs ys (omega arith))

alike_same : (k : ℕ) (xs : Bytes) → Alike k xs xs
alike_same zero xs = far
alike_same (suc k) [] = ends
alike_same (suc k) (x ∷ xs) = more (alike_same k xs)

-- 31 bytes are enough: two for each end of line, the two words, ten digits and what stands before them
pub last_bytes : (file : Bytes) (n : ℕ) → 31 ≤ n → last_offset file ≡ last_offset (drop (length file - n) file)
last_bytes file n h =
    ⊎_elim
    (λ (l : length file < n).
    let z : length file - n ≡ 0 = omega arith in
    ap (λ m. last_offset (drop m file)) (sym z))
    (λ (l : n ≤ length file).
    let m = length file - n in
    let e : reverse file ≡ reverse (drop m file) ++ reverse (take m file) = ap reverse (sym (take-append-drop m file)) ∙ reverse-append (take m file) (drop m file) in
    let k : looked ≤ length (reverse (drop m file)) = rw (length-reverse, length-drop) (omega arith) in
    tail_alike file (drop m file) (rw e (alike_front looked (reverse (drop m file)) (reverse (take m file)) k)))
    (cases_lt (length file) n)

-- what the last bytes tell, the file tells
pub in_file : (src : Bytes) (r : Option ℕ) → r ≡ last_offset src → (file : Bytes) (n : ℕ) → 31 ≤ n → src ≡ drop (length file - n) file → r ≡ last_offset file
in_file src r e file n h is = e ∙ ap last_offset is ∙ sym (last_bytes file n h)
