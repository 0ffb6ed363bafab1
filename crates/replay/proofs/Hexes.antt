-- What one byte more adds to a hex text.
use Rattle.std.proofs.Common.{◌≡◌, ℕ, zero, suc, ◌+◌, ◌-◌, ◌*◌, ◌/◌, ◌%◌, ◌<◌, ◌≤◌, min, List, [], ◌∷◌, ◌++◌, length, get_or, take, drop, refl, sym, ap, ◌∙◌, append_assoc, arith, length-drop, length-take, take-add, drop-drop, get_or-take, get_or-drop, ⊎_elim, below_more}
use Rattle.std.proofs.lemmas.Bool.{cases_lt}
use Rattle.std.proofs.lemmas.List.{take_more, take_at, take_all}
use Rattle.std.specs.Simd.{first_chunks}
use Rattle.stores.specs.Meanings.{Filled}
use Rattle.replay.specs.Hex.{digit_of, hex_of}

hex_of_push : (bs : List ℕ) (b : ℕ) → hex_of (bs ++ (b ∷ [])) ≡ hex_of bs ++ (digit_of (b / 16) ∷ (digit_of (b % 16) ∷ []))
hex_of_push [] b = refl
hex_of_push (x ∷ bs) b = ap (λ t. digit_of (x / 16) ∷ (digit_of (x % 16) ∷ t)) (hex_of_push bs b)

pub encoded_more : (t bs : List ℕ) (i : ℕ) → i < length bs → (t ++ hex_of (take i bs)) ++ (digit_of (get_or bs i 0 / 16) ∷ (digit_of (get_or bs i 0 % 16) ∷ [])) ≡ t ++ hex_of (take (i + 1) bs)
encoded_more t bs i h = rw (take_more bs i 0 h, hex_of_push) (simp append_assoc)

pub decoded_more : (bs text : List ℕ) (i b : ℕ) → 2 * i + 1 < length text → hex_of bs ≡ take (2 * i) text → digit_of (b / 16) ≡ get_or text (2 * i) 0 → digit_of (b % 16) ≡ get_or text (2 * i + 1) 0 → hex_of (bs ++ (b ∷ [])) ≡ take (2 * (i + 1)) text
decoded_more bs text i b within inv high low =
    let e : 2 * (i + 1) ≡ 2 * i + 1 + 1 = omega arith in
    let h : 2 * i < length text = omega arith in
    rw (e, take_more text (2 * i + 1) 0 within, take_more text (2 * i) 0 h, hex_of_push, inv, high, low) (simp append_assoc)

-- a pair of a text
pub pair_at : (k i : ℕ) (text : List ℕ) (d : List ℕ) → i < k → get_or (first_chunks 2 k text) i d ≡ take 2 (drop (2 * i) text)
pair_at zero i text d h = absurd (omega arith)
pair_at (suc k) zero text d h = refl
pair_at (suc k) (suc i) text d h =
    let e : 2 * suc i ≡ 2 + 2 * i = omega arith in
    pair_at k i (drop 2 text) d (omega arith) ∙ (ap (take 2) (drop-drop (2 * i) 2 text) ∙ ap (λ n. take 2 (drop n text)) (sym e))

-- its digits stand in the text one after the other
pub pair_digits : (text : List ℕ) (pairs : List (List ℕ)) (i : ℕ) → pairs ≡ first_chunks 2 (length text / 2) text → i < length text / 2 → (get_or (get_or pairs i []) 0 0 ≡ get_or text (2 * i) 0) × (get_or (get_or pairs i []) 1 0 ≡ get_or text (2 * i + 1) 0)
pair_digits text pairs i is h =
    let pair : get_or pairs i [] ≡ take 2 (drop (2 * i) text) = ap (λ ps. get_or ps i []) is ∙ pair_at (length text / 2) i text [] h in
    let first : 2 * i + 0 ≡ 2 * i = omega arith in (
      ap (λ p. get_or p 0 0) pair ∙ (get_or-take 2 (drop (2 * i) text) 0 0 (omega arith) ∙ (get_or-drop (2 * i) text 0 0 ∙ ap (λ k. get_or text k 0) first)),
      ap (λ p. get_or p 1 0) pair ∙ (get_or-take 2 (drop (2 * i) text) 1 0 (omega arith) ∙ get_or-drop (2 * i) text 1 0),
    )

-- what holds of every place below 2 * i, and of the next two, holds below 2 * (i + 1)
pub two_more : (P : ℕ → Type 0) (i : ℕ) → ((k : ℕ) → k < 2 * i → P k) → P (2 * i) → P (2 * i + 1) → (k : ℕ) → k < 2 * (i + 1) → P k
two_more P i below first second k h = below_more P (2 * i + 1) (below_more P (2 * i) below first) second k (omega arith)

hex_of_append : (xs ys : List ℕ) → hex_of (xs ++ ys) ≡ hex_of xs ++ hex_of ys
hex_of_append [] ys = refl
hex_of_append (x ∷ xs) ys = ap (λ t. digit_of (x / 16) ∷ (digit_of (x % 16) ∷ t)) (hex_of_append xs ys)

-- the start of a buffer that a window was read into
read_part : (bytes buffer after : List ℕ) (place count : ℕ) → Filled bytes place buffer count after → take count after ≡ take count (drop place bytes)
read_part bytes buffer after place count f =
    let long : length (take count (drop place bytes)) ≡ count = simp (length-take, length-drop) (omega (arith, f.count_is)) in
    rw f.after_is (take_at (take count (drop place bytes)) (drop count buffer) count long)

-- the digits of a window, behind those of the bytes before it
window_more : (bytes buffer after : List ℕ) (place count : ℕ) → Filled bytes place buffer count after → hex_of (take place bytes) ++ hex_of (take count after) ≡ hex_of (take (place + count) bytes)
window_more bytes buffer after place count f =
    rw (read_part bytes buffer after place count f, take-add place count bytes, hex_of_append) refl

-- as many bytes as are left are as good as more
left_all : (bytes : List ℕ) (place count size : ℕ) → place ≤ length bytes → count ≡ min size (length bytes - place) → take (place + count) bytes ≡ take (place + size) bytes
left_all bytes place count size within count_is =
    ⊎_elim
    (λ (l : size < length bytes - place). let e : count ≡ size = omega arith in ap (λ n. take (place + n) bytes) e)
    (λ (l : length bytes - place ≤ size). take_all (place + count) bytes (omega arith) ∙ sym (take_all (place + size) bytes (omega arith)))
    (cases_lt size (length bytes - place))

-- the digits so far, with those of a window more
pub window_told : (bytes buffer after text more : List ℕ) (place count size : ℕ) → place ≤ length bytes → length buffer ≡ size → Filled bytes place buffer count after → text ≡ hex_of (take place bytes) → more ≡ text ++ hex_of (take count after) → more ≡ hex_of (take (place + size) bytes)
window_told bytes buffer after text more place count size within long f told is =
    let e : count ≡ min size (length bytes - place) = rw long at f.count_is in
    is ∙ (ap (λ t. t ++ hex_of (take count after)) told
    ∙ (window_more bytes buffer after place count f ∙ ap hex_of (left_all bytes place count size within e)))
