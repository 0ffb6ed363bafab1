-- How many bytes the pieces are.
use Rattle.std.proofs.Common.{◌≡◌, ℕ, suc, ◌+◌, ◌*◌, ◌^◌, ◌<◌, ◌≤◌, List, [], ◌∷◌, ◌++◌, length, Some, codes, refl, ap, ◌∙◌, arith, length-append}
use Rattle.format.specs.Bytes.{Bytes}
use Rattle.format.specs.Lines.{Slot}
use Rattle.format.specs.Writing.{decimal, framed_bytes, prev_bytes, run_on, slots_on}
use Rattle.locality.proofs.Written.{framed_length}
use Rattle.sections.proofs.Entries.{slots_on_length}
use Rattle.entries.specs.declared.entry.Entry.{Entry}
use Rattle.writer.specs.Pieces.{slots_of, pair_bytes, size_bytes, close_bytes, line_bytes}
use Rattle.writer.proofs.Decimals.{decimal_length}

-- an object is at most 34 bytes more than its body
pub framed_at_most : (n g : ℕ) (b : Bytes) → n < 10 ^ 10 → g < 10 ^ 10 → length (framed_bytes n g b) ≤ length b + 34
framed_at_most n g b hn hg = omega (arith, framed_length n g b, decimal_length n hn, decimal_length g hg)

-- a trailer's entry
pub pair_length : (k v : Bytes) → length (pair_bytes k v) ≡ length k + length v + 2
unfolding pair_bytes
pair_length k v = let a = length-append k (32 ∷ (v ++ (10 ∷ []))) in let b = length-append v (10 ∷ []) in omega arith

-- Size
pub size_length : (n : ℕ) → length (size_bytes n) ≡ length (decimal n) + 7
size_length n = simp length-append (omega arith)

pub size_at_most : (n : ℕ) → n < 10 ^ 10 → length (size_bytes n) ≤ 17
size_at_most n h = omega (arith, size_length n, decimal_length n h)

-- Prev
pub prev_length : (p : ℕ) → length (prev_bytes (Some p)) ≡ length (decimal p) + 7
unfolding prev_bytes
prev_length p = simp length-append (omega arith)

pub prev_at_most : (p : ℕ) → p < 10 ^ 10 → length (prev_bytes (Some p)) ≤ 17
prev_at_most p h = omega (arith, prev_length p, decimal_length p h)

-- the end of a section
pub close_length : (at : ℕ) → length (close_bytes at) ≡ length (decimal at) + 20
unfolding close_bytes
close_length at = simp length-append (omega arith)

pub close_at_most : (at : ℕ) → at < 10 ^ 10 → length (close_bytes at) ≤ 30
close_at_most at h = omega (arith, close_length at, decimal_length at h)

-- the line above a run
pub line_length : (first count : ℕ) → length (line_bytes first count) ≡ length (decimal first) + length (decimal count) + 2
unfolding line_bytes
line_length first count =
    let a = length-append (decimal first) (32 ∷ (decimal count ++ (10 ∷ []))) in
    let b = length-append (decimal count) (10 ∷ []) in
    omega arith

pub line_at_most : (first count : ℕ) → first < 10 ^ 10 → count < 10 ^ 10 → length (line_bytes first count) ≤ 22
line_at_most first count hf hc = omega (arith, line_length first count, decimal_length first hf, decimal_length count hc)

-- a run is its line and 20 bytes an entry
pub run_length : (first : ℕ) (ss : List Slot) → length (run_on (first, ss) []) ≡ length (line_bytes first (length ss)) + 20 * length ss
unfolding run_on
run_length first ss =
    let a = length-append (decimal first) (32 ∷ (decimal (length ss) ++ (10 ∷ slots_on ss []))) in
    let b = length-append (decimal (length ss)) (10 ∷ slots_on ss []) in
    let c = slots_on_length ss [] in
    let d = line_length first (length ss) in
    omega arith

pub run_at_most : (first : ℕ) (ss : List Slot) → first < 10 ^ 10 → length ss < 10 ^ 10 → length (run_on (first, ss) []) ≤ 22 + 20 * length ss
run_at_most first ss hf hs = omega (arith, run_length first ss, line_at_most first (length ss) hf hs)

-- a number and a space
pub spaced_length : (n : ℕ) → length (decimal n ++ codes " ") ≡ length (decimal n) + 1
spaced_length n = length-append (decimal n) (codes " ")

-- a number and ` obj` LF
pub opened_length : (n : ℕ) → length (decimal n ++ codes " obj\n") ≡ length (decimal n) + 5
opened_length n = length-append (decimal n) (codes " obj\n")

-- there are as many entries in the format's form
pub slots_count : (es : List Entry) → length (slots_of es) ≡ length es
slots_count [] = refl
slots_count (e ∷ es) = ap suc (slots_count es)

-- entries are 20 bytes each
pub entries_length : (es : List Entry) → length (slots_on (slots_of es) []) ≡ 20 * length es
entries_length es = let a = slots_on_length (slots_of es) [] in let b = slots_count es in omega arith

-- a run of entries is its line and 20 bytes an entry
pub run_of_length : (first : ℕ) (es : List Entry) → length (run_on (first, slots_of es) []) ≡ length (line_bytes first (length es)) + 20 * length es
run_of_length first es = run_length first (slots_of es) ∙ ap (λ n. length (line_bytes first n) + 20 * n) (slots_count es)
