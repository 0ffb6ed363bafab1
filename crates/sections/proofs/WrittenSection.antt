-- A section that is written is read again.
use Rattle.std.proofs.Common.{◌≡◌, ℕ, suc, ◌+◌, ◌^◌, ◌<◌, ◌≤◌, false, List, [], ◌∷◌, ◌++◌, length, codes, Option, sym, refl, ap, ◌∙◌, append_assoc, arith, length-append}
use Rattle.format.specs.Bytes.{Bytes, ok, is_white, is_digit}
use Rattle.format.specs.Space.{skip}
use Rattle.format.specs.Lines.{placed}
use Rattle.format.specs.Objects.{Entries}
use Rattle.format.specs.Sections.{section, begins_digit}
use Rattle.format.specs.Writing.{Run, runs, runs_on, decimal, section_bytes}
use Rattle.sections.specs.Written.{subs_of, trailer_on, TrailerReads, section_of, WrittenSectionsReadBack}
use Rattle.sections.proofs.Ends.{lf, exact_taken, exact_line_taken}
use Rattle.sections.proofs.Entries.{FitRuns, runs_fit, runs_flat, runs_count, runs_some, all_subs_read, runs_length, runs_on_length, runs_on_++}
use Rattle.sections.proofs.Tails.{tail_read}

-- what is written behind a trailer, before other bytes
abbrev pub behind_trailer : ℕ → Bytes → Bytes
behind_trailer at ys = codes "\nstartxref\n" ++ (decimal at ++ (codes "\n%%EOF\n" ++ ys))

-- what stands behind a trailer may be split
pub trailer_on_++ : (es : Entries) (size : ℕ) (prev : Option ℕ) (xs ys : Bytes) → trailer_on es size prev xs ++ ys ≡ trailer_on es size prev (xs ++ ys)
trailer_on_++ es size prev xs ys = simp append_assoc

-- how many bytes a trailer is, before others
pub trailer_on_length : (es : Entries) (size : ℕ) (prev : Option ℕ) (ys : Bytes) → length (trailer_on es size prev ys) ≡ length (trailer_on es size prev []) + length ys
trailer_on_length es size prev ys = ap length (sym (trailer_on_++ es size prev [] ys)) ∙ length-append (trailer_on es size prev []) ys

-- a section as it is written, its parts apart
pub bytes_apart : (at : ℕ) (rs : List Run) (es : Entries) (size : ℕ) (prev : Option ℕ) (ys : Bytes) →
    section_bytes at rs es size prev ++ ys ≡ codes "xref\n" ++ runs_on rs (codes "trailer" ++ trailer_on es size prev (behind_trailer at ys))
unfolding section_bytes
bytes_apart at rs es size prev ys = rw runs_on_++ (simp append_assoc)

-- how many bytes a section is
pub section_length : (at : ℕ) (rs : List Run) (es : Entries) (size : ℕ) (prev : Option ℕ) →
    length (section_bytes at rs es size prev) ≡ 5 + (runs_length rs + (7 + (length (trailer_on es size prev []) + (18 + length (decimal at)))))
unfolding section_bytes
section_length at rs es size prev =
    let t : Bytes = codes "\nstartxref\n" ++ (decimal at ++ codes "\n%%EOF\n") in
    let a = runs_on_length rs (codes "trailer" ++ trailer_on es size prev t) in
    let b = trailer_on_length es size prev t in
    let c = length-append (decimal at) (codes "\n%%EOF\n") in
    omega arith

skip_line : (p : ℕ) (ys : Bytes) → skip false p (codes "\nstartxref" ++ ys) ≡ (suc p, codes "startxref" ++ ys)
unfolding skip is_white
skip_line p ys = refl

trailer_no_digit : (ys : Bytes) → begins_digit (codes "trailer" ++ ys) ≡ false
unfolding begins_digit is_digit
trailer_no_digit ys = refl

section_of_fact : (at : ℕ) (r : Run) (rs : List Run) (es : Entries) (size : ℕ) (prev : Option ℕ) (es' : Entries) (ys : Bytes) →
    length rs ≤ 1000 → FitRuns 0 (r ∷ rs) → at < 10 ^ 10 → TrailerReads es size prev es' →
    section at (section_bytes at (r ∷ rs) es size prev ++ ys)
    ≡ ok (section_of at (r ∷ rs) es size prev es') (at + length (section_bytes at (r ∷ rs) es size prev)) ys
unfolding section placed
section_of_fact at r rs es size prev es' ys h f k reads =
    rw (bytes_apart at (r ∷ rs) es size prev ys)
    (rw (exact_line_taken (codes "xref") lf at (runs_on (r ∷ rs) (codes "trailer" ++ trailer_on es size prev (behind_trailer at ys))) tt)
    (rw (all_subs_read r rs (at + 5) (codes "trailer" ++ trailer_on es size prev (behind_trailer at ys)) h f (trailer_no_digit (trailer_on es size prev (behind_trailer at ys))))
    (rw (exact_taken (codes "trailer") p₂ (trailer_on es size prev (behind_trailer at ys)))
    (rw (reads (p₂ + 7) (behind_trailer at ys))
    (rw (skip_line p₄ (10 ∷ (decimal at ++ (codes "\n%%EOF\n" ++ ys))))
    (rw (tail_read at (suc p₄) ys k)
    (λ i. ok (record { offset = at; end = end i; subsections = subs_of (r ∷ rs); marked = marked i; trailer = es' }) (end i) ys)))))))
  where
    p₂ : ℕ
    p₂ = at + 5 + runs_length (r ∷ rs)

    p₄ : ℕ
    p₄ = p₂ + 7 + length (trailer_on es size prev [])

    end : suc p₄ + (17 + length (decimal at)) ≡ at + length (section_bytes at (r ∷ rs) es size prev)
    end = rw (section_length at (r ∷ rs) es size prev) (omega arith)

    marked : suc (p₂ + 7) ≡ at + length (codes "xref\n" ++ runs_on (r ∷ rs) (codes "trailer\n"))
    marked = let a = runs_on_length (r ∷ rs) (codes "trailer\n") in omega arith

by_runs : (rs : List Run) (at : ℕ) (es : Entries) (size : ℕ) (prev : Option ℕ) (es' : Entries) (ys : Bytes) →
    1 ≤ length rs → length rs ≤ 1000 → FitRuns 0 rs → at < 10 ^ 10 → TrailerReads es size prev es' →
    section at (section_bytes at rs es size prev ++ ys) ≡ ok (section_of at rs es size prev es') (at + length (section_bytes at rs es size prev)) ys
by_runs [] at es size prev es' ys s h f k reads = absurd (omega arith)
by_runs (r ∷ rs) at es size prev es' ys s h f k reads = section_of_fact at r rs es size prev es' ys (omega arith) f k reads

-- A section as it is written reads as that section, before any bytes, and lists exactly what is listed.
pub section_read : WrittenSectionsReadBack
section_read ls es size prev es' at ys h small any k reads = (
  by_runs (runs 0 ls) at es size prev es' ys (runs_some ls 0 any) (omega (arith, runs_count ls 0)) (runs_fit ls 0 (omega arith) small) k reads,
  runs_flat ls 0,
)
