-- A tail is read where it stands.
use Rattle.std.proofs.Common.{◌≡◌, ℕ, ◌+◌, ◌^◌, ◌<◌, false, ◌++◌, length, codes, refl, ◌∙◌, arith}
use Rattle.format.specs.Bytes.{Bytes, Got, ok}
use Rattle.format.specs.Lines.{placed}
use Rattle.format.specs.Sections.{tail}
use Rattle.format.specs.Writing.{decimal}
use Rattle.sections.proofs.Digits.{Spells, spells}
use Rattle.sections.specs.Reading.{begins_lf}
use Rattle.sections.proofs.Ends.{End, lf, end_bytes, Closes, closes, exact_line_taken, number_line_taken, digits_no_lf}

-- the place of what was read, otherwise counted
pub ok_at : {A : Type 0} {a : A} {p q : ℕ} {xs : Bytes} → p ≡ q → ◌≡◌ {A = Got A} (ok a p xs) (ok a q xs)
ok_at {a = a} {xs = xs} e = λ i. ok a (e i) xs

-- a tail with these digits and ends of line, before other bytes
abbrev pub tail_on : (a : End) → Bytes → (b c : End) → Bytes → Bytes
tail_on a ds b c ys = codes "startxref" ++ (end_bytes a ++ (ds ++ (end_bytes b ++ (codes "%%EOF" ++ (end_bytes c ++ ys)))))

-- how many bytes such a tail is
abbrev pub tail_length : (a : End) → Bytes → (b c : End) → ℕ
tail_length a ds b c = 9 + (length (end_bytes a) + (length ds + (length (end_bytes b) + (5 + length (end_bytes c)))))

eof_no_lf : (ys : Bytes) → begins_lf (codes "%%EOF" ++ ys) ≡ false
unfolding begins_lf
eof_no_lf ys = refl

-- a tail that gives the offset is read, whatever its ends of line
pub tail_taken : (off p : ℕ) (a : End) (ds : Bytes) (b c : End) (ys : Bytes) → Spells off ds → Closes c ys →
    tail off p (tail_on a ds b c ys) ≡ ok tt (p + tail_length a ds b c) ys
unfolding tail placed
tail_taken off p a ds b c ys s h =
    let zs : Bytes = end_bytes b ++ (codes "%%EOF" ++ (end_bytes c ++ ys)) in
    rw (exact_line_taken (codes "startxref") a p (ds ++ zs) (closes a (ds ++ zs) (digits_no_lf off ds zs s)))
    (rw (number_line_taken off ds b (p + (9 + length (end_bytes a))) (codes "%%EOF" ++ (end_bytes c ++ ys)) s (closes b (codes "%%EOF" ++ (end_bytes c ++ ys)) (eof_no_lf (end_bytes c ++ ys))))
    (rw (exact_line_taken (codes "%%EOF") c (p + (9 + length (end_bytes a)) + (length ds + length (end_bytes b))) ys h) (ok_at (omega arith))))

-- the tail that is written is read, before any bytes
pub tail_read : (off p : ℕ) (ys : Bytes) → off < 10 ^ 10 →
    tail off p (codes "startxref\n" ++ (decimal off ++ (codes "\n%%EOF\n" ++ ys))) ≡ ok tt (p + (17 + length (decimal off))) ys
tail_read off p ys h = tail_taken off p lf (decimal off) lf lf ys (spells off h) tt ∙ ok_at (omega arith)
