-- How the pieces of a section hang together.
use Rattle.std.proofs.Common.{◌≡◌, ℕ, zero, suc, ◌+◌, ◌<◌, List, [], ◌∷◌, ◌++◌, length, get_or, take, codes, sym, refl, ap, ◌∙◌, append_assoc, append-nil, add-one, arith}
use Rattle.format.specs.Bytes.{Bytes}
use Rattle.format.specs.Lines.{Slot}
use Rattle.format.specs.Writing.{decimal, padded, framed_bytes, used_slot, free_slot, mark_of, slot_bytes, slots_on, run_on, runs_on, copied, prev_bytes, section_bytes}
use Rattle.sections.proofs.Digits.{padded_++}
use Rattle.sections.proofs.Entries.{runs_on_++}
use Rattle.entries.specs.declared.entry.Entry.{Entry}
use Rattle.writer.specs.Parts.{SectionParts, RunsParts, CopiedParts, Parts}
use Rattle.writer.specs.Pieces.{slot_of, slots_of, pair_bytes, size_bytes, close_bytes, line_bytes}
use Rattle.writer.proofs.Lengths.{slots_count}

-- entries, and then others
pub slots_then : (ss ts : List Slot) (ys : Bytes) → slots_on (ss ++ ts) ys ≡ slots_on ss [] ++ slots_on ts ys
unfolding slots_on
slots_then [] ts ys = refl
slots_then (s ∷ ss) ts ys = ap (λ zs. slot_bytes s ++ zs) (slots_then ss ts ys) ∙ sym (append_assoc (slot_bytes s) (slots_on ss []) (slots_on ts ys))

slots_step : (d : Entry) (es : List Entry) (i : ℕ) → i < length es →
    slots_on (slots_of (take (suc i) es)) [] ≡ slots_on (slots_of (take i es)) [] ++ slot_bytes (slot_of (get_or es i d))
unfolding slots_on
slots_step d [] i h = absurd (omega arith)
slots_step d (e ∷ es) zero h = append-nil (slot_bytes (slot_of e))
slots_step d (e ∷ es) (suc i) h =
    ap (λ zs. slot_bytes (slot_of e) ++ zs) (slots_step d es i (omega arith))
    ∙ sym (append_assoc (slot_bytes (slot_of e)) (slots_on (slots_of (take i es)) []) (slot_bytes (slot_of (get_or es i d))))

-- one entry more
pub slots_more : (es : List Entry) (i : ℕ) (d : Entry) → i < length es →
    slots_on (slots_of (take (i + 1) es)) [] ≡ slots_on (slots_of (take i es)) [] ++ slot_bytes (slot_of (get_or es i d))
slots_more es i d h = rw (add-one i) (slots_step d es i h)

-- no entries
pub slots_none : slots_on [] [] ≡ []
unfolding slots_on
slots_none = refl

-- an entry is its parts
pub entry_parts : (field gen mark : ℕ) →
    padded 10 field [] ++ ((32 ∷ []) ++ (padded 5 gen [] ++ ((32 ∷ []) ++ ((mark ∷ []) ++ codes " \n")))) ≡ padded 10 field (32 ∷ padded 5 gen (32 ∷ mark ∷ 32 ∷ 10 ∷ []))
entry_parts field gen mark =
    padded_++ 10 field [] (32 ∷ (padded 5 gen [] ++ (32 ∷ mark ∷ 32 ∷ 10 ∷ [])))
    ∙ ap (λ zs. padded 10 field (32 ∷ zs)) (padded_++ 5 gen [] (32 ∷ mark ∷ 32 ∷ 10 ∷ []))

-- by its mark it is in use or free
pub used_marked : (p g : ℕ) → padded 10 p (32 ∷ padded 5 g (32 ∷ 110 ∷ 32 ∷ 10 ∷ [])) ≡ slot_bytes (used_slot p g)
unfolding slot_bytes mark_of
used_marked p g = refl

pub free_marked : (n g : ℕ) → padded 10 n (32 ∷ padded 5 g (32 ∷ 102 ∷ 32 ∷ 10 ∷ [])) ≡ slot_bytes (free_slot n g)
unfolding slot_bytes mark_of
free_marked n g = refl

-- an object is its parts
pub framed_parts : (n g : ℕ) (b : Bytes) →
    (decimal n ++ codes " ") ++ ((decimal g ++ codes " obj\n") ++ (b ++ codes "\nendobj\n")) ≡ framed_bytes n g b
unfolding framed_bytes
framed_parts n g b =
    append_assoc (decimal n) (codes " ") ((decimal g ++ codes " obj\n") ++ (b ++ codes "\nendobj\n"))
    ∙ ap (λ zs. decimal n ++ (codes " " ++ zs)) (append_assoc (decimal g) (codes " obj\n") (b ++ codes "\nendobj\n"))

-- a run's line is its parts
pub line_parts : (first count : ℕ) → (decimal first ++ codes " ") ++ (decimal count ++ codes "\n") ≡ line_bytes first count
unfolding line_bytes
line_parts first count = append_assoc (decimal first) (codes " ") (decimal count ++ codes "\n")

-- a run is its line and its entries
pub run_parts : (first : ℕ) (ss : List Slot) → line_bytes first (length ss) ++ slots_on ss [] ≡ run_on (first, ss) []
unfolding line_bytes run_on
run_parts first ss =
    append_assoc (decimal first) (32 ∷ (decimal (length ss) ++ (10 ∷ []))) (slots_on ss [])
    ∙ ap (λ zs. decimal first ++ (32 ∷ zs)) (append_assoc (decimal (length ss)) (10 ∷ []) (slots_on ss []))

-- the same of entries
pub run_of_parts : (first : ℕ) (es : List Entry) → line_bytes first (length es) ++ slots_on (slots_of es) [] ≡ run_on (first, slots_of es) []
run_of_parts first es = ap (λ n. line_bytes first n ++ slots_on (slots_of es) []) (sym (slots_count es)) ∙ run_parts first (slots_of es)

-- a section is its pieces, one behind the other
pub section_parts : SectionParts
unfolding section_bytes close_bytes
section_parts at rs es size prev =
    let back = close_bytes at in
    let rest = codes "trailer\n<<\n" ++ (copied es ++ (size_bytes size ++ (prev_bytes prev ++ close_bytes at))) in
    ap (λ zs. codes "xref\n" ++ runs_on rs (codes "trailer\n<<\n" ++ (copied es ++ (codes "/Size " ++ zs))))
    (sym (append_assoc (decimal size) (codes "\n") (prev_bytes prev ++ back)))
    ∙ ap (λ zs. codes "xref\n" ++ zs) (sym (runs_on_++ rs [] rest))

-- runs are one behind the other
pub runs_parts : RunsParts
unfolding runs_on
runs_parts r rs = sym (runs_on_++ (r ∷ []) [] (runs_on rs []))

-- an entry of the previous trailer is copied, unless it is written anew
pub copied_parts : CopiedParts
unfolding copied pair_bytes
copied_parts k kb vb o es = (
  λ e. rw (e, copied) (sym (append_assoc kb (32 ∷ (vb ++ (10 ∷ []))) (copied es) ∙ ap (λ zs. kb ++ (32 ∷ zs)) (append_assoc vb (10 ∷ []) (copied es)))),
  λ e. rw (e, copied) refl,
)

pub parts : Parts
parts = (section_parts, runs_parts, copied_parts)
