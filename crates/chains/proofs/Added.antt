-- The bytes that an update adds: they do not begin with LF, and the window at its section has just the section.
use Rattle.std.proofs.Common.{◌≡◌, ℕ, zero, suc, ◌+◌, ◌/◌, ◌%◌, ◌<◌, ◌≤◌, true, false, ltb, leb, List, [], ◌∷◌, ◌++◌, length, take, drop, codes, sym, refl, ap, ◌∙◌, append_assoc, arith, length-append, take_all, drop_at}
use Rattle.std.proofs.lemmas.Bool.{and_parts, ltb-true, leb-true, le-leb, ne_eqb}
use Rattle.format.specs.Book.{history, newest, addition, within_limits, most_size}
use Rattle.format.specs.Bytes.{Bytes, ok}
use Rattle.format.specs.Chain.{window_bytes, section_in}
use Rattle.format.specs.Revisions.{Revision, file_bytes, most_revisions}
use Rattle.format.specs.Sections.{section}
use Rattle.format.specs.Updates.{Update}
use Rattle.format.specs.Writing.{decimal_on, decimal, framed_bytes, Cell, kept, wrote, freed, cell_bytes, object_bytes, section_bytes, new_size, update_objects, update_section, update_bytes}
use Rattle.chains.specs.Needed.{Needed}
use Rattle.sections.specs.Reading.{begins_lf}
use Rattle.chains.specs.Stated.{Behind, section_at, ReadsBack, UpdatesOpen}
use Rattle.chains.proofs.Longer.{longer_open}
use Rattle.locality.proofs.Cases.{cases}

-- what is within the limits
pub record Limits (file : Bytes) (u : Update) : Type 0 where
  pub few : length (history file) < most_revisions
  pub size : new_size (newest file) u ≤ most_size
  pub short : length file + length (addition file u) ≤ file_bytes
  pub window : length (update_section (length file) (newest file) u) ≤ window_bytes

pub limits_parts : (file : Bytes) (u : Update) → within_limits file u ≡ true → Limits file u
unfolding within_limits
limits_parts file u h =
    let a = and_parts (ltb (length (history file)) most_revisions) _ h in
    let b = and_parts (leb (new_size (newest file) u) most_size) _ a.1 in
    let c = and_parts (leb (length file + length (addition file u)) file_bytes) _ b.1 in
    record {
      few = ltb-true (length (history file)) most_revisions a.0;
      size = leb-true (new_size (newest file) u) most_size b.0;
      short = leb-true (length file + length (addition file u)) file_bytes c.0;
      window = leb-true (length (update_section (length file) (newest file) u)) window_bytes c.1;
    }

no_lf_++ : (xs ys : Bytes) → begins_lf xs ≡ false → begins_lf ys ≡ false → begins_lf (xs ++ ys) ≡ false
unfolding begins_lf
no_lf_++ [] ys a b = b
no_lf_++ (x ∷ xs) ys a b = a

no_lf_digit : (d : ℕ) (xs : Bytes) → begins_lf ((48 + d) ∷ xs) ≡ false
unfolding begins_lf
no_lf_digit d xs = ne_eqb (48 + d) 10 (λ e. omega arith)

no_lf_decimal : (k n : ℕ) (acc : Bytes) → begins_lf acc ≡ false → begins_lf (decimal_on k n acc) ≡ false
unfolding decimal_on
no_lf_decimal zero n acc h = h
no_lf_decimal (suc k) n acc h =
    cases (ltb n 10)
    (λ e. rw (e, decimal_on) (no_lf_digit n acc))
    (λ e. rw (e, decimal_on) (no_lf_decimal k (n / 10) ((48 + n % 10) ∷ acc) (no_lf_digit (n % 10) acc)))

no_lf_framed : (n g : ℕ) (b : Bytes) → begins_lf (framed_bytes n g b) ≡ false
unfolding framed_bytes decimal begins_lf
no_lf_framed n g b = no_lf_++ (decimal_on 10 n []) (codes " " ++ (decimal g ++ (codes " obj\n" ++ (b ++ codes "\nendobj\n")))) (no_lf_decimal 10 n [] refl) refl

no_lf_cell : (n : ℕ) (c : Cell) → begins_lf (cell_bytes n c) ≡ false
unfolding cell_bytes begins_lf
no_lf_cell n (kept s) = refl
no_lf_cell n (wrote g p b) = no_lf_framed n g b
no_lf_cell n (freed g) = refl

no_lf_objects : (n : ℕ) (cs : List Cell) → begins_lf (object_bytes n cs) ≡ false
unfolding object_bytes begins_lf
no_lf_objects n [] = refl
no_lf_objects n (c ∷ cs) = no_lf_++ (cell_bytes n c) (object_bytes (suc n) cs) (no_lf_cell n c) (no_lf_objects (suc n) cs)

no_lf_section : (len : ℕ) (r : Revision) (u : Update) → begins_lf (update_section len r u) ≡ false
unfolding update_section section_bytes begins_lf
no_lf_section len r u = refl

-- an update's bytes begin with a digit or with `xref`
pub addition_no_lf : (file : Bytes) (u : Update) → begins_lf (addition file u) ≡ false
unfolding addition update_bytes update_objects
addition_no_lf file u =
    no_lf_++ (update_objects (length file) (newest file) u) (update_section (length file) (newest file) u)
    (no_lf_objects 0 _) (no_lf_section (length file) (newest file) u)

-- the file with the update, up to the section
pub addition_parts : (file : Bytes) (u : Update) →
    file ++ addition file u ≡ (file ++ update_objects (length file) (newest file) u) ++ update_section (length file) (newest file) u
unfolding addition update_bytes
addition_parts file u = sym (append_assoc file (update_objects (length file) (newest file) u) (update_section (length file) (newest file) u))

pub addition_length : (file : Bytes) (u : Update) →
    length (file ++ addition file u) ≡ section_at file u + length (update_section (length file) (newest file) u)
addition_length file u =
    ap length (addition_parts file u)
    ∙ length-append (file ++ update_objects (length file) (newest file) u) (update_section (length file) (newest file) u)
    ∙ ap (λ n. n + length (update_section (length file) (newest file) u)) (length-append file (update_objects (length file) (newest file) u))

-- at the section's place stands just the section
pub section_window : (file : Bytes) (u : Update) → within_limits file u ≡ true →
    section_in (file ++ addition file u) (section_at file u) ≡ section (section_at file u) (update_section (length file) (newest file) u)
unfolding section_in
section_window file u h =
    let l = limits_parts file u h in
    let n = addition_length file u in
    let w = l.window in
    let at : length (file ++ update_objects (length file) (newest file) u) ≡ section_at file u = length-append file (update_objects (length file) (newest file) u) in
    let d : drop (section_at file u) (file ++ addition file u) ≡ update_section (length file) (newest file) u =
    ap (drop (section_at file u)) (addition_parts file u) ∙ drop_at (file ++ update_objects (length file) (newest file) u) (update_section (length file) (newest file) u) (section_at file u) at in
    rw (le-leb (section_at file u) (length (file ++ addition file u)) (omega arith), section_in)
    (ap (λ xs. section (section_at file u) (take window_bytes xs)) d ∙ ap (section (section_at file u)) (take_all window_bytes (update_section (length file) (newest file) u) w))

-- an update whose section reads back stands behind its file
pub update_behind : (file : Bytes) (u : Update) (r : Revision) → within_limits file u ≡ true → ReadsBack file u r → Behind file (addition file u) r
update_behind file u r h b =
    let l = limits_parts file u h in
    let n = addition_length file u in
    record {
      no_lf = addition_no_lf file u;
      short = let s = l.short in let e = length-append file (addition file u) in omega arith;
      few = l.few;
      off = section_at file u;
      past = omega arith;
      sec = b.sec;
      rest = [];
      read = section_window file u h ∙ b.read ∙ ap (λ e. ok b.sec e []) (sym n);
      bounded = b.bounded;
      says = b.says;
      telling = b.telling;
      prev = b.prev;
      makes = b.makes;
    }

-- from the locality of sections: an update whose section reads back is one more revision
pub updates_open : Needed → UpdatesOpen
updates_open need file o u r h w b = longer_open need file (addition file u) o r h (update_behind file u r w b)
