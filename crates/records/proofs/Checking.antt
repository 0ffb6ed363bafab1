-- What a section lists, check by check; and the section at an offset.
use Rattle.std.proofs.Common.{◌≡◌, ℕ, ◌<◌, ◌≤◌, Bool, true, false, eqb, List, length, take, drop, ℤ, unsigned_abs, Some, None, Ok, Err, Result, w64, SFits, sym, refl, ap, ◌∙◌, le-leb}
use Rattle.std.proofs.lemmas.List.{length-map}
use Rattle.std.specs.Int.{FitsUnsignedBits}
use Rattle.std.specs.Result.{OkIff, result_eq}
use borrow.Author.Tests.{lt-leb}
use Rattle.faults.specs.declared.fault.Fault.{Fault}
use Rattle.faults.specs.declared.reason.Reason.TheVariants.{BytesEnd, BadTrailer, ChainRule, FileBound}
use Rattle.format.specs.Bytes.{Bytes, Got, ok, bad}
use Rattle.format.specs.Chain.{Answer, window_bytes, Told, told, in_bound, section_in}
use Rattle.format.specs.Failures.{chain_fault, section_fault}
use Rattle.format.specs.Revisions.{State, highest, size_is, slots_fit, covered, root_fits}
use Rattle.format.specs.Sections.{Listed, listed, Section, section}
use Rattle.entries.specs.declared.cell.Cell.{Cell}
use Rattle.entries.specs.declared.entry.Row.{Row}
use Rattle.entries.specs.Cells.{state_in, states_in}
use Rattle.entries.specs.Rows.{rows_of}
use Rattle.records.proofs.Converted.{converted_ok, converted_err}
use Rattle.records.specs.declared.link.Link.{Link}
use Rattle.records.specs.Linked.{told_by}
use Rattle.records.specs.Links.{link_of, link_at, rows_checked}

-- Size
pub size_told : {E : Type 0} (n : ℕ) (z y : ℤ) (r : Result ℕ E) (same : E → E → Bool) (b : Bool) → SFits w64 z → y ≡ z → OkIff r (FitsUnsignedBits 64 y) (unsigned_abs y) → b ≡ result_eq eqb same r (Ok n) → b ≡ size_is z n
unfolding size_is
size_told {E} n z y (Ok k) same b f e o m = m ∙ ap (λ x. size_is x n) (sym (converted_ok {E = E} z y (Ok k) f e o k refl))
size_told {E} n z y (Err d) same b f e o m = let q = converted_err {E = E} z y (Err d) f e o d refl in m ∙ ap (λ x. size_is x n) (sym q.1)

module _ (fits : Bool) (off : ℕ) (t : Told) (new : Listed) (old : List State) where
  check_subs : fits ≡ false → rows_checked fits off t new old ≡ Err (chain_fault ChainRule off 0)
  unfolding rows_checked
  check_subs e = rw e refl

  check_slots : (f : Fault) → fits ≡ true → slots_fit off t.size new ≡ Err f → rows_checked fits off t new old ≡ Err f
  unfolding rows_checked
  check_slots f e s = rw (e, s) refl

  check_size : (n : ℕ) → fits ≡ true → slots_fit off t.size new ≡ Ok tt → highest (length old) new ≡ n → size_is t.size n ≡ false → rows_checked fits off t new old ≡ Err (chain_fault ChainRule off 0)
  unfolding rows_checked
  check_size n e s h z = rw (e, s, h, z) refl

  check_covered : (n : ℕ) → fits ≡ true → slots_fit off t.size new ≡ Ok tt → highest (length old) new ≡ n → size_is t.size n ≡ true → covered n 0 new (length old) ≡ false → rows_checked fits off t new old ≡ Err (chain_fault ChainRule off 0)
  unfolding rows_checked
  check_covered n e s h z c = rw (e, s, h, z, c) refl

  check_root : (n : ℕ) → fits ≡ true → slots_fit off t.size new ≡ Ok tt → highest (length old) new ≡ n → size_is t.size n ≡ true → covered n 0 new (length old) ≡ true → root_fits t.root t.root_gen new old ≡ false →
      rows_checked fits off t new old ≡ Err (chain_fault ChainRule off t.root)
  unfolding rows_checked
  check_root n e s h z c r = rw (e, s, h, z, c, r) refl

  check_ok : (n : ℕ) → fits ≡ true → slots_fit off t.size new ≡ Ok tt → highest (length old) new ≡ n → size_is t.size n ≡ true → covered n 0 new (length old) ≡ true → root_fits t.root t.root_gen new old ≡ true →
      rows_checked fits off t new old ≡ Ok n
  unfolding rows_checked
  check_ok n e s h z c r = rw (e, s, h, z, c, r) refl

-- the same of a section's link, its rows and the cells before; the Size that its trailer tells is the number z
module _ (fits : Bool) (k : Link) (rows : List Row) (old : List Cell) (z : ℤ) (e : z ≡ k.told.size) (file : Bytes) where
  abbrev checked : Answer ℕ
  checked = rows_checked fits k.offset (told_by k.told) (rows_of rows) (states_in file old)

  pub subs_refused : (f : Fault) → fits ≡ false → f ≡ chain_fault ChainRule k.offset 0 → Err f ≡ checked
  subs_refused f a w = ap Err w ∙ sym (check_subs fits k.offset (told_by k.told) (rows_of rows) (states_in file old) a)

  module _ (a : fits ≡ true) where
    pub slots_refused : (f : Fault) → Err f ≡ slots_fit k.offset z (rows_of rows) → Err f ≡ checked
    slots_refused f s = sym (check_slots fits k.offset (told_by k.told) (rows_of rows) (states_in file old) f a (rw e at (sym s)))

    module _ (s : Ok tt ≡ slots_fit k.offset z (rows_of rows)) (n : ℕ) (h : n ≡ highest (length old) (rows_of rows)) where
      slots : slots_fit k.offset k.told.size (rows_of rows) ≡ Ok tt
      slots = rw e at (sym s)

      many : highest (length (states_in file old)) (rows_of rows) ≡ n
      many = ap (λ (m : ℕ). highest m (rows_of rows)) (length-map old (state_in file)) ∙ sym h

      pub size_refused : (f : Fault) → false ≡ size_is z n → f ≡ chain_fault ChainRule k.offset 0 → Err f ≡ checked
      size_refused f q w = ap Err w ∙ sym (check_size fits k.offset (told_by k.told) (rows_of rows) (states_in file old) n a slots many (rw e at (sym q)))

      module _ (q : true ≡ size_is z n) where
        size_told_is : size_is k.told.size n ≡ true
        size_told_is = rw e at (sym q)

        full : (b : Bool) → b ≡ covered n 0 (rows_of rows) (length old) → covered n 0 (rows_of rows) (length (states_in file old)) ≡ b
        full b c = ap (λ (m : ℕ). covered n 0 (rows_of rows) m) (length-map old (state_in file)) ∙ sym c

        pub cover_refused : (f : Fault) → false ≡ covered n 0 (rows_of rows) (length old) → f ≡ chain_fault ChainRule k.offset 0 → Err f ≡ checked
        cover_refused f c w = ap Err w ∙ sym (check_covered fits k.offset (told_by k.told) (rows_of rows) (states_in file old) n a slots many size_told_is (full false c))

        module _ (c : true ≡ covered n 0 (rows_of rows) (length old)) where
          pub root_refused : (f : Fault) (m : ℕ) → false ≡ root_fits k.told.root k.told.root_generation (rows_of rows) (states_in file old) → f ≡ chain_fault ChainRule k.offset m → m ≡ k.told.root → Err f ≡ checked
          root_refused f m r w i = ap Err (w ∙ ap (chain_fault ChainRule k.offset) i) ∙ sym (check_root fits k.offset (told_by k.told) (rows_of rows) (states_in file old) n a slots many size_told_is (full true c) (sym r))

          pub rows_passed : true ≡ root_fits k.told.root k.told.root_generation (rows_of rows) (states_in file old) → Ok n ≡ checked
          rows_passed r = sym (check_ok fits k.offset (told_by k.told) (rows_of rows) (states_in file old) n a slots many size_told_is (full true c) (sym r))

-- the section at an offset past the file
pub section_past : (file : Bytes) (off : ℕ) → length file < off → section_in file off ≡ bad (section_fault BytesEnd (length file))
unfolding section_in
section_past file off h = rw (lt-leb off (length file) h, section_in) refl

-- a section that is refused
pub link_bad : (file : Bytes) (off : ℕ) (f : Fault) → section_in file off ≡ bad f → link_at file off ≡ Err f
unfolding link_at
link_bad file off f e = rw (e, link_at) refl

module _ (file : Bytes) (off : ℕ) (src : Bytes) (h : off ≤ length file) (w : src ≡ take window_bytes (drop off file)) where
  pub section_here : (x : Got Section) → section off src ≡ x → section_in file off ≡ x
  unfolding section_in
  section_here x e = rw (le-leb off (length file) h, section_in) (ap (section off) (sym w) ∙ e)

  module _ (s : Section) (p : ℕ) (rest : Bytes) (e : section off src ≡ ok s p rest) where
    pub link_high : in_bound (listed s.subsections) ≡ false → link_at file off ≡ Err (chain_fault FileBound 0 0)
    unfolding link_at link_of
    link_high b = rw (section_here (ok s p rest) e, link_at) (rw b refl)

    pub link_untold : in_bound (listed s.subsections) ≡ true → told s.trailer ≡ None → link_at file off ≡ Err (section_fault BadTrailer s.marked)
    unfolding link_at link_of
    link_untold b t = rw (section_here (ok s p rest) e, link_at) (rw (b, t) refl)

    pub link_told : (t : Told) → in_bound (listed s.subsections) ≡ true → told s.trailer ≡ Some t → link_at file off ≡ Ok (record { sec = s; says = t })
    unfolding link_at link_of
    link_told t b q = rw (section_here (ok s p rest) e, link_at) (rw (b, q) refl)
