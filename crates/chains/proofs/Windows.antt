-- A section in a file: where it ends, and that it stands alike in any file with the same bytes up to its end.
use Rattle.std.proofs.Common.{◌≡◌, ℕ, zero, suc, ◌+◌, ◌-◌, ◌<◌, ◌≤◌, min, true, false, leb, [], ◌∷◌, ◌++◌, length, take, drop, Some, sym, refl, ap, ◌∙◌, ⊎_elim, arith, length-append, length-drop, length-take, take_all, take-take, drop-drop, take_at, take-add, drop_at}
use Rattle.std.proofs.lemmas.List.{drop-take}
use Rattle.std.proofs.lemmas.Bool.{cases_lt, leb-true, le-leb}
use Rattle.format.specs.Bytes.{Bytes, ok}
use Rattle.format.specs.Chain.{window_bytes, section_in}
use Rattle.format.specs.Sections.{Section, section, last_offset}
use Rattle.chains.specs.Needed.{Taken, Needed}
use Rattle.sections.specs.Reading.{begins_lf}
use Rattle.chains.proofs.Agree.{window_agrees}
use Rattle.chains.proofs.Places.{section_places}
use Rattle.chains.proofs.Steps.{never_reading, never_true}
use Rattle.locality.proofs.Cases.{cases}

-- Two files with the same first m bytes; and an LF stands next in the second one only if one does in the first.
pub record Alike (file file' : Bytes) (m : ℕ) : Type 0 where
  pub within : m ≤ length file
  pub within' : m ≤ length file'
  pub same : take m file ≡ take m file'
  pub next : begins_lf (drop m file') ≡ true → begins_lf (drop m file) ≡ true

begins_one : (n : ℕ) (xs : Bytes) → begins_lf (take (suc n) xs) ≡ begins_lf xs
unfolding begins_lf
begins_one n [] = refl
begins_one n (x ∷ xs) = refl

begins_part : (n : ℕ) (xs ys : Bytes) → (begins_lf xs ≡ true → begins_lf ys ≡ true) → begins_lf (take n xs) ≡ true → begins_lf (take n ys) ≡ true
unfolding begins_lf
begins_part zero xs ys f h = never_true h
begins_part (suc n) xs ys f h = begins_one n ys ∙ f (sym (begins_one n xs) ∙ h)

-- files alike up to a place are alike up to any place before
pub alike_before : (file file' : Bytes) (m e : ℕ) → e ≤ m → Alike file file' m → Alike file file' e
alike_before file file' m e h a = record {
  within = let u = a.within in omega arith;
  within' = let u = a.within' in omega arith;
  same = same_before;
  next = ⊎_elim next_inside (λ (l : m ≤ e). let q : e ≡ m = omega arith in rw q a.next) (cases_lt e m);
}
  where
    same_before : take e file ≡ take e file'
    same_before = sym (take-take e m file h) ∙ ap (take e) a.same ∙ take-take e m file' h

    next_inside : e < m → begins_lf (drop e file') ≡ true → begins_lf (drop e file) ≡ true
    next_inside l b =
        let w : take 1 (drop e file) ≡ take 1 (drop e file') = window_agrees file file' m a.same e 1 (omega arith) in
        sym (begins_one 0 (drop e file)) ∙ ap begins_lf w ∙ begins_one 0 (drop e file') ∙ b

-- a file is alike to its own first bytes
pub alike_front : (file : Bytes) (m : ℕ) → m ≤ length file → Alike file (take m file) m
unfolding begins_lf
alike_front file m h = record {
  within = h;
  within' = rw length-take (omega arith);
  same = sym (take-take m m file (omega arith));
  next = λ b. never_true (rw (none) at b);
}
  where
    none : drop m (take m file) ≡ []
    none = let e : m ≡ m + 0 = omega arith in ap (λ n. drop m (take n file)) e ∙ drop-take m 0 file

-- and to itself with more bytes behind it, unless they begin with LF
pub alike_longer : (file more : Bytes) → begins_lf more ≡ false → Alike file (file ++ more) (length file)
alike_longer file more h = record {
  within = omega arith;
  within' = rw length-append (omega arith);
  same = take_all (length file) file (omega arith) ∙ sym (take_at file more (length file) refl);
  next = λ b. never_true (sym h ∙ ap begins_lf (sym (drop_at file more (length file) refl)) ∙ b);
}

-- A section that stands in a file at `off` and ends at e.
pub record Standing (file : Bytes) (off : ℕ) (s : Section) (e : ℕ) : Type 0 where
  pub within : e ≤ length file
  pub long : off + 20 ≤ e
  pub offset : s.offset ≡ off
  pub end : s.end ≡ e
  pub tail : last_offset (take e file) ≡ Some off
  pub again : (file' : Bytes) → Alike file file' e → (rest : Bytes) × (section_in file' off ≡ ok s e rest)

module _ (need : Needed) (file : Bytes) (off : ℕ) (s : Section) (e : ℕ) (rest : Bytes) where
  stands : leb off (length file) ≡ true → section off (take window_bytes (drop off file)) ≡ ok s e rest → Standing file off s e
  unfolding section_in
  stands b h = record {
    within = inside;
    long = let u = t.long in let v = t.ends in omega arith;
    offset = (section_places off (take window_bytes (drop off file)) s e rest h).0;
    end = (section_places off (take window_bytes (drop off file)) s e rest h).1;
    tail = ap last_offset front ∙ need.found off t.pre rest s e (t.again rest (λ l. l)) (take off file);
    again = λ file' a. (take (window_bytes - n) (drop e file'), again a);
  }
    where
      t : Taken off (take window_bytes (drop off file)) s e rest
      t = need.local off (take window_bytes (drop off file)) s e rest h

      n : ℕ
      n = length t.pre

      at : off ≤ length file
      at = leb-true off (length file) b

      sized : n + length rest ≡ min window_bytes (length file - off)
      sized = sym (length-append t.pre rest) ∙ ap length (sym t.parts) ∙ length-take window_bytes (drop off file) ∙ ap (min window_bytes) (length-drop off file)

      inside : e ≤ length file
      inside = let u = sized in let v = t.ends in let w = at in omega arith

      small : n ≤ window_bytes
      small = let u = sized in omega arith

      taken : take n (drop off file) ≡ t.pre
      taken = sym (take-take n window_bytes (drop off file) small) ∙ ap (take n) t.parts ∙ take_at t.pre rest n refl

      front : take e file ≡ take off file ++ t.pre
      front = ap (λ k. take k file) t.ends ∙ take-add off n file ∙ ap (λ xs. take off file ++ xs) taken

      -- the window of any file, in two parts
      window : (xs : Bytes) → take window_bytes (drop off xs) ≡ take n (drop off xs) ++ take (window_bytes - n) (drop e xs)
      window xs =
          let k : window_bytes ≡ n + (window_bytes - n) = let u = small in omega arith in
          ap (λ j. take j (drop off xs)) k
          ∙ take-add n (window_bytes - n) (drop off xs)
          ∙ ap (λ ys. take n (drop off xs) ++ take (window_bytes - n) ys) (drop-drop n off xs ∙ ap (λ j. drop j xs) (sym t.ends))

      left : rest ≡ take (window_bytes - n) (drop e file)
      left =
          sym (drop_at t.pre rest n refl)
          ∙ ap (drop n) (sym t.parts ∙ window file ∙ ap (λ xs. xs ++ take (window_bytes - n) (drop e file)) taken)
          ∙ drop_at t.pre (take (window_bytes - n) (drop e file)) n refl

      again : {file' : Bytes} → Alike file file' e → section_in file' off ≡ ok s e (take (window_bytes - n) (drop e file'))
      again {file'} a =
          let ends = t.ends in
          let there : off ≤ length file' = let u = a.within' in omega arith in
          let m : n ≤ e - off = omega arith in
          let p : take n (drop off file') ≡ t.pre = sym (window_agrees file file' e a.same off n m) ∙ taken in
          let c : begins_lf (take (window_bytes - n) (drop e file')) ≡ true → begins_lf rest ≡ true =
          λ l. ap begins_lf left ∙ begins_part (window_bytes - n) (drop e file') (drop e file) a.next l in
          rw (le-leb off (length file') there, section_in)
          (ap (section off) (window file' ∙ ap (λ xs. xs ++ take (window_bytes - n) (drop e file')) p) ∙ t.again (take (window_bytes - n) (drop e file')) c)

  -- what is read as a section stands there
  pub standing : section_in file off ≡ ok s e rest → Standing file off s e
  unfolding section_in
  standing h = cases (leb off (length file)) (λ b. stands b (rw (b, section_in) at h)) (λ b. never_reading (rw (b, section_in) at h))
