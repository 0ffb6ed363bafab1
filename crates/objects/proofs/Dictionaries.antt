-- A dictionary that has to stand next, as the code reads it.
use Rattle.std.proofs.Common.{◌≡◌, ℕ, ◌+◌, ◌<◌, ◌≤◌, true, length, drop, MatchResult, Some, None, Ok, Err, Result, sym, refl, ap, ◌∙◌, arith, length-drop}
use Rattle.faults.specs.declared.fault.Fault.{Fault}
use Rattle.faults.specs.declared.reason.Reason.TheVariants.{BadToken}
use Rattle.format.specs.Bytes.{Bytes, ok, bad, then}
use Rattle.format.specs.Strings.{turns}
use Rattle.format.specs.Tokens.{token_at}
use Rattle.format.specs.Objects.{Entries, no_entries, entries, object_by}
use Rattle.format.specs.Sections.{no_dict, trailer_at}
use Rattle.lexer.specs.declared.token.Token.{Token}
use Rattle.lexer.specs.declared.token.Token.TheVariants.{Unsigned, Signed, Real, Name, Text, Hex, Word, OpenArray, CloseArray, OpenDict, CloseDict, End}
use Rattle.lexer.specs.declared.token.Found.{Found}
use Rattle.lexer.specs.Views.{kind_of, found_token, token_fault_of}
use Rattle.objects.specs.declared.dictionary.Dictionary.{Dictionary}
use Rattle.objects.specs.Dictionaries.{Opening, Opened, OpenedAt}
use Rattle.objects.specs.Extents.{entries_by, read_by}
use Rattle.objects.specs.Shifts.{later_fault}
use Rattle.objects.specs.Steps.{bare, token_in, misplaced}
use Rattle.objects.proofs.Cases.{Moved}
use Rattle.objects.proofs.Ends.{entries_read}
use Rattle.objects.proofs.Founds.{flawed_kind}
use Rattle.objects.proofs.Frames.{bare_ok, bare_bad}
use Rattle.objects.proofs.PlacesOfFrames.{faults_within}
use Rattle.objects.proofs.ShiftedTrailers.{later_trailer, trailer_later}

-- another token stands for the `<<`
other : (q : ℕ) (t : Token) → (t ≡ OpenDict → ⊥) → no_dict q (kind_of t) ≡ Some (misplaced BadToken q t)
unfolding no_dict misplaced
other q (Unsigned n) h = refl
other q (Signed z) h = refl
other q (Real s) h = refl
other q (Name s) h = refl
other q (Text s) h = refl
other q (Hex s) h = refl
other q (Word s) h = refl
other q OpenArray h = refl
other q CloseArray h = refl
other q OpenDict h = absurd (h refl)
other q CloseDict h = refl
other q End h = refl

module _ (src : Bytes) (p : ℕ) (f : Found) (e : token_in src p ≡ found_token src f) where
  found_no : no_dict (token_in src p).from (token_in src p).kind ≡ no_dict f.from (kind_of f.token)
  found_no = rw e refl

  pub opens : f.token ≡ OpenDict → no_dict (token_in src p).from (token_in src p).kind ≡ None
  unfolding no_dict
  opens t = found_no ∙ ap (λ u. no_dict f.from (kind_of u)) t

  pub opens_other : (f.token ≡ OpenDict → ⊥) → (x : Fault) → x ≡ misplaced BadToken f.from f.token → no_dict (token_in src p).from (token_in src p).kind ≡ Some x
  opens_other h x j = found_no ∙ other f.from f.token h ∙ ap Some (sym j)

-- a token that cannot be read
pub opens_flawed : (src : Bytes) (p : ℕ) (x : Fault) → token_fault_of (token_in src p) ≡ Some x → no_dict (token_in src p).from (token_in src p).kind ≡ Some x
unfolding no_dict
opens_flawed src p x e = let g = flawed_kind (token_in src p).from (token_in src p).kind x e in rw g.1 (ap Some g.2)

-- no `<<` stands next
pub not_opened : (src : Bytes) (p : ℕ) (f : Fault) → no_dict (token_in src p).from (token_in src p).kind ≡ Some f → trailer_at (token_in src p) ≡ bad f
unfolding trailer_at
not_opened src p f e = rw (e, trailer_at) refl

module _ (src : Bytes) (p : ℕ) (m i : ℕ) (h : Opening src p (Ok (m, i))) where
  -- what stands behind the `<<`
  behind : trailer_at (token_in src p) ≡ then (entries (object_by 31) turns no_entries i (drop i src)) (λ es q ys. ok (m, es) q ys)
  unfolding trailer_at
  behind = let n = h.0 in let s = h.1 in let t = h.2.to in let r = h.2.rest in rw (n, trailer_at, s, t, r) refl

  -- an entry is refused
  pub not_closed : (f : Fault) → bad f ≡ bare (entries_by true (read_by true 31) turns no_entries i (drop i src)) → trailer_at (token_in src p) ≡ bad f
  not_closed f e = let g = bare_bad (entries (object_by 31) turns no_entries i (drop i src)) f (e ∙ entries_read i (drop i src)) in behind ∙ rw g refl

  -- the whole dictionary
  pub opened : (q : ℕ) → ok tt q (drop q src) ≡ bare (entries_by true (read_by true 31) turns no_entries i (drop i src)) → i < q → q ≤ length src → Opened src p (record { mark = m; inside = i; end = q })
  opened q e l n = whole (bare_ok (entries (object_by 31) turns no_entries i (drop i src)) q (drop q src) (e ∙ entries_read i (drop i src)))
    where
      whole : ((es : Entries) × (entries (object_by 31) turns no_entries i (drop i src) ≡ ok es q (drop q src))) → Opened src p (record { mark = m; inside = i; end = q })
      whole (es, k) = record { tree = es; trailer = behind ∙ rw k refl; inside = k; laid = record { starts = h.3; opens = h.4; closes = l; ends = n } }

-- the dictionary in bytes that start at a place of the file
opened_at : (b : ℕ) (src : Bytes) (p : ℕ) (d : Dictionary) → Opened src p d → OpenedAt b src p d
opened_at b src p d o = record { tree = o.tree; trailer = trailer_later b p (drop p src) ∙ ap (later_trailer b) o.trailer; inside = o.inside; laid = o.laid }

refused_at : (b : ℕ) (src : Bytes) (p : ℕ) (f g : Fault) → trailer_at (token_in src p) ≡ bad f → g ≡ later_fault b f → trailer_at (token_at (b + p) (drop p src)) ≡ bad g
refused_at b src p f g e z = trailer_later b p (drop p src) ∙ ap (later_trailer b) e ∙ ap bad (sym z)

pub refused_within : (src : Bytes) (p : ℕ) (f : Fault) → p ≤ length src → trailer_at (token_in src p) ≡ bad f → f.place ≤ length src
refused_within src p f h e = let l = length-drop p src in let g = faults_within.trailers p (drop p src) f e in omega arith

-- the dictionary, or a fault at its place of the file
pub dictionary_moved : (b : ℕ) (src : Bytes) (p : ℕ) (r s : Result Dictionary Fault) → MatchResult r (Opened src p) (λ f. trailer_at (token_in src p) ≡ bad f) → Moved b r s →
    MatchResult s (OpenedAt b src p) (λ f. trailer_at (token_at (b + p) (drop p src)) ≡ bad f)
dictionary_moved b src p (Ok d) s h m = rw m (opened_at b src p d h)
dictionary_moved b src p (Err f) (Ok d) h m = absurd m
dictionary_moved b src p (Err f) (Err g) h m = refused_at b src p f g h m
