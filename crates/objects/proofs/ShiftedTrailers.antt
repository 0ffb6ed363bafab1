-- A trailer's dictionary is the same where every place is later by as much.
use Rattle.std.proofs.Common.{◌≡◌, ℕ, ◌+◌, Some, None, Option, refl, ap, ◌∙◌}
use Rattle.faults.specs.declared.fault.Fault.{Fault}
use Rattle.format.specs.Bytes.{Bytes, Got, ok, bad, then}
use Rattle.format.specs.Strings.{turns}
use Rattle.format.specs.Tokens.{Kind, int, real, name, text, hex, mark, word, ended, flawed, open_array, close_array, open_dict, close_dict, Token, token_at}
use Rattle.format.specs.Objects.{Entries, no_entries, entries, object_by}
use Rattle.format.specs.Sections.{no_dict, trailer_at}
use Rattle.objects.specs.Shifts.{later_fault, later, later_kind, later_token}
use Rattle.objects.proofs.ShiftedTokens.{token_later, flaw_later}
use Rattle.objects.proofs.ShiftedObjects.{entries_later, object_later}

module _ (b : ℕ) where
  abbrev later_maybe : Option Fault → Option Fault
  later_maybe None = None
  later_maybe (Some f) = Some (later_fault b f)

  abbrev pub later_trailer : Got (ℕ × Entries) → Got (ℕ × Entries)
  later_trailer (ok t q ys) = ok (b + t.0, t.1) (b + q) ys
  later_trailer (bad f) = bad (later_fault b f)

  no_dict_later : (p : ℕ) (k : Kind) → no_dict (b + p) (later_kind b k) ≡ later_maybe (no_dict p k)
  unfolding no_dict
  no_dict_later p (int u z) = refl
  no_dict_later p (real w) = refl
  no_dict_later p (name d) = refl
  no_dict_later p (text w) = refl
  no_dict_later p (hex w) = refl
  no_dict_later p (word w) = refl
  no_dict_later p (mark open_array) = refl
  no_dict_later p (mark close_array) = refl
  no_dict_later p (mark open_dict) = refl
  no_dict_later p (mark close_dict) = refl
  no_dict_later p ended = refl
  no_dict_later p (flawed f) = ap Some (flaw_later b p f)

  then_trailer : (s : ℕ) (r : Got Entries) → then (later b r) (λ es q ys. ok (b + s, es) q ys) ≡ later_trailer (then r (λ es q ys. ok (s, es) q ys))
  then_trailer s (ok es q ys) = refl
  then_trailer s (bad f) = refl

  pub trailer_later : (p : ℕ) (xs : Bytes) → trailer_at (token_at (b + p) xs) ≡ later_trailer (trailer_at (token_at p xs))
  unfolding trailer_at
  trailer_later p xs = ap trailer_at (token_later b p xs) ∙ go (token_at p xs) (no_dict (token_at p xs).from (token_at p xs).kind) refl
    where
      go : (t : Token) (o : Option Fault) → no_dict t.from t.kind ≡ o → trailer_at (later_token b t) ≡ later_trailer (trailer_at t)
      go t (Some f) e = let g : no_dict (b + t.from) (later_kind b t.kind) ≡ Some (later_fault b f) = no_dict_later t.from t.kind ∙ ap later_maybe e in rw (e, g, trailer_at) refl
      go t None e =
          let g : no_dict (b + t.from) (later_kind b t.kind) ≡ None = no_dict_later t.from t.kind ∙ ap later_maybe e in
          let h = entries_later b (object_by 31) (object_later b 31) turns no_entries t.to t.rest in
          rw (e, g, trailer_at, h) (then_trailer t.from (entries (object_by 31) turns no_entries t.to t.rest))
