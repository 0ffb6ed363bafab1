-- What a commit decides, by numbers.
use Rattle.std.proofs.Common.{◌≡◌, ◌+◌, ◌-◌, ◌<◌, ◌≤◌, Bool, true, false, ◌&&◌, ltb, leb, [], ◌∷◌, length, Ok, Err, refl, arith, length-append, le-ltb, lt-ltb, le-leb}
use borrow.Author.Tests.{lt-leb}
use Rattle.faults.specs.declared.reason.Reason.TheVariants.{NoChanges, PastLimits, NoSpace}
use Rattle.faults.specs.Faults.{refused}
use Rattle.stores.specs.Meanings.{Meaning}
use Rattle.format.specs.Book.{history, newest, addition, is_none, within_limits, decide_commit}
use Rattle.format.specs.Bytes.{Bytes}
use Rattle.format.specs.Updates.{Update}
use Rattle.format.specs.Writing.{new_size, update_objects, update_section, update_bytes}
use Rattle.bounds.specs.Deciding.{bytes_added, objects_added, KeepsLimits, CommitsDecidedByNumbers}

has_change : (u : Update) → 1 ≤ length u → is_none u ≡ false
unfolding is_none
has_change [] h = absurd (omega arith)
has_change (c ∷ u) h = refl

no_change : (s : Meaning) (u : Update) → length u ≡ 0 → decide_commit s u ≡ Err (refused NoChanges 0)
unfolding decide_commit is_none
no_change s [] h = refl
no_change s (c ∷ u) h = absurd (omega arith)

left_out : (a b : Bool) → a ≡ false → (a && b) ≡ false
left_out a b e = rw e refl

right_out : (a b : Bool) → b ≡ false → (a && b) ≡ false
right_out true b e = e
right_out false b e = refl

module _ (file : Bytes) (u : Update) where
  -- the section's bytes are those behind the objects
  parts : bytes_added file u ≡ objects_added file u + length (update_section (length file) (newest file) u)
  unfolding addition update_bytes
  parts = length-append (update_objects (length file) (newest file) u) (update_section (length file) (newest file) u)

  -- the four tests of the limits
  abbrev few : Bool
  few = ltb (length (history file)) 64

  abbrev high : Bool
  high = leb (new_size (newest file) u) 1000

  abbrev long : Bool
  long = leb (length file + bytes_added file u) 9999999

  abbrev narrow : Bool
  narrow = leb (length (update_section (length file) (newest file) u)) 32768

  limits_many : 64 ≤ length (history file) → within_limits file u ≡ false
  unfolding within_limits
  limits_many h = left_out few (high && (long && narrow)) (le-ltb (length (history file)) 64 h)

  limits_high : 1000 < new_size (newest file) u → within_limits file u ≡ false
  unfolding within_limits
  limits_high h = right_out few (high && (long && narrow)) (left_out high (long && narrow) (lt-leb (new_size (newest file) u) 1000 h))

  limits_long : 9999999 < length file + bytes_added file u → within_limits file u ≡ false
  unfolding within_limits
  limits_long h =
      right_out few (high && (long && narrow)) (right_out high (long && narrow) (left_out long narrow (lt-leb (length file + bytes_added file u) 9999999 h)))

  limits_wide : 32768 < bytes_added file u - objects_added file u → within_limits file u ≡ false
  unfolding within_limits
  limits_wide h =
      let p = parts in
      right_out few (high && (long && narrow))
      (right_out high (long && narrow) (right_out long narrow (lt-leb (length (update_section (length file) (newest file) u)) 32768 (omega arith))))

  limits_kept : KeepsLimits file u → within_limits file u ≡ true
  unfolding within_limits
  limits_kept k =
      let p = parts in
      let w = k.section in
      rw (lt-ltb (length (history file)) 64 k.revisions)
      (rw (le-leb (new_size (newest file) u) 1000 k.size)
      (rw (le-leb (length file + bytes_added file u) 9999999 k.whole)
      (le-leb (length (update_section (length file) (newest file) u)) 32768 (omega arith))))

module _ (s : Meaning) (u : Update) (h : 1 ≤ length u) where
  past_limits : within_limits s.bytes u ≡ false → decide_commit s u ≡ Err (refused PastLimits 0)
  unfolding decide_commit
  past_limits w = rw (has_change u h) (rw w refl)

  no_space : within_limits s.bytes u ≡ true → s.space < bytes_added s.bytes u → decide_commit s u ≡ Err (refused NoSpace 0)
  unfolding decide_commit
  no_space w f = rw (has_change u h) (rw w (rw (lt-leb (bytes_added s.bytes u) s.space f) refl))

  fits : within_limits s.bytes u ≡ true → bytes_added s.bytes u ≤ s.space → decide_commit s u ≡ Ok tt
  unfolding decide_commit
  fits w f = rw (has_change u h) (rw w (rw (le-leb (bytes_added s.bytes u) s.space f) refl))

pub decided : CommitsDecidedByNumbers
decided s u = record {
  objects = let p = parts s.bytes u in omega arith;
  nothing = no_change s u;
  many = λ h k. past_limits s u h (limits_many s.bytes u k);
  high = λ h k. past_limits s u h (limits_high s.bytes u k);
  long = λ h k. past_limits s u h (limits_long s.bytes u k);
  wide = λ h k. past_limits s u h (limits_wide s.bytes u k);
  full = λ h k. no_space s u h (limits_kept s.bytes u k);
  accepted = λ h k. fits s u h (limits_kept s.bytes u k);
}
