-- One call from one moment to the next, for each way a call can go.
use Rattle.std.proofs.Common.{◌≡◌, ℕ, ◌≤◌, false, [], Ok, Err, sym, refl, ap}
use Rattle.faults.specs.declared.fault.Fault.{Fault}
use Rattle.stores.specs.Meanings.{Meaning, Joined}
use Rattle.format.specs.Bytes.{Bytes}
use Rattle.format.specs.Book.{Phase, shut, standing, updating, Moment, Call, open_file, begin, put, remove, commit, abandon, back, Step, decide, decide_open, decide_put, decide_remove, decide_commit, held_by, phase_after, bytes_after, SpaceAfter, addition, newest}
use Rattle.format.specs.Revisions.{Opened, opens}
use Rattle.format.specs.Updates.{body, removed, Update, with_change}

-- a store in a state
abbrev pub at : Meaning → Phase → Moment
at s p = record { store = s; phase = p }

-- a refused call leaves everything as it was
pub refused_step : (m : Moment) (c : Call) (f : Fault) → decide m.store m.phase c ≡ Err f → Step m c (Err f) m
refused_step m c f e = record { answer = sym e; leaves = refl }

pub opened_step : (s : Meaning) (o : Opened) → opens s.bytes ≡ Ok o → Step (at s shut) open_file (Ok tt) (at s standing)
unfolding decide decide_open phase_after bytes_after SpaceAfter
opened_step s o e = record { answer = sym (ap decide_open e); leaves = record { phase = refl; bytes = refl; space = refl } }

pub unopened_step : (s : Meaning) (f : Fault) → opens s.bytes ≡ Err f → Step (at s shut) open_file (Err f) (at s shut)
unfolding decide decide_open
unopened_step s f e = refused_step (at s shut) open_file f (ap decide_open e)

pub begun_step : (s : Meaning) → Step (at s standing) begin (Ok tt) (at s (updating []))
unfolding decide phase_after bytes_after SpaceAfter
begun_step s = record { answer = refl; leaves = record { phase = refl; bytes = refl; space = refl } }

pub put_step : (s : Meaning) (u : Update) (n : ℕ) (b : Bytes) → decide_put (newest s.bytes) u n b ≡ Ok tt → Step (at s (updating u)) (put false n b) (Ok tt) (at s (updating (with_change n (body b) u)))
unfolding decide held_by phase_after bytes_after SpaceAfter
put_step s u n b e = record { answer = sym e; leaves = record { phase = refl; bytes = refl; space = refl } }

pub remove_step : (s : Meaning) (u : Update) (n : ℕ) → decide_remove (newest s.bytes) u n ≡ Ok tt → Step (at s (updating u)) (remove false n) (Ok tt) (at s (updating (with_change n removed u)))
unfolding decide held_by phase_after bytes_after SpaceAfter
remove_step s u n e = record { answer = sym e; leaves = record { phase = refl; bytes = refl; space = refl } }

pub abandon_step : (s : Meaning) (u : Update) → Step (at s (updating u)) (abandon false) (Ok tt) (at s standing)
unfolding decide phase_after bytes_after SpaceAfter
abandon_step s u = record { answer = refl; leaves = record { phase = refl; bytes = refl; space = refl } }

pub commit_step : (s t : Meaning) (u : Update) → decide_commit s u ≡ Ok tt → Joined s (addition s.bytes u) t → Step (at s (updating u)) (commit false) (Ok tt) (at t standing)
unfolding decide held_by phase_after bytes_after SpaceAfter
commit_step s t u e j = record { answer = sym e; leaves = record { phase = refl; bytes = j.bytes; space = j.space } }

pub back_step : (s t : Meaning) (k : ℕ) → decide s standing (back k) ≡ Ok tt → t.bytes ≡ bytes_after s.bytes standing (back k) → s.space ≤ t.space → Step (at s standing) (back k) (Ok tt) (at t standing)
unfolding phase_after SpaceAfter
back_step s t k e b l = record { answer = sym e; leaves = record { phase = refl; bytes = b; space = l } }
