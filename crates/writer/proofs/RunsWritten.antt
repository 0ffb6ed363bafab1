-- Runs that are written one behind the other.
use Rattle.std.proofs.Common.{◌≡◌, ℕ, suc, ◌+◌, ◌-◌, ◌<◌, ◌≤◌, List, [], ◌∷◌, ◌++◌, map, length, drop, Some, None, Option, sym, refl, ap, ◌∙◌, append_assoc, append-nil, arith, length-drop}
use lib.ListN.{length-map}
use Rattle.format.specs.Lines.{Slot}
use Rattle.format.specs.Writing as format
use Rattle.format.specs.Writing.{entries_for, slot_bytes, slots_on, Run, run_on, runs, runs_on}
use Rattle.writer.specs.declared.draft.Draft.{Draft}
use Rattle.writer.specs.declared.plan.Planned.{Planned}
use Rattle.writer.specs.Drafts.{Adds, written, limit_of}
use Rattle.writer.specs.Listing.{listed_at, front, RunsTo}
use Rattle.writer.specs.Planned.{cell_of}
use Rattle.writer.specs.Sizes.{most_numbers}
use Rattle.writer.proofs.Lengths.{run_at_most}
use Rattle.writer.proofs.Listing.{run_at, run_none, run_over}
use Rattle.writer.proofs.Pieces.{runs_parts}
use Rattle.writer.proofs.Written.{adds_from}

-- a run of no entries
pub no_entries : (es : List Slot) → length es ≡ 0 → es ≡ []
no_entries [] h = refl
no_entries (e ∷ es) h = absurd (omega arith)

-- all entries of a run are written
pub entries_done : (d₀ d : Draft) (es fs : List Slot) → es ≡ [] → written d ++ slots_on es [] ≡ written d₀ ++ slots_on fs [] → limit_of d ≡ limit_of d₀ → Adds d₀ (slots_on fs []) d
unfolding slots_on
entries_done d₀ d es fs e h l = adds_from d₀ d (slots_on fs []) (sym (append-nil (written d)) ∙ ap (λ xs. written d ++ slots_on xs []) (sym e) ∙ h) l

-- one entry of a run more is written
pub entries_step : (d₀ d d' : Draft) (s : Slot) (es fs gs : List Slot) → es ≡ s ∷ gs → Adds d (slot_bytes s) d' →
    written d ++ slots_on es [] ≡ written d₀ ++ slots_on fs [] → written d' ++ slots_on gs [] ≡ written d₀ ++ slots_on fs []
unfolding slots_on
entries_step d₀ d d' s es fs gs e a h =
    ap (λ xs. xs ++ slots_on gs []) a.bytes
    ∙ append_assoc (written d) (slot_bytes s) (slots_on gs [])
    ∙ ap (λ xs. written d ++ slots_on xs []) (sym e)
    ∙ h

-- a run is as long as there are numbers, at most
entries_count : (n : ℕ) (cs : List format.Cell) → length (entries_for n cs) ≡ length cs
unfolding entries_for
entries_count n [] = refl
entries_count n (c ∷ cs) = ap suc (entries_count (suc n) cs)

front_count : (ss : List (Option Slot)) → length (front ss) ≤ length ss
front_count [] = omega arith
front_count (None ∷ ss) = omega arith
front_count (Some s ∷ ss) = let h = front_count ss in omega arith

pub front_within : (plan : List Planned) (n : ℕ) → length (front (listed_at plan n)) ≤ length plan - n
front_within plan n =
    let a = front_count (listed_at plan n) in
    let b = entries_count n (map cell_of (drop n plan)) in
    let c = length-map (drop n plan) cell_of in
    let d = length-drop n plan in
    omega arith

-- a run is written
pub run_written : (plan : List Planned) (n r : ℕ) (s : Slot) (ss : List (Option Slot)) (d e : Draft) → listed_at plan n ≡ Some s ∷ ss → n < most_numbers → length plan ≤ most_numbers →
    r ≡ n + length (front (listed_at plan n)) → Adds d (run_on (n, front (listed_at plan n)) []) e → RunsTo plan n r d e
run_written plan n r s ss d e l small few h a =
    let fs = front (listed_at plan n) in
    let rest = runs (n + length fs) (listed_at plan (n + length fs)) in
    let q = front_within plan n in
    let f = ap (λ xs. length (front xs)) l in
    let m = run_at_most n fs (omega arith) (omega arith) in
    let g = a.grown in
    record {
      bytes =
          ap (λ k. written e ++ runs_on (runs k (listed_at plan k)) []) h
          ∙ ap (λ xs. xs ++ runs_on rest []) a.bytes
          ∙ append_assoc (written d) (run_on (n, fs) []) (runs_on rest [])
          ∙ ap (λ xs. written d ++ xs) (sym (runs_parts (n, fs) rest))
          ∙ ap (λ rs. written d ++ runs_on rs []) (sym (run_at plan n s ss l));
      grown = omega arith;
      limit = a.limit;
    }

-- a number that is not listed
pub none_written : (plan : List Planned) (n : ℕ) (d : Draft) → listed_at plan n ≡ None ∷ listed_at plan (n + 1) → RunsTo plan n (n + 1) d d
none_written plan n d l = record { bytes = ap (λ rs. written d ++ runs_on rs []) (sym (run_none plan n l)); grown = omega arith; limit = refl }

pub runs_begin : (plan : List Planned) (d : Draft) → RunsTo plan 0 0 d d
runs_begin plan d = record { bytes = refl; grown = omega arith; limit = refl }

pub runs_then : (plan : List Planned) (a b c : ℕ) (d e f : Draft) → a ≤ b → b ≤ c → RunsTo plan a b d e → RunsTo plan b c e f → RunsTo plan a c d f
runs_then plan a b c d e f h l p q =
    let g = p.grown in
    let m = q.grown in
    record { bytes = q.bytes ∙ p.bytes; grown = omega arith; limit = q.limit ∙ p.limit }

-- all runs are written
pub runs_done : (plan : List Planned) (n : ℕ) (d e : Draft) → length plan ≤ n → RunsTo plan 0 n d e → Adds d (runs_on (runs 0 (listed_at plan 0)) []) e
unfolding runs_on
runs_done plan n d e h p =
    adds_from d e (runs_on (runs 0 (listed_at plan 0)) []) (sym (append-nil (written e)) ∙ ap (λ rs. written e ++ runs_on rs []) (sym (run_over plan n h)) ∙ p.bytes) p.limit
