use Rattle.std.proofs.Common.{◌≡◌, ℕ, ◌+◌, ◌-◌, Ok, ap, ◌∙◌, length, arith, length-append}
use Rattle.entries.specs.Rows.{slot_of}
use Rattle.format.specs.Lines.{slot}
use Rattle.opening.specs.Held.{rows_held}
use Rattle.opening.proofs.Answered.{row_read}
use Rattle.opening.proofs.Listing.{entry_long, entries_more, entries_bad, entries_all}
use Rattle.opening.proofs.Readings.{reads_bad}
use Rattle.opening.proofs.subsections.read_entries.Goals as goal

pub returns-in_err-entry-clause-is : goal.returns-in_err-entry-clause-is
returns-in_err-entry-clause-is c =
    let line = c.loop-number.line in
    let b = row_read slot_of slot line.base line.at.src.now line.at.place _ c.entry_at.ensures _ c.in_err-entry.ensures in
    reads_bad c.in_err-entry.field-0.0 c.from_residual.ensures.1 (entries_bad line.at.src.now line.base line.at.place c.args.count c.args.first (c.loop-number.number - c.args.first) (rows_held c.loop-number.rows) c.loop-number.invariant.listed _ (omega arith) b.is)

pub push-requires : goal.push-requires
push-requires c =
    let line = c.loop-number.line in
    let b = row_read slot_of slot line.base line.at.src.now line.at.place c.entry_at.result c.entry_at.ensures (Ok (c.in_ok-entry.entry, c.in_ok-entry.end)) c.in_ok-entry.ensures in
    let l = entry_long line.at.src.now line.base line.at.place (slot_of c.in_ok-entry.entry) c.in_ok-entry.end b.is (omega arith) b.within.1 in
    omega (arith, c.loop-number.invariant.held, c.requires.window.few, b.within.1, ap length c.loop-number.invariant.src)

pub to-line-requires : goal.to-line-requires
to-line-requires c =
    let line = c.loop-number.line in
    (row_read slot_of slot line.base line.at.src.now line.at.place c.entry_at.result c.entry_at.ensures (Ok (c.in_ok-entry.entry, c.in_ok-entry.end)) c.in_ok-entry.ensures).within.1

pub loop-number-preserved : goal.loop-number-preserved
loop-number-preserved c =
    let line = c.loop-number.line in
    let b = row_read slot_of slot line.base line.at.src.now line.at.place c.entry_at.result c.entry_at.ensures (Ok (c.in_ok-entry.entry, c.in_ok-entry.end)) c.in_ok-entry.ensures in
    let l = entry_long line.at.src.now line.base line.at.place (slot_of c.in_ok-entry.entry) c.in_ok-entry.end b.is (omega arith) b.within.1 in
    let e = c.push.ensures in
    let to = c.to-line.ensures in
    let low = c.loop-number.invariant.low in
    let number : c.loop-number.number ≡ c.args.first + (c.loop-number.number - c.args.first) = omega (arith, low) in
    let next : c.loop-number.number + 1 - c.args.first ≡ (c.loop-number.number - c.args.first) + 1 = omega (arith, low) in
    record {
      base = to.base ∙ c.loop-number.invariant.base;
      src = to.src ∙ c.loop-number.invariant.src;
      place = omega (arith, to.place, c.loop-number.invariant.place);
      held = rw (e, length-append, to.place) (omega (arith, c.loop-number.invariant.held));
      low = omega (arith, c.loop-number.invariant.low);
      listed = rw (to.base, to.src, to.place, next) (entries_more line.at.src.now line.base line.at.place c.args.count c.args.first (c.loop-number.number - c.args.first) (rows_held c.loop-number.rows) c.loop-number.invariant.listed c.in_ok-entry.entry c.in_ok-entry.end _ _ (omega arith) b.is (ap (λ (m : ℕ). record { number = m; entry = c.in_ok-entry.entry }) number) e);
    }

pub returns-clause-is : goal.returns-clause-is
returns-clause-is c =
    let line = c.loop-number.line in
    let i = c.loop-number.invariant in
    record {
      is = rw (i.base, i.src) at (entries_all line.at.src.now line.base line.at.place c.args.count c.args.first (c.loop-number.number - c.args.first) (rows_held c.loop-number.rows) i.listed (omega arith));
      within = omega (arith, i.place, ap length i.src);
    }
