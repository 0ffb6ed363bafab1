use Rattle.std.proofs.Common.{◌≡◌, suc, ◌+◌, ◌-◌, length, drop, sym, refl, ap, ◌∙◌, arith}
use Rattle.format.specs.Strings.{turns}
use Rattle.opening.specs.Held.{listed_by}
use Rattle.opening.proofs.AllSubs.{subs_end, subs_bad, subs_more}
use Rattle.opening.proofs.Readings.{reads_bad}
use Rattle.opening.proofs.subsections.read_more.Goals as goal

pub loop-line-init : goal.loop-line-init
loop-line-init c = record {
  base = refl;
  src = refl;
  behind = omega arith;
  held = c.requires.held;
  turn = turns;
  enough = omega (arith, c.requires.few);
  listing = refl;
}

pub returns-in_err-one : goal.returns-in_err-one
returns-in_err-one c =
    let line = c.loop-line.line in
    let i = c.loop-line.invariant in
    let k : i.turn ≡ suc (i.turn - 1) = omega (arith, i.enough) in
    reads_bad c.in_err-one.field-0.0 c.from_residual.ensures.1
    (subs_bad i.turn (i.turn - 1) c.loop-line.next (line.base + line.at.place) (drop line.at.place line.at.src.now) (listed_by c.loop-line.rows) i.listing k
    (sym c.loop-line-test.ensures) _ c.in_err-one.ensures.is.is)

pub loop-line-preserved : goal.loop-line-preserved
loop-line-preserved c =
    let e = c.in_ok-one.ensures in
    let line = c.loop-line.line in
    let i = c.loop-line.invariant in
    let to = c.to-line.ensures in
    let k : i.turn ≡ suc (i.turn - 1) = omega (arith, i.enough) in
    record {
      base = to.base ∙ i.base;
      src = to.src ∙ i.src;
      behind = omega (arith, i.behind, e.is.within.0, to.place);
      held = rw to.place e.held;
      turn = i.turn - 1;
      enough = rw (to.src, to.place) (omega (arith, i.enough, e.is.within.1, e.long));
      listing = rw (to.base, to.src, to.place) (subs_more i.turn (i.turn - 1) c.loop-line.next (line.base + line.at.place) (drop line.at.place line.at.src.now) (listed_by c.loop-line.rows) i.listing k
          (sym c.loop-line-test.ensures) _ _ _ _ _ e.is.is);
    }

pub returns : goal.returns
returns c =
    let line = c.loop-line.line in
    let i = c.loop-line.invariant in
    record {
      is = rw (i.base, i.src) at (subs_end i.turn c.loop-line.next (line.base + line.at.place) (drop line.at.place line.at.src.now) (listed_by c.loop-line.rows) i.listing (sym c.loop-line-test.ensures));
      within = (i.behind, omega (arith, ap length i.src));
    }
