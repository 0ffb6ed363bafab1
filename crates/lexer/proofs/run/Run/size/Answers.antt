use Rattle.std.proofs.Common.{◌≡◌, ◌+◌, true, false, length, not, ◌&&◌, eqb, get_or, sym, refl, ap, ◌∙◌, arith}
use Rattle.std.proofs.lemmas.Bool.{ne_eqb, and_left, and_right}
use Rattle.std.proofs.lemmas.Bool.Decides.{nat_tests}
use Rattle.format.specs.Bytes.{is_digit}
use Rattle.lexer.proofs.Numerals.{walk_digit, walk_period, walk_stops, walk_ends, walk_on, finish_at}
use Rattle.lexer.proofs.run.Run.size.Goals as goal
use Rattle.lexer.proofs.run.Run.size.Goals.{then-is_digit, else-is_digit+then-b-eq46+then-not-period, else-b-eq46-via-then-b-eq46+else-not-period, else-b-eq46-via-else-b-eq46}

pub more_size-size-requires : goal.more_size-size-requires
unfolding is_digit
more_size-size-requires c = let h = c.if-is_digit.ensures in (c.loop-at.invariant.0, grind (arith, nat_tests))

pub loop-at-preserved : goal.loop-at-preserved
loop-at-preserved c =
    elim c.if-is_digit.branch [
      | then-is_digit w ↦ (
        omega (arith, w.size-is, w.more_size-size.ensures.high),
        walk_on _ _ _ _ _ _ _ _ _ w.period-is w.digit-is (w.size-is ∙ w.more_size-size.ensures.is) (walk_digit _ _ _ _ _ _ (omega arith) (sym w.if-is_digit.ensures) c.loop-at.invariant.1),
      )
      | else-is_digit+then-b-eq46+then-not-period w ↦ (
        omega (arith, w.size-is),
        walk_on _ _ _ _ _ _ _ _ _ w.period-is w.digit-is w.size-is (walk_period _ _ _ _ _ _ (omega arith) (sym w.if-is_digit.ensures) w.if-b-eq46.true w.if-not-period.true c.loop-at.invariant.1),
      )
    ]

pub returns-else-b-eq46 : goal.returns-else-b-eq46
returns-else-b-eq46 c =
    let no : (eqb (get_or c.args.self.bytes.now c.loop-at.at 0) 46 && not c.loop-at.period) ≡ false =
    elim c.else-b-eq46.branch [
      | else-b-eq46-via-then-b-eq46+else-not-period w ↦ and_right _ _ (ap not w.if-not-period.false)
      | else-b-eq46-via-else-b-eq46 w ↦ and_left _ _ (ne_eqb _ _ w.if-b-eq46.false)
    ] in
    walk_stops _ _ _ _ _ _ (omega arith) (sym c.if-is_digit.ensures) no c.loop-at.invariant.1

pub returns-then-not-digit : goal.returns-then-not-digit
returns-then-not-digit c =
    let e : c.args.self.from + length c.args.self.bytes.now ≡ c.args.self.from + c.loop-at.at = omega arith in
    rw e (finish_at _ _ c.loop-at.period false _ _ refl c.if-not-digit.true (walk_ends _ _ _ _ _ _ (omega arith) c.loop-at.invariant.1))

pub returns-then-period : goal.returns-then-period
returns-then-period c = finish_at _ _ true true _ _ c.if-period.true c.if-not-digit.false (walk_ends _ _ _ _ _ _ (omega arith) c.loop-at.invariant.1)

pub returns-else-period : goal.returns-else-period
returns-else-period c = finish_at _ _ false true _ _ c.if-period.false c.if-not-digit.false (walk_ends _ _ _ _ _ _ (omega arith) c.loop-at.invariant.1)
