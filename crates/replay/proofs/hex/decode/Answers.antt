use Rattle.std.proofs.Common.{◌≡◌, None, ◌*◌, ◌+◌, get_or, vec_items, sym, ap, ◌∙◌, subst, inr, arith}
use Rattle.std.proofs.lemmas.Option.{MatchOption-at_none, MatchOption-at_some}
use Rattle.std.proofs.lemmas.Result.{err_from_is_err_and}
use Rattle.std.specs.Result.{result_ok}
use Rattle.replay.specs.Hex.{hex_of, HexDigit}
use Rattle.replay.specs.declared.trouble.Trouble.TheVariants.{BadBytes}
use Rattle.replay.proofs.Hexes.{decoded_more, pair_digits, two_more}
use Rattle.replay.proofs.hex.decode.Goals as goal

pub returns-in_err-b : goal.returns-in_err-b
returns-in_err-b c =
    let i = c.loop-high.high-index in
    let at = pair_digits c.args.text.now _ i c.as_chunks.ensures.front (omega (arith, c.loop-high-test.true, c.as_chunks.ensures.front_len)) in
    let none : c.byte.result ≡ None = grind arith in
    let bad : c.in_err-b.field-0.0 ≡ BadBytes = grind arith in
    let no = MatchOption-at_none _ _ none c.byte.ensures in
    let p = err_from_is_err_and c.from_residual-in_err-b.result c.from_residual-in_err-b.ensures.1 in
    rw (p.1, p.2) (inr (bad, λ t. no (subst HexDigit (sym at.0) (t.digits (2 * i) (omega arith))) (subst HexDigit (sym at.1) (t.digits (2 * i + 1) (omega arith)))))

pub loop-high-preserved : goal.loop-high-preserved
loop-high-preserved c =
    let text = c.args.text.now in
    let i = c.loop-high.high-index in
    let at = pair_digits text _ i c.as_chunks.ensures.front (omega (arith, c.loop-high-test.true, c.as_chunks.ensures.front_len)) in
    let read = MatchOption-at_some _ _ c.in_ok-b.b (c.ok_or.ensures.ok_part ∙ ap result_ok c.in_ok-b.was) c.byte.ensures in (
      ap hex_of c.in_ok-push.ensures.items
          ∙ decoded_more (vec_items c.loop-high.bytes) text i c.in_ok-b.b (omega arith) c.loop-high.invariant.0 (read.0 ∙ at.0) (read.1 ∙ at.1),
      two_more (λ k. HexDigit (get_or text k 0)) i c.loop-high.invariant.1 (subst HexDigit at.0 read.2) (subst HexDigit at.1 read.3),
    )
