use Rattle.std.proofs.Common.{◌≡◌, ◌+◌, ◌-◌, ◌++◌, Ok, vec_items, vec_len, vec_capacity, sym, ap, ◌∙◌, append-nil, arith}
use Rattle.std.proofs.lemmas.Result.{err_from_is_err_and}
use Rattle.chains.proofs.Steps.{answered, never_answer}
use Rattle.book.specs.Books.{moment_of}
use Rattle.reports.specs.Differences.{pairs_of}
use Rattle.reports.proofs.Between.{list_shows, refused_first, refused_second, behind, differ_shows, all_shown, behind_none, none_if, none_listed, one_listed}
use Rattle.reports.proofs.differences.differences.Goals.{in-Some, in_default}
use Rattle.reports.proofs.differences.differences.Goals as goal

pub returns-in_err-earlier : goal.returns-in_err-earlier
returns-in_err-earlier g c =
    let m = moment_of g.S.Store.meaning c.args.book.now in
    let p = err_from_is_err_and c.from_residual.result c.from_residual.ensures.1 in
    rw (p.1, p.2) (refused_first m c.args.j c.args.k _ (sym c.in_err-earlier.ensures))

pub returns-in_err-later : goal.returns-in_err-later
returns-in_err-later g c =
    let m = moment_of g.S.Store.meaning c.args.book.now in
    let a = list_shows m c.args.j _ (sym c.in_ok-earlier.ensures) in
    let p = err_from_is_err_and c.from_residual-in_err-later.result c.from_residual-in_err-later.ensures.1 in
    rw (p.1, p.2) (refused_second m c.args.j c.args.k _ _ a (sym c.in_err-later.ensures))

pub returns-in_err-difference : goal.returns-in_err-difference
returns-in_err-difference g c =
    let m = moment_of g.S.Store.meaning c.args.book.now in
    let j = c.args.j in
    let k = c.args.k in
    let a = list_shows m j _ (sym c.in_ok-earlier.ensures) in
    let b = list_shows m k _ (sym c.in_ok-later.ensures) in
    never_answer (c.in_err-difference.ensures ∙ differ_shows m j k c.loop-n.n _ _ a b)

pub loop-n-preserved : goal.loop-n-preserved
loop-n-preserved g c =
    let m = moment_of g.S.Store.meaning c.args.book.now in
    let j = c.args.j in
    let k = c.args.k in
    let count = c.max-count.result in
    let n = c.loop-n.n in
    let cs = vec_items c.loop-n.all in
    let a = list_shows m j _ (sym c.in_ok-earlier.ensures) in
    let b = list_shows m k _ (sym c.in_ok-later.ensures) in
    let e = answered (c.in_ok-difference.ensures ∙ differ_shows m j k n _ _ a b) in
    elim c.match-branch-5.branch [
      | in-Some w ↦
          let f = sym e ∙ w.in-Some.is in
          let l = ap vec_len w.all-is in
          let s = ap vec_capacity w.all-is in
          let v = ap vec_items w.all-is ∙ w.push_reserved.ensures.items in (
            omega (arith, l, w.push_reserved.ensures.len, c.loop-n.invariant.0),
            omega (arith, s, w.push_reserved.ensures.capacity, c.loop-n.invariant.1),
            ap (λ t. pairs_of t ++ behind m j k count (n + 1)) v ∙ (sym (one_listed m j k count n cs w.in-Some.difference (omega arith) f) ∙ c.loop-n.invariant.2),
          )
      | in_default w ↦
          let f = sym e ∙ none_if _ w.in_default.not-Some in
          let l = ap vec_len w.all-is in
          let s = ap vec_capacity w.all-is in
          let v = ap vec_items w.all-is in (
            omega (arith, l, c.loop-n.invariant.0),
            omega (arith, s, c.loop-n.invariant.1),
            ap (λ t. pairs_of t ++ behind m j k count (n + 1)) v ∙ (sym (none_listed m j k count n cs (omega arith) f) ∙ c.loop-n.invariant.2),
          )
    ]

pub returns : goal.returns
returns g c =
    let m = moment_of g.S.Store.meaning c.args.book.now in
    let j = c.args.j in
    let k = c.args.k in
    let n = c.loop-n.n in
    let count = c.max-count.result in
    let ps = pairs_of (vec_items c.loop-n.all) in
    let a = list_shows m j _ (sym c.in_ok-earlier.ensures) in
    let b = list_shows m k _ (sym c.in_ok-later.ensures) in
    let z : count - n ≡ 0 = omega arith in
    let e : behind m j k count 0 ≡ ps = sym c.loop-n.invariant.2 ∙ (ap (λ t. ps ++ t) (behind_none m j k count n z) ∙ append-nil ps) in
    all_shown m j k _ _ a b ∙ ap Ok (ap (λ t. behind m j k t 0) (sym c.max-count.ensures) ∙ e)
