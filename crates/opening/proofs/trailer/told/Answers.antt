use Rattle.std.proofs.Common.{ℤ, Some, ap, ◌∙◌, w64, SFits, rules}
use Rattle.std.proofs.lemmas.Int.{to_z-of_z}
use Rattle.lexer.specs.Spelled.{spelled}
use Rattle.opening.specs.Trailers.{kind_of}
use Rattle.opening.proofs.Trailers.{size_unfit, prev_unfit, root_unfit, encrypt_unwanted, stream_unwanted, all_fit}
use Rattle.opening.proofs.trailer.told.Goals as goal

pub returns-in_err-size : goal.returns-in_err-size
unfolding spelled
returns-in_err-size c = λ es q ys e. rw c.from_residual.ensures (size_unfit es (kind_of c.kind_at.result) (c.kind_at.ensures es q ys e) c.in_err-size.ensures)

pub returns-in_err-prev : goal.returns-in_err-prev
unfolding spelled
returns-in_err-prev c = λ es q ys e. rw c.from_residual-in_err-prev.ensures (prev_unfit es (kind_of c.kind_at-2.result) (c.kind_at-2.ensures es q ys e) c.in_err-prev.ensures)

pub returns-in_err-root : goal.returns-in_err-root
unfolding spelled
returns-in_err-root c = λ es q ys e. rw c.from_residual-in_err-root.ensures (root_unfit es (kind_of c.kind_at-3.result) (c.kind_at-3.ensures es q ys e) c.in_err-root.ensures)

pub returns-then-not-is_absent : goal.returns-then-not-is_absent
unfolding spelled
returns-then-not-is_absent c = λ es q ys e. encrypt_unwanted es (kind_of c.kind_at-4.result) (c.kind_at-4.ensures es q ys e) c.if-not-is_absent.ensures

pub returns-then-not-is_absent-2 : goal.returns-then-not-is_absent-2
unfolding spelled
returns-then-not-is_absent-2 c = λ es q ys e. stream_unwanted es (kind_of c.kind_at-5.result) (c.kind_at-5.ensures es q ys e) c.if-not-is_absent-2.ensures

pub returns : goal.returns
unfolding spelled
returns c = λ es q ys e.
    let fits : SFits w64 c.in_ok-size.size = search rules in
    ap
    (λ (z : ℤ).
    Some (record { size = z; prev = c.in_ok-prev.prev; root = c.in_ok-root.root; root_gen = c.in_ok-root.root_generation }))
    (to_z-of_z w64 c.in_ok-size.size fits)
    ∙ all_fit es (kind_of c.kind_at.result) (kind_of c.kind_at-2.result) (kind_of c.kind_at-3.result) (kind_of c.kind_at-4.result) (kind_of c.kind_at-5.result) _ _ _ _
    (c.kind_at.ensures es q ys e) (c.kind_at-2.ensures es q ys e) (c.kind_at-3.ensures es q ys e) (c.kind_at-4.ensures es q ys e) (c.kind_at-5.ensures es q ys e)
    c.in_ok-size.ensures c.in_ok-prev.ensures c.in_ok-root.ensures c.if-not-is_absent.ensures c.if-not-is_absent-2.ensures
