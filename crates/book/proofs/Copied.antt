-- Bytes copied part by part.
use Rattle.std.proofs.Common.{◌≡◌, ℕ, ◌+◌, ◌≤◌, List, ◌++◌, length, take, drop, Ok, Err, Result, sym, ap, ◌∙◌, append_assoc, arith, length-drop, length-take, take-take, take-add}
use lib.Seq.{take-append-le}
use Rattle.faults.specs.declared.fault.Fault.{Fault}
use Rattle.stores.specs.Meanings.{Meaning, Appends, Filled}
use Rattle.book.specs.Copies.{Grown}

-- what stands before a place of the window that was filled
pub filled_front : (bytes b after : List ℕ) (from r k : ℕ) → k ≤ r → Filled bytes from b r after → take k after ≡ take k (drop from bytes)
filled_front bytes b after from r k h f =
    let l : length (take r (drop from bytes)) ≡ r = simp (length-take, length-drop) (omega (arith, f.count_is)) in
    ap (take k) f.after_is ∙ take-append-le k (take r (drop from bytes)) (drop r b) (omega arith) ∙ take-take k r (drop from bytes) h

-- one part more is joined
joined_more : (was mid is : Meaning) (bytes more : List ℕ) (p k : ℕ) (r : Result (Unit {0}) Fault) → Grown was (take p bytes) mid → more ≡ take k (drop p bytes) → p + k ≤ length bytes → p + k ≤ was.space → Appends mid more r is → Grown was (take (p + k) bytes) is
joined_more was mid is bytes more p k (Ok u) g e h s a =
    let l : length more ≡ k = ap length e ∙ simp (length-take, length-drop) (omega arith) in
    let lp : length (take p bytes) ≡ p = simp length-take (omega arith) in
    let lk : length (take (p + k) bytes) ≡ p + k = simp length-take (omega arith) in
    record {
      bytes = a.bytes ∙ ap (λ t. t ++ more) g.bytes ∙ append_assoc was.bytes (take p bytes) more ∙ ap (λ t. was.bytes ++ (take p bytes ++ t)) e ∙ ap (λ t. was.bytes ++ t) (sym (take-add p k bytes));
      space = omega (arith, g.space, a.space);
    }
joined_more was mid is bytes more p k (Err f) g e h s a =
    let l : length more ≡ k = ap length e ∙ simp (length-take, length-drop) (omega arith) in
    let lp : length (take p bytes) ≡ p = simp length-take (omega arith) in
    absurd (omega (arith, a.0, g.space))

-- one stretch that was read is joined, up to the place q
pub stretch_joined : (was mid is : Meaning) (bytes b after : List ℕ) (p r k q : ℕ) (a : Result (Unit {0}) Fault) → Grown was (take p bytes) mid → Filled bytes p b r after → k ≤ r → p + k ≡ q → q ≤ length bytes → q ≤ was.space → Appends mid (take k after) a is → Grown was (take q bytes) is
stretch_joined was mid is bytes b after p r k q a g f h e l s j =
    rw (sym e) (joined_more was mid is bytes (take k after) p k a g (filled_front bytes b after p r k h f) (omega (arith, e, l)) (omega (arith, e, s)) j)
