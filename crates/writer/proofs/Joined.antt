-- One append behind another.
use Rattle.std.proofs.Common.{◌≡◌, [], ◌++◌, sym, refl, ap, ◌∙◌, append_assoc, append-nil, arith, length-append}
use Rattle.format.specs.Bytes.{Bytes}
use Rattle.writer.specs.declared.draft.Draft.{Draft}
use Rattle.writer.specs.Drafts.{Adds, written}

-- nothing appended
pub adds_none : (a : Draft) → Adds a [] a
adds_none a = record { bytes = sym (append-nil (written a)); grown = omega arith; limit = refl }

-- bytes, and then others
pub adds_then : {a b c : Draft} {x y : Bytes} → Adds a x b → Adds b y c → Adds a (x ++ y) c
adds_then {a} {b} {c} {x} {y} p q = record {
  bytes = q.bytes ∙ ap (λ zs. zs ++ y) p.bytes ∙ append_assoc (written a) x y;
  grown = let g = p.grown in let h = q.grown in let l = length-append x y in omega arith;
  limit = q.limit ∙ p.limit;
}

-- the same bytes, otherwise written
pub adds_as : {a b : Draft} {x y : Bytes} → Adds a x b → x ≡ y → Adds a y b
adds_as {a} {b} p e = rw e at p
