-- The entry that stands next in a dictionary, as the code finds it.
use Rattle.std.proofs.Common.{◌≡◌, ℕ, false, drop, Some, None, Ok, sym, refl, ap, ◌∙◌}
use Rattle.faults.specs.declared.fault.Fault.{Fault}
use Rattle.format.specs.Bytes.{Bytes, ok, bad}
use Rattle.format.specs.Space.{skip}
use Rattle.format.specs.Objects.{Obj, closes, key}
use Rattle.objects.specs.declared.ahead.Ahead.{Ahead}
use Rattle.objects.specs.declared.ahead.Ahead.TheVariants as aheads
use Rattle.objects.specs.declared.shape.Shape.{Shape}
use Rattle.objects.specs.Shapes.{shape_of, shaped}
use Rattle.objects.specs.Extents.{read_by, value_at}
use Rattle.objects.specs.Steps.{token_in, next_in, EndsAt, Has}
use Rattle.objects.specs.Nexts.{entry_of, entry_from, entry_in}
use Rattle.objects.proofs.Turns.{shaped_ok, shaped_bad}

module _ (src : Bytes) (p : ℕ) where
  pub entry_closes : next_in src p ≡ closes → None ≡ entry_in src p
  entry_closes e = sym (ap (entry_from (read_by false 31) (token_in src p)) e)

  module _ (k : Bytes) (e : next_in src p ≡ key k) (q s v : ℕ) (t : EndsAt src p q) (f : (token_in src p).from ≡ s) (a : skip false q (drop q src) ≡ (v, drop v src)) where
    at : skip false (token_in src p).to (token_in src p).rest ≡ (v, drop v src)
    at = rw (t.to, t.rest) a

    valued : entry_in src p ≡ entry_of (token_in src p) (value_at v (read_by false 31 v (drop v src)))
    valued = ap (entry_from (read_by false 31) (token_in src p)) e ∙ ap (λ (z : ℕ × Bytes). entry_of (token_in src p) (value_at z.0 (read_by false 31 z.0 z.1))) at

    pub entry_bad : (g : Fault) → bad g ≡ shaped (read_by false 31 v (drop v src)) → None ≡ entry_in src p
    unfolding value_at
    entry_bad g h = sym (valued ∙ ap (λ r. entry_of (token_in src p) (value_at v r)) (shaped_bad (read_by false 31 v (drop v src)) g h))

    pub entry_there : (o : Shape) (r : ℕ) → ok o r (drop r src) ≡ shaped (read_by false 31 v (drop v src)) → Some (record { key = s; behind = q; value = record { start = v; end = r; shape = o } }) ≡ entry_in src p
    unfolding value_at
    entry_there o r h = go (shaped_ok (read_by false 31 v (drop v src)) o r (drop r src) h)
      where
        go : ((x : Obj) × (read_by false 31 v (drop v src) ≡ ok x r (drop r src)) × (o ≡ shape_of x)) → Some (record { key = s; behind = q; value = record { start = v; end = r; shape = o } }) ≡ entry_in src p
        go (x, g, i) =
            sym
            (valued
            ∙ ap (λ z. entry_of (token_in src p) (value_at v z)) g
            ∙ ap (λ y. Some (record { key = (token_in src p).from; behind = (token_in src p).to; value = record { start = v; end = r; shape = y } })) (sym i)
            ∙ ap (λ y. Some (record { key = y; behind = (token_in src p).to; value = record { start = v; end = r; shape = o } })) f
            ∙ ap (λ y. Some (record { key = s; behind = y; value = record { start = v; end = r; shape = o } })) t.to)

-- a dictionary that has no key next and can be read closes
pub has_closes : (src : Bytes) (p : ℕ) (a : Ahead) → ((k : _) (s q : ℕ) → a ≡ aheads.Key k s q → ⊥) → Has src p (Ok a) → next_in src p ≡ closes
has_closes src p (aheads.Closes q) h told = told.0
has_closes src p (aheads.Key k s q) h told = absurd (h k s q refl)
