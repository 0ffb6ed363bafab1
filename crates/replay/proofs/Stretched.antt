-- Bytes with zeros behind them, as a store with as much space.
use Rattle.std.proofs.Common.{◌≡◌, ℕ, ◌+◌, ◌-◌, List, ◌++◌, take, replicate, vec_items, vec_len, refl, ap, ◌∙◌, arith}
use Rattle.std.proofs.lemmas.List.{take_all, take_at}
use Rattle.std.specs.Global.{Vec}
use Rattle.stores.specs.Flats.{start_of}
use Rattle.stores.specs.Meanings.{Meaning}

abbrev holding : List ℕ → ℕ → Meaning
holding bytes space = record { bytes = bytes; space = space }

pub stretched : (v m : Vec ℕ) (n size space : ℕ) → n ≡ vec_len v → size ≡ n + space → vec_items m ≡ take size (vec_items v) ++ replicate (size - vec_len v) 0 → vec_len m ≡ size → start_of m n ≡ holding (vec_items v) space
stretched v m n size space long whole items len =
    let all : take size (vec_items v) ≡ vec_items v = take_all size (vec_items v) (omega (arith, v.ok.0)) in
    let zeros : List ℕ = replicate (size - vec_len v) 0 in
    let start : take n (vec_items m) ≡ vec_items v =
    ap (take n) (items ∙ ap (λ t. t ++ zeros) all) ∙ take_at (vec_items v) zeros n (omega (arith, v.ok.0)) in
    let left : vec_len m - n ≡ space = omega arith in
    rw (start, left) refl
