-- The weights of records between two places, one place at a time, and how large they can be.
use Prim.Native.Nat.{ℕ, zero, suc, ◌+◌, ◌*◌, ◌-◌, ◌≤◌}
use mathlib.Core.Path.{◌≡◌, sym, ap, ◌∙◌}
use mathlib.Core.List.{List}
use native.Mathlib.Omega.{arith}
use lib.ListN.{get_or}
use Rattle.std.specs.List.{sum_by, range_with_len}
use Rattle.std.proofs.lemmas.List.Sums.{sum_by-cons}
use Rattle.rules.specs.Records.{kind, record_at, record_count}
use Rattle.graph.specs.Between.{between, between_none, between_more, length-between}
use Rattle.counting.specs.Weights.{weight, weight-small, weighed, beside_records, weighed-small}

-- what the tag beside record i adds
abbrev pub weight_at : List ℕ → List ℕ → ℕ → ℕ
weight_at s numbers i = weight (kind (record_at s i)) (get_or numbers i 0)

pub weight_at-small : (s numbers : List ℕ) (i : ℕ) → weight_at s numbers i ≤ 3
weight_at-small s numbers i = weight-small (kind (record_at s i)) (get_or numbers i 0)

-- the sum of these between two places
pub weighed-sum :
    (s numbers : List ℕ) (n i end : ℕ) → i + n ≡ end → end ≤ record_count s
    → sum_by (weight_at s numbers) (range_with_len i n) ≡ weighed (beside_records numbers) i (between s i end)
weighed-sum s numbers zero i end e m =
    let here : end ≡ i = omega arith in
    sym (ap (λ (j : ℕ). weighed (beside_records numbers) i (between s i j)) here ∙ ap (weighed (beside_records numbers) i) (between_none s i))
weighed-sum s numbers (suc n) i end e m =
    let next : i + 1 ≡ suc i = omega arith in
    sum_by-cons (weight_at s numbers) i (range_with_len (i + 1) n)
    ∙ ap (λ (k : ℕ). weight_at s numbers i + k)
    (ap (λ (j : ℕ). sum_by (weight_at s numbers) (range_with_len j n)) next ∙ weighed-sum s numbers n (suc i) end (omega arith) m)
    ∙ sym (ap (weighed (beside_records numbers) i) (between_more s i end (omega arith) m))

pub between-small :
    (s numbers : List ℕ) (start end : ℕ) → start ≤ end → end ≤ record_count s → weighed (beside_records numbers) start (between s start end) ≤ 3 * (end - start)
between-small s numbers start end l m = omega (arith, weighed-small numbers start (between s start end), length-between s start end m)
