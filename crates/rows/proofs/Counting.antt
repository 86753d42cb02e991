-- How many values a row's set has, as a sum of ones.
use Prim.Native.Nat.{ℕ, zero, suc, ◌+◌, ◌^◌, ◌<◌, ◌≤◌}
use native.Mathlib.Omega.{arith}
use mathlib.Core.Path.{◌≡◌, refl, ap, ◌∙◌}
use mathlib.Core.Bool.{Bool, true, false}
use mathlib.Core.List.{List, ◌∷◌}
use lib.ListN.{length}
use mir.Val.{bool_byte}
use Rattle.std.specs.List.{range_with_len, sum_by}
use Rattle.std.proofs.lemmas.List.Sums.{sum_by-cons}
use Rattle.rules.specs.Lists.{keep, up_from, NumberSet}

pub size-summed : (s : NumberSet) (a n : ℕ) → sum_by (λ v. bool_byte (s v)) (range_with_len a n) ≡ length (keep s (up_from a n))
size-summed s a zero = refl
size-summed s a (suc n) =
    let next : a + 1 ≡ suc a = omega arith in
    sum_by-cons (λ v. bool_byte (s v)) a (range_with_len (a + 1) n)
    ∙ ap (λ (k : ℕ). bool_byte (s a) + k) (ap (λ (b : ℕ). sum_by (λ v. bool_byte (s v)) (range_with_len b n)) next ∙ size-summed s (suc a) n)
    ∙ go (s a) (keep s (up_from (suc a) n))
  where
    go : (b : Bool) (vs : List ℕ) → bool_byte b + length vs ≡ length {A = ℕ} (elim b [ true ↦ a ∷ vs | false ↦ vs ])
    go true vs = omega arith
    go false vs = omega arith

-- at most one a number
kept-few : (s : NumberSet) (a n : ℕ) → length (keep s (up_from a n)) ≤ n
kept-few s a zero = omega arith
kept-few s a (suc n) = go (s a) (keep s (up_from (suc a) n)) (kept-few s (suc a) n)
  where
    go : (b : Bool) (vs : List ℕ) → length vs ≤ n → length {A = ℕ} (elim b [ true ↦ a ∷ vs | false ↦ vs ]) ≤ suc n
    go true vs l = omega arith
    go false vs l = omega arith

-- so the sum fits
pub sum-fits : (s : NumberSet) (n : ℕ) → n < 2 ^ 64 → sum_by (λ v. bool_byte (s v)) (range_with_len 0 n) < 2 ^ 64
sum-fits s n l = omega (arith, size-summed s 0 n, kept-few s 0 n)
