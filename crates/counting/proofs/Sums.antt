-- Sums over the numbers of a range.
use Prim.Native.Nat.{ℕ, zero, suc, ◌+◌, ◌*◌, ◌<◌, ◌≤◌}
use mathlib.Core.Path.{◌≡◌, refl, ap, ◌∙◌}
use native.Mathlib.Nat.{suc-mul}
use native.Mathlib.Omega.{arith}
use Rattle.std.specs.List.{sum_by, range_with_len}
use Rattle.std.proofs.lemmas.List.Sums.{sum_by-cons}
use Rattle.rules.specs.Lists.{up_from}
use Rattle.fixpoint.specs.Sums.{sum}

pub sum-range : (g : ℕ → ℕ) (a n : ℕ) → sum_by g (range_with_len a n) ≡ sum g (up_from a n)
sum-range g a zero = refl
sum-range g a (suc n) =
    let next : a + 1 ≡ suc a = omega arith in
    sum_by-cons g a (range_with_len (a + 1) n) ∙ ap (λ (k : ℕ). g a + k) (ap (λ (b : ℕ). sum_by g (range_with_len b n)) next ∙ sum-range g (suc a) n)

-- of numbers that are none too large
pub sum-small : (g : ℕ → ℕ) (m a n : ℕ) → ((i : ℕ) → a ≤ i → i < a + n → g i ≤ m) → sum_by g (range_with_len a n) ≤ n * m
sum-small g m a zero h = omega arith
sum-small g m a (suc n) h =
    omega (arith, sum_by-cons g a (range_with_len (a + 1) n), h a (omega arith) (omega arith), sum-small g m (a + 1) n (λ i l k. h i (omega (arith, l)) (omega (arith, k))), suc-mul n m)
