-- The loop that writes a row's values: those still to be noted from value v on.
use Prim.Native.Nat.{ℕ, suc, ◌+◌, ◌-◌, ◌<◌, ◌≤◌}
use mathlib.Core.Path.{◌≡◌, refl, sym, ap, ◌∙◌}
use mathlib.Core.Bool.{Bool, true, false}
use mathlib.Core.List.{List, [], ◌∷◌}
use native.Mathlib.Omega.{arith}
use native.Mathlib.Numerals.{add-one}
use Rattle.rules.specs.Lists.{keep, up_from, NumberSet}
use Rattle.rows.specs.Passed.{keep-passed}
use Rattle.rows.specs.Rows.{row_values}
use Rattle.listing.specs.Ascending.{ascending}

module _ (set : NumberSet) where
  -- the set's values from v on
  unfoldable pub numbers_from : ℕ → List ℕ
  numbers_from v = keep set (up_from v (row_values - v))

  pub numbers_from-all : numbers_from 0 ≡ ascending set
  unfolding numbers_from ascending
  numbers_from-all = refl

  pub numbers_from-done : (v : ℕ) → v ≡ row_values → numbers_from v ≡ []
  unfolding numbers_from
  numbers_from-done v e =
      let none : row_values - v ≡ 0 = omega arith in
      ap (λ (n : ℕ). keep set (up_from v n)) none

  -- none is left out where values are passed over
  pub numbers_from-passed : (v r : ℕ) → v ≤ r → r ≤ row_values → ((u : ℕ) → v ≤ u → u < r → set u ≡ false) → numbers_from v ≡ numbers_from r
  unfolding numbers_from
  numbers_from-passed v r l m none = keep-passed set v r row_values l m none

  -- a value of the set is the next one
  pub numbers_from-member : (v : ℕ) → v < row_values → set v ≡ true → numbers_from v ≡ v ∷ numbers_from (v + 1)
  unfolding numbers_from
  numbers_from-member v l e =
      let more : row_values - v ≡ suc (row_values - (v + 1)) = omega arith in
      ap (λ (n : ℕ). keep set (up_from v n)) more
      ∙ ap (λ (b : Bool). elim b [ true ↦ v ∷ keep set (up_from (suc v) (row_values - (v + 1))) | false ↦ keep set (up_from (suc v) (row_values - (v + 1))) ]) e
      ∙ ap (λ (n : ℕ). v ∷ keep set (up_from n (row_values - (v + 1)))) (sym (add-one v))
