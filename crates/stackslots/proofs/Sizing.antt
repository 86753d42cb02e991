-- Refusal 9, one value after the other.
use Prim.Native.Nat.{ℕ, zero, suc, ◌+◌}
use mathlib.Core.Path.{◌≡◌, refl, sym, ap, ◌∙◌}
use mathlib.Core.Bool.{Bool, true, false, not, ◌&&◌, ◌||◌}
use mathlib.Core.List.{◌∷◌}
use native.Mathlib.Omega.{arith}
use lib.ListN.{length}
use Rattle.std.specs.List.{list_all, range_with_len}
use Rattle.rules.specs.Lists.{any, keep, has, up_from}
use Rattle.rules.specs.Tree.{Function}
use Rattle.rules.specs.Records.{slot_sizes}
use Rattle.rules.specs.Graph.{size_of}
use Rattle.rules.specs.Liveness.{is_spilled}
use Rattle.rules.specs.Refusals.{spilled_size}
use Rattle.stackslots.specs.Sizes.{slot_sized, unsized_from}

module _ (f : Function) where
  -- one value
  pub sized-fine : (v : ℕ) → has (size_of f v) slot_sizes ≡ true → true ≡ slot_sized f v
  sized-fine v e = go (not (is_spilled f v)) ∙ sym (ap (λ b. not (is_spilled f v) || b) e)
    where
      go : (b : Bool) → true ≡ b || true
      go true = refl
      go false = refl

  pub sized-other : (v : ℕ) → has (size_of f v) slot_sizes ≡ false → not (is_spilled f v) ≡ slot_sized f v
  sized-other v e = go (not (is_spilled f v)) ∙ sym (ap (λ b. not (is_spilled f v) || b) e)
    where
      go : (b : Bool) → b ≡ b || false
      go true = refl
      go false = refl

  -- the first of the values that are left, and the others
  unsized-more : (v k : ℕ) → unsized_from f v (suc k) ≡ not (slot_sized f v) || unsized_from f (suc v) k
  unfolding unsized_from
  unsized-more v k = go (is_spilled f v)
    where
      go : (b : Bool)
          → any (λ w. not (has (size_of f w) slot_sizes)) (elim b [ true ↦ v ∷ keep (is_spilled f) (up_from (suc v) k) | false ↦ keep (is_spilled f) (up_from (suc v) k) ])
          ≡ not (not b || has (size_of f v) slot_sizes) || any (λ w. not (has (size_of f w) slot_sizes)) (keep (is_spilled f) (up_from (suc v) k))
      go true = refl
      go false = refl

  -- all are so where none is not
  sized-from : (v k : ℕ) → list_all (slot_sized f) (range_with_len v k) ≡ not (unsized_from f v k)
  unfolding unsized_from
  sized-from v zero = refl
  sized-from v (suc k) =
      let next : v + 1 ≡ suc v = omega arith in
      ap (λ b. slot_sized f v && b) (ap (λ (w : ℕ). list_all (slot_sized f) (range_with_len w k)) next ∙ sized-from (suc v) k)
      ∙ both (slot_sized f v) (unsized_from f (suc v) k) ∙ sym (ap not (unsized-more v k))
    where
      both : (a b : Bool) → a && not b ≡ not (not a || b)
      both true b = refl
      both false b = refl

  pub sized-all : list_all (slot_sized f) (range_with_len 0 (length f.values)) ≡ not (spilled_size f)
  unfolding unsized_from
  sized-all = sized-from 0 (length f.values)
