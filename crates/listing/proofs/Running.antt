-- A run's end, as `find` finds it.
use Prim.Native.Nat.{ℕ, zero, suc, ◌+◌, ◌-◌, ◌<◌, ◌≤◌}
use mathlib.Core.Path.{◌≡◌, refl, sym, ap, ◌∙◌}
use mathlib.Core.List.{List}
use native.Mathlib.Omega.{arith}
use Rattle.std.specs.Prelude.{Option, Some, None, MatchOption}
use Rattle.std.specs.Option.{unwrap_or}
use Rattle.rules.specs.Records.{kind, record_at, record_count}
use Rattle.listing.specs.Parted.{run_end, run_none, run_ends, run-goes}

-- from place p on and before place q all records are of kind k
abbrev pub Run : List ℕ → ℕ → ℕ → ℕ → Type 0
Run s k p q = (i : ℕ) → p ≤ i → i < q → kind (record_at s i) ≡ k

module _ (s : List ℕ) (k : ℕ) where
  -- a run ends where what stands behind some records of it does
  run-along : (n p r q : ℕ) → p + n ≡ r → r ≤ q → q ≤ record_count s → Run s k p r → run_end s k p q ≡ run_end s k r q
  run-along zero p r q e l m all = let same : p ≡ r = omega arith in ap (λ (i : ℕ). run_end s k i q) same
  run-along (suc n) p r q e l m all =
      sym (run-goes s k p q (omega arith) m (all p (omega arith) (omega arith)))
      ∙ run-along n (p + 1) r q (omega arith) l m (λ i a b. all i (omega arith) b)

  pub run-found : (p q : ℕ) → p ≤ q → q ≤ record_count s → (r : Option ℕ)
      → MatchOption r (Run s k p q) (λ at. (p ≤ at) × (at < q) × (kind (record_at s at) ≡ k → ⊥) × Run s k p at)
      → (unwrap_or r q ≡ run_end s k p q) × (unwrap_or r q ≤ q) × (p ≤ unwrap_or r q)
  run-found p q l m None all = (run_none s k q q refl ∙ sym (run-along (q - p) p q q (omega arith) (omega arith) m all), omega arith, l)
  run-found p q l m (Some at) found = (
    run_ends s k at q found.1 m found.2 ∙ sym (run-along (at - p) p at q (omega (arith, found.0)) (omega (arith, found.1)) m found.3),
    omega (arith, found.1),
    found.0,
  )
