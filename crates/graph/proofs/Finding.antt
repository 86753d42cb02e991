-- What `find` gives over the places of a file is the next place.
use Prim.Native.Nat.{ℕ, ◌≤◌, ◌<◌}
use mathlib.Core.Path.{◌≡◌, ◌∙◌}
use mathlib.Core.List.{List}
use native.Mathlib.Omega.{arith}
use Rattle.std.specs.Prelude.{Option, None, Some, MatchOption}
use Rattle.std.specs.Option.{unwrap_or}
use Rattle.rules.specs.Records.{kind, record_at, record_count}
use Rattle.graph.specs.Next.{next_place, next_place-only}

module _ (s : List ℕ) (k from end : ℕ) (l : from ≤ end) (m : end ≤ record_count s) where
  abbrev Is : ℕ → Type 0
  Is i = kind (record_at s i) ≡ k

  abbrev First : Option ℕ → Type 0
  First r =
      MatchOption r ((i : ℕ) → from ≤ i → i < end → Is i → ⊥) (λ i. (from ≤ i) × (i < end) × Is i × ((j : ℕ) → from ≤ j → j < i → Is j → ⊥))

  pub found-or : (r : Option ℕ) → First r → {n : ℕ} → n ≡ unwrap_or r end → n ≡ next_place s k from end
  found-or None none e = e ∙ next_place-only s k end m from end l (omega arith) ((λ z. absurd (omega arith)), none)
  found-or (Some i) some e = e ∙ next_place-only s k end m from i some.0 (omega (arith, some.1)) ((λ _. some.2), some.3)
