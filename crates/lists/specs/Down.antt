-- Lists read from the top of a table down, as a stack is.
use Rattle.std.specs.Prelude.{ℕ, zero, suc, ◌<◌, ◌≡◌, refl, List, [], ◌∷◌, length}
use Rattle.std.proofs.Common.{arith, ap, ap₂}

module _ {A : Type 0} where
  -- f (k - 1), .. , f 0
  abbrev pub down : (ℕ → A) → ℕ → List A
  down f zero = []
  down f (suc k) = f k ∷ down f k

  -- it depends on those places alone
  pub down-same : (f g : ℕ → A) (k : ℕ) → ((j : ℕ) → j < k → f j ≡ g j) → down f k ≡ down g k
  down-same f g zero h = refl
  down-same f g (suc k) h = ap₂ (λ x xs. x ∷ xs) (h k (omega arith)) (down-same f g k (λ j l. h j (omega arith)))

  pub length-down : (f : ℕ → A) (k : ℕ) → length (down f k) ≡ k
  length-down f zero = refl
  length-down f (suc k) = ap suc (length-down f k)
