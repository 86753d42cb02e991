-- A test of some member as an equation: on lists put together.
use Rattle.std.specs.Prelude.{◌≡◌, refl, Bool, true, false, ◌||◌, List, [], ◌∷◌, ◌++◌}
use Rattle.std.proofs.Common.{ap, ◌∙◌}
use Rattle.rules.specs.Lists.{any, concat_map}

pub or_assoc : (a b c : Bool) → a || (b || c) ≡ (a || b) || c
or_assoc true b c = refl
or_assoc false b c = refl

module _ {A : Type 0} where
  pub any_same : (g h : A → Bool) → ((x : A) → g x ≡ h x) → (xs : List A) → any g xs ≡ any h xs
  any_same g h e [] = refl
  any_same g h e (x ∷ xs) = λ i. e x i || any_same g h e xs i

  pub any-joined : (p : A → Bool) (xs ys : List A) → any p (xs ++ ys) ≡ any p xs || any p ys
  any-joined p [] ys = refl
  any-joined p (x ∷ xs) ys = ap (λ b. p x || b) (any-joined p xs ys) ∙ or_assoc (p x) (any p xs) (any p ys)

module _ {A B : Type 0} where
  pub any-concat_map : (p : B → Bool) (g : A → List B) (xs : List A) → any p (concat_map g xs) ≡ any (λ x. any p (g x)) xs
  any-concat_map p g [] = refl
  any-concat_map p g (x ∷ xs) = any-joined p (g x) (concat_map g xs) ∙ ap (λ t. any p (g x) || t) (any-concat_map p g xs)
