-- A test of all members as an equation: on lists put together, on tests put together, and by a test that all members pass.
use Rattle.std.specs.Prelude.{◌≡◌, refl, Bool, true, false, ◌&&◌, ◌||◌, List, [], ◌∷◌, ◌++◌, map, T}
use Rattle.std.proofs.Common.{sym, ap, ap₂, ◌∙◌}
use Rattle.std.proofs.Math.Bool.{and_assoc}
use Rattle.rules.specs.Lists.{all, empty, concat_map}
use Rattle.lists.specs.Tests.{and_left, and_right}

-- four tests, the inner two changed round
pub and-swap : (a b c d : Bool) → ((a && b) && (c && d)) ≡ ((a && c) && (b && d))
and-swap true true c d = refl
and-swap true false true d = refl
and-swap true false false d = refl
and-swap false b c d = refl

module _ {A : Type 0} where
  -- two tests that agree on the members that pass a third, which all do
  pub all-where : (p g h : A → Bool) → ((x : A) → T (p x) → g x ≡ h x) → (xs : List A) → T (all p xs) → all g xs ≡ all h xs
  all-where p g h e [] t = refl
  all-where p g h e (x ∷ xs) t =
      ap₂ (λ y z. y && z) (e x (and_left (p x) (all p xs) t)) (all-where p g h e xs (and_right (p x) (all p xs) t))

  pub all_same : (g h : A → Bool) → ((x : A) → g x ≡ h x) → (xs : List A) → all g xs ≡ all h xs
  all_same g h e [] = refl
  all_same g h e (x ∷ xs) = ap₂ (λ y z. y && z) (e x) (all_same g h e xs)

  pub all_both : (p q : A → Bool) (xs : List A) → all (λ x. p x && q x) xs ≡ (all p xs && all q xs)
  all_both p q [] = refl
  all_both p q (x ∷ xs) = ap (λ t. (p x && q x) && t) (all_both p q xs) ∙ and-swap (p x) (q x) (all p xs) (all q xs)

  -- a test that may pass for another reason than the member
  pub all_either : (b : Bool) (p : A → Bool) (xs : List A) → all (λ x. b || p x) xs ≡ (b || all p xs)
  all_either b p [] = none b
    where
      none : (b : Bool) → true ≡ (b || true)
      none true = refl
      none false = refl
  all_either b p (x ∷ xs) = ap (λ t. (b || p x) && t) (all_either b p xs) ∙ more b
    where
      more : (b : Bool) → ((b || p x) && (b || all p xs)) ≡ (b || (p x && all p xs))
      more true = refl
      more false = refl

  -- a test that does not look at the member
  pub all-constant : (b : Bool) (xs : List A) → all (λ x. b) xs ≡ (b || empty xs)
  all-constant true [] = refl
  all-constant false [] = refl
  all-constant true (x ∷ xs) = all-constant true xs
  all-constant false (x ∷ xs) = refl

  pub all-joined : (p : A → Bool) (xs ys : List A) → all p (xs ++ ys) ≡ (all p xs && all p ys)
  all-joined p [] ys = refl
  all-joined p (x ∷ xs) ys = ap (λ t. p x && t) (all-joined p xs ys) ∙ sym (and_assoc (p x) (all p xs) (all p ys))

module _ {A B : Type 0} where
  pub all-concat_map : (p : B → Bool) (g : A → List B) (xs : List A) → all p (concat_map g xs) ≡ all (λ x. all p (g x)) xs
  all-concat_map p g [] = refl
  all-concat_map p g (x ∷ xs) = all-joined p (g x) (concat_map g xs) ∙ ap (λ t. all p (g x) && t) (all-concat_map p g xs)

  pub empty-map : (f : A → B) (xs : List A) → empty (map f xs) ≡ empty xs
  empty-map f [] = refl
  empty-map f (x ∷ xs) = refl
