-- Two lists member by member, and what is made of them.
use Rattle.std.specs.Prelude.{◌≡◌, refl, List, [], ◌∷◌, ◌++◌, map}
use Rattle.std.proofs.Common.{ap, ◌∙◌}
use Rattle.rules.specs.Lists.{concat_map, zip_with, concat_zip}
use Rattle.lists.specs.Maps.{map-append, concat_map-append}

module _ {A B C D : Type 0} where
  pub map-concat_zip : (f : C → D) (h : A → B → List C) (xs : List A) (ys : List B) → map f (concat_zip h xs ys) ≡ concat_zip (λ x y. map f (h x y)) xs ys
  map-concat_zip f h [] ys = refl
  map-concat_zip f h (x ∷ xs) [] = refl
  map-concat_zip f h (x ∷ xs) (y ∷ ys) =
      map-append f (h x y) (concat_zip h xs ys) ∙ ap (λ (t : List D). map f (h x y) ++ t) (map-concat_zip f h xs ys)

  pub concat_map-concat_zip :
      (f : C → List D) (h : A → B → List C) (xs : List A) (ys : List B) → concat_map f (concat_zip h xs ys) ≡ concat_zip (λ x y. concat_map f (h x y)) xs ys
  concat_map-concat_zip f h [] ys = refl
  concat_map-concat_zip f h (x ∷ xs) [] = refl
  concat_map-concat_zip f h (x ∷ xs) (y ∷ ys) =
      concat_map-append f (h x y) (concat_zip h xs ys) ∙ ap (λ (t : List D). concat_map f (h x y) ++ t) (concat_map-concat_zip f h xs ys)

  pub map-zip_with : (f : C → D) (h : A → B → C) (xs : List A) (ys : List B) → map f (zip_with h xs ys) ≡ concat_zip (λ x y. f (h x y) ∷ []) xs ys
  map-zip_with f h [] ys = refl
  map-zip_with f h (x ∷ xs) [] = refl
  map-zip_with f h (x ∷ xs) (y ∷ ys) = ap (λ (t : List D). f (h x y) ∷ t) (map-zip_with f h xs ys)

  pub concat_map-zip_with : (f : C → List D) (h : A → B → C) (xs : List A) (ys : List B) → concat_map f (zip_with h xs ys) ≡ concat_zip (λ x y. f (h x y)) xs ys
  concat_map-zip_with f h [] ys = refl
  concat_map-zip_with f h (x ∷ xs) [] = refl
  concat_map-zip_with f h (x ∷ xs) (y ∷ ys) = ap (λ (t : List D). f (h x y) ++ t) (concat_map-zip_with f h xs ys)

-- a list of one for each member
pub map-concat : {A B : Type 0} (f : A → B) (xs : List A) → map f xs ≡ concat_map (λ x. f x ∷ []) xs
map-concat f [] = refl
map-concat f (x ∷ xs) = ap (λ t. f x ∷ t) (map-concat f xs)
