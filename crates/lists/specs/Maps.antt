-- Lists made from lists: `map`, `concat_map` and `all`, on lists put together and one behind the other.
use Rattle.std.specs.Prelude.{◌≡◌, refl, Bool, ◌&&◌, List, [], ◌∷◌, ◌++◌, map, T}
use Rattle.std.proofs.Common.{sym, ap, ap₂, ◌∙◌, append_assoc}
use Rattle.rules.specs.Lists.{all, concat_map}
use Rattle.lists.specs.Tests.{and_intro, and_left, and_right}

module _ {A B : Type 0} where
  pub map-append : (g : A → B) (xs ys : List A) → map g (xs ++ ys) ≡ map g xs ++ map g ys
  map-append g [] ys = refl
  map-append g (x ∷ xs) ys = ap (λ t. g x ∷ t) (map-append g xs ys)

  -- a list is read back where each member is
  pub map_back : (g : B → A) (e : A → B) → ((x : A) → g (e x) ≡ x) → (xs : List A) → map g (map e xs) ≡ xs
  map_back g e h [] = refl
  map_back g e h (x ∷ xs) = ap₂ (λ y ys. y ∷ ys) (h x) (map_back g e h xs)

  pub concat_map-append : (g : A → List B) (xs ys : List A) → concat_map g (xs ++ ys) ≡ concat_map g xs ++ concat_map g ys
  concat_map-append g [] ys = refl
  concat_map-append g (x ∷ xs) ys = ap (λ t. g x ++ t) (concat_map-append g xs ys) ∙ sym (append_assoc (g x) (concat_map g xs) (concat_map g ys))

  -- two ways to give lists that agree on the members that pass a test which all do
  pub concat_map-where : (p : A → Bool) (g h : A → List B) → ((x : A) → T (p x) → g x ≡ h x) → (xs : List A) → T (all p xs) → concat_map g xs ≡ concat_map h xs
  concat_map-where p g h e [] t = refl
  concat_map-where p g h e (x ∷ xs) t =
      ap₂ (λ y ys. y ++ ys) (e x (and_left (p x) (all p xs) t)) (concat_map-where p g h e xs (and_right (p x) (all p xs) t))

  pub concat_map-same : (g h : A → List B) → ((x : A) → g x ≡ h x) → (xs : List A) → concat_map g xs ≡ concat_map h xs
  concat_map-same g h e [] = refl
  concat_map-same g h e (x ∷ xs) = ap₂ (λ y ys. y ++ ys) (e x) (concat_map-same g h e xs)

module _ {A B C : Type 0} where
  pub map-map : (g : B → C) (h : A → B) (xs : List A) → map g (map h xs) ≡ map (λ x. g (h x)) xs
  map-map g h [] = refl
  map-map g h (x ∷ xs) = ap (λ t. g (h x) ∷ t) (map-map g h xs)

  pub concat_map-map : (g : B → List C) (h : A → B) (xs : List A) → concat_map g (map h xs) ≡ concat_map (λ x. g (h x)) xs
  concat_map-map g h [] = refl
  concat_map-map g h (x ∷ xs) = ap (λ t. g (h x) ++ t) (concat_map-map g h xs)

  pub map-concat_map : (g : B → C) (h : A → List B) (xs : List A) → map g (concat_map h xs) ≡ concat_map (λ x. map g (h x)) xs
  map-concat_map g h [] = refl
  map-concat_map g h (x ∷ xs) = map-append g (h x) (concat_map h xs) ∙ ap (λ t. map g (h x) ++ t) (map-concat_map g h xs)

  pub concat_map-concat_map : (g : B → List C) (h : A → List B) (xs : List A) → concat_map g (concat_map h xs) ≡ concat_map (λ x. concat_map g (h x)) xs
  concat_map-concat_map g h [] = refl
  concat_map-concat_map g h (x ∷ xs) = concat_map-append g (h x) (concat_map h xs) ∙ ap (λ t. concat_map g (h x) ++ t) (concat_map-concat_map g h xs)

module _ {A : Type 0} where
  pub all_append : (p : A → Bool) (xs ys : List A) → T (all p xs) → T (all p ys) → T (all p (xs ++ ys))
  all_append p [] ys s t = t
  all_append p (x ∷ xs) ys s t =
      and_intro (p x) (all p (xs ++ ys)) (and_left (p x) (all p xs) s) (all_append p xs ys (and_right (p x) (all p xs) s) t)

  pub all_apart : (p : A → Bool) (xs ys : List A) → T (all p (xs ++ ys)) → T (all p xs) × T (all p ys)
  all_apart p [] ys h = (tt, h)
  all_apart p (x ∷ xs) ys h =
      let rest = all_apart p xs ys (and_right (p x) (all p (xs ++ ys)) h) in
      (and_intro (p x) (all p xs) (and_left (p x) (all p (xs ++ ys)) h) rest.0, rest.1)

  pub all-weaken : (p q : A → Bool) → ((x : A) → T (p x) → T (q x)) → (xs : List A) → T (all p xs) → T (all q xs)
  all-weaken p q w [] t = tt
  all-weaken p q w (x ∷ xs) t =
      and_intro (q x) (all q xs) (w x (and_left (p x) (all p xs) t)) (all-weaken p q w xs (and_right (p x) (all p xs) t))

  pub all-and : (p q : A → Bool) (xs : List A) → T (all p xs) → T (all q xs) → T (all (λ x. p x && q x) xs)
  all-and p q [] s t = tt
  all-and p q (x ∷ xs) s t =
      and_intro (p x && q x) (all (λ y. p y && q y) xs)
      (and_intro (p x) (q x) (and_left (p x) (all p xs) s) (and_left (q x) (all q xs) t))
      (all-and p q xs (and_right (p x) (all p xs) s) (and_right (q x) (all q xs) t))

module _ {A B : Type 0} where
  pub all_map : (p : B → Bool) (g : A → B) (xs : List A) → all p (map g xs) ≡ all (λ x. p (g x)) xs
  all_map p g [] = refl
  all_map p g (x ∷ xs) = ap (λ t. p (g x) && t) (all_map p g xs)

  -- a test of what three lists give for each member, together and apart
  pub all_three : (p : B → Bool) (a b c : A → List B) (xs : List A) → T (all p (concat_map (λ x. a x ++ (b x ++ c x)) xs))
      → T (all p (concat_map a xs)) × T (all p (concat_map b xs)) × T (all p (concat_map c xs))
  all_three p a b c [] h = (tt, tt, tt)
  all_three p a b c (x ∷ xs) h =
      let here = all_apart p (a x ++ (b x ++ c x)) (concat_map (λ y. a y ++ (b y ++ c y)) xs) h in
      let first = all_apart p (a x) (b x ++ c x) here.0 in
      let second = all_apart p (b x) (c x) first.1 in
      let rest = all_three p a b c xs here.1 in (
        all_append p (a x) (concat_map a xs) first.0 rest.0,
        all_append p (b x) (concat_map b xs) second.0 rest.1,
        all_append p (c x) (concat_map c xs) second.1 rest.2,
      )

  pub all-of-three : (p : B → Bool) (a b c : A → List B) (xs : List A) → T (all p (concat_map a xs)) → T (all p (concat_map b xs)) → T (all p (concat_map c xs))
      → T (all p (concat_map (λ x. a x ++ (b x ++ c x)) xs))
  all-of-three p a b c [] f g h = tt
  all-of-three p a b c (x ∷ xs) f g h =
      let fs = all_apart p (a x) (concat_map a xs) f in
      let gs = all_apart p (b x) (concat_map b xs) g in
      let hs = all_apart p (c x) (concat_map c xs) h in
      all_append p (a x ++ (b x ++ c x)) (concat_map (λ y. a y ++ (b y ++ c y)) xs)
      (all_append p (a x) (b x ++ c x) fs.0 (all_append p (b x) (c x) gs.0 hs.0)) (all-of-three p a b c xs fs.1 gs.1 hs.1)
