-- Two lists member by member.
use Rattle.std.proofs.Common.{sym, ap, subst}
use Rattle.std.specs.Prelude.{List, [], ◌∷◌}
use Rattle.rules.specs.Lists.{zip_with}
use Rattle.lists.specs.Members.{◌∈◌, here, there, not-∈-nil, ∈-elim}

-- two lists are as long as each other and related member by member
abbrev pub Each : {A B : Type 0} → (A → B → Type 0) → List A → List B → Type 0
Each R [] [] = Unit
Each R [] (_ ∷ _) = ⊥
Each R (_ ∷ _) [] = ⊥
Each R (x ∷ xs) (y ∷ ys) = R x y × Each R xs ys

-- x and y stand at one place of two lists
abbrev pub Paired : {A B : Type 0} → A → B → List A → List B → Type 0
Paired {A} {B} x y xs ys = ◌∈◌ {A = A × B} (x, y) (zip_with (λ a b. (a, b)) xs ys)

-- what is related member by member is related at each place
pub each-paired :
    {A B : Type 0} (R : A → B → Type 0) {x : A} {y : B} (xs : List A) (ys : List B) → Each R xs ys → Paired x y xs ys → R x y
each-paired R [] ys r m = absurd (not-∈-nil m)
each-paired R (_ ∷ _) [] r m = absurd (not-∈-nil m)
each-paired {A} {B} R (a ∷ xs) (b ∷ ys) r m =
    ∈-elim (λ e. subst (λ (z : A × B). R z.0 z.1) (sym e) r.0) (each-paired R xs ys r.1) m

-- a relation may be weakened
pub each_weaken :
    {A B : Type 0} (R S : A → B → Type 0) → ((x : A) (y : B) → R x y → S x y) → (xs : List A) (ys : List B) → Each R xs ys → Each S xs ys
each_weaken R S w [] [] r = tt
each_weaken R S w [] (_ ∷ _) r = absurd r
each_weaken R S w (_ ∷ _) [] r = absurd r
each_weaken R S w (x ∷ xs) (y ∷ ys) r = (w x y r.0, each_weaken R S w xs ys r.1)

-- what stands on the left of a pair stands in the first list
pub paired-left : {A B : Type 0} {x : A} {y : B} (xs : List A) (ys : List B) → Paired x y xs ys → x ∈ xs
paired-left [] ys m = absurd (not-∈-nil m)
paired-left (_ ∷ _) [] m = absurd (not-∈-nil m)
paired-left {A} {B} (a ∷ xs) (b ∷ ys) m = ∈-elim (λ e. here (ap (λ (z : A × B). z.0) e)) (λ k. there (paired-left xs ys k)) m
