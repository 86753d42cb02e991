-- Members of lists: here at the head, or there behind it.
use Rattle.std.specs.Prelude.{ℕ, zero, suc, ◌<◌, ◌≡◌, refl, ◌⊎◌, Bool, length, get_or, T}
use Rattle.std.proofs.Common.{arith, subst, inl, inr, ⊎_elim}
use Rattle.std.proofs.Math.Logic.{∥∥₁_elim}
use mathlib.Core.List.{List, [], ◌∷◌, reverse_aux, Memᴰ, Mem}
use mathlib.Core.List.Memᴰ
pub use mathlib.Core.List.Memᴰ.{head as here}
pub use mathlib.Core.List.Memᴰ.{tail as there}
use Rattle.std.proofs.Math.Dec.{T_prop}
use Rattle.rules.specs.Lists.{all, concat_map, has}
use Rattle.lists.specs.Tests.{T_and}
use Rattle.lists.specs.Sets.{insert-elim, insert-here, insert-there}

infix 20 ◌∈◌
abbrev pub ◌∈◌ : {A : Type 0} → A → List A → Type 0
x ∈ l = Memᴰ x l

module _ {A : Type 0} where
  -- an empty list has none, another its head and those behind it
  pub not-∈-nil : {x : A} → x ∈ [] → ⊥
  not-∈-nil = Memᴰ.not-nil

  pub ∈-elim : {C : Type 0} {x y : A} {l : List A} → (x ≡ y → C) → (x ∈ l → C) → x ∈ (y ∷ l) → C
  ∈-elim f g (here e) = f e
  ∈-elim f g (there m) = g m

  -- a member of a list that was turned round onto another is a member of one of them
  pub ∈-reverse_aux : {x : A} (l r : List A) → x ∈ reverse_aux l r → (x ∈ l) ⊎ (x ∈ r)
  ∈-reverse_aux [] r m = inr m
  ∈-reverse_aux (y ∷ l) r m = ⊎_elim (λ k. inl (there k)) (∈-elim (λ e. inl (here e)) inr) (∈-reverse_aux l (y ∷ r) m)

  -- and the other way round
  pub ∈-reverse_aux-right : {x : A} (l : List A) {r : List A} → x ∈ r → x ∈ reverse_aux l r
  ∈-reverse_aux-right [] m = m
  ∈-reverse_aux-right (y ∷ l) m = ∈-reverse_aux-right l (there m)

  pub ∈-reverse_aux-left : {x : A} {l : List A} (r : List A) → x ∈ l → x ∈ reverse_aux l r
  ∈-reverse_aux-left r (here {xs = l} e) = ∈-reverse_aux-right l (here e)
  ∈-reverse_aux-left r (there {x = y} m) = ∈-reverse_aux-left (y ∷ r) m

  -- what all pass, each member passes
  pub all→∈ : (p : A → Bool) {x : A} (l : List A) → T (all p l) → x ∈ l → T (p x)
  all→∈ p [] h = λ m. absurd (not-∈-nil m)
  all→∈ p {x} (y ∷ l) h =
      let both = T_and (p y) (all p l) h in
      ∈-elim (λ (e : x ≡ y). rw e both.0) (all→∈ p l both.1)

  -- a place in a list holds a member
  pub get_d-∈ : (l : List A) (i : ℕ) (d : A) → i < length l → get_or l i d ∈ l
  get_d-∈ [] i d h = absurd (omega arith)
  get_d-∈ (x ∷ l) zero d h = here refl
  get_d-∈ (x ∷ l) (suc i) d h = there (get_d-∈ l i d (omega arith))

module _ {A B : Type 0} (g : A → List B) where
  -- what a member gives is among what all give
  pub ∈-concat_map : {x : A} {y : B} {l : List A} → x ∈ l → y ∈ g x → y ∈ concat_map g l
  ∈-concat_map {y = y} (here {xs = l} e) k = Memᴰ.append_left (concat_map g l) (subst (λ a. y ∈ g a) e k)
  ∈-concat_map (there {x = z} m) k = Memᴰ.append_right (g z) (∈-concat_map m k)

  -- and what is among what all give, some member gives
  pub ∈-concat_map-from : {y : B} (l : List A) → y ∈ concat_map g l → (x : A) × (x ∈ l) × (y ∈ g x)
  ∈-concat_map-from [] m = absurd (not-∈-nil m)
  ∈-concat_map-from (x ∷ l) m =
      ⊎_elim (λ k. (x, here refl, k)) (λ k. let r = ∈-concat_map-from l k in (r.0, there r.1, r.2))
      (Memᴰ.append_cases (g x) m)

-- the test for a number finds it where it is, and only there
pub has→∈ : {x : ℕ} (l : List ℕ) → T (has x l) → x ∈ l
has→∈ [] h = absurd h
has→∈ {x} (y ∷ l) h = insert-elim y (λ z. has z l) x here (λ k. there (has→∈ l k)) h

pub ∈→has : {x : ℕ} {l : List ℕ} → x ∈ l → T (has x l)
∈→has (here {x = y} {xs = l} e) = insert-here y (λ z. has z l) e
∈→has {x} (there {x = y} {xs = l} m) = insert-there y (λ z. has z l) x (∈→has m)

-- a number of which it is only known that it is somewhere in a list is found there
pub find : {x : ℕ} {l : List ℕ} → Mem x l → x ∈ l
find {x} {l} m = has→∈ l (∥∥₁_elim m (T_prop (has x l)) ∈→has)
