-- Tests: what a test that passed says of its parts, and what it chooses.
use Rattle.std.specs.Prelude.{ℕ, ◌≡◌, refl, ◌≢◌, Bool, true, false, not, ◌&&◌, ◌||◌, cond, List, [], ◌∷◌, T, eqb}
use Rattle.std.proofs.Common.{T_not, eqb→eq}
use Rattle.std.proofs.Math.Dec.{not_T, eqb_refl}
use Rattle.rules.specs.Lists.{all, has}

-- to prove something by a test, prove it where the test passes and where it fails.
pub test-elim : {C : Type 0} (a : Bool) → (T a → C) → (T (not a) → C) → C
test-elim true f g = f tt
test-elim false f g = g tt

-- to prove something of a choice, prove it of either branch under its test
pub if-elim :
    {A : Type 0} (P : A → Type 0) (a : Bool) (x y : A) → (T a → P x) → (T (not a) → P y)
    → P (elim a [ true ↦ x | false ↦ y ])
if-elim P true x y f g = f tt
if-elim P false x y f g = g tt

-- and of a choice between tests
pub T-cond : (a x y : Bool) → (T a → T x) → (T (not a) → T y) → T (cond a x y)
T-cond true x y f g = f tt
T-cond false x y f g = g tt

-- tests that pass together are equal
pub T-ext : (a b : Bool) → (T a → T b) → (T b → T a) → a ≡ b
T-ext true true f g = refl
T-ext true false f g = absurd (f tt)
T-ext false true f g = absurd (g tt)
T-ext false false f g = refl

pub and_intro : (a b : Bool) → T a → T b → T (a && b)
and_intro true b s t = t
and_intro false b s t = absurd s

pub and_left : (a b : Bool) → T (a && b) → T a
and_left true b t = tt
and_left false b t = t

pub and_right : (a b : Bool) → T (a && b) → T b
and_right true b t = t
and_right false b t = absurd t

pub T_and : (a b : Bool) → T (a && b) → T a × T b
T_and a b h = (and_left a b h, and_right a b h)

-- a disjunction, taken apart and put together
pub or_elim : {C : Type 0} (a b : Bool) → (T a → C) → (T b → C) → T (a || b) → C
or_elim true b f g h = f tt
or_elim false b f g h = g h

pub or_left : (a b : Bool) → T a → T (a || b)
or_left true b h = tt
or_left false b h = absurd h

pub or_right : (a b : Bool) → T b → T (a || b)
or_right true b h = tt
or_right false b h = h

-- what an alternative leaves when its first part does not hold
pub or-then : (a b : Bool) → T (not a || b) → T a → T b
or-then true b h t = h
or-then false b h t = absurd t

-- a test that passed is true
pub is_true : (b : Bool) → T b → b ≡ true
is_true true t = refl
is_true false t = absurd t

pub is_false : (b : Bool) → T (not b) → b ≡ false
is_false true t = absurd t
is_false false t = refl

-- equal numbers pass the test, and those that fail it differ
pub eq→eqb : {m n : ℕ} → m ≡ n → T (eqb m n)
eq→eqb {m} {n} e = rw e (eqb_refl n)

pub neqb→ne : (m n : ℕ) → T (not (eqb m n)) → m ≢ n
neqb→ne m n h e = T_not (eqb m n) h (eq→eqb e)

pub eqb_swap : (m n : ℕ) → T (eqb m n) → T (eqb n m)
eqb_swap m n t = rw (eqb→eq m n t) (eqb_refl n)

pub eqb_same : (m n : ℕ) → eqb m n ≡ eqb n m
eqb_same m n = T-ext (eqb m n) (eqb n m) (eqb_swap m n) (eqb_swap n m)

-- two numbers differ where one passes a test that the other does not
pub differ : (p : ℕ → Bool) (j k : ℕ) → T (p j) → T (not (p k)) → T (not (eqb j k))
differ p j k h n = not_T (eqb j k) (λ t. T_not (p k) n (rw (eqb→eq j k t) at h))

module _ {A : Type 0} where
  -- what a test chooses, where its answer is known
  pub chosen : (b : Bool) (x y : A) → T b → elim b [ true ↦ x | false ↦ y ] ≡ x
  chosen true x y h = refl
  chosen false x y h = absurd h

  pub left_out : (b : Bool) (x y : A) → T (not b) → elim b [ true ↦ x | false ↦ y ] ≡ y
  left_out true x y h = absurd h
  left_out false x y h = refl

-- a test that every number of a list passes, at one of them
pub passes_at : (p : ℕ → Bool) (ks : List ℕ) → T (all p ks) → (k : ℕ) → T (has k ks) → T (p k)
passes_at p [] h k m = absurd m
passes_at p (x ∷ ks) h k m = go (eqb k x) (eqb→eq k x) m (passes_at p ks (and_right (p x) (all p ks) h) k)
  where
    go : (b : Bool) → (T b → k ≡ x) → T (b || has k ks) → (T (has k ks) → T (p k)) → T (p k)
    go true e _ _ = rw (e tt) (and_left (p x) (all p ks) h)
    go false e m later = later m
