-- Sums over lists, and counts as sums of ones. Nothing here is about functions or live sets.
use Rattle.std.specs.Prelude.{ℕ, zero, suc, ◌+◌, ◌*◌, ◌≤◌, ◌≡◌, refl, Bool, true, false, not, ◌||◌, length, get_or, T, eqb}
use Rattle.std.proofs.Common.{arith, add-mul, sym, ap, subst, ◌∙◌, length-append, eqb→eq}
use mathlib.Core.List.{List, [], ◌∷◌, Nodup, Nodup-cons}
use Rattle.std.proofs.Math.Dec.{not_T}
use Rattle.rules.specs.Lists.{concat_map, count, keep, has, up_from, NumberSet, adding}
use Rattle.rules.specs.Records.{bit}
use Rattle.lists.specs.Tests.{test-elim}
use Rattle.lists.specs.Members.{◌∈◌, here, there}
use Rattle.lists.specs.Counts.{bit-at-most, count-more}

module _ {A : Type 0} where
  -- what the members weigh together
  abbrev pub sum : (A → ℕ) → List A → ℕ
  sum g [] = 0
  sum g (x ∷ l) = g x + sum g l

  -- members that weigh no more, weigh no more together
  pub sum_mono : (g h : A → ℕ) (l : List A) → ((x : A) → x ∈ l → g x ≤ h x) → sum g l ≤ sum h l
  sum_mono g h [] le = omega arith
  sum_mono g h (x ∷ l) le = omega (arith, le x (here refl), sum_mono g h l (λ y m. le y (there m)))

  -- and less together by what one member weighs less
  pub sum_drop :
      (g h : A → ℕ) (d : ℕ) → ((x : A) → g x ≤ h x) → {y : A} {l : List A} → y ∈ l → g y + d ≤ h y
      → sum g l + d ≤ sum h l
  sum_drop g h d le {y} (here {x = x} {xs = l} e) k =
      let less : g x + d ≤ h x = subst (λ z. g z + d ≤ h z) e k in
      omega (arith, sum_mono g h l (λ z _. le z))
  sum_drop g h d le (there {x = x} m) k = omega (arith, le x, sum_drop g h d le m k)

  -- two weights of each member, added up together or apart
  pub sum-add : (g h : A → ℕ) (l : List A) → sum (λ x. g x + h x) l ≡ sum g l + sum h l
  sum-add g h [] = omega arith
  sum-add g h (x ∷ l) = omega (arith, sum-add g h l)

  -- the same multiple of each weight
  pub sum-mul : (g : A → ℕ) (c : ℕ) (l : List A) → sum (λ x. g x * c) l ≡ sum g l * c
  sum-mul g c [] = omega arith
  sum-mul g c (x ∷ l) = omega (arith, sum-mul g c l, add-mul (g x) (sum g l) c)

  -- nothing weighs nothing
  pub sum-zero : (l : List A) → sum (λ _. 0) l ≡ 0
  sum-zero [] = refl
  sum-zero (x ∷ l) = omega (arith, sum-zero l)

  -- members that weigh at most one weigh no more together than they are many
  pub sum-le-length : (g : A → ℕ) → ((x : A) → g x ≤ 1) → (l : List A) → sum g l ≤ length l
  sum-le-length g le [] = omega arith
  sum-le-length g le (x ∷ l) = omega (arith, le x, sum-le-length g le l)

  -- equal weights, equal sums
  pub sum-cong : (g h : A → ℕ) → ((x : A) → g x ≡ h x) → (l : List A) → sum g l ≡ sum h l
  sum-cong g h e l = ap (λ k. sum k l) (λ i x. e x i)

module _ {A B : Type 0} where
  -- the order of two sums does not matter
  pub sum-swap :
      (g : A → B → ℕ) (l : List A) (m : List B) → sum (λ x. sum (g x) m) l ≡ sum (λ y. sum (λ x. g x y) l) m
  sum-swap g [] m = sym (sum-zero m)
  sum-swap g (x ∷ l) m =
      ap (λ n. sum (g x) m + n) (sum-swap g l m) ∙ sym (sum-add (g x) (λ y. sum (λ z. g z y) l) m)

  -- lists one behind the other are as long as they are together
  pub length-concat_map : (g : A → List B) (l : List A) → length (concat_map g l) ≡ sum (λ x. length (g x)) l
  length-concat_map g [] = refl
  length-concat_map g (x ∷ l) = omega (arith, length-append (g x) (concat_map g l), length-concat_map g l)

module _ {A : Type 0} where
  -- A count is a sum of ones.
  pub count-sum : (p : A → Bool) (l : List A) → count p l ≡ sum (λ x. bit (p x)) l
  count-sum p [] = refl
  count-sum p (x ∷ l) = omega (arith, count-more p x l, count-sum p l)

  -- no more members pass a test than there are
  pub count-le-length : (p : A → Bool) (l : List A) → count p l ≤ length l
  count-le-length p l =
      omega (arith, count-sum p l, sum-le-length (λ x. bit (p x)) (λ x. bit-at-most (p x)) l)

  -- kept are as many as pass
  pub length-keep : (p : A → Bool) (l : List A) → length (keep p l) ≡ count p l
  length-keep p [] = refl
  length-keep p (x ∷ l) = go (p x) (length-keep p l)
    where
      go :
          (b : Bool) → length (keep p l) ≡ count p l
          → length {A = A} (elim b [ true ↦ x ∷ keep p l | false ↦ keep p l ])
          ≡ elim b [ true ↦ suc (count p l) | false ↦ count p l ]
      go true e = ap suc e
      go false e = e

-- one, where a test passes, and nothing where it does not
bit-mono : (a b : Bool) → (T a → T b) → bit a ≤ bit b
bit-mono true true h = omega arith
bit-mono true false h = absurd (h tt)
bit-mono false true h = omega arith
bit-mono false false h = omega arith

bit-drop : (a b : Bool) → T (not a) → T b → bit a + 1 ≤ bit b
bit-drop true b h k = absurd h
bit-drop false true h k = omega arith
bit-drop false false h k = absurd k

bit-false : (a : Bool) → T (not a) → bit a ≡ 0
bit-false true h = absurd h
bit-false false h = refl

bit-or : (a b c : Bool) → bit ((a || b) || c) ≤ bit a + bit (b || c)
bit-or true b c = omega (arith, bit-at-most true)
bit-or false b c = omega arith

module _ {A : Type 0} (p q : A → Bool) where
  -- no more members pass a test than a weaker one
  pub count-mono : (l : List A) → ((x : A) → x ∈ l → T (p x) → T (q x)) → count p l ≤ count q l
  count-mono l weaker =
      omega (
        arith,
        count-sum p l,
        count-sum q l,
        sum_mono (λ x. bit (p x)) (λ x. bit (q x)) l (λ x m. bit-mono (p x) (q x) (weaker x m)),
      )

  -- and fewer, if a member passes only the weaker one
  pub count-drop :
      ((x : A) → T (p x) → T (q x)) → {y : A} {l : List A} → y ∈ l → T (not (p y)) → T (q y)
      → count p l + 1 ≤ count q l
  count-drop weaker {y} {l} m out into =
      omega (
        arith,
        count-sum p l,
        count-sum q l,
        sum_drop (λ x. bit (p x)) (λ x. bit (q x)) 1 (λ x. bit-mono (p x) (q x) (weaker x)) m
            (bit-drop (p y) (q y) out into),
      )

-- none is counted where none passes
pub count_none : {A : Type 0} (p : A → Bool) (l : List A) → ((x : A) → x ∈ l → T (not (p x))) → count p l ≡ 0
count_none p [] h = refl
count_none p (x ∷ l) h =
    omega (arith, count-more p x l, bit-false (p x) (h x (here refl)), count_none p l (λ y m. h y (there m)))

-- in a list without repetitions a number stands once at most
pub count-eqb-le : (y : ℕ) (l : List ℕ) → Nodup l → count (λ x. eqb x y) l ≤ 1
count-eqb-le y [] d = omega arith
count-eqb-le y (x ∷ l) d =
    let parts = Nodup-cons.0 d in
    test-elim (eqb x y)
    (λ same.
    let e : x ≡ y = eqb→eq x y same in
    let none : count (λ z. eqb z y) l ≡ 0 =
    count_none (λ z. eqb z y) l
    (λ z m. not_T (eqb z y) (λ t. parts.0 ∣ subst (λ u. u ∈ l) (eqb→eq z y t ∙ sym e) m ∣₁)) in
    omega (arith, count-more (λ z. eqb z y) x l, bit-at-most (eqb x y)))
    (λ other.
    omega (arith, count-more (λ z. eqb z y) x l, bit-false (eqb x y) other, count-eqb-le y l parts.1))

-- So numbers without repetitions are found in a list no more often than it is long.
pub sum-count-le : (bs : List ℕ) → Nodup bs → (l : List ℕ) → sum (λ b. count (eqb b) l) bs ≤ length l
sum-count-le bs d l =
    let once : (y : ℕ) → sum (λ b. bit (eqb b y)) bs ≤ 1 =
    λ y. omega (arith, count-sum (λ b. eqb b y) bs, count-eqb-le y bs d) in
    let swapped : sum (λ b. count (eqb b) l) bs ≡ sum (λ y. sum (λ b. bit (eqb b y)) bs) l =
    sum-cong (λ b. count (eqb b) l) (λ b. sum (λ y. bit (eqb b y)) l) (λ b. count-sum (eqb b) l) bs
    ∙ sum-swap (λ b y. bit (eqb b y)) bs l in
    omega (arith, sum-le-length (λ y. sum (λ b. bit (eqb b y)) bs) once l)

-- Of numbers without repetitions, no more come into a set than are added.
pub count-adding : (ps : List ℕ) (s : NumberSet) (l : List ℕ) → Nodup l → count (adding ps s) l ≤ length ps + count s l
count-adding [] s l d = omega arith
count-adding (p ∷ ps) s l d =
    let step : sum (λ x. bit (adding (p ∷ ps) s x)) l ≤ sum (λ x. bit (eqb x p) + bit (adding ps s x)) l =
    sum_mono _ _ l (λ x _. bit-or (eqb x p) (has x ps) (s x)) in
    omega (
      arith,
      count-adding ps s l d,
      count-eqb-le p l d,
      count-sum (adding (p ∷ ps) s) l,
      count-sum (adding ps s) l,
      count-sum (λ x. eqb x p) l,
      sum-add (λ x. bit (eqb x p)) (λ x. bit (adding ps s x)) l,
    )

-- what is counted from one number on is counted from the number before, one higher
count-up_from : (p : ℕ → Bool) (n k : ℕ) → count p (up_from (suc n) k) ≡ count (λ x. p (suc x)) (up_from n k)
count-up_from p n zero = refl
count-up_from p n (suc k) =
    omega (
      arith,
      count-more p (suc n) (up_from (suc (suc n)) k),
      count-more (λ x. p (suc x)) n (up_from (suc n) k),
      count-up_from p (suc n) k,
    )

-- The members of a list that pass a test are counted by their places.
pub count-places :
    {A : Type 0} (p : A → Bool) (d : A) (l : List A) → count (λ i. p (get_or l i d)) (up_from 0 (length l)) ≡ count p l
count-places p d [] = refl
count-places p d (x ∷ l) =
    omega (
      arith,
      count-more p x l,
      count-more (λ i. p (get_or (x ∷ l) i d)) 0 (up_from 1 (length l)),
      count-up_from (λ i. p (get_or (x ∷ l) i d)) 0 (length l),
      count-places p d l,
    )
