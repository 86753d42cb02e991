-- A number taken out of a list, and moved to its top. Nothing here is about functions or live sets.
use Rattle.std.specs.Prelude.{ℕ, ◌≤◌, ◌≡◌, refl, Bool, true, false, not, ◌&&◌, length, T, eqb}
use Rattle.std.proofs.Common.{arith, sym, ap, ◌∙◌, T_not, eqb→eq}
use mathlib.Core.List.{List, [], ◌∷◌, Nodup, Nodup-cons}
use Rattle.std.proofs.Math.Dec.{not_T, eqb_refl}
use Rattle.rules.specs.Lists.{keep, count}
use Rattle.lists.specs.Tests.{if-elim, chosen, left_out}
use Rattle.lists.specs.Members.{◌∈◌, here, there, find}
use Rattle.fixpoint.specs.Sums.{sum, sum-count-le, count-drop}
use Rattle.fixpoint.specs.Finding.{keep-passes, keep-∈}

T_not-not : (a : Bool) → T a → T (not (not a))
T_not-not true t = tt
T_not-not false t = absurd t

-- a list without a number
abbrev pub remove : ℕ → List ℕ → List ℕ
remove b = keep (λ x. not (eqb x b))

-- a list with a number moved to its top, or put there
abbrev pub move_to_top : ℕ → List ℕ → List ℕ
move_to_top b l = b ∷ remove b l

-- the head goes where it is the number,
pub remove-head : (b x : ℕ) (l : List ℕ) → T (eqb x b) → remove b (x ∷ l) ≡ remove b l
remove-head b x l t = left_out (not (eqb x b)) (x ∷ remove b l) (remove b l) (T_not-not (eqb x b) t)

-- and stays where it is another
pub remove-other : (b x : ℕ) (l : List ℕ) → T (not (eqb x b)) → remove b (x ∷ l) ≡ x ∷ remove b l
remove-other b x l n = chosen (not (eqb x b)) (x ∷ remove b l) (remove b l) n

-- what is kept of what is kept
keep-keep : {A : Type 0} (p q : A → Bool) (l : List A) → keep p (keep q l) ≡ keep (λ x. q x && p x) l
keep-keep p q [] = refl
keep-keep {A} p q (x ∷ l) = go (q x) (keep-keep p q l)
  where
    go :
        (b : Bool) → keep p (keep q l) ≡ keep (λ y. q y && p y) l
        → keep {A = A} p (elim b [ true ↦ x ∷ keep q l | false ↦ keep q l ])
        ≡ elim (b && p x) [ true ↦ x ∷ keep (λ y. q y && p y) l | false ↦ keep (λ y. q y && p y) l ]
    go true e = ap {B = List A} (λ r. elim (p x) [ true ↦ x ∷ r | false ↦ r ]) e
    go false e = e

and_comm : (a b : Bool) → a && b ≡ b && a
and_comm true true = refl
and_comm true false = refl
and_comm false true = refl
and_comm false false = refl

and-idem : (a : Bool) → a && a ≡ a
and-idem true = refl
and-idem false = refl

-- two numbers are taken out in either order
pub remove-comm : (a b : ℕ) (l : List ℕ) → remove a (remove b l) ≡ remove b (remove a l)
remove-comm a b l =
    keep-keep (λ x. not (eqb x a)) (λ x. not (eqb x b)) l
    ∙ ap (λ p. keep p l) (λ i x. and_comm (not (eqb x b)) (not (eqb x a)) i)
    ∙ sym (keep-keep (λ x. not (eqb x b)) (λ x. not (eqb x a)) l)

-- a number is taken out once and for all
pub remove-idem : (b : ℕ) (l : List ℕ) → remove b (remove b l) ≡ remove b l
remove-idem b l =
    keep-keep (λ x. not (eqb x b)) (λ x. not (eqb x b)) l ∙ ap (λ p. keep p l) (λ i x. and-idem (not (eqb x b)) i)

-- a number that is not there cannot be taken out
pub remove_absent : (b : ℕ) (l : List ℕ) → (b ∈ l → ⊥) → remove b l ≡ l
remove_absent b [] h = refl
remove_absent b (x ∷ l) h =
    remove-other b x l (not_T (eqb x b) (λ t. h (here (sym (eqb→eq x b t)))))
    ∙ ap (λ r. x ∷ r) (remove_absent b l (λ m. h (there m)))

-- a number that was taken out is not there
pub remove-gone : (b : ℕ) (l : List ℕ) → b ∈ remove b l → ⊥
remove-gone b l m = T_not (eqb b b) (keep-passes (λ x. not (eqb x b)) l m) (eqb_refl b)

-- a part of a list without repetitions has none
pub nodup-keep : (p : ℕ → Bool) (l : List ℕ) → Nodup l → Nodup (keep p l)
nodup-keep p [] d = d
nodup-keep p (x ∷ l) d =
    let parts = Nodup-cons.0 d in
    let rest = nodup-keep p l parts.1 in
    if-elim (λ (r : List ℕ). Nodup r) (p x) (x ∷ keep p l) (keep p l)
    (λ _. Nodup-cons.1 (λ m. parts.0 ∣ keep-∈ p l (find m) ∣₁, rest))
    (λ _. rest)

-- to move a number to the top makes no repetition
pub nodup-move_to_top : (b : ℕ) (l : List ℕ) → Nodup l → Nodup (move_to_top b l)
nodup-move_to_top b l d = Nodup-cons.1 (λ m. remove-gone b l (find m), nodup-keep (λ x. not (eqb x b)) l d)

-- members that weigh at least one are no more than they weigh
length-le-sum : (g : ℕ → ℕ) (l : List ℕ) → ((x : ℕ) → x ∈ l → 1 ≤ g x) → length l ≤ sum g l
length-le-sum g [] h = omega arith
length-le-sum g (x ∷ l) h = omega (arith, h x (here refl), length-le-sum g l (λ y m. h y (there m)))

-- numbers without repetitions that are all in a list are no more than it is long
pub nodup-subset-length-le : (l m : List ℕ) → Nodup l → ((x : ℕ) → x ∈ l → x ∈ m) → length l ≤ length m
nodup-subset-length-le l m d h =
    omega (
      arith,
      sum-count-le l d m,
      length-le-sum (λ x. count (eqb x) m) l
          (λ x k. omega (arith, count-drop (λ _. false) (eqb x) (λ _ t. absurd t) (h x k) tt (eqb_refl x))),
    )
