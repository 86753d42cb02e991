-- A stack in the first places of a table, in which a number that stands there is moved to the top: the loop of a push.
use Prim.Native.Nat.{ℕ, zero, suc, ◌-◌, ◌<◌, ◌≤◌}
use native.Mathlib.Omega.{arith}
use mathlib.Core.Path.{◌≡◌, refl, sym, ap, ap₂, subst, ◌∙◌}
use mathlib.Core.Logic.{◌≢◌}
use mathlib.Core.Bool.{true, false, not}
use mathlib.Core.List.{List, ◌∷◌, Nodup, Nodup-cons}
use lib.ListN.{length, get_or, set, length-set}
use lib.Seq.{get_or-set_same, get_or-set_other}
use lib.Dec.{T, not_T, eqb, eqb→eq}
use Rattle.rules.specs.Lists.{has}
use Rattle.lists.specs.Down.{down, down-same}
use Rattle.lists.specs.Tests.{test-elim, if-elim, or_elim, chosen, left_out, eq→eqb, neqb→ne}
use Rattle.lists.specs.Members.{◌∈◌}
use Rattle.fixpoint.specs.Removal.{remove, move_to_top, remove-head, remove-other, remove_absent}

-- the first k places, the last on top
abbrev pub stack : List ℕ → ℕ → List ℕ
stack t k = down (λ j. get_or t j 0) k

-- what is written at place k leaves those below as they were,
stack-below : (t : List ℕ) (k x : ℕ) → stack (set t k x) k ≡ stack t k
stack-below t k x =
    down-same (λ j. get_or (set t k x) j 0) (λ j. get_or t j 0) k (λ j m. get_or-set_other t k j x 0 (λ e. omega arith))

-- and is on top of them
pub stack_set : (t : List ℕ) (k x : ℕ) → k < length t → stack (set t k x) (suc k) ≡ x ∷ stack t k
stack_set t k x l = ap₂ (λ y ys. y ∷ ys) (get_or-set_same t k x 0 l) (stack-below t k x)

-- THE TABLE THAT THE LOOP LEAVES, from place k - 1 down: what is carried is written and what stood there carried on, as far as b.
abbrev pub raise : ℕ → ℕ → List ℕ → ℕ → List ℕ
raise b carried t zero = t
raise b carried t (suc i) =
    elim (eqb (get_or t i 0) b) [ true ↦ set t i carried | false ↦ raise b (get_or t i 0) (set t i carried) i ]

module _ (b carried : ℕ) (t : List ℕ) (i : ℕ) where
  raise-found : T (eqb (get_or t i 0) b) → raise b carried t (suc i) ≡ set t i carried
  raise-found = chosen (eqb (get_or t i 0) b) (set t i carried) (raise b (get_or t i 0) (set t i carried) i)

  raise-passed : T (not (eqb (get_or t i 0) b)) → raise b carried t (suc i) ≡ raise b (get_or t i 0) (set t i carried) i
  raise-passed = left_out (eqb (get_or t i 0) b) (set t i carried) (raise b (get_or t i 0) (set t i carried) i)

-- no place above is changed
raise-above : (b carried : ℕ) (t : List ℕ) (k j : ℕ) → k ≤ j → get_or (raise b carried t k) j 0 ≡ get_or t j 0
raise-above b carried t zero j l = refl
raise-above b carried t (suc i) j l =
    let other : get_or (set t i carried) j 0 ≡ get_or t j 0 = get_or-set_other t i j carried 0 (λ e. omega arith) in
    if-elim (λ (r : List ℕ). get_or r j 0 ≡ get_or t j 0) (eqb (get_or t i 0) b) (set t i carried) (raise b (get_or t i 0) (set t i carried) i)
    (λ _. other) (λ _. raise-above b (get_or t i 0) (set t i carried) i j (omega arith) ∙ other)

-- where b is not at the place, it is below
below-passed : (b : ℕ) (t : List ℕ) (i : ℕ) → T (not (eqb (get_or t i 0) b)) → T (has b (stack t (suc i))) → T (has b (stack t i))
below-passed b t i other h =
    or_elim (eqb b (get_or t i 0)) (has b (stack t i)) (λ e. absurd (neqb→ne (get_or t i 0) b other (sym (eqb→eq b (get_or t i 0) e)))) (λ m. m) h

-- A number that stands on the stack once goes; what stood above it is one place lower, and what is carried is on top.
raise-stack :
    (b carried : ℕ) (t : List ℕ) (k : ℕ) → k ≤ length t → T (has b (stack t k)) → Nodup (stack t k)
    → stack (raise b carried t k) k ≡ carried ∷ remove b (stack t k)
raise-stack b carried t zero l h d = absurd h
raise-stack b carried t (suc i) l h d =
    test-elim (eqb x b) found
    (λ other.
    passed other
    (raise-stack b x (set t i carried) i (omega (arith, length-set t i carried))
    (subst (λ r. T (has b r)) (sym (stack-below t i carried)) (below-passed b t i other h))
    (subst (λ (r : List ℕ). Nodup r) (sym (stack-below t i carried)) (Nodup-cons.0 d).1)))
  where
    x : ℕ
    x = get_or t i 0

    found : T (eqb x b) → stack (raise b carried t (suc i)) (suc i) ≡ carried ∷ remove b (stack t (suc i))
    found same =
        let absent : b ∈ stack t i → ⊥ = λ m. (Nodup-cons.0 d).0 ∣ subst (λ y. y ∈ stack t i) (sym (eqb→eq x b same)) m ∣₁ in
        ap (λ r. stack r (suc i)) (raise-found b carried t i same)
        ∙ stack_set t i carried (omega arith)
        ∙ ap (λ r. carried ∷ r) (sym (remove-head b x (stack t i) same ∙ remove_absent b (stack t i) absent))

    passed :
        T (not (eqb x b)) → stack (raise b x (set t i carried) i) i ≡ x ∷ remove b (stack (set t i carried) i)
        → stack (raise b carried t (suc i)) (suc i) ≡ carried ∷ remove b (stack t (suc i))
    passed other lower =
        ap (λ r. stack r (suc i)) (raise-passed b carried t i other)
        ∙ ap₂ (λ y ys. y ∷ ys) (raise-above b x (set t i carried) i i (omega arith) ∙ get_or-set_same t i carried 0 (omega arith))
        (lower ∙ ap (λ r. x ∷ remove b r) (stack-below t i carried))
        ∙ ap (λ r. carried ∷ r) (sym (remove-other b x (stack t i) other))

-- THE LOOP with k places left: the number stands there, and what is left to do leads to the table that is sought.
pub record Raising (b : ℕ) (old : List ℕ) (n carried k : ℕ) (t : List ℕ) : Type 0 where
  pub long : length t ≡ length old
  pub stands : T (has b (stack t k))
  pub rest : raise b carried t k ≡ raise b b old n

-- at first all are left
pub raising-start : (b : ℕ) (old : List ℕ) (n : ℕ) → T (has b (stack old n)) → Raising b old n b n old
raising-start b old n h = record { long = refl; stands = h; rest = refl }

-- where a number stands among the first k places, there is one
pub has_some : (b : ℕ) (t : List ℕ) (k : ℕ) → T (has b (stack t k)) → 0 < k
has_some b t zero h = absurd h
has_some b t (suc k) h = omega arith

module _ (b : ℕ) (old : List ℕ) (n carried k : ℕ) (t : List ℕ) (h : Raising b old n carried k t) where
  abbrev i : ℕ
  i = k - 1

  last : k ≡ suc i
  last = omega (arith, has_some b t k h.stands)

  stands_last : T (has b (stack t (suc i)))
  stands_last = subst (λ j. T (has b (stack t j))) last h.stands

  rest_last : raise b carried t (suc i) ≡ raise b b old n
  rest_last = ap (raise b carried t) (sym last) ∙ h.rest

  -- where another number stands at the last of them, it is left below;
  pub raising-more : get_or t i 0 ≢ b → Raising b old n (get_or t i 0) i (set t i carried)
  raising-more ne =
      let other : T (not (eqb (get_or t i 0) b)) = not_T (eqb (get_or t i 0) b) (λ e. ne (eqb→eq (get_or t i 0) b e)) in
      record {
        long = length-set t i carried ∙ h.long;
        stands = subst (λ r. T (has b r)) (sym (stack-below t i carried)) (below-passed b t i other stands_last);
        rest = sym (raise-passed b carried t i other) ∙ rest_last;
      }

  -- where it is the number, what is carried is written there, and that is all.
  pub raising-done :
      get_or t i 0 ≡ b → n ≤ length old → T (has b (stack old n)) → Nodup (stack old n)
      → stack (set t i carried) n ≡ move_to_top b (stack old n)
  raising-done e room s d =
      ap (λ r. stack r n) (sym (raise-found b carried t i (eq→eqb e)) ∙ rest_last) ∙ raise-stack b b old n room s d
