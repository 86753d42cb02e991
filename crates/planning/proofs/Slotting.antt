-- Slots for the spilled values of a row: one value, and one more.
use Prim.Native.Nat.{ℕ, zero, suc, ◌+◌, ◌-◌, ◌<◌, ◌≤◌}
use mathlib.Core.Path.{◌≡◌, refl, sym, ap, subst, ◌∙◌}
use mathlib.Core.Bool.{Bool, true, false, not, ◌&&◌}
use mathlib.Core.List.{List, [], ◌∷◌}
use native.Mathlib.Omega.{arith}
use lib.ListN.{length}
use lib.Dec.{T}
use Rattle.rules.specs.Lists.{is_none, keep, up_from, NumberSet}
use Rattle.rules.specs.Tree.{Function}
use Rattle.rules.specs.Graph.{size_of}
use Rattle.rules.specs.Slots.{StackSlots}
use Rattle.lists.specs.Lack.{lack, one}
use Rattle.rows.specs.Rows.{rows, row_values, minus}
use Rattle.planning.specs.Standing.{Asked, slots_by, give_all, Slotting, Slotted, spilled_from}
use Rattle.planning.proofs.Asking.{asked-slots, asked-known, asked-room, asked-grows, give-again}

pub slotting-start : (all asked steps : List ℕ) (n : ℕ) → Slotting all all asked steps n asked steps n
slotting-start all asked steps n =
    record { slots = λ f known. refl; known = λ f known. known; room = λ k h. h; grows = λ v h. h; asked_long = refl; steps_long = refl }

module _ (spilled set : NumberSet) (v : ℕ) (asked steps : List ℕ) (n : ℕ) where
  -- a value that is in both sets is asked for
  pub slotted-in :
      set v ≡ true → spilled v ≡ true → v < row_values → n + lack one row_values (rows asked 0) + 0 ≤ length steps
      → (asked' steps' : List ℕ) (n' : ℕ) → Asked v asked steps n asked' steps' n'
      → Slotted (spilled_from spilled set v 1) asked steps n asked' steps' n'
  slotted-in e d low room asked' steps' n' a = rw (e, d, keep) asks
    where
      asks : Slotted (v ∷ []) asked steps n asked' steps' n'
      asks =
          record {
            slots = asked-slots v low asked steps n 0 room asked' steps' n' a;
            known = asked-known v low asked steps n 0 room asked' steps' n' a;
            room = λ k h. asked-room v low asked steps n k h asked' steps' n' a;
            grows = asked-grows v low asked steps n 0 room asked' steps' n' a;
            asked_long = a.asked_long;
            steps_long = a.steps_long;
          }

-- one value, and those behind it
give-more :
    (f : Function) (spilled set : NumberSet) (v m : ℕ) (x : StackSlots)
    → give_all f (spilled_from spilled set (suc v) m) (give_all f (spilled_from spilled set v 1) x) ≡ give_all f (spilled_from spilled set v (suc m)) x
give-more f spilled set v m x = go (set v)
  where
    rest : List ℕ
    rest = keep set (up_from (suc v) m)

    inner :
        (b : Bool)
        → give_all f (keep spilled rest) (give_all f (elim b [ true ↦ v ∷ [] | false ↦ [] ]) x)
        ≡ give_all f (elim b [ true ↦ v ∷ keep spilled rest | false ↦ keep spilled rest ]) x
    inner true = refl
    inner false = refl

    go :
        (b : Bool)
        → give_all f (keep spilled rest) (give_all f (keep spilled (elim b [ true ↦ v ∷ [] | false ↦ [] ])) x)
        ≡ give_all f (keep spilled (elim b [ true ↦ v ∷ rest | false ↦ rest ])) x
    go true = inner (spilled v)
    go false = refl

-- Values that are in the set only where they have a slot are given none.
module _ (f : Function) (spilled set : NumberSet) (x : StackSlots) where
  abbrev Slotless : ℕ → Type 0
  Slotless v = set v ≡ true → not (is_none (x.slot_of v)) ≡ true

  give-none : (v : ℕ) → Slotless v → give_all f (spilled_from spilled set v 1) x ≡ x
  give-none v h = go (set v) refl
    where
      inner : (b : Bool) → not (is_none (x.slot_of v)) ≡ true → give_all f (elim b [ true ↦ v ∷ [] | false ↦ [] ]) x ≡ x
      inner true has = give-again v (size_of f v) x has
      inner false has = refl

      go : (b : Bool) → set v ≡ b → give_all f (keep spilled (elim b [ true ↦ v ∷ [] | false ↦ [] ])) x ≡ x
      go true e = inner (spilled v) (h e)
      go false e = refl

  give-passed :
      (k v m : ℕ) → ((i : ℕ) → i < k → Slotless (v + i)) → give_all f (spilled_from spilled set v (k + m)) x ≡ give_all f (spilled_from spilled set (v + k) m) x
  give-passed zero v m none =
      let here : v + 0 ≡ v = omega arith in
      let all : 0 + m ≡ m = omega arith in
      ap (λ (j : ℕ). give_all f (spilled_from spilled set v j) x) all ∙ ap (λ (u : ℕ). give_all f (spilled_from spilled set u m) x) (sym here)
  give-passed (suc k) v m none =
      let here : v + 0 ≡ v = omega arith in
      let more : suc k + m ≡ suc (k + m) = omega arith in
      let next : suc v + k ≡ v + suc k = omega arith in
      ap (λ (j : ℕ). give_all f (spilled_from spilled set v j) x) more
      ∙ sym (give-more f spilled set v (k + m) x)
      ∙ ap (give_all f (spilled_from spilled set (suc v) (k + m))) (give-none v (subst Slotless here (none 0 (omega arith))))
      ∙ give-passed k (suc v) m (λ i l. let there : v + suc i ≡ suc v + i = omega arith in subst Slotless there (none (suc i) (omega arith)))
      ∙ ap (λ (u : ℕ). give_all f (spilled_from spilled set u m) x) next

-- in a set, and not left of it without another: so in that one
both-in : (a b : Bool) → a ≡ true → (a && not b) ≡ false → b ≡ true
both-in true true e h = refl
both-in true false e h = sym h
both-in false b e h = absurd (subst T (sym e) tt)

module _ (spilled set : NumberSet) (all asked steps : List ℕ) (n : ℕ) (asked₁ steps₁ : List ℕ) (n₁ : ℕ) where
  -- VALUES PASSED OVER, each not in the set or asked for before
  pub slotting-passed :
      (v r end : ℕ) → v ≤ r → r ≤ end → end ≤ row_values → ((u : ℕ) → v ≤ u → u < r → minus set (rows asked 0) u ≡ false)
      → Slotting (spilled_from spilled set v (end - v)) all asked steps n asked₁ steps₁ n₁
      → Slotting (spilled_from spilled set r (end - r)) all asked steps n asked₁ steps₁ n₁
  slotting-passed v r end l m low none done =
      let whole : end - v ≡ (r - v) + (end - r) = omega arith in
      let there : v + (r - v) ≡ r = omega arith in
      record {
        slots =
            λ f known.
            let x = slots_by f steps₁ n₁ in
            ap (λ (u : ℕ). give_all f (spilled_from spilled set u (end - r)) x) (sym there)
            ∙ sym
            (give-passed f spilled set x (r - v) v (end - r)
            (λ i h e.
            sym (done.known f known (v + i) (omega arith)) ∙ done.grows (v + i) (both-in (set (v + i)) (rows asked 0 (v + i)) e (none (v + i) (omega arith) (omega arith)))))
            ∙ ap (λ (j : ℕ). give_all f (spilled_from spilled set v j) x) (sym whole)
            ∙ done.slots f known;
        known = done.known;
        room = done.room;
        grows = done.grows;
        asked_long = done.asked_long;
        steps_long = done.steps_long;
      }

  -- A LOOP'S TURN
  pub slotting-turn :
      (v end : ℕ) → v < end → Slotting (spilled_from spilled set v (end - v)) all asked steps n asked₁ steps₁ n₁
      → (asked₂ steps₂ : List ℕ) (n₂ : ℕ) → Slotted (spilled_from spilled set v 1) asked₁ steps₁ n₁ asked₂ steps₂ n₂
      → Slotting (spilled_from spilled set (v + 1) (end - (v + 1))) all asked steps n asked₂ steps₂ n₂
  slotting-turn v end l done asked₂ steps₂ n₂ next =
      let up : v + 1 ≡ suc v = omega arith in
      let left : end - v ≡ suc (end - suc v) = omega arith in
      rw up
      (record {
        slots =
            λ f known.
            ap (give_all f (spilled_from spilled set (suc v) (end - suc v))) (next.slots f (done.known f known))
            ∙ give-more f spilled set v (end - suc v) (slots_by f steps₁ n₁)
            ∙ ap (λ (m : ℕ). give_all f (spilled_from spilled set v m) (slots_by f steps₁ n₁)) (sym left)
            ∙ done.slots f known;
        known = λ f known. next.known f (done.known f known);
        room = λ k h. next.room k (done.room k h);
        grows = λ w h. next.grows w (done.grows w h);
        asked_long = next.asked_long ∙ done.asked_long;
        steps_long = next.steps_long ∙ done.steps_long;
      })

  -- at its end none is left
  pub slotting-end :
      (v end : ℕ) → v ≡ end → Slotting (spilled_from spilled set v (end - v)) all asked steps n asked₁ steps₁ n₁
      → Slotted all asked steps n asked₁ steps₁ n₁
  slotting-end v end e done =
      let none : end - v ≡ 0 = omega (arith, e) in
      rw none at done
