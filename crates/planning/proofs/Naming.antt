-- What a value found among others says of the record that names it.
use Prim.Native.Nat.{ℕ, ◌<◌}
use mathlib.Core.Path.{◌≡◌, refl, sym, ap, subst, ◌∙◌}
use mathlib.Core.Bool.{Bool, true, false, not, cond}
use mathlib.Core.Option.{Option as Maybe, none, some}
use mathlib.Core.List.{List}
use lib.Dec.{T, ltb, ltb→lt, nltb→le}
use Rattle.rules.specs.Lists.{is_none, NumberSet}
use Rattle.rules.specs.File.{function_in}
use Rattle.rules.specs.Liveness.{is_spilled}
use Rattle.rules.specs.Plan.{Plan, plan_load, plan_store}
use Rattle.lists.specs.Tests.{test-elim}
use Rattle.rows.specs.Rows.{rows, row_values, rows-far}
use Rattle.std.specs.Prelude.{Option, Some, None, is_some}
use Rattle.planning.specs.Operands.{among_of, Reading, use_by, define_by}

-- the value
abbrev value_in : Option ℕ → ℕ
value_in (Some v) = v
value_in None = 0

-- a value that a row has
pub among-value : (set : NumberSet) (x : Option ℕ) (v : ℕ) → among_of set x ≡ Some v → (x ≡ Some v) × (set v ≡ true)
among-value set (Some w) v e = go (set w) refl e
  where
    go : (b : Bool) → set w ≡ b → cond b (Some w) None ≡ Some v → (Some w ≡ Some v) × (set v ≡ true)
    go true q e = (e, ap set (sym (ap value_in e)) ∙ q)
    go false q e = absurd (subst T (sym (ap is_some e)) tt)
among-value set None v e = absurd (subst T (sym (ap is_some e)) tt)

-- no row has a value beyond its bits
pub in_row : (t : List ℕ) (v : ℕ) → rows t 0 v ≡ true → v < row_values
in_row t v e =
    test-elim (ltb v row_values) (λ h. ltb→lt v row_values h)
    (λ h. absurd (subst T (sym e ∙ rows-far t 0 v (nltb→le v row_values h)) tt))

module _ (s spilled : List ℕ) (r : Reading s spilled) (pointer : ℕ) where
  pub spilled-is : (v : ℕ) → rows spilled 0 v ≡ is_spilled (function_in s) v
  spilled-is v = ap (λ (t : NumberSet). t v) r.is_row

  -- a record that names a spilled value uses it,
  pub use-spilled :
      (x : Option ℕ) (v : ℕ) → among_of (rows spilled 0) x ≡ Some v → (p : Plan)
      → use_by s pointer x p ≡ plan_load (function_in s) pointer v p
  use-spilled x v e p =
      let found = among-value (rows spilled 0) x v e in
      rw (found.0, sym (spilled-is v) ∙ found.1)

  -- and another makes nothing
  pub use-other : (x : Option ℕ) → among_of (rows spilled 0) x ≡ None → (p : Plan) → use_by s pointer x p ≡ (none, p)
  use-other (Some v) e p = go (rows spilled 0 v) refl e
    where
      go : (b : Bool) → rows spilled 0 v ≡ b → cond b (Some v) None ≡ None → use_by s pointer (Some v) p ≡ (none, p)
      go true q e = absurd (subst T (ap is_some e) tt)
      go false q e = rw (sym (spilled-is v) ∙ q)
  use-other None e p = refl

  -- A record that names a spilled value defines it; one that does not, or whose value has not been asked for, does nothing.
  pub define-spilled :
      (set : NumberSet) (x : Option ℕ) (v : ℕ) → among_of set (among_of (rows spilled 0) x) ≡ Some v
      → (x ≡ Some v) × (is_spilled (function_in s) v ≡ true) × (set v ≡ true)
  define-spilled set x v e =
      let outer = among-value set (among_of (rows spilled 0) x) v e in
      let inner = among-value (rows spilled 0) x v outer.0 in
      (inner.0, sym (spilled-is v) ∙ inner.1, outer.1)

  pub define-other :
      (set : NumberSet) (p : Plan) → ((v : ℕ) → v < row_values → set v ≡ not (is_none (p.slots.slot_of v)))
      → (x : Option ℕ) → among_of set (among_of (rows spilled 0) x) ≡ None → define_by s pointer x p ≡ (none, p)
  define-other set p known (Some v) e = go (rows spilled 0 v) refl e
    where
      unasked : rows spilled 0 v ≡ true → set v ≡ false → (o : Maybe ℕ) → p.slots.slot_of v ≡ o → plan_store (function_in s) pointer v o p ≡ (none, p)
      unasked q z none w = refl
      unasked q z (some slot) w =
          absurd (subst T (sym (known v (in_row spilled v q) ∙ ap (λ (o : Maybe ℕ). not (is_none o)) w) ∙ z) tt)

      inner : (b : Bool) → set v ≡ b → rows spilled 0 v ≡ true → cond b (Some v) None ≡ None
          → define_by s pointer (Some v) p ≡ (none, p)
      inner true z q e = absurd (subst T (ap is_some e) tt)
      inner false z q e = rw (sym (spilled-is v) ∙ q) (unasked q z (p.slots.slot_of v) refl)

      go : (b : Bool) → rows spilled 0 v ≡ b → among_of set (cond b (Some v) None) ≡ None
          → define_by s pointer (Some v) p ≡ (none, p)
      go true q e = inner (set v) refl q e
      go false q e = rw (sym (spilled-is v) ∙ q)
  define-other set p known None e = refl
