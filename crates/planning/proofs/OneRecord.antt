-- The record at a place, on the tables: what it uses or defines is found, and its number noted.
use Prim.Native.Nat.{ℕ, ◌+◌, ◌*◌, ◌<◌}
use mathlib.Core.Path.{◌≡◌, sym, ap, ◌∙◌}
use mathlib.Core.Bool.{Bool, true, false, cond}
use mathlib.Core.Option.{some}
use mathlib.Core.List.{List}
use lib.ListN.{set}
use Rattle.std.specs.Prelude.{Option, Some, None}
use Rattle.rules.specs.Tree.{Function}
use Rattle.rules.specs.File.{function_in}
use Rattle.rules.specs.Plan.{plan_load, plan_definition}
use Rattle.rows.specs.Rows.{rows, row_values}
use Rattle.planning.specs.Operands.{among_of, Reading, operand_at, use_at, define_by, define_at}
use Rattle.planning.specs.Standing.{Tables, tables, plan_of, Good, Ran, Walked}
use Rattle.planning.specs.Walking.{next-value, walked_none, walked-some}
use Rattle.planning.proofs.Naming.{among-value, in_row, use-spilled, use-other, define-spilled, define-other}
use Rattle.planning.proofs.Storing.{stored, stored-number}

module _ (s spilled : List ℕ) (r : Reading s spilled) (kind place : ℕ) (t : Tables) (numbers : List ℕ) (g : Good (function_in s) t 1) (v : ℕ) where
  abbrev f : Function
  f = function_in s

  abbrev pointer : ℕ
  pointer = t.progress.pointer

  module _ (y : Option ℕ) (among : y ≡ among_of (rows spilled 0) (operand_at s kind place)) where
    -- a spilled value has a bit in every row
    pub used_low : y ≡ Some v → v < row_values
    used_low e = in_row spilled v (among-value (rows spilled 0) (operand_at s kind place) v (sym among ∙ e)).1

    pub used :
        y ≡ Some v → (u : Tables) → Ran f (plan_load f pointer v) 1 t u
        → Walked f (use_at s pointer kind) place 1 t numbers u (set numbers place (t.progress.given + t.progress.made + 1))
    used e u ran =
        walked-some f (use_at s pointer kind) place (plan_load f pointer v) t u numbers (t.progress.given + t.progress.made)
        (use-spilled s spilled r pointer (operand_at s kind place) v (sym among ∙ e) (plan_of f t))
        ran (ap some (next-value f t 1 g))

    pub used-none : y ≡ None → Walked f (use_at s pointer kind) place 1 t numbers t numbers
    used-none e =
        walked_none f (use_at s pointer kind) place t numbers
        (use-other s spilled r pointer (operand_at s kind place) (sym among ∙ e) (plan_of f t))

    -- of those that have been asked for
    found : (b : Bool) → rows t.asked 0 v ≡ b → y ≡ Some v
        → among_of (rows t.asked 0) (among_of (rows spilled 0) (operand_at s kind place)) ≡ cond b (Some v) None
    found b has e = ap (among_of (rows t.asked 0)) (sym among ∙ e) ∙ ap (λ (c : Bool). cond c (Some v) None) has

    pub defined :
        y ≡ Some v → rows t.asked 0 v ≡ true
        → Walked f (define_at s pointer kind) place 1 t numbers
        (tables t.asked (set t.steps t.progress.steps (2 * v + 1)) (set t.sizes t.progress.made pointer)
        (record { pointer = pointer; given = t.progress.given; made = t.progress.made + 1; blocks = t.progress.blocks; steps = t.progress.steps + 1 }))
        (set numbers place (t.progress.given + t.progress.made + 1))
    defined e has =
        let known = define-spilled s spilled r pointer (rows t.asked 0) (operand_at s kind place) v (found true has e) in
        walked-some f (define_at s pointer kind) place (plan_definition f pointer v) t _ numbers (t.progress.given + t.progress.made)
        (ap (λ (o : Option ℕ). define_by s pointer o (plan_of f t)) known.0)
        (stored f v (used_low e) known.1 t.asked t.steps t.sizes t.progress g has)
        (stored-number f v (used_low e) known.1 t.asked t.steps t.sizes t.progress g has ∙ ap some (next-value f t 1 g))

    undefined :
        among_of (rows t.asked 0) (among_of (rows spilled 0) (operand_at s kind place)) ≡ None
        → Walked f (define_at s pointer kind) place 1 t numbers t numbers
    undefined e =
        walked_none f (define_at s pointer kind) place t numbers
        (define-other s spilled r pointer (rows t.asked 0) (plan_of f t) g.known (operand_at s kind place) e)

    pub defined-unasked : y ≡ Some v → rows t.asked 0 v ≡ false → Walked f (define_at s pointer kind) place 1 t numbers t numbers
    defined-unasked e has = undefined (found false has e)

    pub defined-none : y ≡ None → Walked f (define_at s pointer kind) place 1 t numbers t numbers
    defined-none e = undefined (ap (among_of (rows t.asked 0)) (sym among ∙ e))
