-- What rewriting answers before anything is planned: refusals 1 to 8, by what the survey says.
use Prim.Native.Nat.{ℕ}
use mathlib.Core.Path.{◌≡◌, refl, sym, ap, ◌∙◌}
use mathlib.Core.Logic.{◌≢◌}
use mathlib.Core.Bool.{Bool, true, false, not, ◌||◌}
use mathlib.Core.List.{List}
use lib.ListN.{replicate}
use lib.Dec.{eqb}
use borrow.Author.Tests.{eq-eqb, ne_eqb}
use Rattle.std.specs.Prelude.{Result, Err}
use Rattle.rules.specs.Refusals.{first_of, file_refusals}
use Rattle.rules.specs.declared.Refusal.{Refusal}
use Rattle.rules.specs.declared.Refusal.TheVariants as refusal
use Rattle.rewriting.specs.Answers.{Outcome, outcome-refused, verdict-pointer, verdict-file}
use Rattle.rewriting.specs.Rows.{PointerFine}

-- a test by its opposite
pub negated-true : {a b : Bool} → a ≡ not b → a ≡ false → b ≡ true
negated-true {a} {b} e h = go b (sym e ∙ h)
  where
    go : (b : Bool) → not b ≡ false → b ≡ true
    go true e = refl
    go false e = sym e

pub negated-false : {a b : Bool} → a ≡ not b → a ≡ true → b ≡ false
negated-false {a} {b} e h = go b (sym e ∙ h)
  where
    go : (b : Bool) → not b ≡ true → b ≡ false
    go true e = sym e
    go false e = refl

-- 1
pub pointer-refused : (s : List ℕ) (pointer n : ℕ) → pointer ≢ 4 → pointer ≢ 8 → Outcome s pointer n (Err refusal.PointerSize) (replicate n 0)
pointer-refused s pointer n four eight =
    outcome-refused s pointer n refusal.PointerSize
    (verdict-pointer s pointer n (ap (λ b. b || eqb pointer 8) (ne_eqb pointer 4 four) ∙ ne_eqb pointer 8 eight))

-- 2 to 8
pub rewriting-refused :
    (s : List ℕ) (pointer n : ℕ) → PointerFine pointer → (e : Refusal) → first_of (file_refusals s) ≡ Err e → Outcome s pointer n (Err e) (replicate n 0)
rewriting-refused s pointer n fine e r = outcome-refused s pointer n e (verdict-file s pointer n fine r)

-- a pointer of size 4, or else of size 8
pub fine-four : {pointer : ℕ} → pointer ≡ 4 → PointerFine pointer
fine-four {pointer} e = ap (λ b. b || eqb pointer 8) (eq-eqb pointer 4 e)

pub fine-eight : {pointer : ℕ} → pointer ≡ 8 → PointerFine pointer
fine-eight e = ap (λ p. eqb p 4 || eqb p 8) e
