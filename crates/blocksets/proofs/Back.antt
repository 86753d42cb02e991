-- One turn of a loop that goes back over records and changes one row.
use Prim.Native.Nat.{ℕ, suc, ◌-◌, ◌<◌, ◌≤◌}
use mathlib.Core.Path.{◌≡◌, sym, ap, ◌∙◌}
use mathlib.Core.List.{List, ◌∷◌}
use native.Mathlib.Omega.{arith}
use Rattle.std.specs.Prelude.{Option}
use Rattle.rules.specs.Lists.{update, NumberSet}
use Rattle.rules.specs.Records.{record_at, record_count}
use Rattle.rules.specs.declared.Record.{Record}
use Rattle.fixpoint.specs.Finding.{update_self, update_here, update-again}
use Rattle.graph.specs.Between.{between, between_none, between_more}
use Rattle.blocksets.specs.Operands.{operand_of, over}
use Rattle.blocksets.specs.declared.operands.Operand.{Operand}

module _ (g : Option Operand → NumberSet → NumberSet) (s : List ℕ) (row end : ℕ) (T : ℕ → NumberSet) where
  -- the table where the row has gone back to place i
  abbrev pub back_to : ℕ → ℕ → NumberSet
  back_to i = update row (over g (between s i end) (T row)) T

  -- at the end it is as it was
  pub back_to-end : T ≡ back_to end
  back_to-end = sym (ap (λ (rs : List Record). update row (over g rs (T row)) T) (between_none s end) ∙ update_self row T)

  -- one record further back
  pub back_to-more :
      (i : ℕ) → 0 < i → i ≤ end → end ≤ record_count s → (x : Option Operand) → x ≡ operand_of (record_at s (i - 1))
      → (t u : ℕ → NumberSet) → t ≡ back_to i → u ≡ update row (g x (t row)) t → u ≡ back_to (i - 1)
  back_to-more i l m k x e t u here there =
      let set = over g (between s i end) (T row) in
      let next : suc (i - 1) ≡ i = omega arith in
      there
      ∙ ap (λ (z : ℕ → NumberSet). update row (g x (z row)) z) here
      ∙ ap (λ (z : NumberSet). update row (g x z) (update row set T)) (update_here row set T)
      ∙ update-again row set (g x set) T
      ∙ ap (λ (y : Option Operand). update row (g y set) T) e
      ∙ sym (ap (λ (rs : List Record). update row (over g rs (T row)) T)
      (between_more s (i - 1) end (omega arith) k ∙ ap (λ (j : ℕ). record_at s (i - 1) ∷ between s j end) next))
