-- What is read and lent: a file whose values rows have bits for, and tables with a row for each block.
use Rattle.std.specs.Prelude.{ℕ, zero, suc, ◌+◌, ◌*◌, ◌<◌, ◌≤◌, ◌≡◌, Bool, List, [], ◌∷◌, ◌++◌, length, T, ltb}
use Rattle.std.proofs.Common.{sym, subst, arith, lt→ltb, ltb→lt}
use Rattle.rules.specs.Limits.{row_words}
use Rattle.rules.specs.Lists.{all, concat_map}
use Rattle.rules.specs.Tree.{Block, Instruction}
use Rattle.rules.specs.Records.{record_at, record_count, records}
use Rattle.rules.specs.File.{ordered, named, function_in}
use Rattle.rules.specs.Refusals.{all_instructions, all_edges, definitions, uses, numbers_in_file}
use Rattle.rules.specs.declared.EdgeArgument.TheVariants as passes
use Rattle.rules.specs.declared.Record.{Record}
use Rattle.rules.specs.declared.Record.TheVariants as record'
use Rattle.lists.specs.Tests.{and_left, and_right, and_intro}
use Rattle.lists.specs.Maps.{all_apart, all-weaken}
use Rattle.records.specs.Parts.{parameters-in-order, results-in-order}
use Rattle.graph.specs.Between.{between, between-all, between_more}
use Rattle.graph.specs.Tables.{Given}
use Rattle.graph.specs.Zeros.{Zeros}
use Rattle.rows.specs.Rows.{row_values}
use Rattle.blocksets.specs.Operands.{operand_of, in_row}

-- the file is in order, its numbers are in it, and a row has a bit for each of its values
pub record InRows (s : List ℕ) : Type 0 where
  pub in_order : T (ordered 0 (records s))
  pub in_file : T (numbers_in_file (function_in s))
  pub values : length (function_in s).values ≤ row_values

-- the file by its block table, and two tables of zeros with a row for each block
pub record SetTables (s places : List ℕ) (blocks : ℕ) (uses kills : List ℕ) : Type 0 where
  pub given : Given s places
  pub values : length (function_in s).values ≤ row_values
  pub counted : blocks ≡ length (function_in s).blocks
  pub room_uses : row_words * blocks ≤ length uses
  pub room_kills : row_words * blocks ≤ length kills
  pub zero_uses : Zeros uses
  pub zero_kills : Zeros kills

-- records that name parameters and results below a row's end
named-in-row :
    (rs : List Record) → T (all (λ v. ltb v row_values) (named 3 rs)) → T (all (λ v. ltb v row_values) (named 5 rs))
    → T (all (λ r. in_row (operand_of r)) rs)
named-in-row [] p q = tt
named-in-row (record'.Value _ _ ∷ rs) p q = named-in-row rs p q
named-in-row (record'.Block _ _ ∷ rs) p q = named-in-row rs p q
named-in-row (record'.Parameter v ∷ rs) p q =
    and_intro (ltb v row_values) (all (λ r. in_row (operand_of r)) rs) (and_left (ltb v row_values) (all (λ x. ltb x row_values) (named 3 rs)) p)
    (named-in-row rs (and_right (ltb v row_values) (all (λ x. ltb x row_values) (named 3 rs)) p) q)
named-in-row (record'.Instruction _ _ _ ∷ rs) p q = named-in-row rs p q
named-in-row (record'.Result v ∷ rs) p q =
    and_intro (ltb v row_values) (all (λ r. in_row (operand_of r)) rs) (and_left (ltb v row_values) (all (λ x. ltb x row_values) (named 5 rs)) q)
    (named-in-row rs p (and_right (ltb v row_values) (all (λ x. ltb x row_values) (named 5 rs)) q))
named-in-row (record'.Argument _ ∷ rs) p q = named-in-row rs p q
named-in-row (record'.Edge _ ∷ rs) p q = named-in-row rs p q
named-in-row (record'.EdgeArgument (passes.Value _) ∷ rs) p q = named-in-row rs p q
named-in-row (record'.EdgeArgument (passes.Returned _) ∷ rs) p q = named-in-row rs p q
named-in-row (record'.EdgeArgument (passes.Exception _) ∷ rs) p q = named-in-row rs p q
named-in-row (record'.Context _ ∷ rs) p q = named-in-row rs p q
named-in-row (record'.Slot _ ∷ rs) p q = named-in-row rs p q
named-in-row (record'.MapEntry _ _ ∷ rs) p q = named-in-row rs p q
named-in-row (record'.SlotAddress _ _ ∷ rs) p q = named-in-row rs p q
named-in-row (record'.Store _ _ ∷ rs) p q = named-in-row rs p q
named-in-row (record'.Load _ _ _ ∷ rs) p q = named-in-row rs p q
named-in-row (record'.Jump ∷ rs) p q = named-in-row rs p q
named-in-row (record'.Outside ∷ rs) p q = named-in-row rs p q

module _ (s : List ℕ) where
  -- a test that all records from place p on pass, at one of them
  passes-record :
      (q : Record → Bool) (k p : ℕ) → p + k < record_count s → T (all q (between s p (record_count s)))
      → T (q (record_at s (p + k)))
  passes-record q zero p l h =
      let e : p + 0 ≡ p = omega arith in
      rw e (and_left (q (record_at s p)) (all q (between s (suc p) (record_count s)))
      (subst (λ (rs : List Record). T (all q rs)) (between_more s p (record_count s) (omega arith) (omega arith)) h))
  passes-record q (suc k) p l h =
      let e : p + suc k ≡ suc p + k = omega arith in
      rw e (passes-record q k (suc p) (omega arith)
      (and_right (q (record_at s p)) (all q (between s (suc p) (record_count s)))
      (subst (λ (rs : List Record). T (all q rs)) (between_more s p (record_count s) (omega arith) (omega arith)) h)))

  -- So a row has a bit for the value that a record of the file defines.
  pub record-in-row : InRows s → (i : ℕ) → i < record_count s → T (in_row (operand_of (record_at s i)))
  record-in-row g i l =
      let f = function_in s in
      let n = length f.values in
      let below : ℕ → Bool = λ v. ltb v n in
      let defined = all_apart below (concat_map (λ (b : Block). b.parameters) f.blocks) (concat_map (λ (x : Instruction). x.results) (all_instructions f))
      (all_apart below (definitions f) (uses f) (and_left (all below (definitions f ++ uses f)) (all (λ e. ltb e.target (length f.blocks)) (all_edges f)) g.in_file)).0 in
      let wider : (v : ℕ) → T (ltb v n) → T (ltb v row_values) = λ v t. lt→ltb v row_values (omega (arith, ltb→lt v n t, g.values)) in
      let params = subst (λ (vs : List ℕ). T (all (λ v. ltb v row_values) vs)) (parameters-in-order (records s) g.in_order) (all-weaken below (λ v. ltb v row_values) wider (concat_map (λ (b : Block). b.parameters) f.blocks) defined.0) in
      let results = subst (λ (vs : List ℕ). T (all (λ v. ltb v row_values) vs)) (results-in-order (records s) g.in_order) (all-weaken below (λ v. ltb v row_values) wider (concat_map (λ (x : Instruction). x.results) (all_instructions f)) defined.1) in
      let start : 0 + i ≡ i = omega arith in
      subst (λ (n : ℕ). T (in_row (operand_of (record_at s n)))) start (passes-record (λ r. in_row (operand_of r)) i 0 (omega arith)
      (subst (λ (rs : List Record). T (all (λ r. in_row (operand_of r)) rs)) (sym (between-all s)) (named-in-row (records s) params results)))

-- the file of these tables
pub tables-in-rows : {s places : List ℕ} {blocks : ℕ} {uses kills : List ℕ} → SetTables s places blocks uses kills → InRows s
tables-in-rows t = record { in_order = t.given.in_order; in_file = t.given.in_file; values = t.values }
