-- What the record at a place does in planning: which value it uses or defines, and the step of the rules that it is.
use Rattle.std.specs.Prelude.{ℕ, ◌≤◌, ◌≡◌, true, cond, List, length, eqb}
use Rattle.std.proofs.Math.Option.{none}
use Rattle.rules.specs.Lists.{NumberSet}
use Rattle.rules.specs.Records.{encode, record_at, record_count, records}
use Rattle.rules.specs.File.{ordered, function_in}
use Rattle.rules.specs.Liveness.{is_spilled}
use Rattle.rules.specs.Plan.{Made, Planning, pure, plan_use, plan_definition}
use Rattle.rules.specs.declared.Words.{Words}
use Rattle.rows.specs.Rows.{rows, HasRow}
use Rattle.std.specs.Prelude.{Option, Some, None}

-- The value that a record of kind k names. A returned or exception word is none.
abbrev pub operand_of : Words → ℕ → Option ℕ
operand_of w k =
    cond (eqb w.kind k)
    (cond (eqb k 8) (cond (eqb w.second 0) (Some w.third) None) (Some w.second))
    None

-- only a value of the set
abbrev pub among_of : NumberSet → Option ℕ → Option ℕ
among_of set (Some v) = cond (set v) (Some v) None
among_of set None = None

-- what planning reads: a file in order, and the row of its spilled values
pub record Reading (s spilled : List ℕ) : Type 0 where
  pub in_order : ordered 0 (records s) ≡ true
  pub row : HasRow spilled 0
  pub is_row : rows spilled 0 ≡ is_spilled (function_in s)

-- places of the file, beside each of which there is one for a number
pub record Range (s numbers : List ℕ) (start end : ℕ) : Type 0 where
  pub up : start ≤ end
  pub in_file : end ≤ record_count s
  pub in_numbers : end ≤ length numbers

module _ (s : List ℕ) where
  unfoldable pub operand_at : ℕ → ℕ → Option ℕ
  operand_at k place = operand_of (encode (record_at s place)) k

  module _ (pointer : ℕ) where
    abbrev pub use_by : Option ℕ → Planning Made
    use_by (Some v) = plan_use (function_in s) pointer v
    use_by None = pure none

    abbrev pub define_by : Option ℕ → Planning Made
    define_by (Some v) = plan_definition (function_in s) pointer v
    define_by None = pure none

    -- the step of rule 3 for the record at a place, if it is of kind k,
    abbrev pub use_at : ℕ → ℕ → Planning Made
    use_at k place = use_by (operand_at k place)

    -- and that of rule 1
    abbrev pub define_at : ℕ → ℕ → Planning Made
    define_at k place = define_by (operand_at k place)
