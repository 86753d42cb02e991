-- What a record does with a value, and what it does so to a set of live values.
use Rattle.std.specs.Prelude.{ℕ, ◌≡◌, refl, Option, Some, None, Bool, true, not, cond, List, [], ◌∷◌, ◌++◌, T, eqb, ltb}
use Rattle.std.proofs.Common.{ap}
use Rattle.rules.specs.Lists.{keep, NumberSet, adding, removing}
use Rattle.rules.specs.Tree.{Function}
use Rattle.rules.specs.Records.{encode, kind}
use Rattle.rules.specs.Graph.{is_marked}
use Rattle.rules.specs.declared.EdgeArgument.{EdgeArgument}
use Rattle.rules.specs.declared.EdgeArgument.TheVariants as passes
use Rattle.rules.specs.declared.Record.{Record}
use Rattle.rules.specs.declared.Record.TheVariants as record'
use Rattle.rows.specs.Rows.{row_values}
use Rattle.blocksets.specs.declared.operands.Operand.{Operand}
use Rattle.blocksets.specs.declared.operands.Operand.TheVariants as operand

-- an edge that passes a value uses it
abbrev pub passed_operand : EdgeArgument → Option Operand
passed_operand (passes.Value v) = Some (operand.Used v)
passed_operand (passes.Returned _) = None
passed_operand (passes.Exception _) = None

-- parameters and results define, arguments and value edge arguments use
abbrev pub operand_of : Record → Option Operand
operand_of (record'.Value _ _) = None
operand_of (record'.Block _ _) = None
operand_of (record'.Parameter v) = Some (operand.Defined v)
operand_of (record'.Instruction _ _ _) = None
operand_of (record'.Result v) = Some (operand.Defined v)
operand_of (record'.Argument v) = Some (operand.Used v)
operand_of (record'.Edge _) = None
operand_of (record'.EdgeArgument x) = passed_operand x
operand_of (record'.Context _) = None
operand_of (record'.Slot _) = None
operand_of (record'.MapEntry _ _) = None
operand_of (record'.SlotAddress _ _) = None
operand_of (record'.Store _ _) = None
operand_of (record'.Load _ _ _) = None
operand_of record'.Jump = None
operand_of record'.Outside = None

-- what the words of a record other than an edge argument do with a value, by their kind and their second word
abbrev pub operand_by : ℕ → ℕ → Option Operand
operand_by k v =
    cond (eqb k 6) (Some (operand.Used v))
    (cond (eqb k 5) (Some (operand.Defined v))
    (cond (eqb k 3) (Some (operand.Defined v)) None))

-- so is what any record but an edge argument does
pub operand-by-words : (r : Record) → T (not (eqb (kind r) 8)) → operand_by (kind r) (encode r).second ≡ operand_of r
operand-by-words (record'.Value _ _) h = refl
operand-by-words (record'.Block _ _) h = refl
operand-by-words (record'.Parameter _) h = refl
operand-by-words (record'.Instruction _ _ _) h = refl
operand-by-words (record'.Result _) h = refl
operand-by-words (record'.Argument _) h = refl
operand-by-words (record'.Edge _) h = refl
operand-by-words (record'.EdgeArgument (passes.Value _)) h = absurd h
operand-by-words (record'.EdgeArgument (passes.Returned _)) h = absurd h
operand-by-words (record'.EdgeArgument (passes.Exception _)) h = absurd h
operand-by-words (record'.Context _) h = refl
operand-by-words (record'.Slot _) h = refl
operand-by-words (record'.MapEntry _ _) h = refl
operand-by-words (record'.SlotAddress _ _) h = refl
operand-by-words (record'.Store _ _) h = refl
operand-by-words (record'.Load _ _ _) h = refl
operand-by-words record'.Jump h = refl
operand-by-words record'.Outside h = refl

-- a row has a bit for the value that is defined
abbrev pub in_row : Option Operand → Bool
in_row (Some (operand.Defined v)) = ltb v row_values
in_row (Some (operand.Used _)) = true
in_row None = true

-- what is live before an operand: a definition takes its value out, a use brings a marked one in
abbrev pub live_before : Function → Option Operand → NumberSet → NumberSet
live_before f (Some (operand.Defined v)) live = removing (v ∷ []) live
live_before f (Some (operand.Used v)) live = adding (keep (is_marked f) (v ∷ [])) live
live_before f None live = live

-- what becomes of a set over some records, the last one first, where each operand does something to it
abbrev pub over : (Option Operand → NumberSet → NumberSet) → List Record → NumberSet → NumberSet
over g [] set = set
over g (r ∷ rs) set = g (operand_of r) (over g rs set)

pub over-append :
    (g : Option Operand → NumberSet → NumberSet) (xs ys : List Record) (set : NumberSet) → over g (xs ++ ys) set ≡ over g xs (over g ys set)
over-append g [] ys set = refl
over-append g (x ∷ xs) ys set = ap (g (operand_of x)) (over-append g xs ys set)

-- what is live before some records
abbrev pub back : Function → List Record → NumberSet → NumberSet
back f = over (live_before f)

-- a set with the value that is defined
abbrev pub with_defined : Option Operand → NumberSet → NumberSet
with_defined (Some (operand.Defined v)) set = adding (v ∷ []) set
with_defined (Some (operand.Used _)) set = set
with_defined None set = set

-- a set with what some records define
abbrev pub defined_in : List Record → NumberSet → NumberSet
defined_in = over with_defined
