-- `records::table::fits_input` meets its contract.
use Rattle.rules.specs.Records.{is_safepoint, is_terminator, edge_argument, decode}
use Rattle.rules.specs.declared.Record.TheVariants as record'
use Rattle.records.specs.InTable.{in_table}
use Rattle.records.proofs.TableRows.{behind, argument-in-table, third-unused}
use lib.Dec.{leb, eqb}
use mathlib.Core.Bool.{◌&&◌}
use mathlib.Core.Path.{◌≡◌, sym, ◌∙◌}
use native.Mathlib.Omega.{arith}
use borrow.Author.Rules.{rules}
use Rattle.records.proofs.table.fits_input.Goals as goal

pub returns-in-0 : goal.returns-in-0
unfolding in_table decode
returns-in-0 c = let A = c.args in let h : A.k ≡ 0 = omega arith in rw h

pub returns-in-1 : goal.returns-in-1
unfolding in_table decode
returns-in-1 c =
    let A = c.args in
    let h : A.k ≡ 1 = omega arith in
    rw h (c.fits_value.ensures ∙ sym (behind (leb 1 A.a && leb A.a 64 && leb A.b 1) (record'.Value A.a (eqb A.b 1)) tt))

pub returns-in-2 : goal.returns-in-2
unfolding in_table decode
returns-in-2 c = let A = c.args in let h : A.k ≡ 2 = omega arith in rw h (sym (behind (leb A.a 1) (record'.Block (eqb A.a 1) A.b) tt))

pub returns-in-4 : goal.returns-in-4
unfolding in_table decode
returns-in-4 c =
    let A = c.args in
    let h : A.k ≡ 4 = omega arith in
    rw h (sym (behind (leb A.a 3) (record'.Instruction (is_safepoint A.a) (is_terminator A.a) A.b) tt))

pub returns-in-8 : goal.returns-in-8
unfolding in_table decode
returns-in-8 c =
    let A = c.args in
    let h : A.k ≡ 8 = omega arith in
    rw h (sym (behind (leb A.a 2) (record'.EdgeArgument (edge_argument A.a A.b)) (argument-in-table A.a A.b)))

pub returns-in_default : goal.returns-in_default
returns-in_default c =
    let A = c.args in
    sym (third-unused A.a A.b A.k (search rules) (search rules) (search rules) (search rules) (search rules) (search rules))
