-- `records::table::fits_output` meets its contract.
use Rattle.rules.specs.Lists.{has}
use Rattle.rules.specs.Records.{slot_sizes, log2, decode}
use Rattle.rules.specs.declared.Record.TheVariants as record'
use Rattle.records.specs.InTable.{in_table}
use Rattle.records.proofs.TableRows.{behind, fourth-alone}
use lib.Dec.{eqb}
use mathlib.Core.Bool.{◌&&◌}
use mathlib.Core.Path.{◌≡◌, sym, ◌∙◌}
use native.Mathlib.Omega.{arith}
use borrow.Author.Tests.{ne_eqb}
use borrow.Author.Rules.{rules}
use mathlib.Core.Logic.{inl, inr}
use Rattle.records.proofs.table.fits_output.Goals as goal
use Rattle.records.proofs.table.fits_output.Goals.{then-a-eq0, else-a-eq0}

pub returns-then-c-eq0 : goal.returns-then-c-eq0
unfolding in_table decode
returns-then-c-eq0 c =
    let A = c.args in
    let h : A.k ≡ 10 = omega arith in
    rw (h, c.if-c-eq0.true) (c.fits_slot.ensures ∙ sym (behind (has A.a slot_sizes && eqb A.b (log2 A.a)) (record'.Slot A.a) tt))

pub returns-else-c-eq0 : goal.returns-else-c-eq0
unfolding in_table decode
returns-else-c-eq0 c =
    let A = c.args in
    let h : A.k ≡ 10 = omega arith in
    let n = ne_eqb A.c 0 c.if-c-eq0.false in rw (h, n)

pub returns-in-11-to-13 : goal.returns-in-11-to-13
returns-in-11-to-13 c = sym (fourth-alone c.args.a c.args.b c.args.k c.args.c (search rules) (search rules))

pub returns-in-14 : goal.returns-in-14
unfolding in_table decode
returns-in-14 c = let A = c.args in let h : A.k ≡ 14 = omega arith in rw h

pub returns-then-b-eq0 : goal.returns-then-b-eq0
unfolding in_table decode
returns-then-b-eq0 c =
    let A = c.args in
    let h : A.k ≡ 15 = omega arith in
    rw (h, c.if-b-eq0.true.0, c.if-b-eq0.true.1) (sym (behind (eqb A.c 0) record'.Jump tt))

pub returns-else-b-eq0 : goal.returns-else-b-eq0
unfolding in_table decode
returns-else-b-eq0 c =
    let A = c.args in
    let h : A.k ≡ 15 = omega arith in
    rw h (elim c.if-a-eq0.branch [
      | then-a-eq0 w ↦ let n = ne_eqb A.b 0 (elim c.if-b-eq0.either [ inl x ↦ x.1 | inr y ↦ absurd (y w.if-a-eq0.true) ]) in rw (w.t-8-is, w.if-a-eq0.true, n)
      | else-a-eq0 w ↦ let n = ne_eqb A.a 0 w.if-a-eq0.false in rw (w.t-8-is, n)
    ])

pub returns-in_default-2 : goal.returns-in_default-2
unfolding in_table decode
returns-in_default-2 c =
    let A = c.args in
    simp (ne_eqb A.k 1 (search rules), ne_eqb A.k 2 (search rules), ne_eqb A.k 3 (search rules), ne_eqb A.k 4 (search rules), ne_eqb A.k 5 (search rules), ne_eqb A.k 6 (search rules), ne_eqb A.k 7 (search rules), ne_eqb A.k 8 (search rules), ne_eqb A.k 9 (search rules), ne_eqb A.k 10 (search rules), ne_eqb A.k 11 (search rules), ne_eqb A.k 12 (search rules), ne_eqb A.k 13 (search rules), ne_eqb A.k 14 (search rules), ne_eqb A.k 15 (search rules))
