-- `slots::SlotSize::new` meets its contract.
use borrow.Author.Rules.{rules}
use Rattle.slots.specs.Classes.{class_of}
use borrow.Author.Tests.{ne_eqb}
use native.Mathlib.Omega.{arith}
use mathlib.Core.Path.{◌≡◌}
use Rattle.slots.proofs.SlotSize.new.Goals as goal

pub returns-in-1 : goal.returns-in-1
unfolding class_of
returns-in-1 c = let A = c.args in let h : A.bytes ≡ 1 = omega arith in simp h

pub returns-in-2 : goal.returns-in-2
unfolding class_of
returns-in-2 c = let A = c.args in let h : A.bytes ≡ 2 = omega arith in simp h

pub returns-in-4 : goal.returns-in-4
unfolding class_of
returns-in-4 c = let A = c.args in let h : A.bytes ≡ 4 = omega arith in simp h

pub returns-in-8 : goal.returns-in-8
unfolding class_of
returns-in-8 c = let A = c.args in let h : A.bytes ≡ 8 = omega arith in simp h

pub returns-in-16 : goal.returns-in-16
unfolding class_of
returns-in-16 c = let A = c.args in let h : A.bytes ≡ 16 = omega arith in simp h

pub returns-in_default : goal.returns-in_default
unfolding class_of
returns-in_default c = let A = c.args in simp (ne_eqb A.bytes 1 (search rules), ne_eqb A.bytes 2 (search rules), ne_eqb A.bytes 4 (search rules), ne_eqb A.bytes 8 (search rules), ne_eqb A.bytes 16 (search rules))
