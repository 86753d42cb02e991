-- `rows::zeros_below` meets its contract.
use native.Mathlib.Omega.{arith}
use lib.Count.{trailing_le}
use Rattle.rows.specs.Bits.{trailing-clear, trailing-set}
use Rattle.rows.proofs.zeros_below.Goals as goal

pub overflow_cast-result : goal.overflow_cast-result
overflow_cast-result c = record { fits = omega (arith, trailing_le 64 c.args.word) }

pub returns : goal.returns
returns c = (trailing_le 64 _, trailing-clear 64 _, trailing-set 64 _)
