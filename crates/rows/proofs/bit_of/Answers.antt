-- `rows::bit_of` meets its contract.
use Prim.Native.Nat.{◌%◌}
use native.Mathlib.Nat.{one-mul, mod-eq_of_lt}
use lib.Pow.{pow-lt}
use borrow.Author.Rules.{rules}
use Rattle.rows.proofs.bit_of.Goals as goal

pub returns : goal.returns
returns c = rw (one-mul, mod-eq_of_lt (pow-lt {i = c.args.v % 64} {j = 64} (search rules)))
