-- `rows::has_bit` meets its contract.
use Rattle.rows.specs.Bits.{bit-tested}
use Rattle.rows.proofs.has_bit.Goals as goal

pub returns : goal.returns
returns c = bit-tested _ _
