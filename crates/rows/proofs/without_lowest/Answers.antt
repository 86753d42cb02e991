-- `rows::without_lowest` meets its contract.
use Rattle.rows.specs.Bits.{lowest-removed}
use Rattle.rows.proofs.without_lowest.Goals as goal

pub returns : goal.returns
returns c = λ k here below. lowest-removed k _ here below
