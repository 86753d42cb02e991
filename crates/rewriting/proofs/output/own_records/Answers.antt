-- `rewriting::output::own_records` meets its contract.
use Rattle.rewriting.proofs.Bytes.{are-bytes}
use Rattle.rewriting.proofs.output.own_records.Goals as goal

pub returns-clause-bytes : goal.returns-clause-bytes
returns-clause-bytes c = are-bytes c.args.s.now (λ i. (c.type_inv.s i).fits)
