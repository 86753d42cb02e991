-- `analysis::tables::numbered` meets its contract.
use Rattle.std.proofs.Common.{arith}
use Rattle.analysis.specs.Live.{surveyed-indexed}
use Rattle.analysis.specs.Tables.{index-tables}
use Rattle.analysis.proofs.tables.numbered.Goals as goal

pub invariant_of-indexed : goal.invariant_of-indexed
invariant_of-indexed c =
    let of = c.blocks-blocks.ensures in
    record { indexed = rw (of.0, of.1) (index-tables (surveyed-indexed c.args.survey.now)) }
