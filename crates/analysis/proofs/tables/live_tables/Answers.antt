-- `analysis::tables::live_tables` meets its contract.
use Rattle.analysis.specs.Live.{lent-analysable}
use Rattle.analysis.proofs.tables.live_tables.Goals as goal

pub analyse-requires : goal.analyse-requires
analyse-requires c = lent-analysable c.requires

pub returns : goal.returns
returns c = (c.analyse.ensures.live_in, c.analyse.ensures.live_out, c.analyse.ensures.visits, c.analyse.ensures.pushes)
