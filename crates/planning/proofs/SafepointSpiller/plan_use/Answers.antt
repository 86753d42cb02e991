-- `planning::SafepointSpiller::plan_use` meets its contract.
use Rattle.planning.proofs.OneRecord.{used_low, used, used-none}
use Rattle.planning.specs.Lent.{tables_of}
use Rattle.planning.proofs.SafepointSpiller.plan_use.Goals as goal

pub load-requires : goal.load-requires
load-requires c = (used_low c.args.spilled.file.bytes.now c.args.spilled.row.now c.args.spilled.reading c.args.kind c.args.place (tables_of c.args.self.now) c.args.self.now.numbers.now c.requires.2 _ c.operand_at.result c.operand_at.ensures c.in-Some.is, c.requires.2)

pub returns-in-Some-clause-walked : goal.returns-in-Some-clause-walked
returns-in-Some-clause-walked c =
    rw c.load.ensures.numbers
    (used c.args.spilled.file.bytes.now c.args.spilled.row.now c.args.spilled.reading c.args.kind c.args.place (tables_of c.args.self.now) c.args.self.now.numbers.now c.requires.2 _ c.operand_at.result c.operand_at.ensures c.in-Some.is (tables_of c.load.new.self) c.load.ensures.ran)

pub returns-in_default-clause-walked : goal.returns-in_default-clause-walked
returns-in_default-clause-walked c =
    used-none c.args.spilled.file.bytes.now c.args.spilled.row.now c.args.spilled.reading c.args.kind c.args.place (tables_of c.args.self.now) c.args.self.now.numbers.now c.requires.2 0 c.operand_at.result c.operand_at.ensures c.in_default.is
