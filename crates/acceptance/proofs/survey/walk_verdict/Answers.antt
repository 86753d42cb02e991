-- `acceptance::survey::walk_verdict` meets its contract.
use Rattle.acceptance.specs.Stages.{walk-only}
use mathlib.Core.Path.{refl, sym, ◌∙◌}
use Rattle.acceptance.proofs.survey.walk_verdict.Goals as goal

pub returns-then-marked_context : goal.returns-then-marked_context
returns-then-marked_context c = rw (walk-only c.args.reachable.blocks.file.bytes.now, ← c.marked_context.ensures, c.if-marked_context.true) refl

pub returns : goal.returns
returns c = rw (walk-only c.args.reachable.blocks.file.bytes.now, ← c.marked_context.ensures, c.if-marked_context.false) refl
