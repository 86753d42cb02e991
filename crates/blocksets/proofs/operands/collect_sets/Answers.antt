-- `blocksets::operands::collect_sets` meets its contract.
use Prim.Native.Nat.{◌-◌}
use native.Mathlib.Omega.{arith}
use Rattle.rules.specs.File.{function_in}
use Rattle.rows.specs.Rows.{rows}
use Rattle.blocksets.specs.Operands.{live_before, with_defined}
use Rattle.blocksets.specs.InRows.{record-in-row}
use Rattle.blocksets.proofs.Back.{back_to-end, back_to-more}
use Rattle.blocksets.proofs.operands.collect_sets.Goals as goal

pub loop-i-init : goal.loop-i-init
loop-i-init c =
    let s = c.args.file.bytes.now in
    (c.requires.1, back_to-end (live_before (function_in s)) s c.args.row c.args.end (rows c.args.uses.now), back_to-end with_defined s c.args.row c.args.end (rows c.args.kills.now))

pub collect_operand-requires : goal.collect_operand-requires
collect_operand-requires c = (
  c.requires.0,
  rw c.operand_at.ensures (record-in-row c.args.file.bytes.now c.requires.0 (c.loop-i.i - 1) (omega (arith, c.requires.2))),
  omega (arith, c.requires.3),
  omega (arith, c.requires.4),
)

pub loop-i-preserved : goal.loop-i-preserved
loop-i-preserved c =
    let s = c.args.file.bytes.now in (
      omega arith,
      back_to-more (live_before (function_in s)) s c.args.row c.args.end (rows c.args.uses.now) c.loop-i.i (omega arith) (omega arith) c.requires.2
          c.operand_at.result c.operand_at.ensures (rows c.loop-i.uses) _ c.loop-i.invariant.1 c.collect_operand.ensures.0,
      back_to-more with_defined s c.args.row c.args.end (rows c.args.kills.now) c.loop-i.i (omega arith) (omega arith) c.requires.2
          c.operand_at.result c.operand_at.ensures (rows c.loop-i.kills) _ c.loop-i.invariant.2 c.collect_operand.ensures.1,
    )
