-- `blocksets::operands::go_back` meets its contract.
use native.Mathlib.Omega.{arith}
use Prim.Native.Nat.{◌-◌}
use mathlib.Core.Path.{refl}
use Rattle.rows.specs.Rows.{rows}
use Rattle.rules.specs.Records.{record_at}
use Rattle.rules.specs.File.{function_in}
use Rattle.blocksets.proofs.Back.{back_to-end, back_to-more}
use Rattle.blocksets.specs.Operands.{operand_of, live_before}
use Rattle.blocksets.proofs.operands.go_back.Goals as goal

pub loop-i-init : goal.loop-i-init
loop-i-init c =
    let s = c.args.file.bytes.now in
    (c.requires.1, back_to-end (live_before (function_in s)) s c.args.row c.args.end (rows c.args.t.now))

pub loop-i-preserved : goal.loop-i-preserved
loop-i-preserved c =
    let s = c.args.file.bytes.now in (
      omega arith,
      back_to-more (live_before (function_in s)) s c.args.row c.args.end (rows c.args.t.now) c.loop-i.i (omega arith) (omega arith) c.requires.2
          (operand_of (record_at s (c.loop-i.i - 1))) refl (rows c.loop-i.t) _ c.loop-i.invariant.1 c.step_back.ensures,
    )
