-- `layout::tables::put_new_values` meets its contract.
use borrow.Author.Rules.{rules}
use native.Mathlib.Omega.{arith}
use Prim.Native.Nat.{ℕ}
use mathlib.Core.Bool.{false}
use mathlib.Core.List.{map}
use mathlib.Core.Path.{ap}
use Rattle.std.proofs.Common.{take_all}
use Rattle.rules.specs.declared.Record.TheVariants as record'
use Rattle.writing.specs.Put.{put_none, put_as}
use Rattle.layout.proofs.Mapped.{mapped_fits, mapped_turn}
use Rattle.layout.proofs.tables.put_new_values.Goals as goal

pub loop-size-init : goal.loop-size-init
loop-size-init c = put_none c.args.out.now (search rules)

pub put-requires : goal.put-requires
put-requires c = mapped_fits (λ (size : ℕ). record'.Value size false) c.args.sizes.now c.loop-size.size-index c.loop-size-test.true c.requires c.loop-size.invariant

pub loop-size-preserved : goal.loop-size-preserved
loop-size-preserved c =
    mapped_turn (λ (size : ℕ). record'.Value size false) c.args.sizes.now c.loop-size.size-index c.loop-size-test.true c.requires c.loop-size.invariant c.put.ensures

pub returns : goal.returns
returns c = put_as (ap (map (λ (size : ℕ). record'.Value size false)) (take_all c.loop-size.size-index c.args.sizes.now (omega arith))) c.loop-size.invariant
