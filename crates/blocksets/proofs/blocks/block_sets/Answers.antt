-- `blocksets::blocks::block_sets` meets its contract.
use Prim.Native.Nat.{◌<◌}
use mathlib.Core.Path.{◌∙◌, ap}
use lib.ListN.{length}
use native.Mathlib.Omega.{arith}
use Rattle.rules.specs.Lists.{nothing}
use Rattle.rules.specs.File.{function_in}
use Rattle.rules.specs.declared.Record.{Record}
use mathlib.Core.List.{List}
use Rattle.fixpoint.specs.Rule.{uses as uses_of, kills as kills_of}
use Rattle.graph.specs.ByTable.{body-by-table}
use Rattle.graph.specs.Between.{between}
use Rattle.rows.specs.Rows.{rows, rows-zeros}
use Rattle.blocksets.specs.Operands.{back, defined_in}
use Rattle.blocksets.specs.BlockSets.{below_none, below_more, back-through, defined-kills}
use Rattle.blocksets.proofs.blocks.block_sets.Goals as goal

pub loop-b-init : goal.loop-b-init
loop-b-init c =
    let f = function_in c.args.blocks.file.bytes.now in (
      ap rows c.requires.zero_uses ∙ rows-zeros (length c.args.uses.now) ∙ below_none (uses_of f),
      ap rows c.requires.zero_kills ∙ rows-zeros (length c.args.kills.now) ∙ below_none (kills_of f),
    )

pub loop-b-preserved : goal.loop-b-preserved
loop-b-preserved c =
    let s = c.args.blocks.file.bytes.now in
    let f = function_in s in
    let b = c.loop-b.b in
    let l : b < length f.blocks = omega (arith, c.args.blocks.counted) in
    let g = c.args.blocks.given in
    let rs = between s c.body-body.result.start c.body-body.result.end in
    let body = (λ i. between s (c.body-body.ensures.start i) (c.body-body.ensures.end i)) ∙ body-by-table s c.args.blocks.places.now g b l in (
      below_more (uses_of f) b (back f rs) (rows c.loop-b.uses) _ c.loop-b.invariant.0 c.collect_sets.ensures.0
          (ap (λ (x : List Record). back f x nothing) body ∙ back-through s g.in_order b l nothing),
      below_more (kills_of f) b (defined_in rs) (rows c.loop-b.kills) _ c.loop-b.invariant.1 c.collect_sets.ensures.1
          (ap (λ (x : List Record). defined_in x nothing) body ∙ defined-kills s g.in_order b l),
    )
