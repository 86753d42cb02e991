-- `acceptance::contexts::marked_in_block` meets its contract.
use Prim.Native.Nat.{ℕ}
use mathlib.Core.Path.{sym, ap₂, ◌∙◌}
use Rattle.graph.specs.ByTable.{block-tail}
use Rattle.acceptance.proofs.MarkedContexts.{marked_between, block_marked-by-table}
use Rattle.acceptance.proofs.contexts.marked_in_block.Goals as goal

pub marked_between-requires : goal.marked_between-requires
marked_between-requires c =
    let body = c.body-body.ensures in
    (body.up, body.in_file, rw (body.start, body.end) (block-tail c.args.blocks.file.bytes.now c.args.blocks.places.now c.args.blocks.given c.args.b c.requires.0 c.requires.1))

pub returns : goal.returns
returns c =
    let s = c.args.blocks.file.bytes.now in
    c.marked_between.ensures
    ∙ ap₂ (λ (p q : ℕ). marked_between s p q) c.body-body.ensures.start c.body-body.ensures.end
    ∙ sym (block_marked-by-table s c.args.blocks.places.now c.args.blocks.given c.args.b c.requires.0)
