-- `listing::blocks::list_block` meets its contract.
use native.Mathlib.Omega.{arith}
use borrow.Author.Rules.{rules}
use Prim.Native.Nat.{ℕ}
use mathlib.Core.Path.{◌∙◌, ap}
use mathlib.Core.List.{List, [], ◌∷◌}
use Rattle.rules.specs.Lists.{NumberSet}
use Rattle.rows.specs.Rows.{rows}
use Rattle.fixpoint.specs.Finding.{update_here}
use Rattle.listing.specs.Stepping.{reached-start, asked-before, reached-back}
use Rattle.listing.proofs.blocks.list_block.Goals as goal

pub loop-p-init : goal.loop-p-init
loop-p-init c =
    let zeros : List ℕ = 0 ∷ 0 ∷ 0 ∷ 0 ∷ 0 ∷ 0 ∷ 0 ∷ 0 ∷ [] in (
      c.requires.1.ascends,
      search rules,
      reached-start c.args.file.bytes.now c.args.body.end c.args.behind (rows c.args.outs.now c.args.b) (rows c.args.lists.now) _
          (ap (λ (t : ℕ → NumberSet). t 0) c.copy_row.ensures ∙ update_here 0 (rows c.args.outs.now c.args.b) (rows zeros)),
    )

pub list_at-at-requires : goal.list_at-at-requires
list_at-at-requires c =
    let r = c.loop-p.invariant.2 in
    let asked = asked-before c.args.file.bytes.now c.args.body.end c.args.behind _ _ c.args.body.start c.requires.1 c.requires.3 c.loop-p.p (omega arith) (omega arith) c.loop-p.at _ _ r in
    (c.requires.0, asked.0, asked.1, asked.2, omega (arith, c.loop-p.invariant.1), omega (arith, c.requires.4, r.number))

pub loop-p-preserved : goal.loop-p-preserved
loop-p-preserved c = (
  omega arith,
  search rules,
  reached-back c.args.file.bytes.now c.args.body.end c.args.behind (rows c.args.outs.now c.args.b) (rows c.args.lists.now) c.args.body.start c.requires.1 c.requires.3 c.loop-p.p (omega arith) (omega arith)
      c.loop-p.at (rows c.loop-p.live) (rows c.loop-p.lists) c.loop-p.invariant.2 c.list_at-at.result _ _ c.list_at-at.ensures.0 c.list_at-at.ensures.1 c.list_at-at.ensures.2,
)
