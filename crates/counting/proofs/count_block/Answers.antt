-- `counting::count_block` meets its contract.
use Prim.Native.Nat.{ℕ}
use mathlib.Core.Path.{ap₂, ◌∙◌}
use native.Mathlib.Omega.{arith}
use Rattle.graph.specs.Between.{between}
use Rattle.counting.specs.Weights.{weighed, beside_records}
use Rattle.counting.proofs.Blocks.{added_none, added-some}
use Rattle.counting.proofs.count_block.Goals as goal

pub returns-then-indexed-b-eq0 : goal.returns-then-indexed-b-eq0
returns-then-indexed-b-eq0 c =
    let A = c.args in
    (added_none A.numbers.now A.indexed.indexed A.b (omega arith) c.if-indexed-b-eq0.true, omega arith)

pub returns : goal.returns
returns c =
    let A = c.args in
    let same =
    ap₂ (λ (p q : ℕ). weighed (beside_records A.numbers.now) p (between A.indexed.blocks.file.bytes.now p q)) c.body.ensures.start c.body.ensures.end in (
      c.count_between.ensures.0 ∙ same
          ∙ added-some A.numbers.now A.indexed.indexed A.b (omega arith) c.if-indexed-b-eq0.false,
      c.count_between.ensures.1,
    )
