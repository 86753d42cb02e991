-- `graph::edges::tail_from` meets its contract.
use Rattle.std.proofs.Common.{◌≡◌, ◌+◌, ◌-◌, arith}
use Rattle.graph.specs.Tails.{tail_none}
use Rattle.graph.proofs.edges.tail_from.Goals as goal

pub returns-then-kind_at-lt-EDGE : goal.returns-then-kind_at-lt-EDGE
returns-then-kind_at-lt-EDGE c =
    let loop = c.loop-i in
    let up : loop.i - 1 + 1 ≡ loop.i = omega arith in
    let other = c.kind_at-in-loop-i.ensures.0 in (
      omega arith,
      omega arith,
      tail_none c.args.file.bytes.now c.args.from (loop.i - 1) c.args.end c.requires.2 (omega arith) (omega arith),
      rw up loop.invariant.1,
    )

pub loop-i-preserved : goal.loop-i-preserved
loop-i-preserved c = (omega arith, λ _. omega (arith, c.kind_at-in-loop-i.ensures.0))

pub returns : goal.returns
returns c =
    let at : c.loop-i.i ≡ c.args.from = omega arith in
    (omega arith, omega arith, λ i l m. absurd (omega arith), rw at at c.loop-i.invariant.1)
