-- `solving::join_successors` meets its contract.
use Rattle.std.proofs.Common.{◌≡◌, ℕ, ◌-◌, List, sym, ap, ◌∙◌, arith}
use Rattle.rows.specs.Rows.{rows}
use Rattle.graph.specs.Tails.{tail_none, named-behind}
use Rattle.solving.specs.Progress.{joined_into}
use Rattle.solving.proofs.Joining.{joined_end, joined_back, target-there}
use Rattle.solving.proofs.join_successors.Goals as goal

pub loop-i-init : goal.loop-i-init
loop-i-init c = (c.requires.0, joined_end c.args.file.bytes.now c.args.end c.requires.1 c.args.b _ _)

pub returns-then-kind_at-lt-EDGE : goal.returns-then-kind_at-lt-EDGE
returns-then-kind_at-lt-EDGE c =
    let loop = c.loop-i in
    let s = c.args.file.bytes.now in
    let none = tail_none s c.args.start (loop.i - 1) c.args.end c.requires.4 (omega arith) (omega (arith, c.kind_at.ensures.0)) in
    loop.invariant.1
    ∙ sym (ap (λ (ts : List ℕ). joined_into c.args.b (rows c.args.ins.now) ts (rows c.args.outs.now))
    (named-behind s 7 c.args.start loop.i c.args.end (omega arith) (omega arith) (omega arith) c.requires.1 (λ j l m. none j l (omega arith))))

pub join_target-requires : goal.join_target-requires
join_target-requires c =
    let loop = c.loop-i in (
      omega (arith, c.requires.1),
      omega (arith, c.requires.2),
      λ t m. c.requires.3 t (target-there c.args.file.bytes.now c.args.end c.requires.1 t c.args.start (loop.i - 1) (omega arith) (omega arith) m),
    )

pub loop-i-preserved : goal.loop-i-preserved
loop-i-preserved c =
    let loop = c.loop-i in (
      omega arith,
      joined_back c.args.file.bytes.now c.args.end c.requires.1 c.args.b (rows c.args.ins.now) (rows c.args.outs.now) (rows loop.outs) _ loop.i
          (omega arith) (omega arith) loop.invariant.1 c.join_target.ensures,
    )

pub returns : goal.returns
returns c =
    let all : c.loop-i.i ≡ c.args.start = omega arith in
    rw all at c.loop-i.invariant.1
