-- `graph::walk::Walk::turn` meets its contract.
use Rattle.std.proofs.Common.{◌≡◌, ◌+◌, ◌-◌, get_or, sym, ◌∙◌, ap, arith, length-set}
use Rattle.graph.specs.Tables.{Tables}
use Rattle.graph.specs.Walk.{tables_of}
use Rattle.graph.specs.ByTable.{end-le}
use Rattle.graph.specs.NextEdge.{edge_from}
use Rattle.graph.proofs.Ways.{Top, Target, top-known, target-known, turn-finish, turn-skip, turn-enter}
use Rattle.graph.proofs.walk.Walk.turn.Goals as goal
use Rattle.graph.proofs.walk.Walk.turn.Goals.{Start, In-Some, After-next_edge_in_tail}

-- the tables at the start
abbrev before : Start → Tables
before c = tables_of c.args.self.now

-- what is known of the innermost block, and of the block that its next edge leads to
known : (c : Start) → Top c.args.blocks.file.bytes.now c.args.blocks.places.now (before c)
known c = top-known c.args.blocks.file.bytes.now c.args.blocks.places.now (before c) c.requires.1 c.requires.0

found : (c : After-next_edge_in_tail) → c.next_edge_in_tail.result
    ≡ edge_from c.args.blocks.file.bytes.now (get_or c.args.self.now.next.now (c.args.self.now.depth - 1) 0)
    (get_or c.args.blocks.places.now (get_or c.args.self.now.stack.now (c.args.self.now.depth - 1) 0 + 1) 0)
found c = c.next_edge_in_tail.ensures ∙ ap (edge_from c.args.blocks.file.bytes.now _) c.body-end.ensures.end

target : (c : In-Some) → Target c.args.blocks.file.bytes.now c.args.blocks.places.now (before (goal.at.bounds-self-edge c).Start) c.in-Some.edge.target
target c =
    let at = goal.at.bounds-self-edge c in
    target-known c.args.blocks.file.bytes.now c.args.blocks.places.now (before at.Start) c.requires.1 c.requires.0
    _ (found at.After-next_edge_in_tail) _ c.in-Some.is

pub offset_bounds-self-top : goal.offset_bounds-self-top
offset_bounds-self-top c = omega (arith, known (goal.at.offset_bounds-self-top c).Start)

pub bounds-self-top : goal.bounds-self-top
bounds-self-top c = omega (arith, known (goal.at.bounds-self-top c).Start, c.requires.0)

pub body-end-requires : goal.body-end-requires
body-end-requires c = (known (goal.at.body-end-requires c).Start).listed

pub next_edge_in_tail-requires : goal.next_edge_in_tail-requires
next_edge_in_tail-requires c =
    let h = known (goal.at.next_edge_in_tail-requires c).Start in
    rw c.body-end.ensures.end (h.looks, end-le _ _ c.args.blocks.given _ h.listed, h.tail)

pub finish-requires : goal.finish-requires
finish-requires c =
    let h = known (goal.at.finish-requires c).Start in
    (c.requires.0, h.stack, h.next, h.order, h.index)

pub returns-in_default-clause-value : goal.returns-in_default-clause-value
returns-in_default-clause-value c =
    let at = goal.at.returns-in_default-clause-value c in
    c.finish.ensures.value
    ∙ sym (turn-finish c.args.blocks.file.bytes.now c.args.blocks.places.now (before at.Start) _ (found at.After-next_edge_in_tail) c.in_default.is)

pub offset_bounds-self-edge : goal.offset_bounds-self-edge
offset_bounds-self-edge c = omega (arith, target c)

pub bounds-self-edge : goal.bounds-self-edge
bounds-self-edge c = (target c).index

pub enter-requires : goal.enter-requires
enter-requires c =
    let h = target (goal.at.enter-requires c).In-Some in
    let room = h.room c.if-self-edge-eq0.true in
    (h.listed, h.index, room.0, rw length-set room.1)

pub returns-then-self-edge-eq0-clause-value : goal.returns-then-self-edge-eq0-clause-value
returns-then-self-edge-eq0-clause-value c =
    let at = goal.at.returns-then-self-edge-eq0-clause-value c in
    c.enter.ensures.value
    ∙ sym (turn-enter c.args.blocks.file.bytes.now c.args.blocks.places.now (before at.Start) _ (found at.After-next_edge_in_tail) _ c.in-Some.is c.if-self-edge-eq0.true)

pub returns-else-self-edge-eq0-clause-value : goal.returns-else-self-edge-eq0-clause-value
returns-else-self-edge-eq0-clause-value c =
    let at = goal.at.returns-else-self-edge-eq0-clause-value c in
    sym (turn-skip c.args.blocks.file.bytes.now c.args.blocks.places.now (before at.Start) _ (found at.After-next_edge_in_tail) _ c.in-Some.is c.if-self-edge-eq0.false)
