-- `graph::places::places_of` meets its contract.
use Rattle.std.proofs.Common.{◌≡◌, ◌<◌, length, sym, ◌∙◌, arith}
use Rattle.rules.specs.Records.{record_count}
use Rattle.graph.specs.Zeros.{sets-padded}
use Rattle.graph.specs.Placed.{places_of, place_table, length-place_table}
use Rattle.graph.proofs.Filling.{filling-start, filling-room, filling-here, filling-other, filling-count, filling-done}
use Rattle.graph.proofs.places.places_of.Goals as goal
use Rattle.graph.proofs.places.places_of.Goals.{Then-kind_at-kind, then-kind_at-kind, else-kind_at-kind}

pub loop-i-init : goal.loop-i-init
loop-i-init c = filling-start _ _ _

-- there is a place for one more
room : (c : Then-kind_at-kind) → c.loop-i.found < length (places_of c.args.kind c.args.file.bytes.now)
room c =
    filling-room _ _ _ _ _ _ c.loop-i.invariant (omega (arith, c.loop-i-test.true, c.record_count-records.ensures))
    (sym c.kind_at.ensures.0 ∙ c.if-kind_at-kind.true)

pub offset_bounds-places-found : goal.offset_bounds-places-found
offset_bounds-places-found c = omega (arith, room c, c.requires.0)

pub bounds-places-found : goal.bounds-places-found
bounds-places-found c = omega (arith, room c, c.requires.0)

pub overflow_add-found : goal.overflow_add-found
overflow_add-found c = omega (arith, room c, c.requires.0)

pub loop-i-preserved : goal.loop-i-preserved
loop-i-preserved c =
    let s = c.args.file.bytes.now in
    let l : c.loop-i.i < record_count s = omega (arith, c.loop-i-test.true, c.record_count-records.ensures) in
    let h = c.loop-i.invariant in
    elim c.if-kind_at-kind.branch [
      | then-kind_at-kind w ↦
          rw (w.places-is, w.found-is)
          (filling-here s c.args.kind c.args.places.now _ _ _ h l (sym c.kind_at.ensures.0 ∙ w.if-kind_at-kind.true))
      | else-kind_at-kind w ↦
          rw (w.places-is, w.found-is)
          (filling-other s c.args.kind c.args.places.now _ _ _ h l (λ e. w.if-kind_at-kind.false (c.kind_at.ensures.0 ∙ e)))
    ]

pub returns : goal.returns
returns c =
    let s = c.args.file.bytes.now in
    let k = c.args.kind in
    let h = c.loop-i.invariant in
    let end = c.record_count-records.ensures in
    let last : c.loop-i.i ≡ c.record_count-records.result = omega arith in (
      filling-count s k _ _ _ _ h _ end last,
      filling-done s k _ _ _ _ h _ end last
          ∙ sets-padded c.args.places.now (place_table k s) c.requires.1 (omega (arith, length-place_table k s, c.requires.0)),
    )
