-- `acceptance::survey::survey` meets its contract.
use Prim.Native.Nat.{ℕ}
use mathlib.Core.List.{List}
use mathlib.Core.Path.{◌≡◌, subst, ◌∙◌}
use Rattle.graph.specs.Blocks.{length-block_places}
use Rattle.graph.specs.Room.{table-room, walk-lent}
use Rattle.rules.specs.File.{function_in}
use Rattle.rules.specs.Refusals.{first_of}
use Rattle.graph.specs.Tables.{Tables, Numbered}
use Rattle.acceptance.specs.Stages.{walk_refusals}
use Rattle.acceptance.specs.Survey.{exactly-walked, formed-countable, table-own, function-tails, numbered-walked}
use Rattle.acceptance.proofs.Surveying.{formed, read, ends-at-records, ends-at-function, ends-with-walk}
use Rattle.acceptance.proofs.survey.survey.Goals as goal

-- the walk is of the blocks, which are the file's
of-the-file : {s u : List ℕ} {t t' : Tables} → s ≡ u → Numbered (function_in s) t t' → Numbered (function_in u) t t'
of-the-file {t = t} {t' = t'} e = subst (λ s. Numbered (function_in s) t t') e

pub returns-in-Err : goal.returns-in-Err
returns-in-Err c = ends-at-records c.args.s.now _ _ _ _ _ _ c.in-Err.ensures

pub places_of-all-requires : goal.places_of-all-requires
places_of-all-requires c =
    (table-room c.in-Ok.file.bytes.now (formed c.in-Ok.ensures).few _ c.requires.places.0, c.requires.places.1)

pub function_verdict-requires : goal.function_verdict-requires
function_verdict-requires c =
    let s = c.in-Ok.file.bytes.now in
    let r = formed c.in-Ok.ensures in
    let found = c.places_of-all.ensures in
    (formed-countable r c.requires.counts, table-own s r.few c.requires.places.0 found.1, found.0 ∙ length-block_places s)

pub returns-in-Err-function_verdict : goal.returns-in-Err-function_verdict
returns-in-Err-function_verdict c =
    ends-at-function c.in-Ok.ensures _ _ _ _ _ _ _ _ c.in-Err-function_verdict.ensures.noted c.places_of-all.ensures.1 c.in-Err-function_verdict.ensures.verdict

pub post_order-reachable-requires : goal.post_order-reachable-requires
post_order-reachable-requires c =
    let s = c.in-Ok.file.bytes.now in
    let of = c.in-Ok-function_verdict.ensures.verdict in
    let r = read c.in-Ok.ensures of.0 in
    let table = c.table-table.ensures in
    rw (table.0, table.1, of.1, of.2) (walk-lent s r.few r.in_order r.in_file _ _ _ _ _ (table-own s r.few c.requires.places.0 c.places_of-all.ensures.1) c.requires.order c.requires.index c.requires.stack c.requires.next
    (function-tails r of.0))

pub invariant_of-walk_verdict : goal.invariant_of-walk_verdict
invariant_of-walk_verdict c =
    let of = c.in-Ok-function_verdict.ensures.verdict in
    let table = c.table-table.ensures in
    let walk = of-the-file (table.0 ∙ of.1) c.post_order-reachable.ensures in
    let walked = numbered-walked (read c.in-Ok.ensures of.0) c.requires.places.0 c.places_of-all.ensures.1 c.requires.order.0 walk.order walk.count of.0 in
    record { walked = rw (table.0, table.1, of.1, of.2) (exactly-walked walked) }

pub returns : goal.returns
returns c =
    let of = c.in-Ok-function_verdict.ensures.verdict in
    let same = c.table-table.ensures.0 ∙ of.1 in
    ends-with-walk c.in-Ok.ensures _ _ _ _ _ _ _ _ c.in-Ok-function_verdict.ensures.noted c.places_of-all.ensures.1 of.0
    (subst (λ t. c.walk_verdict.result ≡ first_of (walk_refusals t)) same c.walk_verdict.ensures)
    _ _ _ _ _ (c.places_of-all.ensures.0 ∙ length-block_places c.in-Ok.file.bytes.now) (of-the-file same c.post_order-reachable.ensures)
