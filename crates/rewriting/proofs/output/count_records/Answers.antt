-- `rewriting::output::count_records` meets its contract.
use native.Mathlib.Omega.{arith}
use Rattle.rewriting.specs.Plans.{blocks-small, instructions-small, records-small, count-is, count_small}
use Rattle.rewriting.proofs.Bytes.{are-bytes}
use Rattle.rules.specs.Lists.{up_from}
use Rattle.rules.specs.Limits.{largest_records}
use Rattle.fixpoint.specs.Sums.{sum}
use Rattle.counting.specs.Totals.{block_added}
use mathlib.Core.Path.{◌≡◌, sym, ◌∙◌}
use Prim.Native.Nat.{◌+◌, ◌*◌, ◌^◌, ◌<◌, ◌≤◌}
use Rattle.rewriting.proofs.output.count_records.Goals as goal
use Rattle.rewriting.proofs.output.count_records.Goals.{After-count_entries-entries}

pub count_added-added-requires : goal.count_added-added-requires
count_added-added-requires c = (
  omega (arith, blocks-small c.requires, c.args.indexed.blocks.counted, c.requires.all-counted),
  omega (arith, records-small c.requires, c.requires.numbers-long),
  records-small c.requires,
)

pub count_entries-entries-requires : goal.count_entries-entries-requires
count_entries-entries-requires c = (omega (arith, c.requires.lists-long, instructions-small c.requires), instructions-small c.requires)

-- what is added, by how many blocks were found
added : (c : After-count_entries-entries) → (c.count_added-added.result ≡ sum (block_added c.args.indexed.blocks.file.bytes.now c.args.tables.numbers.now) (up_from 0 c.args.found.blocks.all)) × (c.count_added-added.result ≤ c.args.found.blocks.all * (3 * largest_records))
added c = let e : c.args.indexed.blocks.count ≡ c.args.found.blocks.all = c.args.indexed.blocks.counted ∙ sym c.requires.all-counted in rw (← e) c.count_added-added.ensures

few : (c : After-count_entries-entries) → c.own_records-own.result + c.args.planned.made + c.args.planned.slots + c.count_added-added.result + c.count_entries-entries.result < 2 ^ 20
few c = rw c.own_records-own.ensures.count (count_small c.requires c.count_added-added.result c.count_entries-entries.result (added c).1 c.count_entries-entries.ensures.1)

pub overflow_add-result : goal.overflow_add-result
overflow_add-result c = omega (arith, few (goal.at.overflow_add-result c).After-count_entries-entries)

pub overflow_add-result-2 : goal.overflow_add-result-2
overflow_add-result-2 c = omega (arith, few (goal.at.overflow_add-result-2 c).After-count_entries-entries)

pub overflow_add-result-3 : goal.overflow_add-result-3
overflow_add-result-3 c = omega (arith, few (goal.at.overflow_add-result-3 c).After-count_entries-entries)

pub overflow_add-result-4 : goal.overflow_add-result-4
overflow_add-result-4 c = omega (arith, few (goal.at.overflow_add-result-4 c).After-count_entries-entries)

pub returns : goal.returns
returns c =
    let at = (goal.at.returns c).After-count_entries-entries in (
      rw c.own_records-own.ensures.count
          (count-is c.requires c.own_records-own.ensures.bytes c.count_added-added.result c.count_entries-entries.result (added at).0 c.count_entries-entries.ensures.0),
      few at,
    )
