-- `acceptance::verdict::function_verdict` meets its contract.
use Rattle.rules.specs.Lists.{all, up_from, padded}
use Rattle.rules.specs.Records.{records}
use Rattle.rules.specs.File.{function_in}
use Rattle.rules.specs.Refusals.{numbers_in_file, defined_once}
use Rattle.checks.specs.Definitions.{noted_all, noted_all-length, Countable, defined_once-by-table}
use Rattle.graph.specs.Blocks.{block_table}
use Rattle.graph.specs.ByTable.{table-long, table-values}
use Rattle.graph.specs.Tables.{Given}
use Rattle.acceptance.specs.Stages.{function-outside, function-twice, function-last}
use lib.ListN.{length, get_or}
use lib.Dec.{T, eqb}
use borrow.Author.Tests.{not-true, not-false}
use Prim.Native.Nat.{ℕ}
use native.Mathlib.Omega.{arith}
use mathlib.Core.List.{List}
use mathlib.Core.Bool.{Bool, true, false, not}
use mathlib.Core.Path.{◌≡◌, refl, sym, ap, ap₂, subst, ◌∙◌}
use Rattle.acceptance.proofs.verdict.function_verdict.Goals as goal

module _ {s t places : List ℕ} (countable : Countable s t) (table : places ≡ padded (length places) (block_table s)) where
  -- how many values there are, by the block table
  values : get_or places 0 0 ≡ length (function_in s).values
  values = table-values s places table (subst T (sym countable.in_order) tt)

  -- the blocks of a file whose numbers are all in it
  given : numbers_in_file (function_in s) ≡ true → Given s places
  given inside = record { in_order = subst T (sym countable.in_order) tt; in_file = subst T (sym inside) tt; table = table }

  -- refusal 6, by the counts and by how many values the block table says
  once-by-table : {u : List ℕ} {b : Bool} → numbers_in_file (function_in s) ≡ true → u ≡ noted_all t (records s)
      → b ≡ all (λ v. eqb (get_or u v 0) 1) (up_from 0 (get_or places 0 0)) → b ≡ defined_once (function_in s)
  once-by-table in_file noted answered =
      answered
      ∙ ap₂ (λ (x : List ℕ) (n : ℕ). all (λ v. eqb (get_or x v 0) 1) (up_from 0 n)) noted values
      ∙ sym (defined_once-by-table s t countable in_file)

pub bounds-places-0 : goal.bounds-places-0
bounds-places-0 c = omega (arith, table-long c.args.file.bytes.now c.args.places.now c.requires.1)

pub all_stand-found-requires : goal.all_stand-found-requires
all_stand-found-requires c = let pre = c.requires in (pre.0, values pre.0 pre.1, pre.2)

pub returns-then-not-found-clause-verdict : goal.returns-then-not-found-clause-verdict
returns-then-not-found-clause-verdict c =
    function-outside c.args.file.bytes.now (sym c.all_stand-found.ensures.0 ∙ not-true _ c.if-not-found.true)

pub bounds-places-0-2 : goal.bounds-places-0-2
bounds-places-0-2 c = omega (arith, table-long c.args.file.bytes.now c.args.places.now c.requires.1)

pub each_once-requires : goal.each_once-requires
each_once-requires c =
    let start = c.args in
    let pre = c.requires in
    let long = ap length c.all_stand-found.ensures.2 ∙ noted_all-length start.counts.now (records start.file.bytes.now) in
    omega (arith, values pre.0 pre.1, pre.0.room, long)

pub returns-then-not-each_once-clause-verdict : goal.returns-then-not-each_once-clause-verdict
returns-then-not-each_once-clause-verdict c =
    let pre = c.requires in
    let found = c.all_stand-found.ensures in
    let inside = sym found.0 ∙ not-false _ c.if-not-found.false in
    let once = once-by-table pre.0 pre.1 inside found.2 c.each_once.ensures in
    function-twice c.args.file.bytes.now inside (ap not (sym once) ∙ ap not c.if-not-each_once.true)

pub invariant_of-blocks : goal.invariant_of-blocks
invariant_of-blocks c =
    let pre = c.requires in
    record { given = given pre.0 pre.1 (sym c.all_stand-found.ensures.0 ∙ not-false _ c.if-not-found.false); counted = pre.2 }

pub unsound-requires : goal.unsound-requires
unsound-requires c = c.all_stand-found.ensures.1

pub returns-then-unsound-clause-verdict : goal.returns-then-unsound-clause-verdict
returns-then-unsound-clause-verdict c =
    let pre = c.requires in
    let found = c.all_stand-found.ensures in
    let inside = sym found.0 ∙ not-false _ c.if-not-found.false in
    let once = once-by-table pre.0 pre.1 inside found.2 c.each_once.ensures in
    rw (function-last c.args.file.bytes.now inside (ap not (sym once) ∙ ap not c.if-not-each_once.false), ← c.unsound.ensures, c.if-unsound.true) refl

pub returns-clause-verdict : goal.returns-clause-verdict
returns-clause-verdict c =
    let pre = c.requires in
    let found = c.all_stand-found.ensures in
    let inside = sym found.0 ∙ not-false _ c.if-not-found.false in
    let once = once-by-table pre.0 pre.1 inside found.2 c.each_once.ensures in
    (rw (function-last c.args.file.bytes.now inside (ap not (sym once) ∙ ap not c.if-not-each_once.false), ← c.unsound.ensures, c.if-unsound.false) refl, refl, refl, refl)
