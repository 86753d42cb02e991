-- `rewriter::rewrite_live` meets its contract.
use mathlib.Core.Path.{sym, ◌∙◌}
use native.Mathlib.Omega.{arith}
use lib.ListN.{length}
use Rattle.rewriting.specs.Found.{reading, values-small, records-small, unchanged-row, changed_row, outcome-sized, outcome-unchanged}
use Rattle.rewriter.proofs.RewriteAnswers.{negated-true, negated-false}
use Rattle.rewriter.proofs.rewrite_live.Goals as goal

pub invariant_of-spilled : goal.invariant_of-spilled
invariant_of-spilled c = record { reading = reading c.requires.0 }

pub has_slot_sizes-requires : goal.has_slot_sizes-requires
has_slot_sizes-requires c = (c.values.ensures, omega (arith, c.values.ensures, values-small c.requires.0))

pub returns-then-not-has_slot_sizes : goal.returns-then-not-has_slot_sizes
returns-then-not-has_slot_sizes c =
    let n = length c.args.out.now in
    let sized = outcome-sized c.requires.0 c.args.pointer n c.requires.1 (negated-true c.has_slot_sizes.ensures (c.if-not-has_slot_sizes.true)) in
    (sized.0, c.requires.2 ∙ sized.1)

pub overflow_cast-result : goal.overflow_cast-result
overflow_cast-result c = omega (arith, c.record_count.ensures, records-small c.requires.0)

pub returns-then-count-eq0 : goal.returns-then-count-eq0
returns-then-count-eq0 c =
    let n = length c.args.out.now in
    let same =
    outcome-unchanged c.requires.0 c.args.pointer n c.requires.1 (negated-false c.has_slot_sizes.ensures (c.if-not-has_slot_sizes.false))
    (unchanged-row c.requires.0 (sym c.count.ensures ∙ c.if-count-eq0.true)) _ c.record_count.ensures in
    (same.0, c.requires.2 ∙ same.1)

pub rewrite_spilled-requires : goal.rewrite_spilled-requires
rewrite_spilled-requires c = (
  record {
    rows-found = c.requires.0;
    pointer-fine = c.requires.1;
    sized = negated-false c.has_slot_sizes.ensures (c.if-not-has_slot_sizes.false);
    changed = changed_row c.requires.0 (λ e. c.if-count-eq0.false (c.count.ensures ∙ e));
  },
  c.requires.2,
)
