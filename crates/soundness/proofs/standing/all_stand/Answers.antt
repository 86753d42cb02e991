-- `soundness::standing::all_stand` meets its contract.
use borrow.Author.Rules.{rules}
use Rattle.soundness.proofs.Noting.{noted-next, fit_next, in-file}
use Rattle.soundness.proofs.PassedValues.{values-records, standing-passed, fit_passed, noted-passed}
use Rattle.soundness.proofs.StandingCases.{standing-next}
use Rattle.soundness.specs.Standing.{may_stand, flags_behind, standing}
use Rattle.checks.specs.Definitions.{noted, noted_all, noted_small}
use Rattle.checks.specs.Numbers.{numbers_fit, fit}
use Rattle.records.specs.Places.{rest, rest_by-done}
use Rattle.rules.specs.Records.{record_count, record_at, encode}
use Rattle.rules.specs.Lists.{all}
use lib.ListN.{get_or, length}
use lib.Dec.{T}
use Rattle.rules.specs.File.{function_in}
use native.Mathlib.Omega.{arith}
use mathlib.Core.Path.{◌≡◌, sym, ap, ap₂, ◌∙◌, subst}
use mathlib.Core.Bool.{◌&&◌, and_assoc, and-true}
use Prim.Native.Nat.{◌≤◌, ◌+◌}
use Rattle.soundness.proofs.standing.all_stand.Goals as goal

pub loop-i-init : goal.loop-i-init
loop-i-init c =
    let s = c.args.file.bytes.now in
    let in_order = subst T (sym c.requires.0.in_order) tt in
    let few : c.args.values ≤ length (function_in s).values = omega (arith, c.requires.1) in (
      λ v. let z = c.requires.0.zeros v in omega arith,
      noted-passed s in_order c.args.counts.now c.args.values few,
      fit_passed s in_order c.args.values c.args.blocks c.args.values few,
      standing-passed s in_order c.args.values few,
    )

pub loop-i-preserved : goal.loop-i-preserved
loop-i-preserved c =
    let start = c.args in
    let s = start.file.bytes.now in
    let at = c.loop-i in
    let i = at.i in
    let t = at.counts in
    let v = c.words_at-w.result in
    let w = c.words_at-w.ensures in
    let e = c.note_definition.ensures in
    let fits = fit start.values start.blocks in
    let judged = c.judge-judged.ensures in
    let named = ap (λ b. at.in_file && b) (judged.0 ∙ ap (numbers_fit start.values start.blocks) w) in
    let may = ap (λ b. at.stands && b) (judged.1 ∙ ap (may_stand at.flags) w) in
    let next = judged.2 ∙ ap (flags_behind at.flags) w in
    let r = encode (record_at s i) in (
      λ x. subst (λ u. get_or u x 0 ≤ i + 1) (sym e) (noted_small t v i at.invariant.0 x),
      ap (λ u. noted_all u (rest s (i + 1))) (e ∙ ap (noted t) w) ∙ sym (noted-next s i (search rules) t) ∙ at.invariant.1,
      ap (λ b. b && all fits (rest s (i + 1))) named
          ∙ and_assoc at.in_file (fits (record_at s i)) (all fits (rest s (i + 1)))
          ∙ sym (ap (λ b. at.in_file && b) (fit_next s i (search rules) start.values start.blocks)) ∙ at.invariant.2,
      ap₂ (λ b x. b && standing x (rest s (i + 1))) may next
          ∙ and_assoc at.stands (may_stand at.flags r) (standing (flags_behind at.flags r) (rest s (i + 1)))
          ∙ sym (ap (λ b. at.stands && b) (standing-next s at.flags i (search rules))) ∙ at.invariant.3,
    )

pub returns : goal.returns
returns c =
    let start = c.args in
    let pre = c.requires in
    let s = start.file.bytes.now in
    let at = c.loop-i in
    let n : at.i ≡ record_count s = omega (arith, c.record_count-i-end.ensures, c.requires.1, values-records s (subst T (sym c.requires.0.in_order) tt)) in
    let none = ap (rest s) n ∙ rest_by-done (λ t. record_at t 0) s in (
      sym (ap (λ rs. at.in_file && all (fit start.values start.blocks) rs) none ∙ and-true at.in_file) ∙ at.invariant.2
          ∙ in-file s start.values start.blocks pre.0.in_order pre.1 pre.2,
      sym (ap (λ rs. at.stands && standing at.flags rs) none) ∙ at.invariant.3,
      sym (ap (noted_all at.counts) none) ∙ at.invariant.1,
    )
