-- `soundness::fitting::arguments_fit` meets its contract.
use borrow.Author.Rules.{rules}
use Rattle.soundness.proofs.FittingCases.{rest_end, leads-more, fit_none, fit-last, fit-short, fit_next}
use Rattle.soundness.specs.Fitting.{arguments_first, parameters_first, argument_fits}
use Rattle.records.specs.Parts.{argument}
use Rattle.records.specs.Places.{rest}
use Rattle.rules.specs.Refusals.{fit}
use Rattle.rules.specs.File.{function_in}
use native.Mathlib.Omega.{arith}
use mathlib.Core.Path.{◌≡◌, sym, ap, ◌∙◌}
use mathlib.Core.Bool.{true, false, ◌&&◌}
use Prim.Native.Nat.{◌+◌}
use Rattle.soundness.proofs.fitting.arguments_fit.Goals as goal
use Rattle.soundness.proofs.fitting.arguments_fit.Goals.{then-b-ne-PARAMETER-via-then-b-ne-PARAMETER, then-b-ne-PARAMETER-via-else-b-ne-PARAMETER+then-not-argument_fits}

pub returns-then-a-ne-EDGE_ARGUMENT : goal.returns-then-a-ne-EDGE_ARGUMENT
returns-then-a-ne-EDGE_ARGUMENT c =
    let s = c.args.file.bytes.now in
    let at = c.loop-i in
    let a = c.words_from-a in
    let b = c.words_from-b in
    sym (fit-last (function_in s) s at.p b.result b.ensures at.invariant.0 at.i a.result a.ensures (search rules) c.if-a-ne-EDGE_ARGUMENT.true) ∙ at.invariant.1

pub returns-then-b-ne-PARAMETER : goal.returns-then-b-ne-PARAMETER
returns-then-b-ne-PARAMETER c =
    let s = c.args.file.bytes.now in
    let f = function_in s in
    let at = c.loop-i in
    let a = c.words_from-a in
    let b = c.words_from-b in
    elim c.then-b-ne-PARAMETER.branch [
      | then-b-ne-PARAMETER-via-then-b-ne-PARAMETER w ↦
          sym (fit-short f s at.p b.result b.ensures at.invariant.0 at.i a.result a.ensures (search rules) c.if-a-ne-EDGE_ARGUMENT.false w.if-b-ne-PARAMETER.true)
      | then-b-ne-PARAMETER-via-else-b-ne-PARAMETER+then-not-argument_fits w ↦
          let no : argument_fits f (argument a.result) b.result.second ≡ false = sym w.argument_fits.ensures ∙ w.if-not-argument_fits.true in
          sym (ap (λ x. x && fit f (arguments_first (rest s (at.i + 1))) (parameters_first (rest s (at.p + 1)))) no)
          ∙ sym (fit_next f s at.p b.result b.ensures at.invariant.0 at.i a.result a.ensures (search rules) c.if-a-ne-EDGE_ARGUMENT.false w.if-b-ne-PARAMETER.false)
    ] ∙ at.invariant.1

pub loop-i-preserved : goal.loop-i-preserved
loop-i-preserved c =
    let s = c.args.file.bytes.now in
    let f = function_in s in
    let at = c.loop-i in
    let a = c.words_from-a in
    let b = c.words_from-b in
    let fits = c.argument_fits in
    let l = (leads-more s at.p b.result b.ensures at.invariant.0 3 (omega arith) c.if-b-ne-PARAMETER.false).0 in
    let yes : argument_fits f (argument a.result) b.result.second ≡ true = sym fits.ensures ∙ c.if-not-argument_fits.false in (
      omega arith,
      sym (ap (λ x. x && fit f (arguments_first (rest s (at.i + 1))) (parameters_first (rest s (at.p + 1)))) yes)
          ∙ sym (fit_next f s at.p b.result b.ensures at.invariant.0 at.i a.result a.ensures (search rules) c.if-a-ne-EDGE_ARGUMENT.false c.if-b-ne-PARAMETER.false) ∙ at.invariant.1,
    )

pub returns : goal.returns
returns c =
    let s = c.args.file.bytes.now in
    let f = function_in s in
    let at = c.loop-i in
    let b = c.words_from in
    sym (ap (λ rs. fit f (arguments_first rs) (parameters_first (rest s at.p))) (rest_end s at.i (search rules) (search rules))
    ∙ fit_none f s at.p b.result b.ensures at.invariant.0) ∙ at.invariant.1
