-- `soundness::standing::judge` meets its contract.
use Rattle.soundness.proofs.StandingCases.{not-terminator, stand-parameter, stand-use, stand-block, stand-instruction, stand-result, stand-edge, stand-argument, stand-context, stand-other}
use Rattle.soundness.specs.Standing.{flags_behind}
use Rattle.checks.specs.Numbers.{numbers_fit}
use mathlib.Core.Path.{◌≡◌, sym, ◌∙◌}
use mathlib.Core.Logic.{inl, inr}
use native.Mathlib.Omega.{arith}
use borrow.Author.Rules.{rules}
use borrow.Author.Tests.{ne_eqb}
use Rattle.soundness.proofs.standing.judge.Goals as goal

pub returns-in-2 : goal.returns-in-2
unfolding numbers_fit flags_behind
returns-in-2 c = let w = c.args.w in let f = c.args.flags in let h : w.kind ≡ 2 = omega arith in (simp h, sym (stand-block f w h), simp h)

pub returns-in-3 : goal.returns-in-3
unfolding numbers_fit flags_behind
returns-in-3 c =
    let w = c.args.w in
    let f = c.args.flags in
    elim c.in-3.is [
      | inl h ↦ (simp h, sym (stand-parameter f w h), simp h)
      | inr h ↦ (simp h, sym (stand-use f w h), simp h)
    ]

pub returns-in-4 : goal.returns-in-4
unfolding numbers_fit flags_behind
returns-in-4 c = let w = c.args.w in let f = c.args.flags in let h : w.kind ≡ 4 = omega arith in (simp h, not-terminator f ∙ sym (stand-instruction f w h), simp h)

pub returns-in-5 : goal.returns-in-5
unfolding numbers_fit flags_behind
returns-in-5 c = let w = c.args.w in let f = c.args.flags in let h : w.kind ≡ 5 = omega arith in (simp h, not-terminator f ∙ sym (stand-result f w h), simp h)

pub returns-in-7 : goal.returns-in-7
unfolding numbers_fit flags_behind
returns-in-7 c = let w = c.args.w in let f = c.args.flags in let h : w.kind ≡ 7 = omega arith in (simp h, c.edge_stands.ensures ∙ sym (stand-edge f w h), simp h)

pub returns-in-8 : goal.returns-in-8
unfolding numbers_fit flags_behind
returns-in-8 c = let w = c.args.w in let f = c.args.flags in let h : w.kind ≡ 8 = omega arith in (c.argument_in_file.ensures ∙ sym (simp h), c.argument_stands.ensures ∙ sym (stand-argument f w h), simp h)

pub returns-in-9 : goal.returns-in-9
unfolding numbers_fit flags_behind
returns-in-9 c = let w = c.args.w in let f = c.args.flags in let h : w.kind ≡ 9 = omega arith in (simp h, c.is_safepoint_terminator.ensures ∙ sym (stand-context f w h), simp h)

pub returns-in_default : goal.returns-in_default
unfolding numbers_fit flags_behind
returns-in_default c =
    let w = c.args.w in
    let f = c.args.flags in
    let e₂ = ne_eqb w.kind 2 (search rules) in
    let e₄ = ne_eqb w.kind 4 (search rules) in
    let e₅ = ne_eqb w.kind 5 (search rules) in
    let e₇ = ne_eqb w.kind 7 (search rules) in
    let e₈ = ne_eqb w.kind 8 (search rules) in
    let e₉ = ne_eqb w.kind 9 (search rules) in
    (simp (ne_eqb w.kind 3 (search rules), e₅, ne_eqb w.kind 6 (search rules), e₇, e₈, e₉), sym (stand-other f w e₂ e₄ e₅ e₇ e₈ e₉), simp (e₂, e₄))
