-- `rewriter::rewrite` meets its contract.
use Rattle.std.proofs.Common.{◌≡◌, rules, length, replicate, sym, ◌∙◌}
use Rattle.std.proofs.lemmas.Result.{err_from_is_err_and}
use Rattle.rewriting.specs.Rows.{PointerFine}
use Rattle.rewriter.proofs.RewriteAnswers.{pointer-refused, rewriting-refused, fine-four, fine-eight}
use Rattle.rewriter.proofs.rewrite.Goals as goal
use Rattle.rewriter.proofs.rewrite.Goals.{else-pointer-ne4-via-then-pointer-ne4+else-pointer-ne8, else-pointer-ne4-via-else-pointer-ne4}

pub returns-then-pointer-ne8 : goal.returns-then-pointer-ne8
returns-then-pointer-ne8 c =
    let cleared : c.fill.new.self ≡ replicate (length c.args.out.now) 0 = search rules in
    let refused = pointer-refused c.args.s.now c.args.pointer (length c.args.out.now) c.if-pointer-ne4.true c.if-pointer-ne8.true in
    (refused.0, cleared ∙ refused.1)

pub returns-in_err-found : goal.returns-in_err-found
returns-in_err-found c =
    let p = err_from_is_err_and c.from_residual.result c.from_residual.ensures.1 in
    let cleared : c.fill.new.self ≡ replicate (length c.args.out.now) 0 = search rules in
    let fine : PointerFine c.args.pointer =
    elim c.else-pointer-ne4.branch [
      | else-pointer-ne4-via-then-pointer-ne4+else-pointer-ne8 w ↦ fine-eight w.if-pointer-ne8.false
      | else-pointer-ne4-via-else-pointer-ne4 w ↦ fine-four w.if-pointer-ne4.false
    ] in
    let refused = rewriting-refused c.args.s.now c.args.pointer (length c.args.out.now) fine _ (sym c.survey-found.ensures.says ∙ c.in_err-found.was) in
    (rw (p.1, p.2) refused.0, cleared ∙ refused.1)
