-- `services::list::list` meets its contract.
use Rattle.std.proofs.Common.{◌≡◌, rules, length, replicate, sym, ◌∙◌}
use Rattle.std.proofs.lemmas.Result.{err_from_is_err_and}
use Rattle.services.proofs.ListAnswers.{file-refused}
use Rattle.services.proofs.list.list.Goals as goal

pub returns-in_err-found : goal.returns-in_err-found
returns-in_err-found c =
    let p = err_from_is_err_and c.from_residual.result c.from_residual.ensures.1 in
    let refused = file-refused c.args.s.now c.args.instruction (length c.args.out.now) (sym c.survey-found.ensures.says ∙ c.in_err-found.was) in
    let cleared : c.fill.new.self ≡ replicate (length c.args.out.now) 0 = search rules in
    (rw (p.1, p.2) refused.0, cleared ∙ refused.1)
