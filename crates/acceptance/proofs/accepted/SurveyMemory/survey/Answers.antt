-- `acceptance::accepted::SurveyMemory::survey` meets its contract.
use mathlib.Core.Path.{subst}
use Rattle.std.specs.Prelude.{is_ok}
use lib.Dec.{T}
use Rattle.acceptance.specs.Survey.{surveyed-indexed}
use Rattle.acceptance.proofs.accepted.SurveyMemory.survey.Goals as goal

pub returns-clause-tables : goal.returns-clause-tables
returns-clause-tables c passed =
    surveyed-indexed (c.clear.new.self.blank c.clear.ensures) c.survey.ensures (subst (λ v. T (is_ok v)) c.survey.ensures.says passed)
