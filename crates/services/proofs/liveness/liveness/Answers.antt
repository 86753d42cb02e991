-- `services::liveness::liveness` meets its contract.
use Rattle.std.proofs.Common.{◌≡◌, ◌<◌, ◌≤◌, rules, arith, length, replicate, sym, ◌∙◌}
use mathlib.Core.Logic.{◌⊎◌, inl, inr}
use Rattle.std.proofs.lemmas.Result.{err_from_is_err_and}
use Rattle.rules.specs.Limits.{table_words}
use Rattle.services.proofs.LiveAnswers.{file-refused, table-short, either-short, accepted-answer, accepted-ins, accepted-outs, tables-lent}
use Rattle.services.proofs.liveness.liveness.Goals as goal
use Rattle.services.proofs.liveness.liveness.Goals.{then-ins-lt-TABLE_WORDS-via-then-ins-lt-TABLE_WORDS, then-ins-lt-TABLE_WORDS-via-else-ins-lt-TABLE_WORDS+then-outs-lt-TABLE_WORDS}

pub returns-in_err-found : goal.returns-in_err-found
returns-in_err-found c =
    let p = err_from_is_err_and c.from_residual.result c.from_residual.ensures.1 in
    let refused = file-refused c.args.s.now (length c.args.ins.now) (length c.args.outs.now) (sym c.survey-found.ensures.says ∙ c.in_err-found.was) in
    let ins : c.fill.new.self ≡ replicate (length c.args.ins.now) 0 = search rules in
    let outs : c.fill-2.new.self ≡ replicate (length c.args.outs.now) 0 = search rules in
    (rw (p.1, p.2) refused.0, ins ∙ refused.1, outs ∙ refused.2)

pub returns-then-ins-lt-TABLE_WORDS : goal.returns-then-ins-lt-TABLE_WORDS
returns-then-ins-lt-TABLE_WORDS c =
    let ins : c.fill.new.self ≡ replicate (length c.args.ins.now) 0 = search rules in
    let outs : c.fill-2.new.self ≡ replicate (length c.args.outs.now) 0 = search rules in
    let n = length c.args.ins.now in
    let m = length c.args.outs.now in
    let one : (n < table_words) ⊎ (m < table_words) =
    elim c.then-ins-lt-TABLE_WORDS.branch [
      | then-ins-lt-TABLE_WORDS-via-then-ins-lt-TABLE_WORDS w ↦ inl (omega (arith, c.fill.ensures.len, w.if-ins-lt-TABLE_WORDS.true))
      | then-ins-lt-TABLE_WORDS-via-else-ins-lt-TABLE_WORDS+then-outs-lt-TABLE_WORDS w ↦
          inr (omega (arith, c.fill-2.ensures.len, w.if-outs-lt-TABLE_WORDS.true))
    ] in
    let short = table-short c.accepted-survey.result.file.bytes.now n m c.accepted-survey.result.accepted (either-short n m one) in
    rw (← c.accepted-survey.ensures.file) (short.0, ins ∙ short.1, outs ∙ short.2)

pub live_tables-requires : goal.live_tables-requires
live_tables-requires c =
    let survey = c.accepted-survey.result in
    let ins : c.fill.new.self ≡ replicate (length c.args.ins.now) 0 = search rules in
    let outs : c.fill-2.new.self ≡ replicate (length c.args.outs.now) 0 = search rules in
    rw c.reachable.ensures.0
    (tables-lent survey.file.bytes.now (length c.args.ins.now) (length c.args.outs.now) survey.accepted
    (omega (arith, c.fill.ensures.len, c.if-ins-lt-TABLE_WORDS.false)) (omega (arith, c.fill-2.ensures.len, c.if-outs-lt-TABLE_WORDS.false))
    _ _ ins outs)

pub returns : goal.returns
returns c =
    let survey = c.accepted-survey.result in
    let s = survey.file.bytes.now in
    let n = length c.args.ins.now in
    let m = length c.args.outs.now in
    let ins-long : table_words ≤ n = omega (arith, c.fill.ensures.len, c.if-ins-lt-TABLE_WORDS.false) in
    let outs-long : table_words ≤ m = omega (arith, c.fill-2.ensures.len, c.if-outs-lt-TABLE_WORDS.false) in
    let live = c.live_tables in
    let found = rw c.reachable.ensures.0 at live.ensures in
    rw (← c.accepted-survey.ensures.file) (
      accepted-answer s n m survey.accepted ins-long outs-long _ _ found.2 found.3,
      accepted-ins s n m survey.accepted ins-long outs-long _ (live.auto.ins ∙ c.fill.ensures.len) (λ i. (c.type_inv.ins i).fits) found.0,
      accepted-outs s n m survey.accepted ins-long outs-long _ (live.auto.outs ∙ c.fill-2.ensures.len) (λ i. (c.type_inv.outs i).fits) found.1,
    )
