-- `program::refused_line` meets its contract.
use Rattle.std.proofs.Common.{ℕ, ◌<◌, length, sym, ap, subst, ◌∙◌}
use Rattle.rules.specs.Lists.{padded}
use Rattle.rules.specs.Services.{refused_line}
use Rattle.program.specs.Program.{line_bytes}
use Rattle.program.proofs.Lines.{refusal-small, one-digit, two_digits}
use Rattle.program.proofs.refused_line.Goals as goal

pub returns-then-n-lt10 : goal.returns-then-n-lt10
returns-then-n-lt10 c =
    let line = one-digit c.from-n.result c.if-n-lt10.true in (
      line.0 ∙ ap (λ (n : ℕ). padded line_bytes (refused_line n)) c.from-n.ensures,
      line.1 ∙ ap (λ (n : ℕ). length (refused_line n)) c.from-n.ensures,
    )

pub returns : goal.returns
returns c =
    let small = subst (λ (n : ℕ). n < 12) (sym c.from-n.ensures) (refusal-small c.args.refusal) in
    let line = two_digits c.from-n.result c.if-n-lt10.false small in (
      line.0 ∙ ap (λ (n : ℕ). padded line_bytes (refused_line n)) c.from-n.ensures,
      line.1 ∙ ap (λ (n : ℕ). length (refused_line n)) c.from-n.ensures,
    )
