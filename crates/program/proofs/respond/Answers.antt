-- `program::respond` meets its contract.
use Rattle.std.proofs.Common.{◌≡◌, rules, length, replicate, ◌∙◌}
use Rattle.program.specs.Program.{program-long, program-rewrites}
use Rattle.program.proofs.respond.Goals as goal

pub returns-then-s-gt-PROGRAM_INPUT : goal.returns-then-s-gt-PROGRAM_INPUT
returns-then-s-gt-PROGRAM_INPUT c =
    let said = program-long c.args.s.now (length c.args.out.now) c.if-s-gt-PROGRAM_INPUT.true in
    let cleared : c.fill.new.self ≡ replicate (length c.args.out.now) 0 = search rules in
    record { answer = said.0; output = cleared ∙ said.1 }

pub returns : goal.returns
returns c =
    let said = program-rewrites c.args.s.now (length c.args.out.now) c.if-s-gt-PROGRAM_INPUT.false in
    record { answer = c.rewrite.ensures.0 ∙ said.0; output = c.rewrite.ensures.1 ∙ said.1 }
