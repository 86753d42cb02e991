-- What is appended is what the program writes for what was read, and that is what it writes for all that there was.
use Rattle.std.proofs.Common.{rules, take}
use Rattle.spill.proofs.Whole.{read-writes, written-is, appended-is}
use Rattle.spill.proofs.spill.Goals as goal

pub returns : goal.returns
returns g c =
    let n = c.in_ok-n.n in
    let buffer = c.read_full.new.buffer in
    let said = written-is (take n buffer) _ c.respond-answer.result _ (search rules) c.respond-answer.ensures.answer c.respond-answer.ensures.output in
    let whole = read-writes _ _ buffer n (search rules) c.in_ok-n.ensures.bound c.in_ok-n.ensures.bytes c.in_ok-n.ensures.whole in
    appended-is c.write_answer.result _ _ _ _ _ said whole c.write_answer.ensures
