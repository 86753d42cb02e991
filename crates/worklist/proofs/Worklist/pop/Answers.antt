-- `worklist::Worklist::pop` meets its contract.
use Rattle.std.proofs.Common.{refl, arith}
use Rattle.worklist.proofs.Moving.{kept-fits, popped-kept}
use Rattle.worklist.proofs.Places.{entries-none}
use Rattle.worklist.proofs.Worklist.pop.Goals as goal

pub returns-in_err-top : goal.returns-in_err-top
returns-in_err-top c =
    rw c.from_residual.ensures ((entries-none c.args.self.now (omega (arith, c.in_err-top.ensures)), refl), c.requires)

pub bounds-self-top : goal.bounds-self-top
bounds-self-top c = omega (arith, c.in_ok-top.ensures, kept-fits c.args.self.now c.requires)

pub returns : goal.returns
returns c =
    popped-kept c.args.self.now c.requires _ _ _ (omega (arith, c.in_ok-top.ensures)) c.from-block.ensures c.bit_of.ensures
