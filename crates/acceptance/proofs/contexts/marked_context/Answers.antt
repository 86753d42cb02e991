-- `acceptance::contexts::marked_context` meets its contract.
use Rattle.std.proofs.Common.{rules}
use Rattle.std.proofs.lemmas.Iterator.{YieldsList-from_slice}
use Rattle.std.proofs.lemmas.Iterator.Adapters.{serves_from_places}
use Rattle.std.proofs.lemmas.Iterator.Search.{any_from_yields_List}
use Rattle.rules.specs.File.{function_in}
use Rattle.acceptance.specs.Marked.{block_marked}
use Rattle.acceptance.proofs.MarkedContexts.{in-file, marked-listed}
use Rattle.acceptance.proofs.contexts.marked_context.Goals as goal

pub any-requires-clause-callable : goal.any-requires-clause-callable
any-requires-clause-callable c =
    let walked = c.args.reachable.walked in
    serves_from_places (YieldsList-from_slice c.args.reachable.order.now cc) (λ x q r. search rules)
    (λ x k l e. search (rules, in-file walked k _ l e, walked.tails))

pub returns : goal.returns
returns c =
    let r = c.args.reachable in
    marked-listed r.walked _
    (any_from_yields_List (block_marked (function_in r.blocks.file.bytes.now)) _ _ _ c.any.ensures.ran (YieldsList-from_slice r.order.now cc) (λ x b q k. search rules))
