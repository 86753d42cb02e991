-- `writing_instructions::instructions::instruction_runs` meets its contract.
use Rattle.writing_instructions.specs.Narrowed.{runs-found}
use Rattle.writing_instructions.proofs.instructions.instruction_runs.Goals as goal

pub returns : goal.returns
returns c =
    let results = c.run_end-results in
    let exits = c.run_end-exits in
    runs-found c.args.file.bytes.now c.args.p c.args.end c.requires.0 c.requires.1 c.requires.2
    results.result exits.result c.next_place.result results.ensures.0 exits.ensures.0 c.next_place.ensures
