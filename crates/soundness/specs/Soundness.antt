-- Refusal 7 of a file in order, by two readings of its records.
use Rattle.std.specs.Prelude.{◌≡◌, Bool, not, ◌&&◌, ◌||◌, cond, List, T, eqb}
use Rattle.std.proofs.Common.{sym, ap, ap₂, ◌∙◌}
use Rattle.std.proofs.Math.Bool.{and_assoc}
use Rattle.rules.specs.Lists.{all, empty}
use Rattle.rules.specs.Tree.{Edge, Instruction, Function}
use Rattle.rules.specs.File.{ordered, function}
use Rattle.rules.specs.Graph.{block_at, instructions_of}
use Rattle.rules.specs.Refusals.{all_instructions, ends_once, fit, safepoint_terminator, only_values, sound_instruction, sound}
use Rattle.rules.specs.declared.Record.{Record}
use Rattle.lists.specs.Alls.{all_same, all_both}
use Rattle.soundness.specs.Standing.{standing, standing-halves}
use Rattle.soundness.specs.Ending.{ending-blocks}
use Rattle.soundness.specs.Holding.{shaped, holding-instructions}
use Rattle.soundness.specs.Fitting.{fitting, edges_fit, fitting-instructions}

sound-instruction : (f : Function) (i : Instruction) → sound_instruction f i ≡ (shaped i && edges_fit f i)
sound-instruction f i =
    let flags = cond i.terminator (empty i.results) (empty i.edges && empty i.contexts) && (safepoint_terminator i || empty i.contexts) in
    let led : Edge → Bool = λ e. not (eqb e.target 0) && (safepoint_terminator i || only_values e.arguments) in
    let fits : Edge → Bool = λ e. fit f e.arguments (block_at f e.target).parameters in
    ap (λ x. flags && x) (all_both led fits i.edges) ∙ sym (and_assoc flags (all led i.edges) (all fits i.edges))

pub sound-by-records : (rs : List Record) → T (ordered 0 rs) → (standing 2 rs && fitting (function rs) rs) ≡ sound (function rs)
sound-by-records rs h =
    let f = function rs in
    let is = all_instructions f in
    let ends = all (λ b. ends_once (instructions_of b)) f.blocks in
    ap₂ (λ x y. x && y)
    (standing-halves 2 rs ∙ ap₂ (λ x y. x && y) (ending-blocks rs h) (holding-instructions rs h))
    (fitting-instructions f rs h)
    ∙ and_assoc ends (all shaped is) (all (edges_fit f) is)
    ∙ ap (λ x. ends && x) (sym (all_both shaped (edges_fit f) is) ∙ sym (all_same (sound_instruction f) (λ i. shaped i && edges_fit f i) (sound-instruction f) is))
