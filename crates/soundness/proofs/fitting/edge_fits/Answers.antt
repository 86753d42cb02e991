-- `soundness::fitting::edge_fits` meets its contract.
use Rattle.soundness.proofs.FittingCases.{edge_none, edge-there, target-in-file, target-parameters}
use Rattle.soundness.specs.Fitting.{arguments_first, parameters_first}
use Rattle.records.specs.Places.{rest}
use Rattle.rules.specs.Refusals.{fit}
use Rattle.rules.specs.File.{function_in}
use Rattle.rules.specs.Records.{encode, record_at}
use Rattle.rules.specs.declared.Words.{Words}
use native.Mathlib.Omega.{arith}
use Prim.Native.Nat.{ℕ, ◌+◌}
use mathlib.Core.Path.{◌≡◌, refl, sym, ap, ◌∙◌}
use Rattle.soundness.proofs.fitting.edge_fits.Goals as goal
use Rattle.soundness.proofs.fitting.edge_fits.Goals.{After-words_at-target}

-- behind the test of the kind the words are an edge's
is-edge : (c : After-words_at-target) → c.words_at-target.result.kind ≡ 7
is-edge c = ap (λ (w : Words). w.kind) c.words_at-target.ensures ∙ sym c.kind_at.ensures.0 ∙ c.if-kind_at-ne-EDGE.false

pub returns-then-kind_at-ne-EDGE : goal.returns-then-kind_at-ne-EDGE
returns-then-kind_at-ne-EDGE c =
    let s = c.args.blocks.file.bytes.now in
    let r = record_at s c.args.i in
    edge_none (function_in s) r (rest s (c.args.i + 1)) (encode r) refl (λ e. c.if-kind_at-ne-EDGE.true (c.kind_at.ensures.0 ∙ e))

pub place-requires : goal.place-requires
place-requires c =
    let g = c.args.blocks in
    omega (arith, g.counted, target-in-file _ _ g.given c.args.i c.words_at-target.result c.words_at-target.ensures c.requires (is-edge (goal.at.place-requires c).After-words_at-target))

pub returns : goal.returns
returns c =
    let g = c.args.blocks in
    let s = g.file.bytes.now in
    let i = c.args.i in
    let f = function_in s in
    let w = c.words_at-target.result in
    let e = c.words_at-target.ensures in
    let seven = is-edge (goal.at.returns c).After-words_at-target in
    c.arguments_fit.ensures
    ∙ ap (λ (p : ℕ). fit f (arguments_first (rest s (i + 1))) (parameters_first (rest s (p + 1)))) c.place.ensures.0
    ∙ ap (fit f (arguments_first (rest s (i + 1)))) (target-parameters s _ g.given i w e c.requires seven)
    ∙ edge-there f (record_at s i) (rest s (i + 1)) w e seven
