-- `soundness::fitting::edges_fit` meets its contract.
use Rattle.soundness.proofs.EdgePlaces.{fitting_from, fitting-blocks, fitting-body, fitting-end}
use Rattle.graph.specs.ByTable.{block-tail}
use Rattle.rules.specs.File.{function_in}
use lib.ListN.{get_or, length}
use native.Mathlib.Omega.{arith}
use mathlib.Core.Bool.{◌&&◌}
use mathlib.Core.Path.{◌≡◌, sym, ap, ◌∙◌}
use Prim.Native.Nat.{ℕ, ◌+◌}
use Rattle.rules.specs.Records.{records}
use Rattle.soundness.specs.Fitting.{fitting}
use Rattle.soundness.proofs.fitting.edges_fit.Goals as goal
use Rattle.soundness.proofs.fitting.edges_fit.Goals.{After-block_edges_fit}

pub loop-b-init : goal.loop-b-init
loop-b-init c = fitting-blocks c.args.blocks.file.bytes.now c.args.blocks.places.now c.args.blocks.given

pub block_edges_fit-requires : goal.block_edges_fit-requires
block_edges_fit-requires c =
    let s = c.args.blocks.file.bytes.now in
    let places = c.args.blocks.places.now in
    let body = c.body-body.ensures in
    let tail = block-tail s places c.args.blocks.given c.loop-b.b (omega (arith, c.args.blocks.counted)) c.requires in
    (body.up, body.in_file, rw (body.start, body.end) tail)

-- the edges from a block on fit if its own do and those from the next one on
one_block : (c : After-block_edges_fit)
    → (c.block_edges_fit.result && fitting_from c.args.blocks.file.bytes.now (get_or c.args.blocks.places.now (c.loop-b.b + 1) 0))
    ≡ fitting (function_in c.args.blocks.file.bytes.now) (records c.args.blocks.file.bytes.now)
one_block c =
    let s = c.args.blocks.file.bytes.now in
    let places = c.args.blocks.places.now in
    let body = c.body-body.ensures in
    sym (ap (λ (p : ℕ). c.block_edges_fit.result && fitting_from s p) body.end) ∙ c.block_edges_fit.ensures ∙ ap (fitting_from s) body.start
    ∙ sym (fitting-body s places c.args.blocks.given c.loop-b.b (omega (arith, c.args.blocks.counted))) ∙ c.loop-b.invariant

pub returns-then-not-block_edges_fit : goal.returns-then-not-block_edges_fit
returns-then-not-block_edges_fit c =
    let s = c.args.blocks.file.bytes.now in
    let places = c.args.blocks.places.now in
    sym (ap (λ fit. fit && fitting_from s (get_or places (c.loop-b.b + 1) 0)) c.if-not-block_edges_fit.true) ∙ one_block (goal.at.returns-then-not-block_edges_fit c).After-block_edges_fit

pub loop-b-preserved : goal.loop-b-preserved
loop-b-preserved c =
    let s = c.args.blocks.file.bytes.now in
    let places = c.args.blocks.places.now in
    sym (ap (λ fit. fit && fitting_from s (get_or places (c.loop-b.b + 1) 0)) c.if-not-block_edges_fit.false) ∙ one_block (goal.at.loop-b-preserved c).After-block_edges_fit

pub returns : goal.returns
returns c =
    let s = c.args.blocks.file.bytes.now in
    let places = c.args.blocks.places.now in
    let last : length (function_in s).blocks ≡ c.loop-b.b = omega (arith, c.args.blocks.counted) in
    sym (fitting-end s places c.args.blocks.given) ∙ ap (λ b. fitting_from s (get_or places b 0)) last ∙ c.loop-b.invariant
