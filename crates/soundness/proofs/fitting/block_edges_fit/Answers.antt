-- `soundness::fitting::block_edges_fit` meets its contract. The invariant: every edge from place i on and before the end fits.
use Rattle.graph.specs.Tails.{tail_none}
use Rattle.soundness.proofs.EdgePlaces.{fitting_from, fitting-behind, fitting-back, unfit-before}
use native.Mathlib.Omega.{arith}
use mathlib.Core.Bool.{◌&&◌}
use mathlib.Core.Path.{sym, ap, ◌∙◌}
use Prim.Native.Nat.{◌-◌}
use Rattle.soundness.proofs.fitting.block_edges_fit.Goals as goal

pub returns-then-kind_at-lt-EDGE : goal.returns-then-kind_at-lt-EDGE
returns-then-kind_at-lt-EDGE c =
    let s = c.args.blocks.file.bytes.now in
    let i = c.loop-i.i in
    let low = c.kind_at.ensures.0 in
    let none = tail_none s c.args.start (i - 1) c.args.end c.requires.2 (omega arith) (omega (arith, low, c.if-kind_at-lt-EDGE.true)) in
    sym c.loop-i.invariant.1 ∙ sym (fitting-behind s c.args.start i c.loop-i.invariant.0 (omega (arith, c.requires.1)) (λ j l m. none j l (omega arith)))

pub returns-then-not-edge_fits : goal.returns-then-not-edge_fits
returns-then-not-edge_fits c =
    let s = c.args.blocks.file.bytes.now in
    let i = c.loop-i.i in
    let fits = fitting-back s i (omega arith) (omega (arith, c.requires.1)) c.edge_fits.ensures in
    let unfit = fits ∙ ap (λ b. b && fitting_from s i) c.if-not-edge_fits.true in
    sym (unfit-before s c.args.start (i - 1) (omega arith) (omega (arith, c.requires.1)) unfit)

pub loop-i-preserved : goal.loop-i-preserved
loop-i-preserved c =
    let s = c.args.blocks.file.bytes.now in
    let i = c.loop-i.i in
    let fits = fitting-back s i (omega arith) (omega (arith, c.requires.1)) c.edge_fits.ensures in
    (omega arith, fits ∙ ap (λ b. b && fitting_from s i) c.if-not-edge_fits.false ∙ c.loop-i.invariant.1)
