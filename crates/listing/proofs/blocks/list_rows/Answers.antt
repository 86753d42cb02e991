-- `listing::blocks::list_rows` meets its contract.
use native.Mathlib.Omega.{arith}
use Prim.Native.Nat.{ℕ}
use mathlib.Core.Path.{◌≡◌, sym, ◌∙◌, ap}
use lib.ListN.{length, get_or}
use Rattle.rules.specs.File.{function_in}
use Rattle.rows.specs.Rows.{rows, rows-zeros}
use Rattle.listing.specs.Crossings.{fill, shown, shown-append, crossings, crossings_below, crossings-more}
use Rattle.listing.specs.Listed.{shown-listed}
use Rattle.listing.proofs.blocks.list_rows.Goals as goal

pub loop-b-init : goal.loop-b-init
loop-b-init c = ap rows c.requires.1 ∙ rows-zeros (length c.args.lists.now)

pub loop-b-preserved : goal.loop-b-preserved
loop-b-preserved c =
    let n = c.args.numbered in
    let f = function_in n.indexed.blocks.file.bytes.now in
    let b = c.loop-b.b in
    c.list_reachable.ensures
    ∙ ap (fill (get_or n.firsts.now b 0) (crossings f b)) c.loop-b.invariant
    ∙ ap (λ (n : ℕ). fill n (crossings f b) (shown (crossings_below f b))) (n.numbered.number b (omega (arith, n.indexed.blocks.counted)))
    ∙ sym (ap shown (crossings-more f b) ∙ shown-append (crossings_below f b) (crossings f b))

pub returns : goal.returns
returns c =
    let n = c.args.numbered.indexed.blocks in
    let f = function_in n.file.bytes.now in
    let e : c.loop-b.b ≡ length f.blocks = omega (arith, n.counted) in
    c.loop-b.invariant ∙ ap (λ (n : ℕ). shown (crossings_below f n)) e ∙ shown-listed f
