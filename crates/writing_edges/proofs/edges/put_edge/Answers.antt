-- `writing_edges::edges::put_edge` meets its contract.
use lib.ListN.{get_or}
use mathlib.Core.Path.{◌≡◌, refl, sym}
use native.Mathlib.Omega.{arith}
use borrow.Author.Rules.{rules}
use Prim.Native.Nat.{◌-◌}
use Rattle.writing.specs.Put.{put_as, fits_as}
use Rattle.writing_edges.specs.Edges.{itself-none, itself-some}
use Rattle.writing_edges.proofs.edges.put_edge.Goals as goal

pub put_edge_to-requires : goal.put_edge_to-requires
put_edge_to-requires c =
    let none : get_or c.args.plan.numbers.now c.args.p 0 ≡ 0 = omega (arith, c.in-None.ensures) in
    (search rules, c.requires.1, (fits_as c.args.out.now (itself-none c.args.plan.file.bytes.now c.args.plan.numbers.now c.args.plan.slots.now c.args.p c.args.end c.requires.0 c.requires.1 none) c.requires.2), refl)

pub returns-in-None : goal.returns-in-None
returns-in-None c =
    let none : get_or c.args.plan.numbers.now c.args.p 0 ≡ 0 = omega (arith, c.in-None.ensures) in
    put_as (sym (itself-none c.args.plan.file.bytes.now c.args.plan.numbers.now c.args.plan.slots.now c.args.p c.args.end c.requires.0 c.requires.1 none)) (rw c.words_at.ensures at c.put_edge_to.ensures)

pub put_edge_to-requires-in-Some : goal.put_edge_to-requires-in-Some
put_edge_to-requires-in-Some c =
    let some : get_or c.args.plan.numbers.now c.args.p 0 ≡ 0 → ⊥ = λ e. omega (arith, e, c.in-Some.ensures) in
    (search rules, c.requires.1, (fits_as c.args.out.now (itself-some c.args.plan.file.bytes.now c.args.plan.numbers.now c.args.plan.slots.now c.args.p c.args.end c.requires.0 c.requires.1 some) c.requires.2), refl)

pub returns-in-Some : goal.returns-in-Some
returns-in-Some c =
    let some : get_or c.args.plan.numbers.now c.args.p 0 ≡ 0 → ⊥ = λ e. omega (arith, e, c.in-Some.ensures) in
    let number : c.in-Some.landing ≡ get_or c.args.plan.numbers.now c.args.p 0 - 1 = omega (arith, c.in-Some.ensures) in
    put_as (sym (itself-some c.args.plan.file.bytes.now c.args.plan.numbers.now c.args.plan.slots.now c.args.p c.args.end c.requires.0 c.requires.1 some)) (rw number at c.put_edge_to-in-Some.ensures)
