-- `listing::safepoints::is_reachable_safepoint` meets its contract.
use native.Mathlib.Omega.{arith}
use borrow.Author.Tests.{eq-eqb}
use mathlib.Core.Bool.{not}
use Rattle.listing.specs.declared.indexed.Numbered.{Numbered}
use Prim.Native.Nat.{ℕ, ◌<◌, ◌-◌, ◌+◌}
use mathlib.Core.Path.{◌≡◌, sym, ◌∙◌, ap}
use mathlib.Core.List.{List}
use lib.ListN.{length, get_or}
use Rattle.listing.specs.Tables.{length-heads, instructions-by-table, tag-reachable, tag-unreachable}
use Rattle.listing.specs.HasList.{is_safepoint_at, there_from, there_from-all, there_from-behind, there_from-reachable, there_from-unreachable}
use Rattle.listing.specs.Firsts.{first-behind}
use Rattle.listing.specs.Crossings.{crossings}
use Rattle.rules.specs.Tree.{Instruction, Function}
use Rattle.rules.specs.File.{function_in}
use Rattle.listing.proofs.safepoints.is_reachable_safepoint.Goals.{After-body-body}
use Rattle.listing.proofs.safepoints.is_reachable_safepoint.Goals as goal

pub loop-b-init : goal.loop-b-init
loop-b-init c =
    let n = c.args.numbered in
    let f = function_in n.indexed.blocks.file.bytes.now in
    let none_below : get_or n.firsts.now 0 0 ≡ 0 = n.numbered.number 0 (omega arith) in
    let all : c.args.i - get_or n.firsts.now 0 0 ≡ c.args.i = omega (arith, none_below) in
    (omega (arith, none_below), ap (there_from f 0) all ∙ there_from-all f c.args.i)

-- of a block in the loop
module _ (c : After-body-body) where
  abbrev n : Numbered
  n = c.args.numbered

  abbrev f : Function
  f = function_in n.indexed.blocks.file.bytes.now

  below : c.loop-b.b < length f.blocks
  below = omega (arith, n.indexed.blocks.counted)

  -- the instruction's number in it, which it has
  abbrev k : ℕ
  k = c.args.i - get_or n.firsts.now c.loop-b.b 0

  has-it : k < length (crossings f c.loop-b.b)
  has-it = omega (arith, c.if-i-numbered.true, c.loop-b.invariant.0, first-behind n.indexed.indexed.given n.numbered c.loop-b.b below, length-heads n.indexed.indexed c.loop-b.b below)

pub returns-then-numbered-b-ne0 : goal.returns-then-numbered-b-ne0
returns-then-numbered-b-ne0 c =
    let g = c.args.numbered in
    let at = (goal.at.returns-then-numbered-b-ne0 c).After-body-body in
    let l = below at in
    let tables = g.indexed.indexed in
    rw (c.body-body.ensures.start, c.body-body.ensures.end) at c.safepoint_in.ensures
    ∙ ap (λ (is : List Instruction). is_safepoint_at is (k at)) (instructions-by-table tables c.loop-b.b l)
    ∙ sym (there_from-reachable (f at) c.loop-b.b l (k at) (has-it at) (tag-reachable tables c.loop-b.b l c.if-numbered-b-ne0.true)) ∙ c.loop-b.invariant.1

pub returns-else-numbered-b-ne0 : goal.returns-else-numbered-b-ne0
returns-else-numbered-b-ne0 c =
    let g = c.args.numbered in
    let at = (goal.at.returns-else-numbered-b-ne0 c).After-body-body in
    ap not (eq-eqb (get_or g.indexed.index.now c.loop-b.b 0) 0 c.if-numbered-b-ne0.false)
    ∙ sym (there_from-unreachable (f at) c.loop-b.b (below at) (k at) (has-it at) (tag-unreachable g.indexed.indexed c.loop-b.b (below at) c.if-numbered-b-ne0.false)) ∙ c.loop-b.invariant.1

pub loop-b-preserved : goal.loop-b-preserved
loop-b-preserved c =
    let g = c.args.numbered in
    let f = function_in g.indexed.blocks.file.bytes.now in
    let b = c.loop-b.b in
    let first = get_or g.firsts.now b 0 in
    let next = get_or g.firsts.now (b + 1) 0 in
    let l : b < length f.blocks = omega (arith, g.indexed.blocks.counted) in
    let sum : next ≡ first + length (crossings f b) = omega (arith, first-behind g.indexed.indexed.given g.numbered b l, length-heads g.indexed.indexed b l) in
    let rest : c.args.i - next ≡ (c.args.i - first) - length (crossings f b) = omega (arith, sum) in (
      omega (arith, c.if-i-numbered.false),
      ap (there_from f (b + 1)) rest ∙ sym (there_from-behind f b l (c.args.i - first) (omega (arith, sum, c.if-i-numbered.false))) ∙ c.loop-b.invariant.1,
    )
