-- `listing::numbers::list_numbers` meets its contract.
use Prim.Native.Nat.{◌+◌}
use mathlib.Core.Path.{◌≡◌, sym, ◌∙◌, ap}
use lib.ListN.{length, set as set_at}
use mathlib.Core.List.{◌∷◌}
use native.Mathlib.Numerals.{add-one}
use lib.Seq.{sets}
use native.Mathlib.Omega.{arith}
use Rattle.rows.specs.Rows.{rows, row_values}
use Rattle.listing.proofs.Noting.{numbers_from, numbers_from-all, numbers_from-done, numbers_from-passed, numbers_from-member}
use Rattle.listing.proofs.numbers.list_numbers.Goals as goal

pub loop-v-init : goal.loop-v-init
loop-v-init c =
    let set = rows c.args.t.now c.args.row in
    let e = c.next_in-v.ensures in
    let all = sym (numbers_from-passed set 0 c.next_in-v.result e.0 e.1 e.2) ∙ numbers_from-all set in
    (e.1, e.3, omega (arith, ap length all), ap (sets c.args.out.now 0) all)

pub bounds-out-found : goal.bounds-out-found
bounds-out-found c =
    let here = c.loop-v in
    let next = numbers_from-member (rows c.args.t.now c.args.row) here.v c.loop-v-test.true (here.invariant.1 c.loop-v-test.true) in
    omega (arith, ap length next, here.invariant.2, c.requires.1)

pub loop-v-preserved : goal.loop-v-preserved
loop-v-preserved c =
    let set = rows c.args.t.now c.args.row in
    let here = c.loop-v in
    let e = c.next_in-v-in-loop-v.ensures in
    let r = c.next_in-v-in-loop-v.result in
    let next = numbers_from-member set here.v c.loop-v-test.true (here.invariant.1 c.loop-v-test.true) ∙ ap (λ vs. here.v ∷ vs) (numbers_from-passed set (here.v + 1) r e.0 e.1 e.2) in (
      e.1,
      e.3,
      omega (arith, ap length next, here.invariant.2),
      ap (λ n. sets (set_at here.out here.found here.v) n (numbers_from set r)) (add-one here.found) ∙ sym (ap (sets here.out here.found) next) ∙ here.invariant.3,
    )

pub returns : goal.returns
returns c =
    let set = rows c.args.t.now c.args.row in
    let e : c.loop-v.v ≡ row_values = omega (arith, c.loop-v.invariant.0) in
    let none = numbers_from-done set c.loop-v.v e in
    (omega (arith, c.loop-v.invariant.2, ap length none), sym (ap (sets c.loop-v.out c.loop-v.found) none) ∙ c.loop-v.invariant.3)
