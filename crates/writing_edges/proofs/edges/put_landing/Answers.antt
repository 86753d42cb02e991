-- `writing_edges::edges::put_landing` meets its contract.
use lib.ListN.{get_or}
use mathlib.Core.Path.{◌≡◌, refl, sym, ap, ◌∙◌}
use native.Mathlib.Omega.{arith}
use Prim.Native.Nat.{ℕ, ◌-◌}
use borrow.Author.Rules.{rules}
use Rattle.writing.specs.Put.{put_none, put_as, put_then, fits_as, first_fits, next_fits}
use Rattle.writing.specs.declared.parts.Part.TheVariants as part
use Rattle.writing_edges.specs.Edges.{passing, landing_head, landing_items, landing_jump, landing_and, landing-none, landing-some}
use Rattle.writing_edges.proofs.edges.put_landing.Goals as goal

pub put_landing_head-requires : goal.put_landing_head-requires
put_landing_head-requires c =
    let some : get_or c.args.plan.numbers.now c.args.p 0 ≡ 0 → ⊥ = λ e. omega (arith, e, c.in-Some.ensures) in
    let all = fits_as c.args.out.now (landing-some c.args.plan.file.bytes.now c.args.plan.numbers.now c.args.plan.slots.now c.args.p c.args.end c.requires.0 c.requires.1 some) c.requires.2 in
    (c.requires.0, c.requires.1, first_fits c.args.out.now (landing_head c.args.plan.file.bytes.now c.args.plan.numbers.now c.args.plan.slots.now c.in-Some.number c.args.p c.args.end) (landing_items c.args.plan.file.bytes.now c.args.plan.numbers.now c.args.plan.slots.now c.args.p c.args.end) all)

pub put_parts-requires : goal.put_parts-requires
put_parts-requires c =
    let some : get_or c.args.plan.numbers.now c.args.p 0 ≡ 0 → ⊥ = λ e. omega (arith, e, c.in-Some.ensures) in
    let all = fits_as c.args.out.now (landing-some c.args.plan.file.bytes.now c.args.plan.numbers.now c.args.plan.slots.now c.args.p c.args.end c.requires.0 c.requires.1 some) c.requires.2 in
    let rest = next_fits c.put_landing_head.ensures (landing_items c.args.plan.file.bytes.now c.args.plan.numbers.now c.args.plan.slots.now c.args.p c.args.end) all in
    (search rules, c.requires.1, first_fits c.put_landing_head.new.out (passing c.args.plan.file.bytes.now c.args.plan.numbers.now c.args.plan.slots.now part.PassedLoad c.args.p c.args.end) (landing_jump c.args.plan.file.bytes.now c.args.plan.numbers.now c.args.plan.slots.now c.args.p c.args.end) rest, refl)

pub put_landing_jump-requires : goal.put_landing_jump-requires
put_landing_jump-requires c =
    let some : get_or c.args.plan.numbers.now c.args.p 0 ≡ 0 → ⊥ = λ e. omega (arith, e, c.in-Some.ensures) in
    let all = fits_as c.args.out.now (landing-some c.args.plan.file.bytes.now c.args.plan.numbers.now c.args.plan.slots.now c.args.p c.args.end c.requires.0 c.requires.1 some) c.requires.2 in
    let rest = next_fits c.put_landing_head.ensures (landing_items c.args.plan.file.bytes.now c.args.plan.numbers.now c.args.plan.slots.now c.args.p c.args.end) all in
    (c.requires.0, c.requires.1, next_fits c.put_parts.ensures (landing_jump c.args.plan.file.bytes.now c.args.plan.numbers.now c.args.plan.slots.now c.args.p c.args.end) rest)

pub returns-in-Some : goal.returns-in-Some
returns-in-Some c =
    let some : get_or c.args.plan.numbers.now c.args.p 0 ≡ 0 → ⊥ = λ e. omega (arith, e, c.in-Some.ensures) in
    let all = fits_as c.args.out.now (landing-some c.args.plan.file.bytes.now c.args.plan.numbers.now c.args.plan.slots.now c.args.p c.args.end c.requires.0 c.requires.1 some) c.requires.2 in
    let rest = next_fits c.put_landing_head.ensures (landing_items c.args.plan.file.bytes.now c.args.plan.numbers.now c.args.plan.slots.now c.args.p c.args.end) all in
    let number : c.in-Some.number ≡ get_or c.args.plan.numbers.now c.args.p 0 - 1 = omega (arith, c.in-Some.ensures) in
    put_as (ap (λ (n : ℕ). landing_and c.args.plan.file.bytes.now c.args.plan.numbers.now c.args.plan.slots.now n c.args.p c.args.end) number ∙ sym (landing-some c.args.plan.file.bytes.now c.args.plan.numbers.now c.args.plan.slots.now c.args.p c.args.end c.requires.0 c.requires.1 some))
    (put_then c.put_landing_head.ensures all (put_then c.put_parts.ensures rest c.put_landing_jump.ensures))

pub returns-in_default : goal.returns-in_default
returns-in_default c =
    let none : get_or c.args.plan.numbers.now c.args.p 0 ≡ 0 = omega (arith, c.in_default.ensures) in
    put_as (sym (landing-none c.args.plan.file.bytes.now c.args.plan.numbers.now c.args.plan.slots.now c.args.p c.args.end c.requires.0 c.requires.1 none)) (put_none _ (search rules))
