-- `stackslots::freelists::StackSlots::find_places` meets its contract.
use Rattle.stackslots.proofs.Loop.{Going, going_start, going-turn, going_more, going_done}
use Rattle.stackslots.specs.Tables.{slot_tables, place_number}
use Prim.Native.Nat.{ℕ}
use lib.ListN.{length, get_or, set}
use mathlib.Core.Path.{refl, sym, subst, ap, ◌∙◌}
use native.Mathlib.Omega.{arith}
use native.Mathlib.Numerals.{add-one}
use Rattle.stackslots.proofs.freelists.StackSlots.find_places.Goals as goal

pub loop-i-init : goal.loop-i-init
loop-i-init c =
    let A = c.args in
    let t = A.self.now in
    let going =
    subst (λ (made : ℕ). Going A.file.bytes.now A.steps.now (length A.steps.now) t.heads.now t.older.now t.tags.now A.places.now 0 (slot_tables t.heads.now t.older.now t.tags.now made) A.places.now)
    (sym c.requires.1) (going_start _ _ _ _ _ _ _ c.requires.0 c.requires.2) in
    (going, record { heads = refl; older = refl; tags = refl })

pub step-requires : goal.step-requires
step-requires c = going-turn _ _ _ _ _ _ _ c.requires.0 c.requires.2 c.loop-i.i _ _ c.loop-i.invariant.0 c.loop-i-test.true

pub loop-i-preserved : goal.loop-i-preserved
loop-i-preserved c =
    let A = c.args in
    let was = c.loop-i.invariant.1 in
    let same = c.step.ensures.same in
    rw (add-one c.loop-i.i) (
      going_more _ _ _ _ _ _ _ c.requires.0 c.requires.2 c.loop-i.i _ _ c.loop-i.invariant.0 c.loop-i-test.true _ c.step.ensures.turned _ c.tag_of-before.ensures _
          (ap (set c.loop-i.places c.loop-i.i) (c.place_of.ensures ∙ ap (place_number (get_or A.steps.now c.loop-i.i 0) c.tag_of-before.result) c.tag_of.ensures)),
      record { heads = same.heads ∙ was.heads; older = same.older ∙ was.older; tags = same.tags ∙ was.tags },
    )

pub returns-clause-found : goal.returns-clause-found
returns-clause-found c = going_done _ _ _ _ _ _ _ c.requires.0 c.requires.2 c.loop-i.i _ _ c.loop-i.invariant.0 (omega arith)
