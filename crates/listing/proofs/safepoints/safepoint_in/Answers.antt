-- `listing::safepoints::safepoint_in` meets its contract.
use Prim.Native.Nat.{ℕ, ◌+◌}
use mathlib.Core.Path.{◌≡◌, sym, ◌∙◌, ap}
use mathlib.Core.Bool.{true, false}
use mathlib.Core.List.{List, map}
use lib.Dec.{eqb}
use native.Mathlib.Omega.{arith}
use borrow.Author.Tests.{eq-eqb, ne_eqb}
use Rattle.rules.specs.File.{instruction_of}
use Rattle.rules.specs.declared.Record.{Record}
use Rattle.graph.specs.Between.{between_none}
use Rattle.graph.specs.Sections.{places, sections_at}
use Rattle.listing.specs.Stepping.{opens, instructions_from}
use Rattle.listing.specs.HasList.{is_safepoint_at, safepoint-here, safepoint-later, safepoint-other}
use Rattle.listing.proofs.safepoints.safepoint_in.Goals.{then-kind_at-eq-INSTRUCTION+else-left-eq0, else-kind_at-eq-INSTRUCTION}
use Rattle.listing.proofs.safepoints.safepoint_in.Goals as goal

pub returns-then-left-eq0 : goal.returns-then-left-eq0
returns-then-left-eq0 c =
    let s = c.args.file.bytes.now in
    let k : opens s c.loop-p.p ≡ true = ap (λ x. eqb x 4) (sym c.kind_at.ensures.0) ∙ eq-eqb c.kind_at.result 4 c.if-kind_at-eq-INSTRUCTION.true in
    c.is_safepoint.ensures
    ∙ sym (safepoint-here s c.args.end c.requires.1 c.loop-p.p c.loop-p-test.true k)
    ∙ ap (is_safepoint_at (instructions_from s c.loop-p.p c.args.end)) (sym c.if-left-eq0.true)
    ∙ c.loop-p.invariant

pub loop-p-preserved : goal.loop-p-preserved
loop-p-preserved c =
    let s = c.args.file.bytes.now in
    let p = c.loop-p.p in
    let end = c.args.end in
    let later = is_safepoint_at (instructions_from s (p + 1) end) in
    elim c.if-kind_at-eq-INSTRUCTION.branch [
      | then-kind_at-eq-INSTRUCTION+else-left-eq0 w ↦
          let k : opens s p ≡ true = ap (λ x. eqb x 4) (sym c.kind_at.ensures.0) ∙ eq-eqb c.kind_at.result 4 w.if-kind_at-eq-INSTRUCTION.true in
          ap later w.left-is ∙ sym (safepoint-later s end c.requires.1 p c.loop-p-test.true c.loop-p.left (omega (arith, w.if-left-eq0.false)) k)
      | else-kind_at-eq-INSTRUCTION w ↦
          let k : opens s p ≡ false = ap (λ x. eqb x 4) (sym c.kind_at.ensures.0) ∙ ne_eqb c.kind_at.result 4 w.if-kind_at-eq-INSTRUCTION.false in
          ap later w.left-is ∙ sym (safepoint-other s end c.requires.1 p c.loop-p-test.true c.loop-p.left k)
    ] ∙ c.loop-p.invariant

pub returns : goal.returns
returns c =
    let s = c.args.file.bytes.now in
    let e : c.loop-p.p ≡ c.args.end = omega (arith, c.requires.0) in
    sym (ap (λ (q : ℕ). is_safepoint_at (instructions_from s q c.args.end) c.loop-p.left) e
    ∙ ap (λ (rs : List Record). is_safepoint_at (map instruction_of (sections_at s c.args.end (places (eqb 4) c.args.end rs))) c.loop-p.left) (between_none s c.args.end))
    ∙ c.loop-p.invariant
