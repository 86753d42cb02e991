-- `rows::next_in` meets its contract.
use Rattle.rows.proofs.Passing.{row-above, passed_over}
use Rattle.rows.specs.Rows.{rows}
use mathlib.Core.Path.{◌≡◌, ap, ◌∙◌}
use native.Mathlib.Omega.{arith}
use Prim.Native.Nat.{◌+◌, ◌-◌, ◌%◌}
use Rattle.rows.proofs.next_in.Goals as goal

pub loop-at-init : goal.loop-at-init
loop-at-init c = (omega arith, omega arith, λ u l m. absurd (omega arith))

pub returns-then-bit-skipped-lt-WORD_BITS : goal.returns-then-bit-skipped-lt-WORD_BITS
returns-then-bit-skipped-lt-WORD_BITS c =
    let g = c.zeros_below-skipped.result in
    let A = c.args in (
      omega arith,
      omega arith,
      passed_over A.t.now A.row c.loop-at.at (omega arith) A.v g c.min.result c.loop-at.invariant.2 c.zeros_below-skipped.ensures.1 (omega arith) (omega arith),
      λ l.
          let there : c.min.result ≡ c.loop-at.at + g = omega arith in
          ap (rows A.t.now A.row) there ∙ row-above A.t.now A.row c.loop-at.at (omega arith) g c.if-bit-skipped-lt-WORD_BITS.true ∙ c.zeros_below-skipped.ensures.2 (omega arith),
    )

pub loop-at-preserved : goal.loop-at-preserved
loop-at-preserved c =
    let A = c.args in (
      omega arith,
      omega arith,
      passed_over A.t.now A.row c.loop-at.at (omega arith) A.v c.zeros_below-skipped.result (c.loop-at.at + (64 - c.loop-at.at % 64)) c.loop-at.invariant.2 c.zeros_below-skipped.ensures.1 (omega arith) (omega arith),
    )

pub returns : goal.returns
returns c = (omega arith, omega arith, λ u l m. c.loop-at.invariant.2 u l (omega arith), λ l. absurd (omega arith))
