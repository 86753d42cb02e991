-- The rows of the table as tests: four words are a record where those that a row leaves unused are 0 and the others pass.
use Prim.Native.Nat.{ℕ, zero, suc, ◌<◌}
use borrow.Author.Tests.{ne_eqb}
use native.Mathlib.Omega.{arith}
use mathlib.Core.Path.{◌≡◌, refl}
use mathlib.Core.Logic.{◌≢◌}
use mathlib.Core.Bool.{Bool, true, false, ◌&&◌, cond}
use lib.Dec.{leb, eqb, eqb→eq}
use Rattle.rules.specs.Records.{words, edge_argument, kind, decode}
use Rattle.rules.specs.declared.Words.{Words}
use Rattle.rules.specs.declared.Record.{Record}
use Rattle.rules.specs.declared.Record.TheVariants as record'
use Rattle.lists.specs.Tests.{test-elim, is_true, neqb→ne}
use Rattle.records.specs.InTable.{InTable, in_table}
use Rattle.records.specs.Kinds.{kind-edge_argument}

-- a record of the table behind a test, and behind one test more that is passed,
pub behind : (t : Bool) (r : Record) → InTable r → leb 1 (kind (cond t r record'.Outside)) ≡ t
behind true r h = is_true (leb 1 (kind r)) h
behind false r h = refl

pub behind-too : (t : Bool) (r : Record) → InTable r → leb 1 (kind (cond (t && true) r record'.Outside)) ≡ t
behind-too true r h = is_true (leb 1 (kind r)) h
behind-too false r h = refl

-- and behind one that is not passed
behind-none : (t : Bool) (r : Record) → leb 1 (kind (cond (t && false) r record'.Outside)) ≡ false
behind-none true r = refl
behind-none false r = refl

-- an edge argument is of the table, whatever is passed
pub argument-in-table : (a b : ℕ) → InTable (record'.EdgeArgument (edge_argument a b))
argument-in-table a b = kind-edge_argument (leb 1) (edge_argument a b) tt

module _ (a b : ℕ) where
  -- THE INPUT'S KINDS leave word 4 unused.
  fourth-used : (k c : ℕ) → k < 10 → eqb c 0 ≡ false → in_table (words k a b c) ≡ false
  unfolding decode in_table
  fourth-used zero c l h = refl
  fourth-used (suc zero) c l h = rw h refl
  fourth-used (suc (suc zero)) c l h = rw h refl
  fourth-used (suc (suc (suc zero))) c l h = rw h (behind-none (eqb b 0) (record'.Parameter a))
  fourth-used (suc (suc (suc (suc zero)))) c l h = rw h refl
  fourth-used (suc (suc (suc (suc (suc zero))))) c l h = rw h (behind-none (eqb b 0) (record'.Result a))
  fourth-used (suc (suc (suc (suc (suc (suc zero)))))) c l h = rw h (behind-none (eqb b 0) (record'.Argument a))
  fourth-used (suc (suc (suc (suc (suc (suc (suc zero))))))) c l h = rw h (behind-none (eqb b 0) (record'.Edge a))
  fourth-used (suc (suc (suc (suc (suc (suc (suc (suc zero)))))))) c l h = rw h refl
  fourth-used (suc (suc (suc (suc (suc (suc (suc (suc (suc zero))))))))) c l h = rw h (behind-none (eqb b 0) (record'.Context a))
  fourth-used (suc (suc (suc (suc (suc (suc (suc (suc (suc (suc k)))))))))) c l h = absurd (omega arith)

  -- All but four leave word 3 unused too.
  pub third-unused : (k : ℕ) → k < 10 → k ≢ 0 → k ≢ 1 → k ≢ 2 → k ≢ 4 → k ≢ 8 → in_table (words k a b 0) ≡ eqb b 0
  unfolding decode in_table
  third-unused zero l n₀ n₁ n₂ n₄ n₈ = absurd (n₀ refl)
  third-unused (suc zero) l n₀ n₁ n₂ n₄ n₈ = absurd (n₁ refl)
  third-unused (suc (suc zero)) l n₀ n₁ n₂ n₄ n₈ = absurd (n₂ refl)
  third-unused (suc (suc (suc zero))) l n₀ n₁ n₂ n₄ n₈ = behind-too (eqb b 0) (record'.Parameter a) tt
  third-unused (suc (suc (suc (suc zero)))) l n₀ n₁ n₂ n₄ n₈ = absurd (n₄ refl)
  third-unused (suc (suc (suc (suc (suc zero))))) l n₀ n₁ n₂ n₄ n₈ = behind-too (eqb b 0) (record'.Result a) tt
  third-unused (suc (suc (suc (suc (suc (suc zero)))))) l n₀ n₁ n₂ n₄ n₈ = behind-too (eqb b 0) (record'.Argument a) tt
  third-unused (suc (suc (suc (suc (suc (suc (suc zero))))))) l n₀ n₁ n₂ n₄ n₈ = behind-too (eqb b 0) (record'.Edge a) tt
  third-unused (suc (suc (suc (suc (suc (suc (suc (suc zero)))))))) l n₀ n₁ n₂ n₄ n₈ = absurd (n₈ refl)
  third-unused (suc (suc (suc (suc (suc (suc (suc (suc (suc zero))))))))) l n₀ n₁ n₂ n₄ n₈ = behind-too (eqb b 0) (record'.Context a) tt
  third-unused (suc (suc (suc (suc (suc (suc (suc (suc (suc (suc k)))))))))) l n₀ n₁ n₂ n₄ n₈ = absurd (omega arith)

  -- OF THE OTHERS, map entries, slots' addresses and stores leave word 4 unused alone.
  pub fourth-alone : (k c : ℕ) → 10 < k → k < 14 → in_table (words k a b c) ≡ eqb c 0
  unfolding decode in_table
  fourth-alone k c l m =
      test-elim (eqb k 11) (λ y. let h : k ≡ 11 = eqb→eq k 11 y in rw h (behind-too (eqb c 0) (record'.MapEntry a b) tt))
      (λ n. test-elim (eqb k 12) (λ y. let h : k ≡ 12 = eqb→eq k 12 y in rw h (behind-too (eqb c 0) (record'.SlotAddress a b) tt))
      (λ o. let h : k ≡ 13 = (let x = neqb→ne k 11 n in let y = neqb→ne k 12 o in omega arith) in rw h (behind-too (eqb c 0) (record'.Store a b) tt)))

-- An input's record with a word 4 is none of the table.
pub fourth_used : (w : Words) → w.kind < 10 → w.fourth ≢ 0 → in_table w ≡ false
fourth_used w l n = fourth-used w.second w.third w.kind w.fourth l (ne_eqb w.fourth 0 n)
