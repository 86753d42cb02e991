-- A record of the file is what its words say: so what a tree keeps of it makes it again.
use Rattle.std.specs.Prelude.{ℕ, ◌≡◌, refl, true, false, cond, T, eqb, ltb}
use Rattle.std.proofs.Common.{sym, subst, ◌∙◌}
use Rattle.rules.specs.Records.{encode, kind, is_safepoint, is_terminator, edge_argument}
use Rattle.rules.specs.declared.EdgeArgument.TheVariants as passes
use Rattle.rules.specs.declared.Record.{Record}
use Rattle.rules.specs.declared.Record.TheVariants as record'
use Rattle.rules.specs.declared.Words.{Words}

-- the record of an input that words are
abbrev remade : Words → Record
remade w =
    cond (eqb w.kind 1) (record'.Value w.second (eqb w.third 1))
    (cond (eqb w.kind 2) (record'.Block (eqb w.second 1) w.third)
    (cond (eqb w.kind 3) (record'.Parameter w.second)
    (cond (eqb w.kind 4) (record'.Instruction (is_safepoint w.second) (is_terminator w.second) w.third)
    (cond (eqb w.kind 5) (record'.Result w.second)
    (cond (eqb w.kind 6) (record'.Argument w.second)
    (cond (eqb w.kind 7) (record'.Edge w.second)
    (cond (eqb w.kind 8) (record'.EdgeArgument (edge_argument w.second w.third))
    (cond (eqb w.kind 9) (record'.Context w.second) record'.Outside))))))))

remade-same : (r : Record) → T (ltb (kind r) 10) → r ≡ remade (encode r)
remade-same (record'.Value size true) h = refl
remade-same (record'.Value size false) h = refl
remade-same (record'.Block true number) h = refl
remade-same (record'.Block false number) h = refl
remade-same (record'.Parameter v) h = refl
remade-same (record'.Instruction true true tag) h = refl
remade-same (record'.Instruction true false tag) h = refl
remade-same (record'.Instruction false true tag) h = refl
remade-same (record'.Instruction false false tag) h = refl
remade-same (record'.Result v) h = refl
remade-same (record'.Argument v) h = refl
remade-same (record'.Edge block) h = refl
remade-same (record'.EdgeArgument (passes.Value v)) h = refl
remade-same (record'.EdgeArgument (passes.Returned index)) h = refl
remade-same (record'.EdgeArgument (passes.Exception index)) h = refl
remade-same (record'.Context v) h = refl
remade-same (record'.Slot size) h = absurd h
remade-same (record'.MapEntry slot size) h = absurd h
remade-same (record'.SlotAddress result slot) h = absurd h
remade-same (record'.Store value address) h = absurd h
remade-same (record'.Load result address size) h = absurd h
remade-same record'.Jump h = absurd h
remade-same record'.Outside h = refl

module _ (r : Record) (k : ℕ) (e : kind r ≡ k) where
  known : T (ltb k 10) → r ≡ remade (encode r)
  known small = remade-same r (subst (λ j. T (ltb j 10)) (sym e) small)

-- BY KIND
pub value-remade : (r : Record) → kind r ≡ 1 → r ≡ record'.Value (encode r).second (eqb (encode r).third 1)
value-remade r e = known r 1 e tt ∙ kept (encode r) e
  where
    kept : (w : Words) → w.kind ≡ 1 → remade w ≡ record'.Value w.second (eqb w.third 1)
    kept w e = rw e refl

pub block-remade : (r : Record) → kind r ≡ 2 → r ≡ record'.Block (eqb (encode r).second 1) (encode r).third
block-remade r e = known r 2 e tt ∙ kept (encode r) e
  where
    kept : (w : Words) → w.kind ≡ 2 → remade w ≡ record'.Block (eqb w.second 1) w.third
    kept w e = rw e refl

pub instruction-remade :
    (r : Record) → kind r ≡ 4
    → r ≡ record'.Instruction (is_safepoint (encode r).second) (is_terminator (encode r).second) (encode r).third
instruction-remade r e = known r 4 e tt ∙ kept (encode r) e
  where
    kept : (w : Words) → w.kind ≡ 4 → remade w ≡ record'.Instruction (is_safepoint w.second) (is_terminator w.second) w.third
    kept w e = rw e refl
