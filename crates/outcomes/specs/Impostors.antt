-- PROGRAMS THAT THE CONTRACTS RULE OUT, each by what they say of one of document 01's sheets: one that refuses everything, is
-- always unchanged, writes nothing, has one fixed output, invents visits, lists every marked value, or never shares slots.
use Rattle.std.specs.Prelude.{ℕ, ◌≡◌, refl, false, replicate, eqb, Result, Ok, IsOk, IsOkAnd}
use Rattle.std.proofs.Math.Path.{ap}
use Rattle.std.proofs.Common.{sym, subst}
use mathlib.Core.List.{List}
use Rattle.std.proofs.Common.{arith}
use Rattle.std.proofs.Math.ListN.{get_or}
use Rattle.rules.specs.Lists.{count}
use Rattle.rules.specs.Records.{decode, record_at, records, first_words, bytes}
use Rattle.rules.specs.File.{followers, follows, function, function_records}
use Rattle.rules.specs.Graph.{reachable}
use Rattle.rules.specs.Liveness.{process, lists_of, is_spilled}
use Rattle.rules.specs.Refusals.{file_refusals}
use Rattle.rules.specs.Slots.{give_slot, free_slot}
use Rattle.rules.specs.Plan.{planned}
use Rattle.rules.specs.Rewriting.{rewritten}
use Rattle.rules.specs.Services.{liveness_verdict, liveness_answer, list_verdict, list_answer, records_of, rewriting_verdict, rewriting_answer, rewriting_output}
use Rattle.rules.specs.SheetFiles.{file, p1, p2, p3, p5}
use Rattle.rules.specs.declared.LivenessCounts.{LivenessCounts}
use Rattle.rules.specs.declared.Refusal.{Refusal}
use Rattle.rules.specs.declared.RewritingAnswer.{RewritingAnswer}
use Rattle.outcomes.specs.Outcomes.{LivenessAllows, ListAllows, RewritingAllows}

-- a lent output with room for every sheet
abbrev lent : ℕ
lent = 1024

module _ (answer : Result RewritingAnswer Refusal) (out : List ℕ) where
  -- P1 is not refused, and not unchanged
  pub not-refused : RewritingAllows (file p1) 8 lent answer out → IsOk answer
  unfolding
      p1 rewriting_answer rewriting_verdict records_of file_refusals decode record_at records first_words followers follows function function_records reachable process lists_of is_spilled give_slot free_slot planned rewritten
  not-refused h = subst IsOk (sym h.0) refl

  pub not-unchanged : RewritingAllows (file p1) 8 lent answer out → IsOkAnd answer (λ a. a.unchanged ≡ false)
  unfolding
      p1 rewriting_answer rewriting_verdict records_of file_refusals decode record_at records first_words followers follows function function_records reachable process lists_of is_spilled give_slot free_slot planned rewritten
  not-unchanged h = subst (λ r. IsOkAnd r (λ a. a.unchanged ≡ false)) (sym h.0) refl

  -- something is written: the kind of the first record
  pub not-nothing : RewritingAllows (file p1) 8 lent answer out → out ≡ replicate lent 0 → ⊥
  unfolding
      p1 rewriting_output rewriting_verdict records_of file_refusals decode record_at records first_words bytes followers follows function function_records reachable process lists_of is_spilled give_slot free_slot planned rewritten
  not-nothing h e =
      let first : get_or out 0 0 ≡ 1 = ap (λ (xs : List ℕ). get_or xs 0 0) h.1 in
      let none : get_or out 0 0 ≡ 0 = ap (λ (xs : List ℕ). get_or xs 0 0) e in
      omega (arith, first, none)

  -- and what is written depends on the file: the second value is an address in P1, and in P5 the file's own
  pub not-one-output :
      (answer' : Result RewritingAnswer Refusal) (out' : List ℕ)
      → RewritingAllows (file p1) 8 lent answer out → RewritingAllows (file p5) 8 lent answer' out' → out ≡ out' → ⊥
  unfolding
      p1 p5 rewriting_output rewriting_verdict records_of file_refusals decode record_at records first_words bytes followers follows function function_records reachable process lists_of is_spilled give_slot free_slot planned rewritten
  not-one-output answer' out' h k e =
      let address : get_or out 20 0 ≡ 8 = ap (λ (xs : List ℕ). get_or xs 20 0) h.1 in
      let own : get_or out' 20 0 ≡ 4 = ap (λ (xs : List ℕ). get_or xs 20 0) k.1 in
      let same = ap (λ (xs : List ℕ). get_or xs 20 0) e in
      omega (arith, address, own, same)

  -- P2's visits and pushes
  pub visits-counted : RewritingAllows (file p2) 8 lent answer out → IsOkAnd answer (λ a. (a.visits ≡ 5) × (a.pushes ≡ 8))
  unfolding
      p2 rewriting_answer rewriting_verdict records_of file_refusals decode record_at records first_words followers follows function function_records reachable process lists_of is_spilled give_slot free_slot planned rewritten
  visits-counted h = subst (λ r. IsOkAnd r (λ a. (a.visits ≡ 5) × (a.pushes ≡ 8))) (sym h.0) (refl, refl)

  -- P5's maps do not list every marked value: they have two entries together
  pub not-all-in-maps : RewritingAllows (file p5) 8 lent answer out → count (eqb 11) (first_words out) ≡ 2
  unfolding
      p5 rewriting_output rewriting_verdict records_of file_refusals decode record_at records first_words bytes followers follows function function_records reachable process lists_of is_spilled give_slot free_slot planned rewritten
  not-all-in-maps h = ap (λ (xs : List ℕ). count (eqb 11) (first_words xs)) h.1

  -- P3's two values share a slot
  pub slots-shared : RewritingAllows (file p3) 8 lent answer out → IsOkAnd answer (λ a. a.slots ≡ 1)
  unfolding
      p3 rewriting_answer rewriting_verdict records_of file_refusals decode record_at records first_words followers follows function function_records reachable process lists_of is_spilled give_slot free_slot planned rewritten
  slots-shared h = subst (λ r. IsOkAnd r (λ a. a.slots ≡ 1)) (sym h.0) refl

-- P5 has two marked values, and its first safepoint lists one of them
pub not-all-listed : (answer : Result ℕ Refusal) (numbers : List ℕ) → ListAllows (file p5) 3 2 answer numbers → answer ≡ Ok 1
unfolding
    p5 list_answer list_verdict file_refusals decode record_at records first_words followers follows function reachable process lists_of
not-all-listed answer numbers h = h.0

-- liveness alone counts P2's visits and pushes alike
pub live-visits-counted : (answer : Result LivenessCounts Refusal) (ins outs : List ℕ) → LivenessAllows (file p2) 512 512 answer ins outs → answer ≡ Ok (record { visits = 5; pushes = 8 })
unfolding
    p2 liveness_answer liveness_verdict file_refusals decode record_at records first_words followers follows function reachable process
live-visits-counted answer ins outs h = h.0
