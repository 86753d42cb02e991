-- The file that rewriting leaves of one that it accepts: the file itself where no value is spilled, and else the bytes of the
-- rewritten function.
use Rattle.std.specs.Prelude.{ℕ, ◌-◌, ◌*◌, ◌≤◌, ◌≡◌, not, replicate, T, leb, is_ok, Result, Ok}
use Rattle.std.proofs.Math.Nat.{div-add-mod'}
use Rattle.std.proofs.Common.{arith, ◌∙◌, le→leb}
use Rattle.std.proofs.Math.Path.{ap}
use Rattle.std.proofs.Math.Bool.{true, false, cond}
use mathlib.Core.List.{List, []}
use Rattle.std.proofs.Math.ListN.{length, take, length-append}
use Rattle.std.proofs.Math.Seq.{take-length, take-append_seam}
use Rattle.rules.specs.Limits.{record_bytes}
use Rattle.rules.specs.Lists.{padded}
use Rattle.rules.specs.Records.{record_count, bytes}
use Rattle.rules.specs.File.{function_records, function_in}
use Rattle.rules.specs.Liveness.{process}
use Rattle.rules.specs.Plan.{planned}
use Rattle.rules.specs.Rewriting.{rewritten}
use Rattle.rules.specs.Services.{answering, lent, is_unchanged, records_of, rewriting_verdict, rewriting_answer, rewriting_output, answered_records, final_records}
use Rattle.rules.specs.Demand3.{final_file}
use Rattle.rules.specs.declared.Refusal.{Refusal}
use Rattle.rules.specs.declared.RewritingAnswer.{RewritingAnswer}
use Rattle.lists.specs.Calls.{passed-ok, answered-passes}
use Rattle.lists.specs.Tests.{is_true, is_false, chosen, left_out}
use Rattle.records.specs.Writing.{bytes-length}
use Rattle.demand3.specs.Verdicts.{FileAccepted}

-- an answer's final records are a part of the buffer chosen, where that is long enough
final-taken : (answer : RewritingAnswer) (input output buffer : List ℕ)
    → cond answer.unchanged input output ≡ buffer → record_bytes * answer.records ≤ length buffer
    → answered_records answer input output ≡ take (record_bytes * answer.records) buffer
final-taken answer input output buffer e l =
    let k = record_bytes * answer.records in
    let part : List ℕ → List ℕ = λ b. elim (leb k (length b)) [ true ↦ take k b | false ↦ [] ] in
    ap part e ∙ chosen (leb k (length buffer)) (take k buffer) [] (le→leb k (length buffer) l)

module _ (s : List ℕ) (pointer n : ℕ) (accepted : T (is_ok (rewriting_answer s pointer n))) where
  passes : rewriting_verdict s pointer n ≡ Ok tt
  unfolding rewriting_answer
  passes = passed-ok (rewriting_verdict s pointer n) (answered-passes (rewriting_verdict s pointer n) _ accepted)

  -- the answer then
  abbrev given : RewritingAnswer
  given =
      let f = function_in s in
      let plan = (planned f pointer).1 in
      record {
        records = records_of s pointer;
        slots = length plan.slots.made;
        landings = plan.blocks - length f.blocks;
        visits = length (process f).visited;
        pushes = (process f).pushes;
        unchanged = is_unchanged f;
      }

  final-given : final_file s pointer n ≡ answered_records given s (rewriting_output s pointer n)
  unfolding rewriting_answer final_records
  final-given =
      ap (λ (v : Result Unit Refusal). final_records (answering v given) s (rewriting_output s pointer n)) passes

  module _ (file : FileAccepted s pointer n) where
    -- Where no value is spilled it is the file,
    pub final-unchanged : T (is_unchanged (function_in s)) → final_file s pointer n ≡ s
    unfolding records_of
    final-unchanged u =
        let count : records_of s pointer ≡ record_count s =
        chosen (is_unchanged (function_in s)) (record_count s) (length (function_records (rewritten (function_in s) pointer))) u in
        let long : record_bytes * records_of s pointer ≡ length s =
        omega (arith, count, div-add-mod' (length s) record_bytes, file.whole-records) in
        final-given
        ∙ final-taken given s (rewriting_output s pointer n) s
        (ap (λ c. cond c s (rewriting_output s pointer n)) (is_true (is_unchanged (function_in s)) u)) (omega (arith, long))
        ∙ ap (λ k. take k s) long ∙ take-length s

    -- and else the rewritten function's bytes.
    pub final-rewritten : T (not (is_unchanged (function_in s)))
        → final_file s pointer n ≡ bytes (function_records (rewritten (function_in s) pointer))
    unfolding records_of rewriting_output
    final-rewritten u =
        let f = function_in s in
        let rs = function_records (rewritten f pointer) in
        let written = bytes rs in
        let counted : records_of s pointer ≡ length rs = left_out (is_unchanged f) (record_count s) (length rs) u in
        let long : record_bytes * records_of s pointer ≡ length written = omega (arith, counted, bytes-length rs) in
        let output : rewriting_output s pointer n ≡ padded n written =
        ap (λ (v : Result Unit Refusal). lent v n (elim (is_unchanged f) [ true ↦ [] | false ↦ written ])) passes
        ∙ ap (padded n) (left_out (is_unchanged f) [] written u) in
        final-given
        ∙ final-taken given s (rewriting_output s pointer n) (padded n written)
        (ap (λ c. cond c s (rewriting_output s pointer n)) (is_false (is_unchanged f) u) ∙ output)
        (omega (arith, long, length-append written (replicate (n - length written) 0)))
        ∙ ap (λ k. take k (padded n written)) long ∙ take-append_seam written (replicate (n - length written) 0)
