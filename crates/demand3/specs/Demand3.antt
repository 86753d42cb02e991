-- DEMAND 3: the original and what rewriting leaves are seen to do the same.
use Rattle.std.specs.Prelude.{ℕ, not, List, [], ◌∷◌, length, T, is_ok}
use Rattle.std.proofs.Common.{sym, subst, arith}
use Rattle.std.proofs.Math.Dec.{not_T}
use Rattle.rules.specs.Lists.{empty, members}
use Rattle.rules.specs.Tree.{Function}
use Rattle.rules.specs.Records.{IsBytes}
use Rattle.rules.specs.File.{function_in}
use Rattle.rules.specs.Liveness.{is_spilled}
use Rattle.rules.specs.Rewriting.{rewritten}
use Rattle.rules.specs.Services.{is_unchanged, rewriting_answer}
use Rattle.rules.specs.Demand3.{Dominated, final_file, Demand3}
use Rattle.lists.specs.Tests.{test-elim}
use Rattle.lists.specs.Members.{◌∈◌, not-∈-nil}
use Rattle.records.specs.Writing.{function-in-bytes}
use Rattle.fixpoint.specs.Finding.{∈-keep, ∈-up_from}
use Rattle.fixpoint.specs.Rule.{marked-in-file}
use Rattle.simulation.specs.Related.{Related}
use Rattle.simulation.specs.Simulation.{demand3-by-relation}
use Rattle.sharing.specs.Spilled.{spilled-marked}
use Rattle.agreement.specs.Apart.{slots_apart}
use Rattle.agreement.specs.Following.{rewriting-related}
use Rattle.agreement.specs.Unchanged.{unspilled-related}
use Rattle.demand3.specs.Verdicts.{file-accepted, tree-accepted}
use Rattle.demand3.specs.FinalFile.{final-unchanged, final-rewritten}
use Rattle.demand3.specs.WrittenFile.{rewritten-writable}

-- an unchanged file has no spilled value
none-spilled : (f : Function) → T (is_unchanged f) → (v : ℕ) → T (not (is_spilled f v))
none-spilled f u v =
    not_T (is_spilled f v)
    (λ t.
    let inside = marked-in-file f v (spilled-marked f v t) in
    none (members (length f.values) (is_spilled f)) u
    (∈-keep (is_spilled f) (∈-up_from 0 (length f.values) v (omega arith) (omega (arith, inside))) t))
  where
    none : (vs : List ℕ) → T (empty vs) → v ∈ vs → ⊥
    none [] u m = not-∈-nil m
    none (w ∷ vs) u m = u

-- An accepted file and what rewriting leaves of it are related.
pub final-related : (s : List ℕ) (pointer n : ℕ) → IsBytes s
    → T (is_ok (rewriting_answer s pointer n)) → Dominated (function_in s)
    → Related (function_in s) (function_in (final_file s pointer n))
final-related s pointer n is_bytes accepted dominated =
    let f = function_in s in
    let file = file-accepted s pointer n accepted in
    let tree = tree-accepted s pointer n file in
    test-elim (is_unchanged f)
    (λ u.
    subst (λ t. Related f (function_in t)) (sym (final-unchanged s pointer n accepted file u))
    (unspilled-related f pointer tree dominated (none-spilled f u)))
    (λ u.
    subst (λ t. Related f (function_in t)) (sym (final-rewritten s pointer n accepted file u))
    (subst (Related f) (sym (function-in-bytes (rewritten f pointer) (rewritten-writable s pointer n is_bytes file)))
    (rewriting-related f pointer tree dominated (slots_apart f pointer file.once file.in-file dominated))))

-- Demand 3 holds.
pub demand3 : Demand3
demand3 = demand3-by-relation final-related
