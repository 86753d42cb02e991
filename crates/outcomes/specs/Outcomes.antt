-- What each service's contract allows: its answer and every lent buffer, to its end. The contracts cite these statements, and any two outcomes
-- that one allows are equal.
use Rattle.std.specs.Prelude.{ℕ, ◌≡◌, refl, List, Result, Err}
use Rattle.std.proofs.Common.{sym, ◌∙◌}
use Rattle.rules.specs.Refusals.{first_of, file_refusals}
use Rattle.rules.specs.Services.{liveness_answer, liveness_ins, liveness_outs, list_answer, list_words}
use Rattle.rules.specs.Services.{rewriting_verdict, rewriting_answer, rewriting_output, final_records}
use Rattle.rules.specs.declared.Refusal.{Refusal}
use Rattle.rules.specs.declared.LivenessCounts.{LivenessCounts}
use Rattle.rules.specs.declared.RewritingAnswer.{RewritingAnswer}

-- what `check_file` may answer of a file
abbrev pub CheckAllows : List ℕ → Result Unit Refusal → Type 0
CheckAllows s v = v ≡ first_of (file_refusals s)

pub check-outcomes-equal : (s : List ℕ) {v w : Result Unit Refusal} → CheckAllows s v → CheckAllows s w → v ≡ w
check-outcomes-equal s a b = a ∙ sym b

-- what `liveness` may leave of a file and two lent tables
abbrev pub LivenessAllows : List ℕ → ℕ → ℕ → Result LivenessCounts Refusal → List ℕ → List ℕ → Type 0
LivenessAllows s n m answer ins outs = (answer ≡ liveness_answer s n m) × (ins ≡ liveness_ins s n m) × (outs ≡ liveness_outs s n m)

pub liveness-outcomes-equal :
    (s : List ℕ) (n m : ℕ) (a b : Result LivenessCounts Refusal) (ins outs ins' outs' : List ℕ)
    → LivenessAllows s n m a ins outs → LivenessAllows s n m b ins' outs' → (a ≡ b) × (ins ≡ ins') × (outs ≡ outs')
liveness-outcomes-equal s n m a b ins outs ins' outs' x y = (x.0 ∙ sym y.0, x.1 ∙ sym y.1, x.2 ∙ sym y.2)

-- what `list` may leave of a file, an instruction and a lent list
abbrev pub ListAllows : List ℕ → ℕ → ℕ → Result ℕ Refusal → List ℕ → Type 0
ListAllows s i n answer numbers = (answer ≡ list_answer s i n) × (numbers ≡ list_words s i n)

pub list-outcomes-equal :
    (s : List ℕ) (i n : ℕ) (a b : Result ℕ Refusal) (numbers numbers' : List ℕ)
    → ListAllows s i n a numbers → ListAllows s i n b numbers' → (a ≡ b) × (numbers ≡ numbers')
list-outcomes-equal s i n a b numbers numbers' x y = (x.0 ∙ sym y.0, x.1 ∙ sym y.1)

-- what `rewrite` may leave of a file, a pointer size and a lent output
abbrev pub RewritingAllows : List ℕ → ℕ → ℕ → Result RewritingAnswer Refusal → List ℕ → Type 0
RewritingAllows s pointer n answer out = (answer ≡ rewriting_answer s pointer n) × (out ≡ rewriting_output s pointer n)

pub rewriting-outcomes-equal :
    (s : List ℕ) (pointer n : ℕ) (a b : Result RewritingAnswer Refusal) (out out' : List ℕ)
    → RewritingAllows s pointer n a out → RewritingAllows s pointer n b out' → (a ≡ b) × (out ≡ out')
rewriting-outcomes-equal s pointer n a b out out' x y = (x.0 ∙ sym y.0, x.1 ∙ sym y.1)

-- what `final_records` may hand back of an answer and two buffers
abbrev pub FinalAllows : Result RewritingAnswer Refusal → List ℕ → List ℕ → List ℕ → Type 0
FinalAllows answer input output part = part ≡ final_records answer input output

pub final-outcomes-equal :
    (answer : Result RewritingAnswer Refusal) (input output : List ℕ) {part part' : List ℕ}
    → FinalAllows answer input output part → FinalAllows answer input output part' → part ≡ part'
final-outcomes-equal answer input output a b = a ∙ sym b

-- A refusal of rewriting is not "unchanged": it is no answer at all.
pub refused-not-unchanged :
    (s : List ℕ) (pointer n : ℕ) (e : Refusal) → rewriting_verdict s pointer n ≡ Err e → rewriting_answer s pointer n ≡ Err e
unfolding rewriting_answer
refused-not-unchanged s pointer n e refused = rw refused refl
