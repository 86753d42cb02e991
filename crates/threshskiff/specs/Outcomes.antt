-- What each function under a C name may leave: its answer and every lent buffer, to its end. The functions' contracts are these
-- statements, and any two outcomes that one allows are equal.
use Rattle.std.specs.Prelude.{ℕ, ◌≡◌, List}
use Rattle.std.proofs.Common.{sym, ◌∙◌}
use Rattle.rules.specs.Refusals.{first_of, file_refusals}
use Rattle.rules.specs.Services.{liveness_answer, liveness_ins, liveness_outs, list_answer, list_words}
use Rattle.rules.specs.Services.{rewriting_answer, rewriting_output}
use Rattle.threshskiff.specs.Numbers.{check_number, liveness_numbers, list_numbers, rewriting_numbers, final_part}
use Rattle.threshskiff.specs.declared.ThreshskiffLiveness.{ThreshskiffLiveness}
use Rattle.threshskiff.specs.declared.ThreshskiffList.{ThreshskiffList}
use Rattle.threshskiff.specs.declared.ThreshskiffRewriting.{ThreshskiffRewriting}
use Rattle.threshskiff.specs.declared.ThreshskiffFinal.{ThreshskiffFinal}

-- what `threshskiff_check` may answer of file s
abbrev pub CheckAllows : List ℕ → ℕ → Type 0
CheckAllows s refusal = refusal ≡ check_number (first_of (file_refusals s))

pub check-outcomes-equal : (s : List ℕ) {a b : ℕ} → CheckAllows s a → CheckAllows s b → a ≡ b
check-outcomes-equal s x y = x ∙ sym y

-- what `threshskiff_liveness` may leave of file s and two lent tables of n and m words
pub record LivenessAllows (s : List ℕ) (n m : ℕ) (answer : ThreshskiffLiveness) (ins outs : List ℕ) : Type 0 where
  pub answers : answer ≡ liveness_numbers (liveness_answer s n m)
  pub live_in : ins ≡ liveness_ins s n m
  pub live_out : outs ≡ liveness_outs s n m

pub liveness-outcomes-equal :
    {s : List ℕ} {n m : ℕ} {a b : ThreshskiffLiveness} {ins outs ins' outs' : List ℕ}
    → LivenessAllows s n m a ins outs → LivenessAllows s n m b ins' outs' → (a ≡ b) × (ins ≡ ins') × (outs ≡ outs')
liveness-outcomes-equal x y = (x.answers ∙ sym y.answers, x.live_in ∙ sym y.live_in, x.live_out ∙ sym y.live_out)

-- what `threshskiff_list` may leave of file s, instruction i and n lent words
pub record ListAllows (s : List ℕ) (i n : ℕ) (answer : ThreshskiffList) (numbers : List ℕ) : Type 0 where
  pub answers : answer ≡ list_numbers (list_answer s i n)
  pub words : numbers ≡ list_words s i n

pub list-outcomes-equal :
    {s : List ℕ} {i n : ℕ} {a b : ThreshskiffList} {numbers numbers' : List ℕ}
    → ListAllows s i n a numbers → ListAllows s i n b numbers' → (a ≡ b) × (numbers ≡ numbers')
list-outcomes-equal x y = (x.answers ∙ sym y.answers, x.words ∙ sym y.words)

-- what `threshskiff_rewrite` may leave of file s, a pointer size and n lent bytes
pub record RewritingAllows (s : List ℕ) (pointer n : ℕ) (answer : ThreshskiffRewriting) (out : List ℕ) : Type 0 where
  pub answers : answer ≡ rewriting_numbers (rewriting_answer s pointer n)
  pub output : out ≡ rewriting_output s pointer n

pub rewriting-outcomes-equal :
    {s : List ℕ} {pointer n : ℕ} {a b : ThreshskiffRewriting} {out out' : List ℕ}
    → RewritingAllows s pointer n a out → RewritingAllows s pointer n b out' → (a ≡ b) × (out ≡ out')
rewriting-outcomes-equal x y = (x.answers ∙ sym y.answers, x.output ∙ sym y.output)

-- what `threshskiff_final` may answer of any numbers and two buffers
abbrev pub FinalAllows : ThreshskiffRewriting → List ℕ → List ℕ → ThreshskiffFinal → Type 0
FinalAllows numbers input output part = part ≡ final_part numbers input output

pub final-outcomes-equal :
    (numbers : ThreshskiffRewriting) (input output : List ℕ) {a b : ThreshskiffFinal}
    → FinalAllows numbers input output a → FinalAllows numbers input output b → a ≡ b
final-outcomes-equal numbers input output x y = x ∙ sym y
