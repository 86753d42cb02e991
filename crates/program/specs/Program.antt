-- What the program answers, by the buffer that it lends to rewriting.
use Rattle.std.specs.Prelude.{ℕ, ◌<◌, ◌≤◌, ◌≡◌, refl, Bool, length, replicate, ltb, Result, Ok, Err}
use Rattle.std.proofs.Common.{sym, ap, ◌∙◌, arith, lt-ltb, le-ltb}
use Rattle.std.proofs.Math.Bool.{true, false}
use mathlib.Core.List.{List, []}
use Rattle.rules.specs.Lists.{padded}
use Rattle.rules.specs.Limits.{program_input, program_output, program_pointer}
use Rattle.rules.specs.Refusals.{refusal_number}
use Rattle.rules.specs.Services.{rewriting_answer, rewriting_output, final_records, refused_line, written, program_writes}
use Rattle.rules.specs.declared.Refusal.{Refusal}
use Rattle.rules.specs.declared.Refusal.TheVariants as refusal
use Rattle.rules.specs.declared.RewritingAnswer.{RewritingAnswer}
use Rattle.graph.specs.Zeros.{length-padded-le}

module _ (s : List ℕ) (n : ℕ) where
  abbrev answer_by : Bool → Result RewritingAnswer Refusal
  answer_by long = elim long [ true ↦ Err refusal.TooMany | false ↦ rewriting_answer s program_pointer n ]

  abbrev buffer_by : Bool → List ℕ
  buffer_by long = elim long [ true ↦ replicate n 0 | false ↦ rewriting_output s program_pointer n ]

  -- the answer for an input, with an output of n bytes: 3 at once where the input is too long
  unfoldable pub program_answer : Result RewritingAnswer Refusal
  program_answer = answer_by (ltb program_input (length s))

  -- the output's bytes then
  unfoldable pub program_buffer : List ℕ
  program_buffer = buffer_by (ltb program_input (length s))

  -- an input that is too long
  pub program-long : program_input < length s → (Err refusal.TooMany ≡ program_answer) × (replicate n 0 ≡ program_buffer)
  unfolding program_answer program_buffer
  program-long l = let long = sym (lt-ltb program_input (length s) l) in (ap answer_by long, ap buffer_by long)

  -- one that is not
  pub program-rewrites :
      length s ≤ program_input → (rewriting_answer s program_pointer n ≡ program_answer) × (rewriting_output s program_pointer n ≡ program_buffer)
  unfolding program_answer program_buffer
  program-rewrites l = let short = sym (le-ltb program_input (length s) l) in (ap answer_by short, ap buffer_by short)

-- WHAT THE PROGRAM WRITES is what is written for its answer and its output.
pub program-writes : (s : List ℕ) → program_writes s ≡ written (program_answer s program_output) s (program_buffer s program_output)
unfolding program_writes program_answer program_buffer
program-writes s = go (ltb program_input (length s))
  where
    go : (long : Bool)
        → ◌≡◌ {A = List ℕ}
        (elim long [
          | true ↦ written (Err refusal.TooMany) s []
          | false ↦ written (rewriting_answer s program_pointer program_output) s (rewriting_output s program_pointer program_output)
        ])
        (written (answer_by s program_output long) s (buffer_by s program_output long))
    go true = refl
    go false = refl

-- the bytes of a line
abbrev pub line_bytes : ℕ
line_bytes = 16

-- a line stands in its bytes
pub line-there :
    (line bytes : List ℕ) (count : ℕ) → bytes ≡ padded line_bytes line → count ≡ length line → count ≤ length bytes
line-there line bytes count b c = omega (arith, c, ap length b, length-padded-le line_bytes line)

-- the line of an answer: none where it is not refused
abbrev pub line_of : Result RewritingAnswer Refusal → List ℕ
line_of (Ok _) = []
line_of (Err e) = refused_line (refusal_number e)

-- what is written for an answer with a line at hand: the final records, or that line where it is a refusal
abbrev pub written_with : Result RewritingAnswer Refusal → List ℕ → List ℕ → List ℕ → List ℕ
written_with (Ok answer) input output line = final_records (Ok answer) input output
written_with (Err e) input output line = line

module _ (input output line : List ℕ) where
  pub written-final : (answer : RewritingAnswer) → final_records (Ok answer) input output ≡ written_with (Ok answer) input output line
  written-final answer = refl

  pub written-line : (e : Refusal) → line ≡ written_with (Err e) input output line
  written-line e = refl

-- with the answer's own line it is what is written for the answer
pub written-own : (answer : Result RewritingAnswer Refusal) (input output : List ℕ) → written_with answer input output (line_of answer) ≡ written answer input output
written-own (Ok answer) input output = refl
written-own (Err e) input output = refl

-- WHAT THE PROGRAM WRITES is that of its answer, its output and the line of its refusal.
pub program-writes-line :
    (s : List ℕ)
    → program_writes s ≡ written_with (program_answer s program_output) s (program_buffer s program_output) (line_of (program_answer s program_output))
program-writes-line s = program-writes s ∙ sym (written-own (program_answer s program_output) s (program_buffer s program_output))
