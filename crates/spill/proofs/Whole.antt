-- What is read, up to one byte more than the largest input, says what the program writes for the whole.
use Rattle.std.specs.Prelude.{ℕ, ◌+◌, ◌<◌, ◌≤◌, ◌≡◌, refl, Bool, true, false, List, ◌++◌, length, take, ltb, Result, Ok, Err, None, Some, IfSome, OnOk}
use Rattle.std.proofs.Common.{sym, ap, subst, ◌∙◌, arith, length-append, length-take-le}
use Rattle.std.proofs.lemmas.Bool.{ltb-true, ltb-false, lt-ltb}
use Rattle.std.proofs.lemmas.List.{append-nil}
use Rattle.std.specs.declared.option.Option.{Option}
use Rattle.std.specs.Io.KnownBytes.{Appends, Consumes, IsAtEnd}
use Rattle.rules.specs.Limits.{program_input, program_output}
use Rattle.rules.specs.Refusals.{refusal_number}
use Rattle.rules.specs.Services.{written, refused_line, program_writes}
use Rattle.rules.specs.declared.RewritingAnswer.{RewritingAnswer}
use Rattle.rules.specs.declared.Refusal.{Refusal}
use Rattle.rules.specs.declared.Refusal.TheVariants as refusal
use Rattle.program.specs.Program.{program_answer, program_buffer, program-writes}

-- what is too long gets one line, whatever it is
too-long : (s : List ℕ) → program_input < length s → program_writes s ≡ refused_line (refusal_number refusal.TooMany)
unfolding program_writes
too-long s l = rw (program_writes, lt-ltb program_input (length s) l) refl

-- a buffer of one byte more than the largest input, whose first n bytes were read of s: all of s where they do not fill it
pub read-writes : (known left : Option (List ℕ)) (buffer : List ℕ) (n : ℕ) → length buffer ≡ program_input + 1 → n ≤ length buffer
    → Consumes known left (take n buffer) → (n < length buffer → IsAtEnd left) → IfSome known (λ s. program_writes (take n buffer) ≡ program_writes s)
read-writes None left buffer n long fits read whole = tt
read-writes (Some s) None buffer n long fits read whole = absurd read
read-writes (Some s) (Some rest) buffer n long fits read whole = by (ltb n (length buffer)) refl
  where
    taken : length (take n buffer) ≡ n
    taken = length-take-le n buffer fits

    by : (b : Bool) → ltb n (length buffer) ≡ b → program_writes (take n buffer) ≡ program_writes s
    by true e = ap program_writes (sym (read ∙ ap (λ l. take n buffer ++ l) (whole (ltb-true n (length buffer) e)) ∙ append-nil (take n buffer)))
    by false e =
        let full = ltb-false n (length buffer) e in
        let all = ap length read ∙ length-append (take n buffer) rest in
        too-long (take n buffer) (omega (arith, taken, full, long)) ∙ sym (too-long s (omega (arith, taken, full, long, all)))

-- what is written for what `respond` answers is what the program writes
pub written-is : (s : List ℕ) (n : ℕ) (a : Result RewritingAnswer Refusal) (out : List ℕ) → n ≡ program_output
    → a ≡ program_answer s n → out ≡ program_buffer s n → written a s out ≡ program_writes s
written-is s n a out long answer buffer =
    ap (λ o. written a s o) (buffer ∙ ap (program_buffer s) long)
    ∙ ap (λ b. written b s (program_buffer s program_output)) (answer ∙ ap (program_answer s) long)
    ∙ sym (program-writes s)

-- and so does what is appended for it
pub appended-is : {E : Type 0} (r : Result Unit E) (known before after : Option (List ℕ)) (bytes t : List ℕ) → bytes ≡ program_writes t
    → IfSome known (λ s. program_writes t ≡ program_writes s) → OnOk r (Appends before after bytes)
    → OnOk r (IfSome known (λ s. Appends before after (program_writes s)))
appended-is (Ok _) None before after bytes t said whole appended = tt
appended-is (Ok _) (Some s) before after bytes t said whole appended = subst (Appends before after) (said ∙ whole) appended
appended-is (Err _) known before after bytes t said whole appended = tt
