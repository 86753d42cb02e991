-- An answer by its numbers, as a caller in another language has it.
use Rattle.std.specs.Prelude.{ℕ, not, cond, List, eqb, length, Result, Ok, Err}
use Rattle.rules.specs.Records.{bit}
use Rattle.rules.specs.Refusals.{refusal_number, needed}
use Rattle.rules.specs.Services.{final_records}
use Rattle.rules.specs.declared.LivenessCounts.{LivenessCounts}
use Rattle.rules.specs.declared.RewritingAnswer.{RewritingAnswer}
use Rattle.rules.specs.declared.Refusal.{Refusal}
use Rattle.rules.specs.declared.Refusal.TheVariants as refuses
use Rattle.threshskiff.specs.declared.ThreshskiffLiveness.{ThreshskiffLiveness}
use Rattle.threshskiff.specs.declared.ThreshskiffList.{ThreshskiffList}
use Rattle.threshskiff.specs.declared.ThreshskiffRewriting.{ThreshskiffRewriting}
use Rattle.threshskiff.specs.declared.ThreshskiffFinal.{ThreshskiffFinal}

-- a call's refusal by its number, 0 where there is none
abbrev pub check_number : Result Unit Refusal → ℕ
check_number (Ok _) = 0
check_number (Err e) = refusal_number e

-- liveness's answer: the refusal by its number, and no counts of a refusal
abbrev pub liveness_numbers : Result LivenessCounts Refusal → ThreshskiffLiveness
liveness_numbers (Ok a) = record { refusal = 0; visits = a.visits; pushes = a.pushes }
liveness_numbers (Err e) = record { refusal = refusal_number e; visits = 0; pushes = 0 }

-- a list's answer: of 11 the count that is needed
abbrev pub list_numbers : Result ℕ Refusal → ThreshskiffList
list_numbers (Ok count) = record { refusal = 0; count = count }
list_numbers (Err e) = record { refusal = refusal_number e; count = needed e }

-- rewriting's answer: 1 where it is unchanged, else 0; of 11 the records that are needed, and of a refusal no counts else
abbrev pub rewriting_numbers : Result RewritingAnswer Refusal → ThreshskiffRewriting
rewriting_numbers (Ok a) =
    record {
      refusal = 0;
      records = a.records;
      slots = a.slots;
      landings = a.landings;
      visits = a.visits;
      pushes = a.pushes;
      unchanged = bit a.unchanged;
    }
rewriting_numbers (Err e) =
    record { refusal = refusal_number e; records = needed e; slots = 0; landings = 0; visits = 0; pushes = 0; unchanged = 0 }

-- the answer that any numbers stand for: any refusal but 0 refuses, and any `unchanged` but 0 says so
abbrev pub answer_of : ThreshskiffRewriting → Result RewritingAnswer Refusal
answer_of numbers =
    cond (eqb numbers.refusal 0)
    (Ok
    (record {
      records = numbers.records;
      slots = numbers.slots;
      landings = numbers.landings;
      visits = numbers.visits;
      pushes = numbers.pushes;
      unchanged = not (eqb numbers.unchanged 0);
    }))
    (Err refuses.Malformed)

-- where the final records of any numbers are: at the front of the input, where they say "unchanged", else of the output
abbrev pub final_part : ThreshskiffRewriting → List ℕ → List ℕ → ThreshskiffFinal
final_part numbers input output =
    record {
      of_output = bit (eqb numbers.unchanged 0);
      offset = 0;
      length = length (final_records (answer_of numbers) input output);
    }
