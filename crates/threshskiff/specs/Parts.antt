-- The part that `threshskiff_final` names is the final records, and the numbers that rewriting gives stand for its answer.
use Rattle.std.specs.Prelude.{ℕ, zero, suc, ◌*◌, ◌≡◌, refl, Bool, true, false, not, cond, List, [], ◌∷◌, length, take, drop, eqb, leb, Result, Ok, Err}
use Rattle.std.proofs.Common.{ap, ◌∙◌}
use Rattle.rules.specs.Limits.{record_bytes}
use Rattle.rules.specs.Records.{bit}
use Rattle.rules.specs.Refusals.{refusal_number}
use Rattle.rules.specs.Services.{final_records}
use Rattle.rules.specs.declared.RewritingAnswer.{RewritingAnswer}
use Rattle.rules.specs.declared.Refusal.{Refusal}
use Rattle.rules.specs.declared.Refusal.TheVariants as refuses
use Rattle.threshskiff.specs.Numbers.{rewriting_numbers, answer_of, final_part}
use Rattle.threshskiff.specs.declared.ThreshskiffRewriting.{ThreshskiffRewriting}
use Rattle.threshskiff.specs.declared.ThreshskiffFinal.{ThreshskiffFinal}

-- the bytes that a part names
abbrev pub part_of : ThreshskiffFinal → List ℕ → List ℕ → List ℕ
part_of part input output = take part.length (drop part.offset (cond (eqb part.of_output 1) output input))

take-length-take : (n : ℕ) (l : List ℕ) → take (length (take n l)) l ≡ take n l
take-length-take zero l = refl
take-length-take (suc n) [] = refl
take-length-take (suc n) (x ∷ xs) = ap (λ r. x ∷ r) (take-length-take n xs)

-- the answer that numbers without a refusal stand for
abbrev answered : ThreshskiffRewriting → Result RewritingAnswer Refusal
answered numbers =
    Ok
    (record {
      records = numbers.records;
      slots = numbers.slots;
      landings = numbers.landings;
      visits = numbers.visits;
      pushes = numbers.pushes;
      unchanged = not (eqb numbers.unchanged 0);
    })

-- the first n bytes of a buffer, where they are there
abbrev front_if : Bool → ℕ → List ℕ → List ℕ
front_if there n buffer = elim there [ true ↦ take n buffer | false ↦ [] ]

front-again : (there : Bool) (n : ℕ) (buffer : List ℕ) → take (length (front_if there n buffer)) buffer ≡ front_if there n buffer
front-again true n buffer = take-length-take n buffer
front-again false n buffer = refl

buffer-named : (unchanged : Bool) (input output : List ℕ) → cond (eqb (bit unchanged) 1) output input ≡ cond (not unchanged) input output
buffer-named true input output = refl
buffer-named false input output = refl

-- of any numbers and any buffers
pub part-is-final : (numbers : ThreshskiffRewriting) (input output : List ℕ) → part_of (final_part numbers input output) input output ≡ final_records (answer_of numbers) input output
unfolding final_records
part-is-final numbers input output = go (eqb numbers.refusal 0)
  where
    unchanged : Bool
    unchanged = eqb numbers.unchanged 0

    n : ℕ
    n = record_bytes * numbers.records

    buffer : List ℕ
    buffer = cond (not unchanged) input output

    -- where they are, by whether the call is answered
    found : Bool → List ℕ
    found accepted = final_records (cond accepted (answered numbers) (Err refuses.Malformed)) input output

    go : (accepted : Bool) → take (length (found accepted)) (cond (eqb (bit unchanged) 1) output input) ≡ found accepted
    go true = ap (take (length (found true))) (buffer-named unchanged input output) ∙ front-again (leb n (length buffer)) n buffer
    go false = refl

unchanged-by-number : (unchanged : Bool) → not (eqb (bit unchanged) 0) ≡ unchanged
unchanged-by-number true = refl
unchanged-by-number false = refl

-- no refusal has the number 0
refused-by-number : (e : Refusal) → eqb (refusal_number e) 0 ≡ false
refused-by-number refuses.PointerSize = refl
refused-by-number refuses.Length = refl
refused-by-number refuses.TooMany = refl
refused-by-number refuses.Malformed = refl
refused-by-number refuses.NotInFile = refl
refused-by-number refuses.NotDefinedOnce = refl
refused-by-number refuses.Unsound = refl
refused-by-number refuses.MarkedContext = refl
refused-by-number refuses.SlotSize = refl
refused-by-number refuses.NoSafepoint = refl
refused-by-number (refuses.TooShort n) = refl

-- the final records of the numbers of an answer are those of the answer
pub numbers-stand : (answer : Result RewritingAnswer Refusal) (input output : List ℕ) → final_records (answer_of (rewriting_numbers answer)) input output ≡ final_records answer input output
unfolding final_records
numbers-stand (Ok a) input output =
    let n = record_bytes * a.records in
    let records : Bool → List ℕ =
    λ unchanged. front_if (leb n (length (cond unchanged input output))) n (cond unchanged input output) in
    ap records (unchanged-by-number a.unchanged)
numbers-stand (Err e) input output =
    ap (λ b. final_records (cond b (answered (rewriting_numbers (Err e))) (Err refuses.Malformed)) input output) (refused-by-number e)
