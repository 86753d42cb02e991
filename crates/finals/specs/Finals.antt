-- The final records, by the buffer that is chosen.
use Rattle.std.specs.Prelude.{ℕ, ◌*◌, ◌<◌, ◌≤◌, ◌≡◌, refl, Bool, length, Ok, Err}
use Rattle.std.proofs.Math.Path.{sym, ap}
use Rattle.std.proofs.Math.Bool.{true, false, cond}
use mathlib.Core.List.{List, []}
use Rattle.std.proofs.Math.ListN.{take}
use Rattle.std.proofs.Math.Dec.{leb}
use Rattle.std.proofs.Common.{le→leb}
use Rattle.std.proofs.lemmas.Bool.{lt-leb}
use Rattle.rules.specs.Limits.{record_bytes}
use Rattle.rules.specs.Services.{answered_records, final_records}
use Rattle.rules.specs.declared.RewritingAnswer.{RewritingAnswer}
use Rattle.rules.specs.declared.Refusal.{Refusal}
use Rattle.lists.specs.Tests.{chosen}

-- the first n records of a buffer; none where it is shorter
unfoldable pub first_records : List ℕ → ℕ → List ℕ
first_records buffer n = elim (leb (record_bytes * n) (length buffer)) [ true ↦ take (record_bytes * n) buffer | false ↦ [] ]

module _ (buffer : List ℕ) (n : ℕ) where
  pub first-there : record_bytes * n ≤ length buffer → take (record_bytes * n) buffer ≡ first_records buffer n
  unfolding first_records
  first-there l = sym (chosen (leb (record_bytes * n) (length buffer)) (take (record_bytes * n) buffer) [] (le→leb (record_bytes * n) (length buffer) l))

  pub first-shorter : length buffer < record_bytes * n → [] ≡ first_records buffer n
  unfolding first_records
  first-shorter l =
      sym (ap (λ (b : Bool). elim b as (λ _. List ℕ) [ true ↦ take (record_bytes * n) buffer | false ↦ [] ]) (lt-leb (record_bytes * n) (length buffer) l))

-- the final records of an answer are the first of the buffer that it chooses
pub answered-chosen :
    (answer : RewritingAnswer) (input output : List ℕ)
    → answered_records answer input output ≡ first_records (cond answer.unchanged input output) answer.records
unfolding first_records
answered-chosen answer input output = refl

module _ (input output : List ℕ) where
  -- a refusal has none
  pub final-refused : (e : Refusal) → final_records (Err e) input output ≡ []
  unfolding final_records
  final-refused e = refl

  -- else they are the first of the buffer that the answer chooses
  pub final-chosen : (answer : RewritingAnswer) → final_records (Ok answer) input output ≡ first_records (cond answer.unchanged input output) answer.records
  unfolding final_records first_records
  final-chosen answer = refl
