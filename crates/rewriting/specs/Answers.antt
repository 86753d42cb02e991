-- WHAT REWRITING ANSWERS, case by case: which refusal is given, and what the answer and the lent output are then.
use Rattle.std.specs.Prelude.{ℕ, ◌-◌, ◌*◌, ◌<◌, ◌≤◌, ◌≡◌, refl, Result, Ok, Err, is_ok, Bool, not, ◌&&◌, ◌||◌, List, [], ◌∷◌, ◌++◌, replicate, T, eqb, ltb}
use Rattle.std.proofs.Common.{sym, ap₂, ◌∙◌, lt-ltb, le-ltb}
use Rattle.std.proofs.Math.Path.{ap}
use Rattle.std.proofs.Math.Bool.{true, false}
use Rattle.std.proofs.Math.ListN.{length}
use Rattle.rules.specs.Limits.{record_bytes}
use Rattle.rules.specs.Lists.{padded}
use Rattle.rules.specs.Tree.{Function}
use Rattle.rules.specs.Records.{record_count, bytes}
use Rattle.rules.specs.File.{function_records, function_in}
use Rattle.rules.specs.Liveness.{process}
use Rattle.rules.specs.Refusals.{◌when◌, Ground, first_of, file_refusals, spilled_size}
use Rattle.rules.specs.Services.{answering, lent, is_unchanged, records_of, rewriting_verdict, rewriting_answer, rewriting_output}
use Rattle.rules.specs.Plan.{Plan, planned}
use Rattle.rules.specs.Rewriting.{rewritten}
use Rattle.rules.specs.declared.RewritingAnswer.{RewritingAnswer}
use Rattle.rules.specs.declared.Refusal.{Refusal}
use Rattle.rules.specs.declared.Refusal.TheVariants as refusal
use Rattle.lists.specs.Calls.{passed-ok, passed-append, refused-append}

module _ (s : List ℕ) (pointer n : ℕ) where
  abbrev f : Function
  f = function_in s

  abbrev plan : Plan
  plan = (planned f pointer).1

  -- the records that are written
  abbrev written : List ℕ
  written = elim (is_unchanged f) [ true ↦ [] | false ↦ bytes (function_records (rewritten f pointer)) ]

  -- the answer where the call is not refused
  abbrev given : RewritingAnswer
  given =
      record {
        records = records_of s pointer;
        slots = length plan.slots.made;
        landings = plan.blocks - length f.blocks;
        visits = length (process f).visited;
        pushes = (process f).pushes;
        unchanged = is_unchanged f;
      }

  -- AN OUTCOME: an answer with the output left
  abbrev pub Outcome : Result RewritingAnswer Refusal → List ℕ → Type 0
  Outcome answer out = (answer ≡ rewriting_answer s pointer n) × (out ≡ rewriting_output s pointer n)

  outcome-by : (v : Result Unit Refusal) → v ≡ rewriting_verdict s pointer n → Outcome (answering v given) (lent v n written)
  unfolding rewriting_answer rewriting_output
  outcome-by v e = (ap (λ (w : Result Unit Refusal). answering w given) e, ap (λ (w : Result Unit Refusal). lent w n written) e)

  -- refused
  pub outcome-refused : (e : Refusal) → rewriting_verdict s pointer n ≡ Err e → Outcome (Err e) (replicate n 0)
  outcome-refused e r = outcome-by (Err e) (sym r)

  -- by 11
  pub outcome-short :
      rewriting_verdict s pointer n ≡ Err (refusal.TooShort (records_of s pointer)) → (records : ℕ) → records ≡ records_of s pointer
      → Outcome (Err (refusal.TooShort records)) (replicate n 0)
  outcome-short e records r =
      let by = outcome-refused (refusal.TooShort (records_of s pointer)) e in
      (ap (λ (k : ℕ). Err (refusal.TooShort k)) r ∙ by.0, by.1)

  -- accepted
  pub outcome-accepted :
      rewriting_verdict s pointer n ≡ Ok tt → (answer : RewritingAnswer) → answer ≡ given
      → (out : List ℕ) → out ≡ padded n written → Outcome (Ok answer) out
  outcome-accepted e answer a out o =
      let by = outcome-by (Ok tt) (sym e) in
      (ap (λ (x : RewritingAnswer). Ok x) a ∙ by.0, o ∙ by.1)

  -- WHICH REFUSAL
  abbrev count : ℕ
  count = records_of s pointer

  abbrev last : List Ground
  last = (refusal.SlotSize when spilled_size f) ∷ (refusal.TooShort count when (not (is_unchanged f) && ltb n (record_bytes * count))) ∷ []

  -- what is said by whether a pointer has one of two sizes
  abbrev by_pointer : Bool → Result Unit Refusal
  by_pointer b = elim (not b) [ true ↦ Err refusal.PointerSize | false ↦ first_of (file_refusals s ++ last) ]

  -- 1
  pub verdict-pointer : (eqb pointer 4 || eqb pointer 8) ≡ false → rewriting_verdict s pointer n ≡ Err refusal.PointerSize
  unfolding rewriting_verdict
  verdict-pointer e = ap by_pointer e

  module _ (fine : (eqb pointer 4 || eqb pointer 8) ≡ true) where
    behind-pointer : rewriting_verdict s pointer n ≡ first_of (file_refusals s ++ last)
    unfolding rewriting_verdict
    behind-pointer = ap by_pointer fine

    -- 2 to 8
    pub verdict-file : {e : Refusal} → first_of (file_refusals s) ≡ Err e → rewriting_verdict s pointer n ≡ Err e
    verdict-file r = behind-pointer ∙ refused-append (file_refusals s) last r

    module _ (passes : T (is_ok (first_of (file_refusals s)))) where
      -- what is said by whether a spilled value has a size that no slot has, and by whether the output is too short
      abbrev by_size : Bool → Bool → Result Unit Refusal
      by_size sized short = first_of ((refusal.SlotSize when sized) ∷ (refusal.TooShort count when short) ∷ [])

      behind-file :
          {sized unchanged short : Bool} → spilled_size f ≡ sized → is_unchanged f ≡ unchanged → ltb n (record_bytes * count) ≡ short
          → rewriting_verdict s pointer n ≡ by_size sized (not unchanged && short)
      behind-file z u r =
          behind-pointer
          ∙ passed-append (file_refusals s) last (passed-ok (first_of (file_refusals s)) passes)
          ∙ ap₂ by_size z (ap₂ (λ (a b : Bool). not a && b) u r)

      -- 9
      pub verdict-size : spilled_size f ≡ true → rewriting_verdict s pointer n ≡ Err refusal.SlotSize
      verdict-size e = behind-file e refl refl

      module _ (sized : spilled_size f ≡ false) where
        -- an unchanged answer needs no output
        pub verdict-unchanged : is_unchanged f ≡ true → rewriting_verdict s pointer n ≡ Ok tt
        verdict-unchanged e = behind-file sized e refl

        module _ (changed : is_unchanged f ≡ false) where
          -- 11
          pub verdict-short : n < record_bytes * count → rewriting_verdict s pointer n ≡ Err (refusal.TooShort count)
          verdict-short l = behind-file sized changed (lt-ltb n (record_bytes * count) l)

          pub verdict-fits : record_bytes * count ≤ n → rewriting_verdict s pointer n ≡ Ok tt
          verdict-fits l = behind-file sized changed (le-ltb n (record_bytes * count) l)

  -- HOW MANY RECORDS
  pub records-unchanged : is_unchanged f ≡ true → records_of s pointer ≡ record_count s
  unfolding records_of
  records-unchanged e =
      ap (λ (b : Bool). elim b as (λ _. ℕ) [ true ↦ record_count s | false ↦ length (function_records (rewritten f pointer)) ]) e

  pub records-changed : is_unchanged f ≡ false → records_of s pointer ≡ length (function_records (rewritten f pointer))
  unfolding records_of
  records-changed e =
      ap (λ (b : Bool). elim b as (λ _. ℕ) [ true ↦ record_count s | false ↦ length (function_records (rewritten f pointer)) ]) e
