-- Where a survey ends: at the records, at the function, or with the walk; and what each stage leaves for the next.
use Prim.Native.Nat.{ℕ}
use mathlib.Core.Path.{◌≡◌, refl, sym, ◌∙◌}
use mathlib.Core.List.{List}
use Rattle.std.specs.Prelude.{Result, Ok, Err}
use lib.ListN.{length}
use Rattle.rules.specs.Lists.{padded}
use Rattle.rules.specs.Records.{records}
use Rattle.rules.specs.File.{function_in}
use Rattle.rules.specs.Refusals.{first_of}
use Rattle.rules.specs.declared.Refusal.{Refusal}
use Rattle.acceptance.specs.declared.survey.BlockCounts.{BlockCounts}
use Rattle.checks.specs.Definitions.{noted_all}
use Rattle.graph.specs.Blocks.{block_table}
use Rattle.graph.specs.Tables.{tables, Numbered}
use Rattle.acceptance.specs.Stages.{record_refusals, function_refusals, walk_refusals, refused-by-records, refused-by-function, behind-function, Formed, records-formed, Readable, passed-readable}
use Rattle.acceptance.specs.Survey.{SurveyTables, survey_tables, Surveyed}

-- no block is counted
abbrev none : BlockCounts
none = record { all = 0; reachable = 0 }

-- its records are at fault
pub ends-at-records :
    (s counts places order index stack next : List ℕ) {e : Refusal} → first_of (record_refusals s) ≡ Err e
    → Surveyed s (survey_tables counts places order index stack next) (survey_tables counts places order index stack next) (Err e) none
ends-at-records s counts places order index stack next r =
    record {
      says = sym (refused-by-records s r);
      all-counted = rw r refl;
      counted = rw r refl;
      counts = rw r refl;
      places = rw r refl;
      order = rw r refl;
      index = rw r refl;
      stack = refl;
      next = refl;
    }

-- the file that the records are: as it was handed in, and let pass by refusals 2 to 4
abbrev pub OfRecords : (s file : List ℕ) → Type 0
OfRecords s file = (first_of (record_refusals s) ≡ Ok tt) × (file ≡ s)

module _ {s file : List ℕ} (of : OfRecords s file) where
  pub records-pass : first_of (record_refusals file) ≡ Ok tt
  records-pass = rw of.1 of.0

  pub formed : Formed file
  formed = records-formed file records-pass

  -- and by 5 to 7
  pub read : first_of (function_refusals file) ≡ Ok tt → Readable file
  read passed = passed-readable file records-pass passed

  module _
      (counts places order index stack next counts' places' : List ℕ) (noted : counts' ≡ noted_all counts (records file))
      (table : places' ≡ padded (length places) (block_table file)) where
    abbrev lent : SurveyTables
    lent = survey_tables counts places order index stack next

    -- its function is at fault
    pub ends-at-function :
        {e : Refusal} → first_of (function_refusals file) ≡ Err e
        → Surveyed s lent (survey_tables counts' places' order index stack next) (Err e) none
    ends-at-function r =
        rw (← of.1) (record {
          says = sym (refused-by-function file records-pass r);
          all-counted = rw (records-pass, r) refl;
          counted = rw (records-pass, r) refl;
          counts = rw records-pass noted;
          places = rw records-pass table;
          order = rw (records-pass, r) refl;
          index = rw (records-pass, r) refl;
          stack = refl;
          next = refl;
        })

    -- it was walked
    pub ends-with-walk :
        first_of (function_refusals file) ≡ Ok tt → {v : Result Unit Refusal} → v ≡ first_of (walk_refusals file)
        → (order' index' stack' next' : List ℕ) (blocks : BlockCounts) → blocks.all ≡ length (function_in file).blocks
        → Numbered (function_in file) (tables order index stack next 0 0) (tables order' index' stack' next' 0 blocks.reachable)
        → Surveyed s lent (survey_tables counts' places' order' index' stack' next') v blocks
    ends-with-walk passed says order' index' stack' next' blocks all walked =
        rw (← of.1) (record {
          says = says ∙ sym (behind-function file records-pass passed);
          all-counted = rw (records-pass, passed) all;
          counted = rw (records-pass, passed) walked.count;
          counts = rw records-pass noted;
          places = rw records-pass table;
          order = rw (records-pass, passed) walked.order;
          index = rw (records-pass, passed) walked.index;
          stack = walked.stack;
          next = walked.next;
        })
