-- The refusals of a file in three stages, by what they need: its records, the function that they are, and the walk.
use Rattle.std.specs.Prelude.{ℕ, ◌%◌, ◌≡◌, refl, Bool, true, false, not, ◌&&◌, List, [], ◌∷◌, ◌++◌, length, T, eqb, Result, Ok, Err, is_ok}
use Rattle.std.proofs.Common.{ap, ◌∙◌}
use Rattle.rules.specs.Limits.{record_bytes}
use Rattle.rules.specs.Records.{records}
use Rattle.rules.specs.File.{ordered, function_in}
use Rattle.rules.specs.Refusals.{Ground, ◌when◌, first_of, too_many, numbered_from, numbers_in_file, defined_once, sound, marked_context, file_refusals}
use Rattle.rules.specs.declared.Refusal.{Refusal}
use Rattle.rules.specs.declared.Refusal.TheVariants as refusal
use Rattle.lists.specs.Calls.{none-applies, passed-append, refused-append}
use Rattle.lists.specs.Tests.{T_and}

-- 2 to 4: of the records
unfoldable pub record_refusals : List ℕ → List Ground
record_refusals s =
    (refusal.Length when not (eqb (length s % record_bytes) 0))
    ∷ (refusal.TooMany when too_many s)
    ∷ (refusal.Malformed when not (ordered 0 (records s) && numbered_from 0 (function_in s).blocks))
    ∷ []

-- 5 to 7: of the function
unfoldable pub function_refusals : List ℕ → List Ground
function_refusals s =
    (refusal.NotInFile when not (numbers_in_file (function_in s)))
    ∷ (refusal.NotDefinedOnce when not (defined_once (function_in s)))
    ∷ (refusal.Unsound when not (sound (function_in s)))
    ∷ []

-- 8: of the walk
unfoldable pub walk_refusals : List ℕ → List Ground
walk_refusals s = (refusal.MarkedContext when marked_context (function_in s)) ∷ []

-- They are all that a file is refused by.
pub stages-all : (s : List ℕ) → file_refusals s ≡ record_refusals s ++ (function_refusals s ++ walk_refusals s)
unfolding file_refusals record_refusals function_refusals walk_refusals
stages-all s = refl

-- THE STAGES PASSED. The records of a file can be read as a function,
abbrev pub records_pass : List ℕ → Bool
records_pass s = is_ok (first_of (record_refusals s))

-- and the function can be walked.
abbrev pub function_passes : List ℕ → Bool
function_passes s = records_pass s && is_ok (first_of (function_refusals s))

-- A list is gone down only where those in front of it let the file pass.
pub first_of-append :
    (xs ys : List Ground) → first_of (xs ++ ys) ≡ elim (is_ok (first_of xs)) [ true ↦ first_of ys | false ↦ first_of xs ]
first_of-append xs ys = go (first_of xs) refl
  where
    go : (v : Result Unit Refusal) → first_of xs ≡ v → first_of (xs ++ ys) ≡ elim (is_ok v) [ true ↦ first_of ys | false ↦ v ]
    go (Ok _) e = passed-append xs ys e
    go (Err _) e = refused-append xs ys e

pub stages-verdict :
    (s : List ℕ)
    → first_of (file_refusals s)
    ≡ elim (records_pass s) [
      | true ↦ elim (is_ok (first_of (function_refusals s))) [ true ↦ first_of (walk_refusals s) | false ↦ first_of (function_refusals s) ]
      | false ↦ first_of (record_refusals s)
    ]
stages-verdict s =
    ap first_of (stages-all s)
    ∙ first_of-append (record_refusals s) (function_refusals s ++ walk_refusals s)
    ∙ ap (λ (v : Result Unit Refusal). elim (records_pass s) [ true ↦ v | false ↦ first_of (record_refusals s) ])
    (first_of-append (function_refusals s) (walk_refusals s))

-- THE STAGES TOGETHER. What refuses a file is the first stage that does not let it pass.
module _ (s : List ℕ) where
  pub refused-by-records : {e : Refusal} → first_of (record_refusals s) ≡ Err e → first_of (file_refusals s) ≡ Err e
  refused-by-records r = rw (stages-all s) (refused-append (record_refusals s) (function_refusals s ++ walk_refusals s) r)

  module _ (records-pass : first_of (record_refusals s) ≡ Ok tt) where
    behind-records : first_of (file_refusals s) ≡ first_of (function_refusals s ++ walk_refusals s)
    behind-records = rw (stages-all s) (passed-append (record_refusals s) (function_refusals s ++ walk_refusals s) records-pass)

    pub refused-by-function : {e : Refusal} → first_of (function_refusals s) ≡ Err e → first_of (file_refusals s) ≡ Err e
    refused-by-function r = behind-records ∙ refused-append (function_refusals s) (walk_refusals s) r

    pub behind-function : first_of (function_refusals s) ≡ Ok tt → first_of (file_refusals s) ≡ first_of (walk_refusals s)
    behind-function p = behind-records ∙ passed-append (function_refusals s) (walk_refusals s) p

pub T_not-not : (b : Bool) → T (not (not b)) → T b
T_not-not true h = tt
T_not-not false h = h

-- THE FIRST STAGE BY ITS TESTS, as a function that makes them one after the other comes to know them.
module _ (s : List ℕ) where
  abbrev whole : Bool
  whole = eqb (length s % record_bytes) 0

  abbrev out_of_order : Bool
  out_of_order = not (ordered 0 (records s) && numbered_from 0 (function_in s).blocks)

  pub records-length : whole ≡ false → first_of (record_refusals s) ≡ Err refusal.Length
  unfolding record_refusals
  records-length w = rw w refl

  pub records-many : whole ≡ true → too_many s ≡ true → first_of (record_refusals s) ≡ Err refusal.TooMany
  unfolding record_refusals
  records-many w m = rw (w, m) refl

  -- and last 4
  pub records-last :
      whole ≡ true → too_many s ≡ false → first_of (record_refusals s) ≡ elim out_of_order [ true ↦ Err refusal.Malformed | false ↦ Ok tt ]
  unfolding record_refusals
  records-last w m = rw (w, m) refl

  -- THE SECOND LIKEWISE.
  pub function-outside : numbers_in_file (function_in s) ≡ false → first_of (function_refusals s) ≡ Err refusal.NotInFile
  unfolding function_refusals
  function-outside n = rw n refl

  pub function-twice :
      numbers_in_file (function_in s) ≡ true → not (defined_once (function_in s)) ≡ true → first_of (function_refusals s) ≡ Err refusal.NotDefinedOnce
  unfolding function_refusals
  function-twice n d = rw (n, d) refl

  pub function-last :
      numbers_in_file (function_in s) ≡ true → not (defined_once (function_in s)) ≡ false
      → first_of (function_refusals s) ≡ elim (not (sound (function_in s))) [ true ↦ Err refusal.Unsound | false ↦ Ok tt ]
  unfolding function_refusals
  function-last n d = rw (n, d) refl

  -- AND THE THIRD.
  pub walk-only : first_of (walk_refusals s) ≡ elim (marked_context (function_in s)) [ true ↦ Err refusal.MarkedContext | false ↦ Ok tt ]
  unfolding walk_refusals
  walk-only = refl

-- WHAT THEY LEAVE. Refusals 2 to 4,
pub record Formed (s : List ℕ) : Type 0 where
  pub few : T (not (too_many s))
  pub in_order : T (ordered 0 (records s))
  pub numbered : T (numbered_from 0 (function_in s).blocks)

pub records-formed : (s : List ℕ) → first_of (record_refusals s) ≡ Ok tt → Formed s
unfolding record_refusals
records-formed s passed =
    let none = none-applies (record_refusals s) passed in
    let both = T_and (ordered 0 (records s)) (numbered_from 0 (function_in s).blocks) (T_not-not _ none.1.1.0) in
    record { few = none.1.0; in_order = both.0; numbered = both.1 }

-- 5 to 7,
pub function-is :
    (s : List ℕ) → first_of (function_refusals s) ≡ Ok tt
    → T (numbers_in_file (function_in s)) × T (defined_once (function_in s)) × T (sound (function_in s))
unfolding function_refusals
function-is s passed =
    let none = none-applies (function_refusals s) passed in
    (T_not-not _ none.0, T_not-not _ none.1.0, T_not-not _ none.1.1.0)

-- and 2 to 5.
pub record Readable (s : List ℕ) : Type 0 where
  pub few : T (not (too_many s))
  pub in_order : T (ordered 0 (records s))
  pub numbered : T (numbered_from 0 (function_in s).blocks)
  pub in_file : T (numbers_in_file (function_in s))

pub passed-readable : (s : List ℕ) → first_of (record_refusals s) ≡ Ok tt → first_of (function_refusals s) ≡ Ok tt → Readable s
passed-readable s h p =
    let formed = records-formed s h in
    record { few = formed.few; in_order = formed.in_order; numbered = formed.numbered; in_file = (function-is s p).0 }
