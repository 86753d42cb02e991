-- The whole answer of the list of one safepoint, as its functions come to it.
use Prim.Native.Nat.{ℕ, ◌<◌, ◌≤◌}
use mathlib.Core.Path.{◌≡◌, refl, sym, ap, ap₂, subst, ◌∙◌}
use mathlib.Core.Bool.{Bool, true, false, not}
use mathlib.Core.Option.{Option, none, some}
use mathlib.Core.List.{List, [], ◌∷◌}
use native.Mathlib.Omega.{arith}
use lib.ListN.{length, replicate, get_or-eq_default}
use lib.Seq.{sets}
use lib.Dec.{T, ltb, ltb→lt, nltb→le}
use borrow.Author.Tests.{lt-ltb, le-ltb}
use Rattle.rules.specs.Limits.{largest_blocks, largest_instructions}
use Rattle.rules.specs.Lists.{is_none, or_else, NumberSet, padded}
use Rattle.rules.specs.File.{function_in}
use Rattle.rules.specs.Liveness.{lists}
use Rattle.rules.specs.Refusals.{Ground, ◌when◌, first_of, file_refusals}
use Rattle.rules.specs.Services.{answering, lent, list_asked, list_verdict, list_answer, list_words}
use Rattle.rules.specs.declared.Refusal.{Refusal}
use Rattle.rules.specs.declared.Refusal.TheVariants as refusal
use Rattle.std.specs.Prelude.{Result, Ok, Err, is_ok}
use Rattle.lists.specs.Calls.{passed-ok, passed-append, refused-append}
use Rattle.lists.specs.Tests.{test-elim}
use Rattle.graph.specs.Few.{values-few, instructions-few}
use Rattle.graph.specs.Zeros.{Zeros, sets-padded}
use Rattle.listing.specs.Ascending.{ascending, list-ascending, length-lists-instructions}
use Rattle.listing.specs.Crossings.{listed}
use Rattle.graph.specs.Links.{Walked}
use Rattle.graph.specs.Tables.{index_table}
use Rattle.acceptance.specs.Survey.{accepted-is, Indexed}
use Rattle.services.specs.ListRow.{row_answer, row_numbers}

-- THE ROW'S ANSWER: too short, or its values
module _ (set : NumberSet) (n : ℕ) where
  -- by whether it is too short
  abbrev answer_by : ℕ → Bool → Result ℕ Refusal
  answer_by count b = elim b [ true ↦ Err (refusal.TooShort count) | false ↦ Ok count ]

  abbrev numbers_by : List ℕ → Bool → List ℕ
  numbers_by l b = elim b [ true ↦ replicate n 0 | false ↦ padded n l ]

  pub row-short :
      n < length (ascending set) → (count : ℕ) → count ≡ length (ascending set)
      → (Err (refusal.TooShort count) ≡ row_answer set n) × (replicate n 0 ≡ row_numbers set n)
  unfolding row_answer row_numbers
  row-short l count e =
      let short = sym (lt-ltb n (length (ascending set)) l) in
      (ap (λ (k : ℕ). Err (refusal.TooShort k)) e ∙ ap (answer_by (length (ascending set))) short, ap (numbers_by (ascending set)) short)

  pub row_fits :
      length (ascending set) ≤ n → (count : ℕ) → count ≡ length (ascending set) → (out : List ℕ) → length out ≡ n → Zeros out
      → (Ok count ≡ row_answer set n) × (sets out 0 (ascending set) ≡ row_numbers set n)
  unfolding row_answer row_numbers
  row_fits l count e out long zeros =
      let fits = sym (le-ltb n (length (ascending set)) l) in (
        ap (λ (k : ℕ). Ok k) e ∙ ap (answer_by (length (ascending set))) fits,
        sets-padded out (ascending set) zeros (omega arith) ∙ ap (λ (k : ℕ). padded k (ascending set)) long ∙ ap (numbers_by (ascending set)) fits,
      )

module _ (s : List ℕ) (i n : ℕ) where
  abbrev asked : Option (List ℕ)
  asked = list_asked s i

  abbrev count : Option (List ℕ) → ℕ
  count l = length (or_else [] l)

  -- what stands behind the refusals of a file
  abbrev grounds : Option (List ℕ) → List Ground
  grounds l = (refusal.NoSafepoint when is_none l) ∷ (refusal.TooShort (count l) when ltb n (count l)) ∷ []

  abbrev behind : Option (List ℕ) → Result Unit Refusal
  behind l = first_of (grounds l)

  -- THE FILE IS REFUSED, by 2 to 8
  pub file-refused :
      {e : Refusal} → first_of (file_refusals s) ≡ Err e → (Err e ≡ list_answer s i n) × (replicate n 0 ≡ list_words s i n)
  unfolding list_answer list_words list_verdict
  file-refused r =
      let v = sym (refused-append (file_refusals s) (grounds asked) r) in
      (ap (λ (w : Result Unit Refusal). answering w (count asked)) v, ap (λ (w : Result Unit Refusal). lent w n (or_else [] asked)) v)

  -- THE FILE IS NOT
  module _ (yes : T (is_ok (first_of (file_refusals s)))) where
    answer-by : (l : Option (List ℕ)) → asked ≡ l
        → (answering (behind l) (count l) ≡ list_answer s i n) × (lent (behind l) n (or_else [] l) ≡ list_words s i n)
    unfolding list_answer list_words list_verdict
    answer-by l e =
        let v = ap behind (sym e) ∙ sym (passed-append (file_refusals s) (grounds asked) (passed-ok (first_of (file_refusals s)) yes)) in (
          ap₂ (λ (w : Result Unit Refusal) (k : Option (List ℕ)). answering w (count k)) v (sym e),
          ap₂ (λ (w : Result Unit Refusal) (k : Option (List ℕ)). lent w n (or_else [] k)) v (sym e),
        )

    -- no list is there
    pub no-list : is_none asked ≡ true → (Err refusal.NoSafepoint ≡ list_answer s i n) × (replicate n 0 ≡ list_words s i n)
    no-list e = go asked refl e
      where
        go : (l : Option (List ℕ)) → asked ≡ l → is_none l ≡ true
            → (Err refusal.NoSafepoint ≡ list_answer s i n) × (replicate n 0 ≡ list_words s i n)
        go none same h = answer-by none same
        go (some l) same h = absurd (subst T (sym h) tt)

    -- one is: the row's
    pub row_list :
        (set : NumberSet) → asked ≡ some (ascending set)
        → (row_answer set n ≡ list_answer s i n) × (row_numbers set n ≡ list_words s i n)
    unfolding row_answer row_numbers
    row_list set e =
        let l = ascending set in
        let g = go l (ltb n (length l)) in
        (g.0 ∙ (answer-by (some l) e).0, g.1 ∙ (answer-by (some l) e).1)
      where
        -- fits or not
        said : List ℕ → Bool → Result Unit Refusal
        said l b = elim b [ true ↦ Err (refusal.TooShort (length l)) | false ↦ Ok tt ]

        go : (l : List ℕ) (b : Bool)
            → (◌≡◌ {A = Result ℕ Refusal} (elim b [ true ↦ Err (refusal.TooShort (length l)) | false ↦ Ok (length l) ]) (answering (said l b) (length l)))
            × (◌≡◌ {A = List ℕ} (elim b [ true ↦ replicate n 0 | false ↦ padded n l ]) (lent (said l b) n l))
        go l true = (refl, refl)
        go l false = (refl, refl)

-- a survey's tables, as the layers below read them
pub indexed :
    {s places order index : List ℕ} {count reachable : ℕ} → T (is_ok (first_of (file_refusals s))) → Walked s places order reachable
    → count ≡ length (function_in s).blocks → index ≡ index_table (function_in s) (length index) → largest_blocks ≤ length index
    → Indexed s places order index (record { all = count; reachable = reachable })
indexed accepted walked counted is long =
    record { accepted = accepted; walked = walked; all-counted = counted; indexed = is; index-long = long }

-- THE TABLES for the lists of an accepted file
module _ (s : List ℕ) (accepted : T (is_ok (first_of (file_refusals s)))) where
  -- a listed instruction has a row
  pub row-there : (i : ℕ) → is_none (list_asked s i) ≡ false → i < largest_instructions
  row-there i e =
      let r = (accepted-is s accepted).readable in
      test-elim (ltb i (length (lists (function_in s))))
      (λ t. let l = ltb→lt i (length (lists (function_in s))) t in omega (arith, length-lists-instructions (function_in s), instructions-few s r.few r.in_order))
      (λ t.
      let out : list_asked s i ≡ none = get_or-eq_default (lists (function_in s)) none (nltb→le i (length (lists (function_in s))) t) in
      absurd (subst T (ap is_none (sym out) ∙ e) tt))

  pub asked-ascending : (i : ℕ) → is_none (list_asked s i) ≡ false → list_asked s i ≡ some (ascending (listed (function_in s) i))
  asked-ascending i e = list-ascending (function_in s) (values-few s (accepted-is s accepted).readable.few) i e

-- Whether there is a list, as code asks for it.
pub asked-none : {r a : Bool} → r ≡ not a → not r ≡ true → a ≡ true
asked-none {a = true} e h = refl
asked-none {a = false} e h = absurd (subst (λ b. T (not b)) e (subst T (sym h) tt))

pub asked-some : {r a : Bool} → r ≡ not a → not r ≡ false → a ≡ false
asked-some {a = true} e h = absurd (subst T (ap not (sym e) ∙ h) tt)
asked-some {a = false} e h = refl
