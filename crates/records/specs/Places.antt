-- Records by place: what a loop over a file sees in front of it.
use Prim.Native.Nat.{ℕ, zero, suc, ◌+◌, ◌-◌, ◌*◌, ◌<◌, ◌≤◌}
use Rattle.std.specs.Prelude.{◌≡◌, refl, List, [], ◌∷◌, length, get_or, drop}
use Rattle.std.proofs.Common.{sym, ap, ◌∙◌, add-one, get_or-drop}
use native.Mathlib.Omega.{arith}
use Rattle.std.proofs.Math.ListN.{get_or-eq_default}
use Rattle.std.proofs.Math.Seq.{drop-drop}
use Rattle.rules.specs.Limits.{record_bytes}
use Rattle.rules.specs.Records.{word_at, record_at, record_count, each_from, records, first_words}
use Rattle.rules.specs.declared.Record.{Record}
use Rattle.rules.specs.declared.Record.TheVariants as record'

-- what is read at the front of each record from place i on
unfoldable pub rest_by : {A : Type 0} → (List ℕ → A) → List ℕ → ℕ → List A
rest_by front s i = each_from front (record_count s - i) (drop (record_bytes * i) s)

-- the records of a file from place i on, and the first words of those
abbrev pub rest : List ℕ → ℕ → List Record
rest = rest_by (λ t. record_at t 0)

abbrev pub first_words_rest : List ℕ → ℕ → List ℕ
first_words_rest = rest_by (λ t. word_at t 0)

pub word_at-drop : (n i : ℕ) (s : List ℕ) → word_at (drop n s) i ≡ word_at s (n + i)
word_at-drop n i s =
    let e₁ : n + (i + 1) ≡ n + i + 1 = omega arith in
    let e₂ : n + (i + 2) ≡ n + i + 2 = omega arith in
    let e₃ : n + (i + 3) ≡ n + i + 3 = omega arith in
    simp (get_or-drop, e₁, e₂, e₃)

pub record_at-drop : (i : ℕ) (s : List ℕ) → record_at (drop (record_bytes * i) s) 0 ≡ record_at s i
unfolding record_at
record_at-drop i s =
    let e : record_bytes * i + 0 ≡ record_bytes * i = omega arith in
    simp (word_at-drop, e)

module _ {A : Type 0} (front : List ℕ → A) (s : List ℕ) where
  -- one more is left: what stands at the place, and the rest behind it
  pub rest_by-more : (i : ℕ) → i < record_count s → rest_by front s i ≡ front (drop (record_bytes * i) s) ∷ rest_by front s (suc i)
  unfolding rest_by
  rest_by-more i h =
      let more : record_count s - i ≡ suc (record_count s - suc i) = omega arith in
      let next : record_bytes * i + record_bytes ≡ record_bytes * suc i = omega arith in
      rw (more, drop-drop, next)

  -- at the end nothing is left
  pub rest_by-done : rest_by front s (record_count s) ≡ []
  unfolding rest_by
  rest_by-done =
      let none : record_count s - record_count s ≡ 0 = omega arith in
      rw none

  -- at the start everything is
  pub rest_by-all : rest_by front s 0 ≡ each_from front (record_count s) s
  unfolding rest_by
  rest_by-all =
      let all : record_count s - 0 ≡ record_count s = omega arith in
      rw all

module _ (s : List ℕ) where
  pub rest_more : (i : ℕ) → i < record_count s → rest s i ≡ record_at s i ∷ rest s (suc i)
  rest_more i h = rest_by-more (λ t. record_at t 0) s i h ∙ ap (λ r. r ∷ rest s (suc i)) (record_at-drop i s)

  -- the same by the code's sum
  pub rest-next : (i : ℕ) → i < record_count s → rest s i ≡ record_at s i ∷ rest s (i + 1)
  rest-next i h = rw (add-one i) (rest_more i h)

  pub rest_all : rest s 0 ≡ records s
  unfolding records
  rest_all = rest_by-all (λ t. record_at t 0) s

  pub first_words-more : (i : ℕ) → i < record_count s → first_words_rest s i ≡ word_at s (record_bytes * i) ∷ first_words_rest s (suc i)
  first_words-more i h =
      let e : record_bytes * i + 0 ≡ record_bytes * i = omega arith in
      rest_by-more (λ t. word_at t 0) s i h ∙ ap (λ w. w ∷ first_words_rest s (suc i)) (word_at-drop (record_bytes * i) 0 s ∙ ap (word_at s) e)

  pub first_words-next : (i : ℕ) → i < record_count s → first_words_rest s i ≡ word_at s (record_bytes * i) ∷ first_words_rest s (i + 1)
  first_words-next i h = rw (add-one i) (first_words-more i h)

  pub first_words-all : first_words_rest s 0 ≡ first_words s
  unfolding first_words
  first_words-all = rest_by-all (λ t. word_at t 0) s

-- the record at a place, from the list
get_d-rest : (s : List ℕ) (i k : ℕ) → i + k < record_count s → get_or (rest s i) k record'.Outside ≡ record_at s (i + k)
get_d-rest s i zero l =
    let e : i ≡ i + 0 = omega arith in
    ap (λ rs. get_or rs 0 record'.Outside) (rest_more s i (omega arith)) ∙ ap (record_at s) e
get_d-rest s i (suc k) l =
    let e : suc i + k ≡ i + suc k = omega arith in
    ap (λ rs. get_or rs (suc k) record'.Outside) (rest_more s i (omega arith)) ∙ get_d-rest s (suc i) k (omega arith) ∙ ap (record_at s) e

-- what is read at each of n records is n long
pub each-length : {A : Type 0} (front : List ℕ → A) (n : ℕ) (s : List ℕ) → length (each_from front n s) ≡ n
each-length front zero s = refl
each-length front (suc n) s = ap suc (each-length front n (drop record_bytes s))

module _ (s : List ℕ) where
  pub record-there : (k : ℕ) → k < record_count s → get_or (records s) k record'.Outside ≡ record_at s k
  record-there k l =
      let e : 0 + k ≡ k = omega arith in
      ap (λ rs. get_or rs k record'.Outside) (sym (rest_all s)) ∙ get_d-rest s 0 k (omega arith) ∙ ap (record_at s) e

  pub records-length : length (records s) ≡ record_count s
  unfolding records
  records-length = each-length (λ t. record_at t 0) (record_count s) s

  pub record-beyond : (k : ℕ) → record_count s ≤ k → get_or (records s) k record'.Outside ≡ record'.Outside
  record-beyond k l =
      let e = records-length in
      get_or-eq_default (records s) record'.Outside {n = k} (omega arith)
