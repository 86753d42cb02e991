-- Counting first words from a place on: one record more.
use Prim.Native.Nat.{ℕ, ◌+◌, ◌*◌, ◌<◌, ◌≤◌}
use mathlib.Core.Path.{◌≡◌, refl, ap, ◌∙◌}
use mathlib.Core.Bool.{Bool, true, false}
use Rattle.std.specs.Int.{from_bool}
use lib.Dec.{eqb}
use mathlib.Core.List.{List}
use native.Mathlib.Omega.{arith}
use Rattle.rules.specs.Limits.{record_bytes}
use Rattle.rules.specs.Lists.{count}
use Rattle.rules.specs.Records.{word_at, record_count, first_words, bit}
use Rattle.lists.specs.Tests.{eqb_same}
use Rattle.lists.specs.Counts.{count-more, bit-at-most}
use Rattle.records.specs.Places.{first_words_rest, first_words-next, first_words-all, rest_by-done}

pub count-rest :
    (s : List ℕ) (k i : ℕ) → i < record_count s
    → count (eqb k) (first_words_rest s i) ≡ bit (eqb k (word_at s (record_bytes * i))) + count (eqb k) (first_words_rest s (i + 1))
count-rest s k i h =
    ap (count (eqb k)) (first_words-next s i h) ∙ count-more (eqb k) (word_at s (record_bytes * i)) (first_words_rest s (i + 1))

-- first words of kind k, counted before place i
abbrev pub Counted : List ℕ → ℕ → ℕ → ℕ → Type 0
Counted s k found i = (found ≤ i) × (found + count (eqb k) (first_words_rest s i) ≡ count (eqb k) (first_words s))

pub counted_none : (s : List ℕ) (k : ℕ) → Counted s k 0 0
counted_none s k = let e = ap (count (eqb k)) (first_words-all s) in (omega arith, omega arith)

-- a test for a kind, as the number that a record counts for
pub counts-for : (w k b : ℕ) → b ≡ from_bool (eqb w k) → b ≡ bit (eqb k w)
counts-for w k b e = e ∙ as-bit (eqb w k) ∙ ap bit (eqb_same w k)
  where
    as-bit : (x : Bool) → from_bool x ≡ bit x
    as-bit true = refl
    as-bit false = refl

pub counted-more :
    (s : List ℕ) (k found i : ℕ) → i < record_count s → Counted s k found i → (w b : ℕ) → w ≡ word_at s (record_bytes * i) → b ≡ from_bool (eqb w k)
    → Counted s k (found + b) (i + 1)
counted-more s k found i l h w b is same =
    let e = count-rest s k i l in
    let f = ap (λ x. bit (eqb k x)) is in
    let g = counts-for w k b same in
    let m = bit-at-most (eqb k w) in
    (omega arith, omega arith)

pub counted-all : (s : List ℕ) (k found i : ℕ) → i ≡ record_count s → Counted s k found i → found ≡ count (eqb k) (first_words s)
counted-all s k found i n h =
    let e = ap (count (eqb k)) (ap (first_words_rest s) n ∙ rest_by-done (λ t. word_at t 0) s) in omega arith
