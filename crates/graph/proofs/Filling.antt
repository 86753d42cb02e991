-- Filling a table of places: those still to be noted, and the number of records behind them.
use Prim.Native.Nat.{ℕ, ◌+◌, ◌<◌}
use mathlib.Core.Path.{◌≡◌, sym, ap, ◌∙◌}
use mathlib.Core.Logic.{◌≢◌}
use mathlib.Core.List.{List, [], ◌∷◌, ◌++◌}
use native.Mathlib.Omega.{arith}
use native.Mathlib.Numerals.{add-one}
use borrow.Author.Tests.{eq-eqb, ne_eqb}
use lib.ListN.{length, set}
use lib.Seq.{sets}
use lib.Dec.{eqb}
use Rattle.rules.specs.Records.{kind, record_at, record_count}
use Rattle.records.specs.Places.{rest, rest-next, rest_all, rest_by-done}
use Rattle.graph.specs.Sections.{place_if, places}
use Rattle.graph.specs.Placed.{places_of, place_table}

module _ (s : List ℕ) (wanted : ℕ) where
  -- the places still to be noted at place i
  abbrev pub places_from : ℕ → List ℕ
  places_from i = places (eqb wanted) i (rest s i)

  places_from-all : places_from 0 ≡ places_of wanted s
  unfolding places_of
  places_from-all = ap (places (eqb wanted) 0) (rest_all s)

  places_from-done : (i : ℕ) → i ≡ record_count s → places_from i ≡ []
  places_from-done i e = ap (λ rs. places (eqb wanted) i rs) (ap (rest s) e ∙ rest_by-done (λ t. record_at t 0) s)

  module _ (i : ℕ) (l : i < record_count s) where
    next : places_from i ≡ place_if (eqb wanted (kind (record_at s i))) i (places_from (i + 1))
    next =
        ap (places (eqb wanted) i) (rest-next s i l)
        ∙ ap (λ (j : ℕ). place_if (eqb wanted (kind (record_at s i))) i (places (eqb wanted) j (rest s (i + 1)))) (sym (add-one i))

    next-here : kind (record_at s i) ≡ wanted → places_from i ≡ i ∷ places_from (i + 1)
    next-here is = next ∙ rw (eq-eqb wanted (kind (record_at s i)) (sym is))

    next-other : kind (record_at s i) ≢ wanted → places_from i ≡ places_from (i + 1)
    next-other other = next ∙ rw (ne_eqb wanted (kind (record_at s i)) (λ e. other (sym e)))

  -- what is still to be noted ends the table as it should
  pub record Filling (lent table : List ℕ) (found i : ℕ) : Type 0 where
    pub left : found + length (places_from i) ≡ length (places_of wanted s)
    pub filled : sets table found (places_from i ++ (record_count s ∷ [])) ≡ sets lent 0 (place_table wanted s)

  pub filling-start : (lent : List ℕ) → Filling lent lent 0 0
  unfolding place_table
  filling-start lent =
      record {
        left = omega (arith, ap length places_from-all);
        filled = ap (λ (ps : List ℕ). sets lent 0 (ps ++ (record_count s ∷ []))) places_from-all;
      }

  module _ (lent table : List ℕ) (found i : ℕ) (h : Filling lent table found i) where
    pub filling-room : i < record_count s → kind (record_at s i) ≡ wanted → found < length (places_of wanted s)
    filling-room l is = omega (arith, ap length (next-here i l is), h.left)

    -- a place is noted,
    pub filling-here : i < record_count s → kind (record_at s i) ≡ wanted → Filling lent (set table found i) (found + 1) (i + 1)
    filling-here l is =
        record {
          left = omega (arith, ap length (next-here i l is), h.left);
          filled =
              ap (λ (k : ℕ). sets (set table found i) k (places_from (i + 1) ++ (record_count s ∷ []))) (add-one found)
              ∙ ap (λ (ps : List ℕ). sets table found (ps ++ (record_count s ∷ []))) (sym (next-here i l is)) ∙ h.filled;
        }

    -- or passed over
    pub filling-other : i < record_count s → kind (record_at s i) ≢ wanted → Filling lent table found (i + 1)
    filling-other l other =
        record {
          left = omega (arith, ap length (next-other i l other), h.left);
          filled = ap (λ (ps : List ℕ). sets table found (ps ++ (record_count s ∷ []))) (sym (next-other i l other)) ∙ h.filled;
        }

    -- At the end all are noted.
    module _ (n : ℕ) (last : n ≡ record_count s) (e : i ≡ n) where
      none : places_from i ≡ []
      none = places_from-done i (e ∙ last)

      pub filling-count : found ≡ length (places_of wanted s)
      filling-count = omega (arith, ap length none, h.left)

      pub filling-done : set table found n ≡ sets lent 0 (place_table wanted s)
      filling-done =
          ap (set table found) last ∙ ap (λ (ps : List ℕ). sets table found (ps ++ (record_count s ∷ []))) (sym none) ∙ h.filled
