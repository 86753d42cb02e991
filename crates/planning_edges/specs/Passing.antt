-- Whether an edge passes a spilled value, record by record; and an edge of a safepoint either way.
use Rattle.std.specs.Prelude.{ℕ, zero, suc, ◌+◌, ◌-◌, ◌<◌, ◌≤◌, ◌≡◌, Bool, ◌||◌, cond, eqb, Some, None, is_some}
use Rattle.std.specs.List.{list_any, range_with_len}
use Rattle.std.proofs.Math.Path.{refl}
use Rattle.std.proofs.Common.{sym, ap, ◌∙◌, arith}
use Rattle.std.proofs.Math.Bool.{true, false}
use mathlib.Core.List.{List, [], ◌∷◌, map}
use Rattle.rules.specs.Lists.{any, NumberSet}
use Rattle.rules.specs.Records.{encode, kind, record_at, record_count}
use Rattle.rules.specs.File.{of_kind, function_in}
use Rattle.rules.specs.Graph.{values_among}
use Rattle.rules.specs.Liveness.{is_spilled}
use Rattle.rules.specs.declared.EdgeArgument.{EdgeArgument}
use Rattle.rules.specs.declared.EdgeArgument.TheVariants as passes
use Rattle.rules.specs.declared.Record.{Record}
use Rattle.rules.specs.declared.Words.{Words}
use Rattle.records.specs.Parts.{argument}
use Rattle.graph.specs.Between.{between, between_none, between_more, between_next}
use Rattle.rows.specs.Rows.{rows}
use Rattle.planning.specs.Operands.{among_of, operand_at, Reading}

-- some edge argument among records is a value of the set
unfoldable pub passing : NumberSet → List Record → Bool
passing set rs = any set (values_among (map argument (of_kind 8 rs)))

module _ (set : NumberSet) where
  -- one record more
  passing-more : (r : Record) (rs : List Record) → passing set (r ∷ rs) ≡ (passing set (r ∷ []) || passing set rs)
  unfolding passing
  passing-more r rs = go (eqb (kind r) 8)
    where
      one : (x : EdgeArgument) → any set (values_among (x ∷ map argument (of_kind 8 rs))) ≡ (any set (values_among (x ∷ [])) || any set (values_among (map argument (of_kind 8 rs))))
      one (passes.Value v) = by (set v)
        where
          by : (b : Bool) → (b || any set (values_among (map argument (of_kind 8 rs)))) ≡ ((b || false) || any set (values_among (map argument (of_kind 8 rs))))
          by true = refl
          by false = refl
      one (passes.Returned _) = refl
      one (passes.Exception _) = refl

      go : (b : Bool)
          → any set (values_among (map argument (elim b [ true ↦ encode r ∷ of_kind 8 rs | false ↦ of_kind 8 rs ])))
          ≡ (any set (values_among (map argument (elim b [ true ↦ encode r ∷ [] | false ↦ [] ]))) || any set (values_among (map argument (of_kind 8 rs))))
      go true = one (argument (encode r))
      go false = refl

  module _ (s : List ℕ) where
    -- what the record at a place passes
    pub passing-at : (place : ℕ) → is_some (among_of set (operand_at s 8 place)) ≡ passing set (record_at s place ∷ [])
    unfolding passing operand_at
    passing-at place = go (eqb (kind (record_at s place)) 8)
      where
        w : Words
        w = encode (record_at s place)

        found : (b : Bool) → is_some (cond b (Some w.third) None) ≡ (b || false)
        found true = refl
        found false = refl

        valued : (c d : Bool)
            → is_some (among_of set (cond c (Some w.third) None))
            ≡ any set (values_among (cond c (passes.Value w.third) (cond d (passes.Returned w.third) (passes.Exception w.third)) ∷ []))
        valued true d = found (set w.third)
        valued false true = refl
        valued false false = refl

        go : (b : Bool)
            → is_some (among_of set (cond b (cond (eqb w.second 0) (Some w.third) None) None))
            ≡ any set (values_among (map argument (elim b [ true ↦ w ∷ [] | false ↦ [] ])))
        go true = valued (eqb w.second 0) (eqb w.second 1)
        go false = refl

    -- what the records of a run pass, place by place
    passing-from :
        (n p q : ℕ) → p + n ≡ q → q ≤ record_count s → list_any (λ i. passing set (record_at s i ∷ [])) (range_with_len p n) ≡ passing set (between s p q)
    unfolding passing
    passing-from zero p q e l =
        let same : q ≡ p = omega arith in
        rw (same, between_none s p) refl
    passing-from (suc n) p q e l =
        let next : p + 1 ≡ suc p = omega arith in
        ap (λ (i : ℕ). passing set (record_at s p ∷ []) || list_any (λ j. passing set (record_at s j ∷ [])) (range_with_len i n)) next
        ∙ ap (λ (b : Bool). passing set (record_at s p ∷ []) || b) (passing-from n (suc p) q (omega arith) l)
        ∙ sym (ap (passing set) (between_more s p q (omega arith) l) ∙ passing-more (record_at s p) (between s (suc p) q))

    passing-any :
        (p q : ℕ) → p ≤ q → q ≤ record_count s → list_any (λ i. passing set (record_at s i ∷ [])) (range_with_len p (q - p)) ≡ passing set (between s p q)
    passing-any p q u l = passing-from (q - p) p q (omega arith) l

    module _ (i end : ℕ) (l : i < end) (k : end ≤ record_count s) where
      -- one place passes a value: so do all,
      pub passing-here : passing set (record_at s i ∷ []) ≡ true → passing set (between s i end) ≡ true
      passing-here e = ap (passing set) (between_next s i end l k) ∙ passing-more (record_at s i) (between s (i + 1) end) ∙ ap (λ (b : Bool). b || passing set (between s (i + 1) end)) e

      -- or it does not, and the others may
      pub passing-later : passing set (record_at s i ∷ []) ≡ false → passing set (between s (i + 1) end) ≡ passing set (between s i end)
      passing-later e =
          sym (ap (passing set) (between_next s i end l k) ∙ passing-more (record_at s i) (between s (i + 1) end) ∙ ap (λ (b : Bool). b || passing set (between s (i + 1) end)) e)

    -- none is left
    pub passing-none : (i end : ℕ) → i ≡ end → passing set (between s i end) ≡ false
    unfolding passing
    passing-none i end e = rw (e, between_none s end) refl

module _ (s spilled : List ℕ) (r : Reading s spilled) where
  -- what is found at a place, by the row of spilled values
  pub passing-found : (place : ℕ) → is_some (among_of (rows spilled 0) (operand_at s 8 place)) ≡ passing (is_spilled (function_in s)) (record_at s place ∷ [])
  passing-found place =
      passing-at (rows spilled 0) s place ∙ ap (λ (set : NumberSet). passing set (record_at s place ∷ [])) r.is_row

  -- and at some place of a run
  pub passing-some :
      (p q : ℕ) → p ≤ q → q ≤ record_count s
      → list_any (λ place. is_some (among_of (rows spilled 0) (operand_at s 8 place))) (range_with_len p (q - p))
      ≡ passing (is_spilled (function_in s)) (between s p q)
  passing-some p q u l =
      ap (λ (test : ℕ → Bool). list_any test (range_with_len p (q - p))) (λ i place. passing-found place i)
      ∙ passing-any (is_spilled (function_in s)) s p q u l
