-- Looking for the next edge, one record at a time.
use Prim.Native.Nat.{ℕ, zero, suc, ◌+◌, ◌-◌, ◌<◌, ◌≤◌}
use mathlib.Core.Path.{◌≡◌, refl, sym, ap, ◌∙◌}
use mathlib.Core.List.{List}
use native.Mathlib.Omega.{arith}
use native.Mathlib.Numerals.{add-one}
use lib.Dec.{eqb, eqb→eq, not_T}
use Rattle.std.specs.Prelude.{Option, Some, None, MatchOption}
use Rattle.rules.specs.Records.{encode, kind, record_at, record_count}
use Rattle.lists.specs.Tests.{eq→eqb, chosen, left_out}
use Rattle.graph.specs.Between.{between, between_none, between_more}
use Rattle.graph.specs.Tails.{NoTail}
use Rattle.graph.specs.NextEdge.{edge_or, next_edge, edge_from}

-- no edge stands from place p on and before place q
abbrev pub NoEdge : List ℕ → ℕ → ℕ → Type 0
NoEdge s p q = (i : ℕ) → p ≤ i → i < q → kind (record_at s i) ≡ 7 → ⊥

-- the place of the first, if there is one
abbrev pub FirstPlace : List ℕ → ℕ → ℕ → Option ℕ → Type 0
FirstPlace s p q r = MatchOption r (NoEdge s p q) (λ at. (p ≤ at) × (at < q) × (kind (record_at s at) ≡ 7) × NoEdge s p at)

module _ (s : List ℕ) where
  module _ (i q : ℕ) (l : i < q) (k : q ≤ record_count s) where
    first : edge_from s i q ≡ edge_or (record_at s i) (i + 1) (edge_from s (i + 1) q)
    unfolding edge_from
    first =
        ap (next_edge i) (between_more s i q l k)
        ∙ (λ t. edge_or (record_at s i) (sym (add-one i) t) (next_edge (sym (add-one i) t) (between s (sym (add-one i) t) q)))

    -- the record is an edge
    edge_from-here : kind (record_at s i) ≡ 7 → edge_from s i q ≡ Some (record { target = (encode (record_at s i)).second; behind = i + 1 })
    edge_from-here is =
        first ∙ chosen (eqb (kind (record_at s i)) 7) (Some (record { target = (encode (record_at s i)).second; behind = i + 1 })) (edge_from s (i + 1) q) (eq→eqb is)

    -- it is another
    edge_from-later : (kind (record_at s i) ≡ 7 → ⊥) → edge_from s i q ≡ edge_from s (i + 1) q
    edge_from-later other =
        first
        ∙ left_out (eqb (kind (record_at s i)) 7) (Some (record { target = (encode (record_at s i)).second; behind = i + 1 })) (edge_from s (i + 1) q)
        (not_T (eqb (kind (record_at s i)) 7) (λ t. other (eqb→eq (kind (record_at s i)) 7 t)))

  -- It is found behind places where no edge stands.
  edge_from-over :
      (p r q : ℕ) → p ≤ r → r ≤ q → q ≤ record_count s → NoEdge s p r
      → edge_from s p q ≡ edge_from s r q
  edge_from-over p r q l m k none = from (r - p) p (omega arith) none
    where
      from : (n p : ℕ) → p + n ≡ r → NoEdge s p r → edge_from s p q ≡ edge_from s r q
      from zero p e none =
          let same : p ≡ r = omega arith in
          rw same refl
      from (suc n) p e none =
          edge_from-later p q (omega arith) k (none p (omega arith) (omega arith)) ∙ from n (p + 1) (omega arith) (λ i h. none i (omega arith))

  -- There is none where none stands,
  pub edge_from-none : (p q : ℕ) → p ≤ q → q ≤ record_count s → FirstPlace s p q None → edge_from s p q ≡ None
  unfolding edge_from
  edge_from-none p q l k none = edge_from-over p q q l (omega arith) k none ∙ rw (between_none s q)

  -- the first is found where it stands,
  pub edge_from-first :
      (p q at : ℕ) → q ≤ record_count s → FirstPlace s p q (Some at)
      → edge_from s p q ≡ Some (record { target = (encode (record_at s at)).second; behind = at + 1 })
  edge_from-first p q at k h = edge_from-over p at q h.0 (omega arith) k h.3 ∙ edge_from-here at q h.1 k h.2

  -- and so behind places where no tail stands
  pub edge_from-behind-others : (p r q : ℕ) → p ≤ r → r ≤ q → q ≤ record_count s → NoTail s p r → edge_from s r q ≡ edge_from s p q
  edge_from-behind-others p r q l m k none =
      sym (edge_from-over p r q l m k (λ i h j is. let other = none i h j in absurd (omega arith)))
