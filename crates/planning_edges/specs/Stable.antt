-- What is read of the numbers beside some records depends on those numbers alone.
use Rattle.std.specs.Prelude.{ℕ, zero, suc, ◌+◌, ◌-◌, ◌≤◌, ◌≡◌, refl, Bool, true, false, List, ◌∷◌, map, get_or, T, eqb}
use Rattle.std.proofs.Common.{ap, ap₂, subst, arith, eqb→eq}
use Rattle.rules.specs.Records.{kind, record_at, record_count}
use Rattle.rules.specs.Plan.{Made, EdgePlan}
use Rattle.graph.specs.Between.{between, between_none, between_more, length-between}
use Rattle.graph.specs.Sections.{place_if, places, first_or, first-bounds}
use Rattle.numbering.specs.Beside.{made, made_at, mades_between, edge_plans_at}
use Rattle.planning_edges.specs.Landings.{edge_kind}
use Rattle.planning_edges.specs.Noted.{Within}
use Rattle.planning_edges.specs.Spans.{edge_places}

-- two tables have the same numbers in an area
abbrev pub Agree : (ℕ → Type 0) → List ℕ → List ℕ → Type 0
Agree area ns ms = (i : ℕ) → area i → get_or ns i 0 ≡ get_or ms i 0

module _ (s ns ms : List ℕ) where
  -- beside the records of a kind
  mades-from :
      (k n p q : ℕ) → p + n ≡ q → q ≤ record_count s → Agree (Within s (eqb k) p q) ns ms
      → mades_between s ns k p q ≡ mades_between s ms k p q
  mades-from k zero p q e l same =
      let here : q ≡ p = omega arith in
      rw (here, between_none s p) refl
  mades-from k (suc n) p q e l same =
      rw (between_more s p q (omega arith) l)
      (go (eqb k (kind (record_at s p))) refl (mades-from k n (suc p) q (omega arith) l (λ i w. same i (omega (arith, w.0), w.1, w.2))))
    where
      go : (b : Bool) → b ≡ eqb k (kind (record_at s p)) → mades_between s ns k (suc p) q ≡ mades_between s ms k (suc p) q
          → map (made_at s ns) (place_if b p (places (eqb k) (suc p) (between s (suc p) q))) ≡ map (made_at s ms) (place_if b p (places (eqb k) (suc p) (between s (suc p) q)))
      go true b later = ap₂ (λ (x : Made) (xs : List Made). x ∷ xs) (ap made (same p (omega arith, omega arith, subst T b tt))) later
      go false b later = later

  pub mades-same :
      (k p q : ℕ) → p ≤ q → q ≤ record_count s → Agree (Within s (eqb k) p q) ns ms → mades_between s ns k p q ≡ mades_between s ms k p q
  mades-same k p q u l same = mades-from k (q - p) p q (omega arith) l same

  -- beside edges and their arguments
  edges-from :
      (n p q : ℕ) → p + n ≡ q → q ≤ record_count s → Agree (Within s edge_kind p q) ns ms
      → edge_plans_at s ns q (edge_places s p q) ≡ edge_plans_at s ms q (edge_places s p q)
  edges-from zero p q e l same =
      let here : q ≡ p = omega arith in
      rw (here, between_none s p) refl
  edges-from (suc n) p q e l same =
      rw (between_more s p q (omega arith) l)
      (go (eqb 7 (kind (record_at s p))) refl (first-bounds (eqb 7) (suc p) q (between s (suc p) q) (omega (arith, length-between s (suc p) q l)))
      (edges-from n (suc p) q (omega arith) l (λ i w. same i (omega (arith, w.0), w.1, w.2))))
    where
      next : ℕ
      next = first_or q (edge_places s (suc p) q)

      go : (b : Bool) → b ≡ eqb 7 (kind (record_at s p)) → (suc p ≤ next) × (next ≤ q)
          → edge_plans_at s ns q (edge_places s (suc p) q) ≡ edge_plans_at s ms q (edge_places s (suc p) q)
          → edge_plans_at s ns q (place_if b p (edge_places s (suc p) q)) ≡ edge_plans_at s ms q (place_if b p (edge_places s (suc p) q))
      go true b bounds later =
          let seven : 7 ≡ kind (record_at s p) = eqb→eq 7 (kind (record_at s p)) (subst T b tt) in
          ap₂ (λ (x : EdgePlan) (xs : List EdgePlan). x ∷ xs)
          (ap₂ (λ (x : Made) (xs : List Made). record { landing = x; arguments = xs })
          (ap made (same p (omega arith, omega arith, subst (λ (j : ℕ). T (edge_kind j)) seven tt)))
          (mades-same 8 (suc p) next bounds.0 (omega (arith, bounds.1))
          (λ i w.
          same i
          (omega (arith, w.0), omega (arith, w.1, bounds.1), subst (λ (j : ℕ). T (edge_kind j)) (eqb→eq 8 (kind (record_at s i)) w.2) tt))))
          later
      go false b bounds later = later

  pub edges-same :
      (p q : ℕ) → p ≤ q → q ≤ record_count s → Agree (Within s edge_kind p q) ns ms
      → edge_plans_at s ns q (edge_places s p q) ≡ edge_plans_at s ms q (edge_places s p q)
  edges-same p q u l same = edges-from (q - p) p q (omega arith) l same
