-- Edges by place: where the next one stands, and the parts of one run behind another.
use Prim.Native.Nat.{ℕ, zero, suc, ◌+◌, ◌-◌, ◌<◌, ◌≤◌}
use Rattle.std.specs.Prelude.{◌≡◌, Bool, true, false, cond, List, [], ◌∷◌, ◌++◌, T, eqb, Option, Some}
use Rattle.std.specs.List.{find, range_with_len}
use Rattle.std.specs.Option.{unwrap_or}
use Rattle.std.proofs.Math.Path.{refl, ap}
use Rattle.std.proofs.Common.{sym, ap₂, subst, ◌∙◌, eqb→eq, add-one}
use native.Mathlib.Omega.{arith}
use Rattle.rules.specs.Records.{kind, record_at, record_count}
use Rattle.rules.specs.File.{Section}
use Rattle.rules.specs.Plan.{EdgePlan}
use Rattle.rules.specs.declared.Record.{Record}
use Rattle.lists.specs.Tests.{eqb_same}
use Rattle.graph.specs.Between.{between, between_none, between_more, length-between}
use Rattle.graph.specs.Sections.{place_if, places, first_or, sections_at, first-bounds}
use Rattle.numbering.specs.Beside.{edge_plan_at, edge_plans_at}

-- the places of the edges from place p on and before place q
abbrev pub edge_places : List ℕ → ℕ → ℕ → List ℕ
edge_places s p q = places (eqb 7) p (between s p q)

-- the first of them, or q
unfoldable pub next_edge_place : List ℕ → ℕ → ℕ → ℕ
next_edge_place s p q = first_or q (edge_places s p q)

module _ (s : List ℕ) where
  -- it lies between the two,
  pub next-bounds : (p q : ℕ) → p ≤ q → q ≤ record_count s → (p ≤ next_edge_place s p q) × (next_edge_place s p q ≤ q)
  unfolding next_edge_place
  next-bounds p q l m = first-bounds (eqb 7) p q (between s p q) (omega (arith, length-between s p q m))

  -- an edge stands there, if it is not q, and none before
  next-from :
      (n p q : ℕ) → p + n ≡ q → q ≤ record_count s
      → (next_edge_place s p q < q → kind (record_at s (next_edge_place s p q)) ≡ 7) × (edge_places s p (next_edge_place s p q) ≡ [])
  unfolding next_edge_place
  next-from zero p q e l =
      let same : q ≡ p = omega arith in
      rw (same, between_none s p) (λ h. absurd (omega (arith, h)), ap (places (eqb 7) p) (between_none s p))
  next-from (suc n) p q e l =
      rw (between_more s p q (omega arith) l)
      (go (eqb 7 (kind (record_at s p))) refl (next-bounds (suc p) q (omega arith) l) (next-from n (suc p) q (omega arith) l))
    where
      later : ℕ
      later = first_or q (edge_places s (suc p) q)

      go : (b : Bool) → b ≡ eqb 7 (kind (record_at s p)) → (suc p ≤ later) × (later ≤ q)
          → (later < q → kind (record_at s later) ≡ 7) × (edge_places s (suc p) later ≡ [])
          → (first_or q (place_if b p (edge_places s (suc p) q)) < q → kind (record_at s (first_or q (place_if b p (edge_places s (suc p) q)))) ≡ 7)
          × (edge_places s p (first_or q (place_if b p (edge_places s (suc p) q))) ≡ [])
      go true b bounds h =
          (λ _. sym (eqb→eq 7 (kind (record_at s p)) (subst T b tt)), ap (places (eqb 7) p) (between_none s p))
      go false b bounds h = (
        h.0,
        ap (places (eqb 7) p) (between_more s p later (omega (arith, bounds.0)) (omega (arith, bounds.1)))
            ∙ ap (λ (o : Bool). place_if o p (edge_places s (suc p) later)) (sym b) ∙ h.1,
      )

  pub next-is-edge : (p q : ℕ) → p ≤ q → q ≤ record_count s → next_edge_place s p q < q → kind (record_at s (next_edge_place s p q)) ≡ 7
  next-is-edge p q l m = (next-from (q - p) p q (omega arith) m).0

  pub none-before-next : (p q : ℕ) → p ≤ q → q ≤ record_count s → edge_places s p (next_edge_place s p q) ≡ []
  none-before-next p q l m = (next-from (q - p) p q (omega arith) m).1

  -- PARTS. The places of a run, and those of one behind it
  places-from :
      (opens : ℕ → Bool) (n p i q : ℕ) → p + n ≡ i → i ≤ q → q ≤ record_count s
      → places opens p (between s p q) ≡ places opens p (between s p i) ++ places opens i (between s i q)
  places-from opens zero p i q e l m =
      let same : i ≡ p = omega arith in
      rw (same, between_none s p) refl
  places-from opens (suc n) p i q e l m =
      ap (places opens p) (between_more s p q (omega arith) m)
      ∙ go (opens (kind (record_at s p))) (places-from opens n (suc p) i q (omega arith) l m)
      ∙ ap (λ (rs : List Record). places opens p rs ++ places opens i (between s i q)) (sym (between_more s p i (omega arith) (omega arith)))
    where
      go : (b : Bool) → places opens (suc p) (between s (suc p) q) ≡ places opens (suc p) (between s (suc p) i) ++ places opens i (between s i q)
          → place_if b p (places opens (suc p) (between s (suc p) q)) ≡ place_if b p (places opens (suc p) (between s (suc p) i)) ++ places opens i (between s i q)
      go true h = ap (λ (ps : List ℕ). p ∷ ps) h
      go false h = h

  pub places-parted :
      (opens : ℕ → Bool) (p i q : ℕ) → p ≤ i → i ≤ q → q ≤ record_count s
      → places opens p (between s p q) ≡ places opens p (between s p i) ++ places opens i (between s i q)
  places-parted opens p i q u l m = places-from opens (i - p) p i q (omega arith) l m

  -- up to the edge behind one
  pub edge-places-next :
      (p i q : ℕ) → p ≤ i → i < q → q ≤ record_count s → kind (record_at s i) ≡ 7
      → edge_places s p (next_edge_place s (suc i) q) ≡ edge_places s p i ++ (i ∷ [])
  edge-places-next p i q u l m edge =
      let next = next_edge_place s (suc i) q in
      let bounds = next-bounds (suc i) q (omega arith) m in
      places-parted (eqb 7) p i next u (omega (arith, bounds.0)) (omega (arith, bounds.1))
      ∙ ap (λ (ps : List ℕ). edge_places s p i ++ ps)
      (ap (places (eqb 7) i) (between_more s i next (omega (arith, bounds.0)) (omega (arith, bounds.1)))
      ∙ ap (λ (k : ℕ). place_if (eqb 7 k) i (edge_places s (suc i) next)) edge
      ∙ ap (λ (ps : List ℕ). i ∷ ps) (none-before-next (suc i) q (omega arith) m))

  -- the last of some parts ends where the next one starts
  first-behind : (q i : ℕ) (ps : List ℕ) → first_or q (ps ++ (i ∷ [])) ≡ first_or i ps
  first-behind q i [] = refl
  first-behind q i (p ∷ ps) = refl

  pub sections-next :
      (q i : ℕ) (ps : List ℕ)
      → sections_at s q (ps ++ (i ∷ [])) ≡ sections_at s i ps ++ (record { head = record_at s i; body = between s (suc i) q } ∷ [])
  sections-next q i [] = refl
  sections-next q i (p ∷ ps) =
      ap₂ (λ (n : ℕ) (ss : List Section). record { head = record_at s p; body = between s (suc p) n } ∷ ss) (first-behind q i ps) (sections-next q i ps)

  pub edge-plans-next : (numbers : List ℕ) (q i : ℕ) (ps : List ℕ) → edge_plans_at s numbers q (ps ++ (i ∷ [])) ≡ edge_plans_at s numbers i ps ++ (edge_plan_at s numbers i q ∷ [])
  edge-plans-next numbers q i [] = refl
  edge-plans-next numbers q i (p ∷ ps) =
      ap₂ (λ (n : ℕ) (xs : List EdgePlan). edge_plan_at s numbers p n ∷ xs) (first-behind q i ps) (edge-plans-next numbers q i ps)
