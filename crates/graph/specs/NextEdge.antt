-- The next edge from a place on.
use Rattle.std.specs.Prelude.{ℕ, zero, suc, ◌+◌, ◌-◌, ◌<◌, ◌≤◌, ◌≡◌, refl, Bool, true, false, Option, Some, None, List, [], ◌∷◌, map, eqb}
use Rattle.std.proofs.Common.{ap, subst, arith}
use Rattle.rules.specs.declared.Words.{Words}
use Rattle.rules.specs.Records.{encode, kind, record_at, record_count}
use Rattle.rules.specs.File.{of_kind, named}
use Rattle.rules.specs.declared.Record.{Record}
use Rattle.graph.specs.declared.edges.NextEdge.{NextEdge}
use Rattle.graph.specs.Between.{between, between_none, between_more}

-- the edge that a record is, if it is one, with the place behind it, or else another
abbrev pub edge_or : Record → ℕ → Option NextEdge → Option NextEdge
edge_or r behind later =
    elim (eqb (kind r) 7) [ true ↦ Some (record { target = (encode r).second; behind = behind }) | false ↦ later ]

-- the first edge among records of which the first stands at place p, and the place behind it
abbrev pub next_edge : ℕ → List Record → Option NextEdge
next_edge p [] = None
next_edge p (r ∷ rs) = edge_or r (suc p) (next_edge (suc p) rs)

-- the first edge between two places, and the place behind it
unfoldable pub edge_from : List ℕ → ℕ → ℕ → Option NextEdge
edge_from s p q = next_edge p (between s p q)

-- Of the targets of the edges from place p on and before place q, an edge has the first, and the others stand behind it.
abbrev pub Taken : List ℕ → ℕ → ℕ → List ℕ → Option NextEdge → Type 0
Taken s p q targets None = targets ≡ []
Taken s p q targets (Some e) = (targets ≡ e.target ∷ named 7 (between s e.behind q)) × (e.behind ≤ q) × (p < e.behind)

module _ (s : List ℕ) (q : ℕ) where
  taken-sooner : (p : ℕ) (targets : List ℕ) (e : Option NextEdge) → Taken s (suc p) q targets e → Taken s p q targets e
  taken-sooner p targets None h = h
  taken-sooner p targets (Some e) h = let l = h.2 in (h.0, h.1, omega arith)

  taken_more : (r : Record) (p : ℕ) (rs : List Record) → suc p ≤ q → rs ≡ between s (suc p) q
      → Taken s (suc p) q (named 7 rs) (next_edge (suc p) rs) → Taken s p q (named 7 (r ∷ rs)) (next_edge p (r ∷ rs))
  taken_more r p rs l e later = go (eqb (kind r) 7)
    where
      go : (o : Bool)
          → Taken s p q (map (λ (w : Words). w.second) (elim o [ true ↦ encode r ∷ of_kind 7 rs | false ↦ of_kind 7 rs ]))
          (elim o [ true ↦ Some (record { target = (encode r).second; behind = suc p }) | false ↦ next_edge (suc p) rs ])
      go true = (ap (λ (t : List Record). (encode r).second ∷ named 7 t) e, l, omega arith)
      go false = taken-sooner p (named 7 rs) (next_edge (suc p) rs) later

  taken-from : (n p : ℕ) → p + n ≡ q → q ≤ record_count s → Taken s p q (named 7 (between s p q)) (next_edge p (between s p q))
  taken-from zero p e k =
      let same : q ≡ p = omega arith in
      rw (same, between_none s p) refl
  taken-from (suc n) p e k =
      rw (between_more s p q (omega arith) k)
      (taken_more (record_at s p) p (between s (suc p) q) (omega arith) refl (taken-from n (suc p) (omega arith) k))

  -- What stands between two places has the first edge found, and behind it the others.
  pub edge_from-taken : (p : ℕ) → p ≤ q → q ≤ record_count s → Taken s p q (named 7 (between s p q)) (edge_from s p q)
  unfolding edge_from
  edge_from-taken p l k = taken-from (q - p) p (omega arith) k

-- the targets from an edge on
abbrev pub targets_from : List ℕ → ℕ → Option NextEdge → List ℕ
targets_from s q None = []
targets_from s q (Some e) = e.target ∷ named 7 (between s e.behind q)

module _ (s : List ℕ) (p q : ℕ) (l : p ≤ q) (k : q ≤ record_count s) where
  pub edge_from-targets : named 7 (between s p q) ≡ targets_from s q (edge_from s p q)
  edge_from-targets = go (edge_from s p q) (edge_from-taken s q p l k)
    where
      go : (e : Option NextEdge) → Taken s p q (named 7 (between s p q)) e → named 7 (between s p q) ≡ targets_from s q e
      go None h = h
      go (Some e) h = h.0

  pub edge_from-behind : (e : NextEdge) → edge_from s p q ≡ Some e → e.behind ≤ q
  edge_from-behind e is = (subst (Taken s p q (named 7 (between s p q))) is (edge_from-taken s q p l k)).1
