-- Joining the live-in of the targets of edges, the last edge first.
use Prim.Native.Nat.{ℕ, zero, suc, ◌+◌, ◌-◌, ◌<◌, ◌≤◌}
use native.Mathlib.Omega.{arith}
use mathlib.Core.Path.{◌≡◌, refl, sym, ap, ◌∙◌}
use mathlib.Core.Logic.{◌≢◌}
use mathlib.Core.Bool.{Bool, true, false, ◌||◌}
use mathlib.Core.List.{List, [], ◌∷◌, map}
use lib.Dec.{eqb}
use borrow.Author.Tests.{eq-eqb, ne_eqb}
use Rattle.rules.specs.Lists.{any, update, NumberSet, union}
use Rattle.rules.specs.Records.{encode, kind, record_at, record_count}
use Rattle.rules.specs.File.{of_kind, named}
use Rattle.rules.specs.declared.Record.{Record}
use Rattle.rules.specs.declared.Words.{Words}
use Rattle.lists.specs.Members.{◌∈◌, here, there, not-∈-nil, ∈-elim}
use Rattle.fixpoint.specs.Finding.{update_here, update_self, update-again}
use Rattle.graph.specs.Between.{between, between_none, between_more}
use Rattle.solving.specs.Progress.{joined_into}

-- a set with nothing more
or-none : (s : NumberSet) → union s (λ _. false) ≡ s
or-none s = λ i v. go (s v) i
  where
    go : (a : Bool) → (a || false) ≡ a
    go true = refl
    go false = refl

-- NONE is joined,
pub joined-none : (b : ℕ) (ins outs : ℕ → NumberSet) → joined_into b ins [] outs ≡ outs
joined-none b ins outs = ap (λ (s : NumberSet). update b s outs) (or-none (outs b)) ∙ update_self b outs

-- or one,
pub joined-one : (b t : ℕ) (ins outs : ℕ → NumberSet) → update b (union (outs b) (ins t)) outs ≡ joined_into b ins (t ∷ []) outs
joined-one b t ins outs = ap (λ (s : NumberSet). update b (union (outs b) s) outs) (sym (or-none (ins t)))

-- or those of a list, and then those of another that stands in front of it.
joined-both :
    (b : ℕ) (ts : List ℕ) (ins outs : ℕ → NumberSet) (more : List ℕ → List ℕ)
    → ((p : ℕ → Bool) → any p (more []) || any p ts ≡ any p (more ts))
    → joined_into b ins (more []) (joined_into b ins ts outs) ≡ joined_into b ins (more ts) outs
joined-both b ts ins outs more e =
    let one = union (outs b) (λ v. any (λ t. ins t v) ts) in
    let first : NumberSet = λ v. any (λ t. ins t v) (more []) in
    ap (λ (s : NumberSet). update b (union s first) (update b one outs)) (update_here b one outs)
    ∙ update-again b one (union one first) outs
    ∙ ap (λ (s : NumberSet). update b s outs) (λ i v. turned (outs b v) (any (λ t. ins t v) ts) (first v) (any (λ t. ins t v) (more ts)) (e (λ t. ins t v)) i)
  where
    turned : (a b c d : Bool) → c || b ≡ d → (a || b) || c ≡ a || d
    turned true b c d e = refl
    turned false true true d e = e
    turned false true false d e = e
    turned false false true d e = e
    turned false false false d e = e

-- The targets that a record adds to those of the records behind it
module _ (b : ℕ) (ins outs : ℕ → NumberSet) (r : Record) (rs : List Record) where
  pub joined-more : joined_into b ins (named 7 (r ∷ [])) (joined_into b ins (named 7 rs) outs) ≡ joined_into b ins (named 7 (r ∷ rs)) outs
  joined-more = go (eqb (kind r) 7)
    where
      others : Bool → List Words → List ℕ
      others c ws = map (λ (w : Words). w.second) (elim c [ true ↦ encode r ∷ ws | false ↦ ws ])

      go : (c : Bool) → joined_into b ins (others c []) (joined_into b ins (named 7 rs) outs) ≡ joined_into b ins (others c (of_kind 7 rs)) outs
      go true = joined-both b (named 7 rs) ins outs (λ ts. (encode r).second ∷ ts) (λ p. front (p (encode r).second) (any p (named 7 rs)))
        where
          front : (a c : Bool) → (a || false) || c ≡ a || c
          front true c = refl
          front false c = refl
      go false = joined-none b ins (joined_into b ins (named 7 rs) outs)

-- ONE RECORD, by its words: an edge names its target, another record none.
module _ (r : Record) (w : Words) (e : w ≡ encode r) where
  abbrev targets_if : Bool → List ℕ
  targets_if c = map (λ (x : Words). x.second) (elim c [ true ↦ encode r ∷ [] | false ↦ [] ])

  pub named-edge : w.kind ≡ 7 → w.second ∷ [] ≡ named 7 (r ∷ [])
  named-edge h =
      ap {B = List ℕ} (λ x. x.second ∷ []) e
      ∙ sym (ap {B = List ℕ} targets_if (eq-eqb (kind r) 7 (ap {B = ℕ} (λ x. x.kind) (sym e) ∙ h)))

  pub named_other : w.kind ≢ 7 → [] ≡ named 7 (r ∷ [])
  named_other h = sym (ap {B = List ℕ} targets_if (ne_eqb (kind r) 7 (λ k. h (ap {B = ℕ} (λ x. x.kind) e ∙ k))))

-- BACK OVER THE RECORDS that end before place q
module _ (s : List ℕ) (q : ℕ) (k : q ≤ record_count s) where
  pub joined_end : (b : ℕ) (rows outs : ℕ → NumberSet) → outs ≡ joined_into b rows (named 7 (between s q q)) outs
  joined_end b rows outs = sym (joined-none b rows outs) ∙ ap (λ (rs : List Record). joined_into b rows (named 7 rs) outs) (sym (between_none s q))

  pub joined_back :
      (b : ℕ) (rows outs outs₁ outs₂ : ℕ → NumberSet) (i : ℕ) → 0 < i → i ≤ q → outs₁ ≡ joined_into b rows (named 7 (between s i q)) outs
      → outs₂ ≡ joined_into b rows (named 7 (record_at s (i - 1) ∷ [])) outs₁ → outs₂ ≡ joined_into b rows (named 7 (between s (i - 1) q)) outs
  joined_back b rows outs outs₁ outs₂ i l m behind record' =
      let next : suc (i - 1) ≡ i = omega arith in
      record' ∙ ap (joined_into b rows (named 7 (record_at s (i - 1) ∷ []))) behind
      ∙ joined-more b rows outs (record_at s (i - 1)) (between s i q)
      ∙ sym (ap (λ (rs : List Record). joined_into b rows (named 7 rs) outs)
      (between_more s (i - 1) q (omega arith) k ∙ ap (λ (j : ℕ). record_at s (i - 1) ∷ between s j q) next))

  -- a target of one record is one of them all
  pub target-there : (t p i : ℕ) → p ≤ i → i < q → t ∈ named 7 (record_at s i ∷ []) → t ∈ named 7 (between s p q)
  target-there t p i l m h = from (i - p) p (omega arith)
    where
      cons : (r : Record) (rs : List Record) → t ∈ named 7 rs → t ∈ named 7 (r ∷ rs)
      cons r rs h = go (eqb (kind r) 7)
        where
          go : (c : Bool) → t ∈ map (λ (w : Words). w.second) (elim c [ true ↦ encode r ∷ of_kind 7 rs | false ↦ of_kind 7 rs ])
          go true = there h
          go false = h

      front : (r : Record) (rs : List Record) → t ∈ named 7 (r ∷ []) → t ∈ named 7 (r ∷ rs)
      front r rs = go (eqb (kind r) 7)
        where
          go : (c : Bool) → t ∈ map (λ (w : Words). w.second) (elim c [ true ↦ encode r ∷ [] | false ↦ [] ])
              → t ∈ map (λ (w : Words). w.second) (elim c [ true ↦ encode r ∷ of_kind 7 rs | false ↦ of_kind 7 rs ])
          go true n = ∈-elim here (λ x. absurd (not-∈-nil x)) n
          go false n = absurd (not-∈-nil n)

      from : (n p : ℕ) → p + n ≡ i → t ∈ named 7 (between s p q)
      from zero p e =
          let same : p ≡ i = omega arith in
          rw (same, between_more s i q m k) (front (record_at s i) (between s (suc i) q) h)
      from (suc n) p e = rw (between_more s p q (omega arith) k) (cons (record_at s p) (between s (suc p) q) (from n (suc p) (omega arith)))
