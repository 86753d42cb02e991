-- The places of the records of a kind, and their table, with the number of records behind the last: where the blocks, the
-- instructions and the edges of a file start.
use Prim.Native.Nat.{ℕ, zero, suc, ◌+◌, ◌<◌, ◌≤◌}
use Rattle.std.specs.Prelude.{◌≡◌, refl, length, get_or}
use Rattle.std.proofs.Common.{sym, ◌∙◌, arith}
use Rattle.std.proofs.Math.Path.{ap, subst}
use Rattle.std.proofs.Math.Bool.{Bool, true, false}
use mathlib.Core.List.{List, [], ◌∷◌, ◌++◌, map}
use Rattle.std.proofs.Math.ListN.{length-append}
use Rattle.std.proofs.lemmas.List.{length-map}
use Rattle.std.proofs.Math.Dec.{T, eqb}
use Rattle.rules.specs.Lists.{all}
use Rattle.rules.specs.Records.{encode, kind, record_at, record_count, records}
use Rattle.rules.specs.File.{of_kind}
use Rattle.rules.specs.declared.Record.{Record}
use Rattle.rules.specs.declared.Words.{Words}
use Rattle.lists.specs.Tests.{eqb_same, and_intro}
use Rattle.graph.specs.Between.{between, between_none, between_more, between-all, length-between}
use Rattle.graph.specs.Sections.{place_if, places, table-bounds, table-ascends}

-- the places of a file's records of kind k
unfoldable pub places_of : ℕ → List ℕ → List ℕ
places_of k s = places (eqb k) 0 (records s)

-- and the number of records behind them
unfoldable pub place_table : ℕ → List ℕ → List ℕ
place_table k s = places_of k s ++ (record_count s ∷ [])

module _ (k : ℕ) (s : List ℕ) where
  -- Entry j is the place of the j-th record of the kind.
  pub places_of-names : map (λ p. encode (record_at s p)) (places_of k s) ≡ of_kind k (records s)
  unfolding places_of
  places_of-names =
      ap (λ (rs : List Record). map (λ p. encode (record_at s p)) (places (eqb k) 0 rs)) (sym (between-all s))
      ∙ from (record_count s) 0 (omega arith)
      ∙ ap (of_kind k) (between-all s)
    where
      one : (p : ℕ) (rs : List Record) (ps : List ℕ) (a b : Bool) → a ≡ b → map (λ p. encode (record_at s p)) ps ≡ of_kind k rs
          → map (λ p. encode (record_at s p)) (place_if a p ps)
          ≡ elim b [ true ↦ encode (record_at s p) ∷ of_kind k rs | false ↦ of_kind k rs ]
      one p rs ps true true e h = ap (λ (ws : List Words). encode (record_at s p) ∷ ws) h
      one p rs ps true false e h = absurd (subst T e tt)
      one p rs ps false true e h = absurd (subst T (sym e) tt)
      one p rs ps false false e h = h

      from : (n p : ℕ) → p + n ≡ record_count s
          → map (λ p. encode (record_at s p)) (places (eqb k) p (between s p (record_count s))) ≡ of_kind k (between s p (record_count s))
      from zero p e =
          let same : record_count s ≡ p = omega arith in
          rw (same, between_none s p) refl
      from (suc n) p e =
          rw (between_more s p (record_count s) (omega arith) (omega arith))
          (one p (between s (suc p) (record_count s)) (places (eqb k) (suc p) (between s (suc p) (record_count s)))
          (eqb k (kind (record_at s p))) (eqb (kind (record_at s p)) k) (eqb_same k (kind (record_at s p)))
          (from n (suc p) (omega arith)))

  -- and of that kind.
  pub places_of-kind : T (all (λ p. eqb k (kind (record_at s p))) (places_of k s))
  unfolding places_of
  places_of-kind = subst (λ rs. T (all is (places (eqb k) 0 rs))) (between-all s) (from (record_count s) 0 (omega arith))
    where
      is : ℕ → Bool
      is p = eqb k (kind (record_at s p))

      one : (p : ℕ) (ps : List ℕ) (b : Bool) → (T b → T (is p)) → T (all is ps) → T (all is (place_if b p ps))
      one p ps true h later = and_intro (is p) (all is ps) (h tt) later
      one p ps false h later = later

      from : (n p : ℕ) → p + n ≡ record_count s → T (all is (places (eqb k) p (between s p (record_count s))))
      from zero p e =
          let same : record_count s ≡ p = omega arith in
          rw (same, between_none s p) tt
      from (suc n) p e =
          rw (between_more s p (record_count s) (omega arith) (omega arith))
          (one p (places (eqb k) (suc p) (between s (suc p) (record_count s))) (is p) (λ t. t) (from n (suc p) (omega arith)))

  pub length-places_of : length (places_of k s) ≡ length (of_kind k (records s))
  length-places_of = sym (length-map (places_of k s) (λ p. encode (record_at s p))) ∙ ap length places_of-names

  pub length-place_table : length (place_table k s) ≡ suc (length (places_of k s))
  unfolding place_table
  length-place_table = length-append (places_of k s) (record_count s ∷ []) ∙ (omega arith)

  -- a file's records are as many as they are
  length-records : 0 + length (records s) ≡ record_count s
  length-records = omega (arith, ap length (between-all s), length-between s 0 (record_count s) (omega arith))

  -- Each entry is a place of the file or the number of records,
  pub place_table-le : (j : ℕ) → j ≤ length (places_of k s) → get_or (place_table k s) j 0 ≤ record_count s
  unfolding place_table places_of
  place_table-le j l = (table-bounds (eqb k) 0 (record_count s) (records s) length-records j l).1

  -- and they ascend.
  pub place_table-less : (j : ℕ) → j < length (places_of k s) → get_or (place_table k s) j 0 < get_or (place_table k s) (suc j) 0
  unfolding place_table places_of
  place_table-less j l = table-ascends (eqb k) 0 (record_count s) (records s) length-records j l
