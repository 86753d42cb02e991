-- The tree by places: what is made of the parts of an instruction, each with the number beside it, a loop over the places of
-- the records makes too.
use Prim.Native.Nat.{ℕ, zero, suc, ◌+◌, ◌-◌, ◌≤◌}
use Rattle.std.specs.Prelude.{◌≡◌, refl, Bool, true, false, eqb}
use Rattle.std.proofs.Common.{ap, ◌∙◌, arith}
use Rattle.std.proofs.Math.Path.{subst}
use mathlib.Core.List.{List, [], ◌∷◌, ◌++◌, map}
use Rattle.rules.specs.Lists.{concat_map, concat_zip}
use Rattle.rules.specs.Records.{encode, kind, record_at, record_count}
use Rattle.rules.specs.File.{Section, of_kind}
use Rattle.rules.specs.Plan.{Made}
use Rattle.rules.specs.declared.Record.{Record}
use Rattle.rules.specs.declared.Words.{Words}
use Rattle.lists.specs.Tests.{eqb_same}
use Rattle.graph.specs.Between.{between, between_none, between_more}
use Rattle.graph.specs.Sections.{place_if, places, first_or, sections_at}
use Rattle.numbering.specs.Beside.{made_at, mades_between}
use Rattle.graph.specs.Next.{next_place}
use Rattle.writing.specs.Places.{from_to, from_to-none, from_to-more}

-- what is made of the record at a place, if it is of kind k
abbrev pub on_kind : (s : List ℕ) → ℕ → (ℕ → List Record) → ℕ → List Record
on_kind s k g i = elim (eqb (kind (record_at s i)) k) [ true ↦ g i | false ↦ [] ]

module _ (s : List ℕ) (k : ℕ) {A : Type 0} (g : Words → A) where
  module _ (numbers : List ℕ) (h : A → Made → List Record) where
    -- what is made of a record's words and the number beside it
    abbrev pub paired : ℕ → List Record
    paired i = h (g (encode (record_at s i))) (made_at s numbers i)

    zip_more :
        (p : ℕ) (rs : List Record) (later : List Record)
        → concat_zip h (map g (of_kind k rs)) (map (made_at s numbers) (places (eqb k) (suc p) rs)) ≡ later
        → concat_zip h (map g (of_kind k (record_at s p ∷ rs))) (map (made_at s numbers) (places (eqb k) p (record_at s p ∷ rs))) ≡ on_kind s k paired p ++ later
    zip_more p rs later e =
        subst
        (λ (c : Bool).
        concat_zip h (map g (of_kind k (record_at s p ∷ rs))) (map (made_at s numbers) (place_if c p (places (eqb k) (suc p) rs))) ≡ on_kind s k paired p ++ later)
        (eqb_same (kind (record_at s p)) k) (go (eqb (kind (record_at s p)) k))
      where
        go : (b : Bool)
            → concat_zip h (map g (elim b [ true ↦ encode (record_at s p) ∷ of_kind k rs | false ↦ of_kind k rs ]))
            (map (made_at s numbers) (place_if b p (places (eqb k) (suc p) rs)))
            ≡ elim b [ true ↦ paired p | false ↦ [] ] ++ later
        go true = ap (λ (t : List Record). paired p ++ t) e
        go false = e

    zip-from :
        (n p q : ℕ) → p + n ≡ q → q ≤ record_count s
        → concat_zip h (map g (of_kind k (between s p q))) (mades_between s numbers k p q) ≡ from_to (on_kind s k paired) p q
    zip-from zero p q e m =
        let same : q ≡ p = omega arith in
        rw (same, between_none s p, from_to-none (on_kind s k paired) p) refl
    zip-from (suc n) p q e m =
        rw (between_more s p q (omega arith) m, from_to-more (on_kind s k paired) p q (omega arith))
        (zip_more p (between s (suc p) q) (from_to (on_kind s k paired) (suc p) q) (zip-from n (suc p) q (omega arith) m))

    -- parts of kind k, each with the number beside it
    pub zip-by-place :
        (p q : ℕ) → p ≤ q → q ≤ record_count s
        → concat_zip h (map g (of_kind k (between s p q))) (mades_between s numbers k p q) ≡ from_to (on_kind s k paired) p q
    zip-by-place p q l m = zip-from (q - p) p q (omega arith) m

  module _ (h : A → List Record) where
    -- what is made of a record's words alone
    abbrev pub single : ℕ → List Record
    single i = h (g (encode (record_at s i)))

    each_more :
        (p : ℕ) (rs : List Record) (later : List Record) → concat_map h (map g (of_kind k rs)) ≡ later
        → concat_map h (map g (of_kind k (record_at s p ∷ rs))) ≡ on_kind s k single p ++ later
    each_more p rs later e = go (eqb (kind (record_at s p)) k)
      where
        go : (b : Bool)
            → concat_map h (map g (elim b [ true ↦ encode (record_at s p) ∷ of_kind k rs | false ↦ of_kind k rs ])) ≡ elim b [ true ↦ single p | false ↦ [] ] ++ later
        go true = ap (λ (t : List Record). single p ++ t) e
        go false = e

    each_from :
        (n p q : ℕ) → p + n ≡ q → q ≤ record_count s → concat_map h (map g (of_kind k (between s p q))) ≡ from_to (on_kind s k single) p q
    each_from zero p q e m =
        let same : q ≡ p = omega arith in
        rw (same, between_none s p, from_to-none (on_kind s k single) p) refl
    each_from (suc n) p q e m =
        rw (between_more s p q (omega arith) m, from_to-more (on_kind s k single) p q (omega arith))
        (each_more p (between s (suc p) q) (from_to (on_kind s k single) (suc p) q) (each_from n (suc p) q (omega arith) m))

    -- parts of kind k alone
    pub each-by-place :
        (p q : ℕ) → p ≤ q → q ≤ record_count s → concat_map h (map g (of_kind k (between s p q))) ≡ from_to (on_kind s k single) p q
    each-by-place p q l m = each_from (q - p) p q (omega arith) m

-- the section that starts at place p and ends before place q
abbrev pub section_from : List ℕ → ℕ → ℕ → Section
section_from s p q = record { head = record_at s p; body = between s (suc p) q }

-- what stands beside the sections that start at these places, the last one before place q
abbrev pub beside_at : {B : Type 0} → (ℕ → ℕ → B) → ℕ → List ℕ → List B
beside_at plan q [] = []
beside_at plan q (p ∷ ps) = plan p (first_or q ps) ∷ beside_at plan q ps

module _ (s : List ℕ) (k : ℕ) {A B : Type 0} (g : Section → A) (plan : ℕ → ℕ → B) (h : A → B → List Record) (q : ℕ) where
  -- what is made of the section at a place and what stands beside it
  abbrev pub sectioned : ℕ → List Record
  sectioned i = h (g (section_from s i (next_place s k (suc i) q))) (plan i (next_place s k (suc i) q))

  sections-more :
      (p : ℕ) (rs later : List Record) → rs ≡ between s (suc p) q
      → concat_zip h (map g (sections_at s q (places (eqb k) (suc p) rs))) (beside_at plan q (places (eqb k) (suc p) rs)) ≡ later
      → concat_zip h (map g (sections_at s q (places (eqb k) p (record_at s p ∷ rs)))) (beside_at plan q (places (eqb k) p (record_at s p ∷ rs)))
      ≡ on_kind s k sectioned p ++ later
  unfolding next_place
  sections-more p rs later same e =
      subst
      (λ (c : Bool). concat_zip h (map g (sections_at s q (place_if c p ps))) (beside_at plan q (place_if c p ps)) ≡ on_kind s k sectioned p ++ later)
      (eqb_same (kind (record_at s p)) k) (go (eqb (kind (record_at s p)) k))
    where
      ps : List ℕ
      ps = places (eqb k) (suc p) rs

      go : (b : Bool)
          → concat_zip h (map g (sections_at s q (place_if b p ps))) (beside_at plan q (place_if b p ps))
          ≡ elim b [ true ↦ sectioned p | false ↦ [] ] ++ later
      go true =
          ap (λ (x : ℕ). h (g (section_from s p x)) (plan p x) ++ concat_zip h (map g (sections_at s q ps)) (beside_at plan q ps))
          (ap (λ (t : List Record). first_or q (places (eqb k) (suc p) t)) same)
          ∙ ap (λ (t : List Record). sectioned p ++ t) e
      go false = e

  sections-from :
      (n p : ℕ) → p + n ≡ q → q ≤ record_count s
      → concat_zip h (map g (sections_at s q (places (eqb k) p (between s p q)))) (beside_at plan q (places (eqb k) p (between s p q)))
      ≡ from_to (on_kind s k sectioned) p q
  sections-from zero p e m =
      let same : p ≡ q = omega arith in
      rw (same, between_none s q, from_to-none (on_kind s k sectioned) q) refl
  sections-from (suc n) p e m =
      rw (between_more s p q (omega arith) m, from_to-more (on_kind s k sectioned) p q (omega arith))
      (sections-more p (between s (suc p) q) (from_to (on_kind s k sectioned) (suc p) q) refl (sections-from n (suc p) (omega arith) m))

  -- sections that start at the records of kind k
  pub sections-by-place :
      (p : ℕ) → p ≤ q → q ≤ record_count s
      → concat_zip h (map g (sections_at s q (places (eqb k) p (between s p q)))) (beside_at plan q (places (eqb k) p (between s p q)))
      ≡ from_to (on_kind s k sectioned) p q
  sections-by-place p l m = sections-from (q - p) p (omega arith) m
