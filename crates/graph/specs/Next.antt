-- The next record of a kind, by its place: where a part of a block or of an instruction ends.
use Rattle.std.specs.Prelude.{ℕ, zero, suc, ◌-◌, ◌+◌, ◌<◌, ◌≤◌, ◌≡◌, Bool, true, false, T, eqb}
use Rattle.std.proofs.Math.Path.{refl, ap}
use Rattle.std.proofs.Common.{sym, subst, ◌∙◌, arith, add-one, eqb→eq}
use mathlib.Core.List.{List}
use Rattle.std.proofs.Math.Dec.{not_T}
use Rattle.rules.specs.Records.{kind, record_at, record_count}
use Rattle.rules.specs.declared.Record.{Record}
use Rattle.lists.specs.Tests.{eq→eqb, is_true, is_false}
use Rattle.graph.specs.Between.{between, between_none, between_more, length-between}
use Rattle.graph.specs.Sections.{place_if, places, first_or, first-bounds}

-- the place of the first record of kind k from place p on and before place q, or q
unfoldable pub next_place : List ℕ → ℕ → ℕ → ℕ → ℕ
next_place s k p q = first_or q (places (eqb k) p (between s p q))

module _ (s : List ℕ) (k : ℕ) where
  pub next_place-none : (p q : ℕ) → p ≡ q → p ≡ next_place s k p q
  unfolding next_place
  next_place-none p q e = rw (e, between_none s q) refl

  module _ (p q : ℕ) (l : p < q) (m : q ≤ record_count s) where
    here-or : next_place s k p q ≡ first_or q (place_if (eqb k (kind (record_at s p))) p (places (eqb k) (suc p) (between s (suc p) q)))
    unfolding next_place
    here-or = ap (λ (rs : List Record). first_or q (places (eqb k) p rs)) (between_more s p q l m)

    -- it stands here
    pub next_place-here : kind (record_at s p) ≡ k → next_place s k p q ≡ p
    next_place-here e =
        here-or
        ∙ ap (λ (b : Bool). first_or q (place_if b p (places (eqb k) (suc p) (between s (suc p) q)))) (is_true (eqb k (kind (record_at s p))) (eq→eqb (sym e)))

    -- or further on
    pub next_place-later : (kind (record_at s p) ≡ k → ⊥) → next_place s k p q ≡ next_place s k (p + 1) q
    unfolding next_place
    next_place-later h =
        here-or
        ∙ ap (λ (b : Bool). first_or q (place_if b p (places (eqb k) (suc p) (between s (suc p) q))))
        (is_false (eqb k (kind (record_at s p))) (not_T (eqb k (kind (record_at s p))) (λ t. h (sym (eqb→eq k (kind (record_at s p)) t)))))
        ∙ ap (λ (n : ℕ). next_place s k n q) (sym (add-one p))

  -- It lies between the two.
  pub next_place-bounds : (p q : ℕ) → p ≤ q → q ≤ record_count s → (p ≤ next_place s k p q) × (next_place s k p q ≤ q)
  unfolding next_place
  next_place-bounds p q l m = first-bounds (eqb k) p q (between s p q) (omega (arith, length-between s p q m))

-- WHAT STANDS THERE
module _ (s : List ℕ) (k q : ℕ) (m : q ≤ record_count s) where
  -- a record of the kind at place r, unless that is the end, and none from place p on before it
  abbrev pub Found : ℕ → ℕ → Type 0
  Found p r = (r < q → kind (record_at s r) ≡ k) × ((i : ℕ) → p ≤ i → i < r → kind (record_at s i) ≡ k → ⊥)

  found_from : (n p : ℕ) → p + n ≡ q → Found p (next_place s k p q)
  found_from zero p e =
      subst (Found p) (next_place-none s k p q (omega arith)) ((λ l. absurd (omega arith)), (λ i l u. absurd (omega arith)))
  found_from (suc n) p e = go (eqb (kind (record_at s p)) k) refl (found_from n (p + 1) (omega arith))
    where
      go : (b : Bool) → b ≡ eqb (kind (record_at s p)) k → Found (p + 1) (next_place s k (p + 1) q) → Found p (next_place s k p q)
      go true b later =
          let here = eqb→eq (kind (record_at s p)) k (subst T b tt) in
          subst (Found p) (sym (next_place-here s k p q (omega arith) m here)) ((λ _. here), (λ i l u. absurd (omega arith)))
      go false b later =
          let other : kind (record_at s p) ≡ k → ⊥ = λ y. subst T (sym b) (eq→eqb y) in
          subst (Found p) (sym (next_place-later s k p q (omega arith) m other)) (later.0, (λ i l u y. passed i l u y (eqb i p) refl))
        where
          passed : (i : ℕ) → p ≤ i → i < next_place s k (p + 1) q → kind (record_at s i) ≡ k → (c : Bool) → c ≡ eqb i p → ⊥
          passed i l u y true c = subst T (sym b) (eq→eqb (ap (λ (j : ℕ). kind (record_at s j)) (sym (eqb→eq i p (subst T c tt))) ∙ y))
          passed i l u y false c =
              let beyond : i ≡ p → ⊥ = λ z. subst T (sym c) (eq→eqb z) in
              later.1 i (omega (arith, beyond)) u y

  -- the next place is so
  pub next_place-found : (p : ℕ) → p ≤ q → Found p (next_place s k p q)
  next_place-found p l = found_from (q - p) p (omega arith)

  -- and so from a later place on that is not behind it
  pub next_place-from : (n p r : ℕ) → p + n ≡ r → p ≤ q → r ≤ next_place s k p q → next_place s k r q ≡ next_place s k p q
  next_place-from zero p r e l u =
      let same : r ≡ p = omega arith in
      ap (λ (i : ℕ). next_place s k i q) same
  next_place-from (suc n) p r e l u =
      let within = next_place-bounds s k p q l m in
      let later = next_place-later s k p q (omega (arith, within.1)) m ((next_place-found p l).1 p (omega arith) (omega arith)) in
      next_place-from n (p + 1) r (omega arith) (omega (arith, within.1)) (subst (λ (i : ℕ). r ≤ i) later u) ∙ sym later

  -- it is the only one
  pub next_place-only : (p r : ℕ) → p ≤ r → r ≤ q → Found p r → r ≡ next_place s k p q
  next_place-only p r l u found =
      let after : p ≤ q = omega arith in
      let first = next_place-found p after in
      let within = next_place-bounds s k p q after m in
      let not-before : r < next_place s k p q → ⊥ = λ z. first.1 r l z (found.0 (omega (arith, z, within.1))) in
      let not-behind : next_place s k p q < r → ⊥ = λ z. found.1 (next_place s k p q) within.0 z (first.0 (omega arith)) in
      omega (arith, not-before, not-behind)
