-- The tail of a block: its edges, their arguments and its contexts, the records of kind 7 and above. In a sound file they
-- stand behind the rest of the block, so the first of them is found from the block's end.
use Rattle.std.specs.Prelude.{ℕ, zero, suc, ◌+◌, ◌-◌, ◌<◌, ◌≤◌, ◌≡◌, refl, ◌≢◌, List, ◌∷◌, map, eqb, ltb}
use Rattle.std.proofs.Common.{ap, subst, ◌∙◌, arith, eqb→eq, ltb→lt, nltb→le}
use Rattle.std.proofs.Math.Dec.{not_T}
use Rattle.rules.specs.declared.Words.{Words}
use Rattle.rules.specs.Records.{encode, kind, record_at, record_count}
use Rattle.rules.specs.File.{of_kind, named}
use Rattle.lists.specs.Tests.{test-elim, left_out}
use Rattle.graph.specs.Between.{between, between_more}

-- Behind a record of a tail stands another such, or a block.
abbrev pub TailsLast : List ℕ → Type 0
TailsLast s =
    (i : ℕ) → i + 1 < record_count s → 7 ≤ kind (record_at s i) → kind (record_at s (i + 1)) ≢ 2 → 7 ≤ kind (record_at s (i + 1))

-- between two places nothing else stands behind one
abbrev pub TailLast : List ℕ → ℕ → ℕ → Type 0
TailLast s p q = (i : ℕ) → p ≤ i → i + 1 < q → 7 ≤ kind (record_at s i) → 7 ≤ kind (record_at s (i + 1))

-- between two places stands none
abbrev pub NoTail : List ℕ → ℕ → ℕ → Type 0
NoTail s p q = (i : ℕ) → p ≤ i → i < q → kind (record_at s i) < 7

-- What goes from each place to the next, between two places, goes on to every one behind it.
pub stays_on :
    (P : ℕ → Type 0) (p q : ℕ) → ((i : ℕ) → p ≤ i → i + 1 < q → P i → P (i + 1)) → (n i j : ℕ) → i + n ≡ j → p ≤ i → j < q → P i → P j
stays_on P p q step zero i j e l m here =
    let same : i ≡ j = omega arith in
    subst P same here
stays_on P p q step (suc n) i j e l m here = stays_on P p q step n (i + 1) j (omega arith) (omega arith) m (step i l (omega arith) here)

module _ (s : List ℕ) where
  -- from a later place on it is so too
  pub tail_last-later : (p r q : ℕ) → p ≤ r → TailLast s p q → TailLast s r q
  tail_last-later p r q l h i m = h i (omega arith)

  -- so before one that is not of the tail none stands
  pub tail_none : (p r q : ℕ) → TailLast s p q → r < q → kind (record_at s r) < 7 → NoTail s p (r + 1)
  tail_none p r q h l other i m k =
      test-elim (ltb (kind (record_at s i)) 7) (ltb→lt (kind (record_at s i)) 7)
      (λ t.
      let last = stays_on (λ k. 7 ≤ kind (record_at s k)) p q h (r - i) i r (omega arith) m l (nltb→le (kind (record_at s i)) 7 t) in
      absurd (omega arith))

  -- What records of a tail's kind name is found behind places where none stands.
  pub named-behind : (k p r q : ℕ) → 7 ≤ k → p ≤ r → r ≤ q → q ≤ record_count s → NoTail s p r → named k (between s p q) ≡ named k (between s r q)
  named-behind k p r q tail l m o none = from (r - p) p (omega arith) none
    where
      from : (n p : ℕ) → p + n ≡ r → NoTail s p r → named k (between s p q) ≡ named k (between s r q)
      from zero p e none =
          let same : p ≡ r = omega arith in
          rw same refl
      from (suc n) p e none =
          let other = none p (omega arith) (omega arith) in
          ap (named k) (between_more s p q (omega arith) o)
          ∙ ap (map (λ (w : Words). w.second))
          (left_out (eqb (kind (record_at s p)) k) (encode (record_at s p) ∷ of_kind k (between s (suc p) q)) (of_kind k (between s (suc p) q))
          (not_T (eqb (kind (record_at s p)) k) (λ t. let same = eqb→eq (kind (record_at s p)) k t in omega arith)))
          ∙ from n (suc p) (omega arith) (λ i h. none i (omega arith))
