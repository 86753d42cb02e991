-- The records of a file between two places, as a loop from the first place to the second meets them.
use Prim.Native.Nat.{ℕ, zero, suc, ◌+◌, ◌-◌, ◌*◌, ◌<◌, ◌≤◌}
use Rattle.std.specs.Prelude.{◌≡◌, refl, Bool, List, [], ◌∷◌, length, take, drop, T}
use Rattle.std.proofs.Common.{ap, subst, ◌∙◌, add-one}
use native.Mathlib.Omega.{arith}
use Rattle.std.proofs.Math.Seq.{take_all, length-take-le}
use Rattle.rules.specs.Limits.{record_bytes}
use Rattle.rules.specs.Lists.{all}
use Rattle.rules.specs.Records.{kind, record_at, record_count, each_from, records}
use Rattle.rules.specs.declared.Record.{Record}
use Rattle.lists.specs.Tests.{and_left, and_right}
use Rattle.records.specs.Kinds.{Kinds}
use Rattle.records.specs.Places.{rest_by, rest, rest_more, rest_all}

-- the records from place p on and before place q
unfoldable pub between : List ℕ → ℕ → ℕ → List Record
between s p q = take (q - p) (rest s p)

length-each_from : {A : Type 0} (front : List ℕ → A) (n : ℕ) (s : List ℕ) → length (each_from front n s) ≡ n
length-each_from front zero s = refl
length-each_from front (suc n) s = ap suc (length-each_from front n (drop record_bytes s))

length_rest : (s : List ℕ) (p : ℕ) → length (rest s p) ≡ record_count s - p
unfolding rest_by
length_rest s p = length-each_from (λ t. record_at t 0) (record_count s - p) (drop (record_bytes * p) s)

module _ (s : List ℕ) where
  -- none between a place and itself
  pub between_none : (p : ℕ) → between s p p ≡ []
  unfolding between
  between_none p =
      let none : p - p ≡ 0 = omega arith in
      rw none

  -- one more: what stands at the first place, and those behind it
  pub between_more : (p q : ℕ) → p < q → q ≤ record_count s → between s p q ≡ record_at s p ∷ between s (suc p) q
  unfolding between
  between_more p q l k =
      let more : q - p ≡ suc (q - suc p) = omega arith in
      rw (more, rest_more s p (omega arith))

  -- the same by the code's sum
  pub between_next : (p q : ℕ) → p < q → q ≤ record_count s → between s p q ≡ record_at s p ∷ between s (p + 1) q
  between_next p q l k = rw (add-one p) (between_more p q l k)

  -- up to the end of the file: all that are left
  pub between-rest : (p : ℕ) → between s p (record_count s) ≡ rest s p
  unfolding between
  between-rest p = take_all (record_count s - p) (rest s p) (omega (arith, length_rest s p))

  -- from its start: all
  pub between-all : between s 0 (record_count s) ≡ records s
  between-all = between-rest 0 ∙ rest_all s

  -- as many as there are places
  pub length-between : (p q : ℕ) → q ≤ record_count s → length (between s p q) ≡ q - p
  unfolding between
  length-between p q k = length-take-le (q - p) (rest s p) (omega (arith, length_rest s p))

  -- a test that all their kinds pass, at a place
  pub kinds-between :
      (test : ℕ → Bool) (p q : ℕ) → q ≤ record_count s → Kinds test (between s p q)
      → (i : ℕ) → p ≤ i → i < q → T (test (kind (record_at s i)))
  kinds-between test p q k h i l m = from (i - p) p (omega arith) h
    where
      from : (n p : ℕ) → p + n ≡ i → Kinds test (between s p q) → T (test (kind (record_at s i)))
      from zero p e h =
          let same : i ≡ p = omega arith in
          let more = subst (Kinds test) (between_more p q (omega arith) k) h in
          rw same (and_left (test (kind (record_at s p))) (all (λ r. test (kind r)) (between s (suc p) q)) more)
      from (suc n) p e h =
          let more = subst (Kinds test) (between_more p q (omega arith) k) h in
          from n (suc p) (omega arith) (and_right (test (kind (record_at s p))) (all (λ r. test (kind r)) (between s (suc p) q)) more)
