-- THE RECORDS OF AN INSTRUCTION IN THREE RUNS: its arguments, its results, and what stands behind them, edges first. So each
-- run is looked at once.
use Prim.Native.Nat.{ℕ, zero, suc, ◌+◌, ◌-◌, ◌<◌, ◌≤◌}
use Rattle.std.specs.Prelude.{◌≡◌, refl, Bool, true, false, ◌&&◌, drop, eqb, ltb}
use Rattle.std.proofs.Common.{sym, ap₂, subst, ◌∙◌, add-one, T_not, eqb→eq, ltb→lt, nltb→le, eq-eqb, ne_eqb}
use Rattle.std.proofs.Math.Path.{ap}
use Rattle.std.proofs.Math.Bool.{not}
use mathlib.Core.List.{List, [], ◌∷◌, ◌++◌, append-nil}
use native.Mathlib.Omega.{arith}
use Rattle.std.proofs.Math.ListN.{length}
use Rattle.std.proofs.Math.Dec.{T}
use Rattle.rules.specs.Lists.{all, has}
use Rattle.rules.specs.Records.{encode, kind, record_at, record_count}
use Rattle.rules.specs.File.{followers, follows, of_kind}
use Rattle.rules.specs.declared.Record.{Record}
use Rattle.rules.specs.declared.Words.{Words}
use Rattle.lists.specs.Tests.{test-elim, eq→eqb, and_right, and_intro, T_and, passes_at}
use Rattle.lists.specs.Maps.{all_apart, all-and}
use Rattle.records.specs.InOrder.{chain, kept_by}
use Rattle.records.specs.Kinds.{Kinds, of_kind-append, of_kind-none, kinds-weaken}
use Rattle.records.specs.Leading.{leading, leads_by, leading-all}
use Rattle.records.specs.Parts.{in_body, is_instruction, body-chained, body-allowed}
use Rattle.graph.specs.Between.{between, between_none, between_more, between_next}
use Rattle.listing.specs.Across.{section_at, between-parted}

-- where the records of kind k at the front end
unfoldable pub run_end : List ℕ → ℕ → ℕ → ℕ → ℕ
run_end s k p q = p + length (leading k (between s p q))

module _ (s : List ℕ) (k : ℕ) where
  -- as a loop finds it
  pub run_none : (p q : ℕ) → p ≡ q → p ≡ run_end s k p q
  unfolding run_end
  run_none p q e = rw (e, between_none s q) (omega arith)

  module _ (p q : ℕ) (l : p < q) (m : q ≤ record_count s) where
    led : Bool → List Words
    led b = elim b [ true ↦ encode (record_at s p) ∷ leading k (between s (p + 1) q) | false ↦ [] ]

    pub run_ends : (kind (record_at s p) ≡ k → ⊥) → p ≡ run_end s k p q
    unfolding run_end led
    run_ends other =
        let none : length (leading k (between s p q)) ≡ 0 =
        ap (λ (rs : List Record). length (leading k rs)) (between_next s p q l m) ∙ ap (λ (b : Bool). length (led b)) (ne_eqb (kind (record_at s p)) k other) in
        omega (arith, none)

    pub run-goes : kind (record_at s p) ≡ k → run_end s k (p + 1) q ≡ run_end s k p q
    unfolding run_end led
    run-goes same =
        let more : length (leading k (between s p q)) ≡ suc (length (leading k (between s (p + 1) q))) =
        ap (λ (rs : List Record). length (leading k rs)) (between_next s p q l m) ∙ ap (λ (b : Bool). length (led b)) (eq-eqb (kind (record_at s p)) k same) in
        omega (arith, more)

  -- and by a nearer end the same, if no record of the kind stands there
  pub run-nearer :
      (n p r q : ℕ) → p + n ≡ r → r ≤ q → q ≤ record_count s → (r < q → kind (record_at s r) ≡ k → ⊥) → run_end s k p q ≡ run_end s k p r
  run-nearer zero p r q e l m stops =
      let same : p ≡ r = omega arith in
      test-elim (ltb r q)
      (λ t.
      let less = ltb→lt r q t in
      sym (run_ends p q (omega arith) m (λ y. stops less (ap (λ (i : ℕ). kind (record_at s i)) (sym same) ∙ y))) ∙ run_none p r same)
      (λ t.
      let far = nltb→le r q t in
      sym (run_none p q (omega arith)) ∙ run_none p r same)
  run-nearer (suc n) p r q e l m stops =
      test-elim (eqb (kind (record_at s p)) k)
      (λ t.
      let here = eqb→eq (kind (record_at s p)) k t in
      sym (run-goes p q (omega arith) m here) ∙ run-nearer n (p + 1) r q (omega arith) l m stops ∙ run-goes p r (omega arith) (omega arith) here)
      (λ t.
      let other : kind (record_at s p) ≡ k → ⊥ = λ y. T_not (eqb (kind (record_at s p)) k) t (eq→eqb y) in
      sym (run_ends p q (omega arith) m other) ∙ run_ends p r (omega arith) (omega arith) other)

  -- the records before it are of the kind, and where all of the kind lead none stands behind it
  run-from :
      (n p q : ℕ) → p + n ≡ q → q ≤ record_count s → of_kind k (between s p q) ≡ leading k (between s p q)
      → let a = p + length (leading k (between s p q)) in
      (a ≤ q) × Kinds (λ j. eqb j k) (between s p a) × (of_kind k (between s a q) ≡ [])
  run-from zero p q e l leads =
      let same : q ≡ p = omega arith in
      let here : p + 0 ≡ p = omega arith in
      rw (same, between_none s p, here) (rw (between_none s p) (omega arith, tt, refl))
  run-from (suc n) p q e l leads =
      let more = between_more s p q (omega arith) l in
      subst
      (λ (rs : List Record).
      let a = p + length (leading k rs) in
      (a ≤ q) × Kinds (λ j. eqb j k) (between s p a) × (of_kind k (between s a q) ≡ []))
      (sym more) (go (eqb (kind (record_at s p)) k) refl (ap (of_kind k) (sym more) ∙ leads ∙ ap (leading k) more) (run-from n (suc p) q (omega arith) l))
    where
      rs : List Record
      rs = between s (suc p) q

      go : (b : Bool) → b ≡ eqb (kind (record_at s p)) k
          → ◌≡◌ {A = List Words} (elim b [ true ↦ encode (record_at s p) ∷ of_kind k rs | false ↦ of_kind k rs ]) (elim b [ true ↦ encode (record_at s p) ∷ leading k rs | false ↦ [] ])
          → (of_kind k rs ≡ leading k rs → let a = suc p + length (leading k rs) in (a ≤ q) × Kinds (λ j. eqb j k) (between s (suc p) a) × (of_kind k (between s a q) ≡ []))
          → let a = p + length {A = Words} (elim b [ true ↦ encode (record_at s p) ∷ leading k rs | false ↦ [] ]) in
          (a ≤ q) × Kinds (λ j. eqb j k) (between s p a) × (of_kind k (between s a q) ≡ [])
      go true b leads later =
          let next : p + suc (length (leading k rs)) ≡ suc p + length (leading k rs) = omega arith in
          let x = later (ap (drop 1) leads) in
          rw next (
            x.0,
            subst (Kinds (λ j. eqb j k)) (sym (between_more s p (suc p + length (leading k rs)) (omega arith) (omega (arith, x.0))))
                (and_intro (eqb (kind (record_at s p)) k) (all (λ r. eqb (kind r) k) (between s (suc p) (suc p + length (leading k rs)))) (subst T b tt) x.1),
            x.2,
          )
      go false b leads later =
          let here : p + 0 ≡ p = omega arith in
          rw here (
            omega arith,
            subst (Kinds (λ j. eqb j k)) (sym (between_none s p)) tt,
            ap (of_kind k) (between_more s p q (omega arith) l)
                ∙ ap (λ (o : Bool). elim o as (λ _. List Words) [ true ↦ encode (record_at s p) ∷ of_kind k rs | false ↦ of_kind k rs ]) (sym b) ∙ leads,
          )

  pub run-parts :
      (p q : ℕ) → p ≤ q → q ≤ record_count s → of_kind k (between s p q) ≡ leading k (between s p q)
      → (p ≤ run_end s k p q) × (run_end s k p q ≤ q) × Kinds (λ j. eqb j k) (between s p (run_end s k p q)) × (of_kind k (between s (run_end s k p q) q) ≡ [])
  unfolding run_end
  run-parts p q u l leads =
      let x = run-from (q - p) p q (omega arith) l leads in
      (omega arith, x.0, x.1, x.2)

-- a chain goes on behind records of one kind
pub chain-past :
    (k : ℕ) (inside : ℕ → Bool) → T (inside k) → (j : ℕ) (xs ys : List Record) → T (inside j) → Kinds (λ i. eqb i k) xs → T (chain j (xs ++ ys))
    → (i : ℕ) × T (inside i) × T (chain i ys)
chain-past k inside own j [] ys h kinds c = (j, h, c)
chain-past k inside own j (x ∷ xs) ys h kinds c =
    let both = T_and (eqb (kind x) k) (all (λ r. eqb (kind r) k) xs) kinds in
    chain-past k inside own (kind x) xs ys (subst (λ (i : ℕ). T (inside i)) (sym (eqb→eq (kind x) k both.0)) own) both.1
    (and_right (follows j (kind x)) (chain (kind x) (xs ++ ys)) c)

-- where none of a kind stands
pub kinds-none : (k : ℕ) (rs : List Record) → of_kind k rs ≡ [] → Kinds (λ j. not (eqb j k)) rs
kinds-none k [] e = tt
kinds-none k (r ∷ rs) e = go (eqb (kind r) k) e (kinds-none k rs)
  where
    go : (b : Bool) → ◌≡◌ {A = List Words} (elim b [ true ↦ encode r ∷ of_kind k rs | false ↦ of_kind k rs ]) []
        → (of_kind k rs ≡ [] → Kinds (λ j. not (eqb j k)) rs) → T (not b && all (λ x. not (eqb (kind x) k)) rs)
    go true e later = absurd (omega (arith, ap length e))
    go false e later = later e

-- records of one kind are of no other
pub of_kind-other : (k j : ℕ) → T (not (eqb j k)) → (rs : List Record) → Kinds (λ i. eqb i j) rs → of_kind k rs ≡ []
of_kind-other k j other rs kinds =
    of_kind-none k rs (kinds-weaken (λ i. eqb i j) (λ i. not (eqb i k)) (λ i e. subst (λ (n : ℕ). T (not (eqb n k))) (sym (eqb→eq i j e)) other) rs kinds)

-- THE THREE RUNS: arguments before place a, results before place b.
pub record Parted (s : List ℕ) (start end a b : ℕ) : Type 0 where
  pub low : start ≤ a
  pub middle : a ≤ b
  pub high : b ≤ end
  pub in_file : end ≤ record_count s
  pub arguments : Kinds (λ j. eqb j 6) (between s start a)
  pub no_arguments : of_kind 6 (between s a end) ≡ []
  pub results : Kinds (λ j. eqb j 5) (between s a b)
  pub no_results : of_kind 5 (between s b end) ≡ []

module _ (s : List ℕ) (place end : ℕ) (l : place < end) (m : end ≤ record_count s) (h : T (is_instruction (section_at s place end))) where
  abbrev start : ℕ
  start = suc place

  abbrev a : ℕ
  a = run_end s 6 start end

  abbrev b : ℕ
  b = run_end s 5 a end

  arguments-lead : of_kind 6 (between s start end) ≡ leading 6 (between s start end)
  unfolding leads_by kept_by followers
  arguments-lead =
      leading-all 6 (4 ∷ 6 ∷ []) (5 ∷ 7 ∷ 8 ∷ 9 ∷ []) in_body tt 4 (between s start end) tt (body-chained (section_at s place end) h) (body-allowed (section_at s place end) h)

  abbrev first : (start ≤ a) × (a ≤ end) × Kinds (λ j. eqb j 6) (between s start a) × (of_kind 6 (between s a end) ≡ [])
  first = run-parts s 6 start end l m arguments-lead

  results-lead : of_kind 5 (between s a end) ≡ leading 5 (between s a end)
  unfolding leads_by kept_by followers
  results-lead =
      let low = first.0 in
      let split = between-parted s (a - start) start a end (omega arith) first.1 m in
      let past =
      chain-past 6 (λ i. has i (4 ∷ 6 ∷ [])) tt 4 (between s start a) (between s a end) tt first.2
      (subst (λ (rs : List Record). T (chain 4 rs)) split (body-chained (section_at s place end) h)) in
      let allowed =
      (all_apart (λ r. in_body (kind r)) (between s start a) (between s a end) (subst (Kinds in_body) split (body-allowed (section_at s place end) h))).1 in
      leading-all 5 (4 ∷ 6 ∷ 5 ∷ []) (7 ∷ 8 ∷ 9 ∷ []) (λ j. not (eqb j 6) && in_body j) tt past.0 (between s a end)
      (wider past.0 past.1) past.2 (all-and (λ r. not (eqb (kind r) 6)) (λ r. in_body (kind r)) (between s a end) (kinds-none 6 (between s a end) first.3) allowed)
    where
      wider : (i : ℕ) → T (has i (4 ∷ 6 ∷ [])) → T (has i (4 ∷ 6 ∷ 5 ∷ []))
      wider i = passes_at (λ j. has j (4 ∷ 6 ∷ 5 ∷ [])) (4 ∷ 6 ∷ []) tt i

  -- An instruction's records are so.
  instruction-parted : Parted s start end a b
  instruction-parted =
      let second = run-parts s 5 a end first.1 m results-lead in
      record {
        low = first.0;
        middle = second.0;
        high = second.1;
        in_file = m;
        arguments = first.2;
        no_arguments = first.3;
        results = second.2;
        no_results = second.3;
      }

  -- the same by what a loop finds
  pub parted-by : (c d : ℕ) → c ≡ run_end s 6 (place + 1) end → d ≡ run_end s 5 c end → Parted s start end c d
  parted-by c d first' second' =
      let same : c ≡ a = first' ∙ ap (λ (n : ℕ). run_end s 6 n end) (add-one place) in
      let then : d ≡ b = second' ∙ ap (λ (n : ℕ). run_end s 5 n end) same in
      subst (λ (n : ℕ). Parted s start end n d) (sym same) (subst (λ (n : ℕ). Parted s start end a n) (sym then) instruction-parted)

-- WHERE EACH KIND STANDS
module _ (s : List ℕ) (start end a b : ℕ) (x : Parted s start end a b) where
  front : between s start end ≡ between s start a ++ between s a end
  front =
      let low = x.low in
      between-parted s (a - start) start a end (omega arith) (omega (arith, x.middle, x.high)) x.in_file

  back : between s a end ≡ between s a b ++ between s b end
  back =
      let middle = x.middle in
      between-parted s (b - a) a b end (omega arith) x.high x.in_file

  -- arguments before place a,
  pub arguments-there : of_kind 6 (between s start end) ≡ of_kind 6 (between s start a)
  arguments-there =
      ap (of_kind 6) front ∙ of_kind-append 6 (between s start a) (between s a end)
      ∙ ap (λ (ws : List Words). of_kind 6 (between s start a) ++ ws) x.no_arguments ∙ append-nil (of_kind 6 (between s start a))

  -- results between a and b,
  pub results-there : of_kind 5 (between s start end) ≡ of_kind 5 (between s a b)
  results-there =
      ap (of_kind 5) front ∙ of_kind-append 5 (between s start a) (between s a end)
      ∙ ap₂ (λ (ws vs : List Words). ws ++ vs) (of_kind-other 5 6 tt (between s start a) x.arguments)
      (ap (of_kind 5) back ∙ of_kind-append 5 (between s a b) (between s b end)
      ∙ ap (λ (ws : List Words). of_kind 5 (between s a b) ++ ws) x.no_results ∙ append-nil (of_kind 5 (between s a b)))
