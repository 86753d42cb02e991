-- RUNS AS THE RULES SAY THEM. What is done beside the records of a kind, place by place, is the rules' step for each of
-- them, and the numbers that it answers stand beside them.
use Prim.Native.Nat.{ℕ, zero, suc, ◌+◌, ◌-◌, ◌≤◌}
use Rattle.std.specs.Prelude.{◌≡◌, refl, ◌≢◌, Bool, true, false, cond, T, eqb}
use Rattle.std.proofs.Common.{sym, subst, ◌∙◌, ne_eqb}
use Rattle.std.proofs.Math.Path.{ap}
use Rattle.std.proofs.Math.Option.{none}
use mathlib.Core.List.{List, [], ◌∷◌, map}
use native.Mathlib.Omega.{arith}
use Rattle.rules.specs.Tree.{Function}
use Rattle.rules.specs.Records.{encode, kind, record_at, record_count}
use Rattle.rules.specs.File.{of_kind, named, function_in}
use Rattle.rules.specs.Plan.{Plan, Made, Planning, pure, for_each, plan_use, plan_definition, plan_edge_use}
use Rattle.rules.specs.declared.EdgeArgument.TheVariants as passes
use Rattle.rules.specs.declared.Record.{Record}
use Rattle.rules.specs.declared.Words.{Words}
use Rattle.lists.specs.Tests.{T-ext, eqb_swap}
use Rattle.records.specs.Parts.{argument}
use Rattle.graph.specs.Between.{between, between_none, between_more}
use Rattle.graph.specs.Sections.{place_if, places}
use Rattle.std.specs.Prelude.{Some, None}
use Rattle.planning.specs.Standing.{Tables, plan_of, mark, step_at, walk, Walked}
use Rattle.planning.specs.Operands.{operand_at, use_by, use_at, define_by, define_at}

-- numbers noted beside the records at these places
abbrev pub marks : List ℕ → List Made → List ℕ → List ℕ
marks [] ms numbers = numbers
marks (p ∷ ps) [] numbers = numbers
marks (p ∷ ps) (m ∷ ms) numbers = marks ps ms (mark numbers p m)

-- steps for the members of a list, by what is made of them
pub for_each-map : {A B C : Type 0} (k : B → Planning C) (h : A → B) (xs : List A) (p : Plan) → for_each k (map h xs) p ≡ for_each (λ x. k (h x)) xs p
for_each-map k h [] p = refl
for_each-map k h (x ∷ xs) p = ap (λ r. ((k (h x) p).0 ∷ r.0, r.1)) (for_each-map k h xs (k (h x) p).1)

module _ (k : ℕ) (step : Words → Planning Made) where
  -- the steps of a kind's records, and their numbers
  abbrev pub ran_over : ℕ → List Record → Plan × List ℕ → Plan × List ℕ
  ran_over place rs x =
      let r = for_each step (of_kind k rs) x.0 in
      (r.1, marks (places (eqb k) place rs) r.0 x.1)

  -- a record's step, if it is of the kind
  abbrev pub step_over : Record → Planning Made
  step_over r = cond (eqb (kind r) k) (step (encode r)) (pure none)

  ran_over-more :
      (place : ℕ) (r : Record) (rs : List Record) (x : Plan × List ℕ)
      → ran_over (suc place) rs ((step_over r x.0).1, mark x.1 place (step_over r x.0).0) ≡ ran_over place (r ∷ rs) x
  ran_over-more place r rs x = go (eqb (kind r) k) (eqb k (kind r)) (T-ext (eqb (kind r) k) (eqb k (kind r)) (eqb_swap (kind r) k) (eqb_swap k (kind r)))
    where
      go :
          (b c : Bool) → b ≡ c
          → ran_over (suc place) rs
          ((cond b (step (encode r)) (pure none) x.0).1, mark x.1 place (cond b (step (encode r)) (pure none) x.0).0)
          ≡ (let ws : List Words = elim b [ true ↦ encode r ∷ of_kind k rs | false ↦ of_kind k rs ] in
          ((for_each step ws x.0).1, marks (place_if c place (places (eqb k) (suc place) rs)) (for_each step ws x.0).0 x.1))
      go true true e = refl
      go false false e = refl
      go true false e = absurd (subst T e tt)
      go false true e = absurd (subst T (sym e) tt)

  module _ (s : List ℕ) (g : ℕ → Planning Made) (is : (place : ℕ) (p : Plan) → g place p ≡ step_over (record_at s place) p) where
    walk-ran : (n place : ℕ) → place + n ≤ record_count s → (x : Plan × List ℕ) → walk g place n x ≡ ran_over place (between s place (place + n)) x
    unfolding walk
    walk-ran zero place l x =
        let here : place + 0 ≡ place = omega arith in
        rw (here, between_none s place)
    walk-ran (suc n) place l x =
        let next : place + suc n ≡ suc place + n = omega arith in
        walk-ran n (suc place) (omega arith) (step_at g place x)
        ∙ ap (λ (y : Made × Plan). ran_over (suc place) (between s (suc place) (suc place + n)) (y.1, mark x.1 place y.0)) (is place x.0)
        ∙ ran_over-more place (record_at s place) (between s (suc place) (suc place + n)) x
        ∙ ap (λ (rs : List Record). ran_over place rs x)
        (sym (between_more s place (suc place + n) (omega arith) (omega arith)) ∙ ap (between s place) (sym next))

    -- so between two places
    pub walk-between :
        (start end : ℕ) → start ≤ end → end ≤ record_count s → (x : Plan × List ℕ)
        → walk g start (end - start) x ≡ ran_over start (between s start end) x
    walk-between start end u l x =
        let whole : start + (end - start) ≡ end = omega arith in
        walk-ran (end - start) start (omega arith) x ∙ ap (λ (q : ℕ). ran_over start (between s start q) x) whole

module _ (s : List ℕ) (pointer k : ℕ) where
  abbrev f : Function
  f = function_in s

  -- THE USES of a kind that names values: arguments,
  use-step : k ≢ 8 → (place : ℕ) (p : Plan) → use_at s pointer k place p ≡ step_over k (λ w. plan_use f pointer w.second) (record_at s place) p
  unfolding operand_at
  use-step other place p = rw (ne_eqb k 8 other) (go (eqb (kind (record_at s place)) k))
    where
      w : Words
      w = encode (record_at s place)

      go :
          (b : Bool)
          → use_by s pointer (cond b (Some w.second) None) p ≡ cond b (plan_use f pointer w.second) (pure none) p
      go true = refl
      go false = refl

  -- edge arguments, of which only values are used,
  edge-use-step : k ≡ 8 → (place : ℕ) (p : Plan) → use_at s pointer k place p ≡ step_over k (λ w. plan_edge_use f pointer (argument w)) (record_at s place) p
  unfolding operand_at
  edge-use-step eight place p = rw eight (go (eqb (kind (record_at s place)) 8) (eqb w.second 0) (eqb w.second 1))
    where
      w : Words
      w = encode (record_at s place)

      go :
          (b c d : Bool)
          → use_by s pointer (cond b (cond c (Some w.third) None) None) p
          ≡ cond b
          (plan_edge_use f pointer (cond c (passes.Value w.third) (cond d (passes.Returned w.third) (passes.Exception w.third))))
          (pure none) p
      go true true d = refl
      go true false true = refl
      go true false false = refl
      go false c d = refl

  -- and the definitions: parameters and results
  define-step : k ≢ 8 → (place : ℕ) (p : Plan) → define_at s pointer k place p ≡ step_over k (λ w. plan_definition f pointer w.second) (record_at s place) p
  unfolding operand_at
  define-step other place p = rw (ne_eqb k 8 other) (go (eqb (kind (record_at s place)) k))
    where
      w : Words
      w = encode (record_at s place)

      go :
          (b : Bool)
          → define_by s pointer (cond b (Some w.second) None) p
          ≡ cond b (plan_definition f pointer w.second) (pure none) p
      go true = refl
      go false = refl

  module _ (start end : ℕ) (up : start ≤ end) (in_file : end ≤ record_count s) (t t' : Tables) (numbers numbers' : List ℕ) where
    -- what a run has done, in the rules' words
    pub record Beside (m : Planning (List Made)) : Type 0 where
      pub state : plan_of f t' ≡ (m (plan_of f t)).1
      pub noted : numbers' ≡ marks (places (eqb k) start (between s start end)) (m (plan_of f t)).0 numbers

    beside :
        {A : Type 0} (pick : Words → A) (h : A → Planning Made) (g : ℕ → Planning Made)
        → ((place : ℕ) (p : Plan) → g place p ≡ step_over k (λ w. h (pick w)) (record_at s place) p)
        → Walked f g start (end - start) t numbers t' numbers' → Beside (for_each h (map pick (of_kind k (between s start end))))
    beside pick h g is walked =
        let all = walked.state ∙ walk-between k (λ w. h (pick w)) s g is start end up in_file (plan_of f t, numbers) in
        let same = for_each-map h pick (of_kind k (between s start end)) (plan_of f t) in
        record {
          state = ap (λ (x : Plan × List ℕ). x.0) all ∙ ap (λ (y : List Made × Plan). y.1) (sym same);
          noted =
              ap (λ (x : Plan × List ℕ). x.1) all
              ∙ ap (λ (y : List Made × Plan). marks (places (eqb k) start (between s start end)) y.0 numbers) (sym same);
        }

    pub uses-beside : k ≢ 8 → Walked f (use_at s pointer k) start (end - start) t numbers t' numbers' → Beside (for_each (plan_use f pointer) (named k (between s start end)))
    uses-beside other walked = beside (λ w. w.second) (plan_use f pointer) (use_at s pointer k) (use-step other) walked

    pub edge-uses-beside : k ≡ 8 → Walked f (use_at s pointer k) start (end - start) t numbers t' numbers' → Beside (for_each (plan_edge_use f pointer) (map argument (of_kind k (between s start end))))
    edge-uses-beside eight walked = beside argument (plan_edge_use f pointer) (use_at s pointer k) (edge-use-step eight) walked

    pub definitions-beside : k ≢ 8 → Walked f (define_at s pointer k) start (end - start) t numbers t' numbers' → Beside (for_each (plan_definition f pointer) (named k (between s start end)))
    definitions-beside other walked = beside (λ w. w.second) (plan_definition f pointer) (define_at s pointer k) (define-step other) walked
