-- WHAT A BLOCK'S NUMBERS ADD, BY PLACE. The numbers stand beside the records, so their weights are added up record by
-- record: a number beside an edge is a landing, one beside an operand or a definition stands for two records.
use Prim.Native.Nat.{ℕ, zero, suc, ◌+◌, ◌*◌, ◌-◌, ◌<◌, ◌≤◌}
use Rattle.std.specs.Prelude.{◌≡◌, refl, Bool, true, false, not, cond, List, [], ◌∷◌, map, length, get_or, T, eqb}
use Rattle.std.proofs.Common.{sym, ap, subst, ◌∙◌, eqb→eq}
use native.Mathlib.Omega.{arith}
use Rattle.rules.specs.Lists.{all, has}
use Rattle.rules.specs.Records.{kind, record_at, record_count, records}
use Rattle.rules.specs.File.{ordered, Cut, cut, opens_item, function_in}
use Rattle.rules.specs.declared.Record.{Record}
use Rattle.lists.specs.Tests.{T_and, is_false, eqb_same, passes_at}
use Rattle.fixpoint.specs.Sums.{sum}
use Rattle.records.specs.Kinds.{Kinds, kinds-weaken}
use Rattle.records.specs.InOrder.{Sections}
use Rattle.records.specs.Parts.{in_block, in-block, BlockBody, is_instruction, block-instructions, front-parameters, front-edges}
use Rattle.graph.specs.Between.{between, between_none, between_more, length-between}
use Rattle.graph.specs.Sections.{agree, place_if, places, first_or, sections_at, first-bounds, cut-between, places_same}
use Rattle.graph.specs.Blocks.{place_of, block-body, place-le, place-less}
use Rattle.numbering.specs.Beside.{made, made_at, places_between, mades_between, edge_plans_at, instruction_plan_at, instruction_plans_at, block_plan_at}
use Rattle.counting.specs.Added.{made_adds, landing_adds, edge_adds, instruction_adds, block_adds}

-- what a number beside a record of a kind adds
abbrev pub kind_weight : ℕ → ℕ
kind_weight k = cond (eqb k 7) 3 (cond (has k (3 ∷ 5 ∷ 6 ∷ 8 ∷ [])) 2 0)

-- by its tag
abbrev pub weight : ℕ → ℕ → ℕ
weight k zero = 0
weight k (suc _) = kind_weight k

pub weight-tagged : (k tag : ℕ) → (tag ≡ 0 → ⊥) → weight k tag ≡ kind_weight k
weight-tagged k zero h = absurd (h refl)
weight-tagged k (suc _) h = refl

kind_weight-small : (k : ℕ) → kind_weight k ≤ 3
kind_weight-small k = go (eqb k 7) (has k (3 ∷ 5 ∷ 6 ∷ 8 ∷ []))
  where
    go : (a b : Bool) → cond a 3 (cond b 2 0) ≤ 3
    go true b = omega arith
    go false true = omega arith
    go false false = omega arith

pub weight-small : (k tag : ℕ) → weight k tag ≤ 3
weight-small k zero = omega arith
weight-small k (suc _) = kind_weight-small k

-- a weight for each record, by its kind and its place, where the first stands at place p
abbrev pub weighed : (ℕ → ℕ → ℕ) → ℕ → List Record → ℕ
weighed g p [] = 0
weighed g p (r ∷ rs) = g (kind r) p + weighed g (suc p) rs

-- what the tags of a table add beside the records
abbrev pub beside_records : List ℕ → ℕ → ℕ → ℕ
beside_records numbers j i = weight j (get_or numbers i 0)

pub weighed-small : (numbers : List ℕ) (p : ℕ) (rs : List Record) → weighed (beside_records numbers) p rs ≤ 3 * length rs
weighed-small numbers p [] = omega arith
weighed-small numbers p (r ∷ rs) = omega (arith, weight-small (kind r) (get_or numbers p 0), weighed-small numbers (suc p) rs)

-- weights that agree on the kinds that occur
weighed-same :
    (ok : ℕ → Bool) (g h : ℕ → ℕ → ℕ) → ((j i : ℕ) → T (ok j) → g j i ≡ h j i) → (p : ℕ) (rs : List Record) → Kinds ok rs
    → weighed g p rs ≡ weighed h p rs
weighed-same ok g h e p [] m = refl
weighed-same ok g h e p (r ∷ rs) m =
    let both = T_and (ok (kind r)) (all (λ x. ok (kind x)) rs) m in
    omega (arith, e (kind r) p both.0, weighed-same ok g h e (suc p) rs both.1)

-- weights of nothing
weighed-none : (ok : ℕ → Bool) (g : ℕ → ℕ → ℕ) → ((j i : ℕ) → T (ok j) → g j i ≡ 0) → (p : ℕ) (rs : List Record) → Kinds ok rs → weighed g p rs ≡ 0
weighed-none ok g e p [] m = refl
weighed-none ok g e p (r ∷ rs) m =
    let both = T_and (ok (kind r)) (all (λ x. ok (kind x)) rs) m in
    omega (arith, e (kind r) p both.0, weighed-none ok g e (suc p) rs both.1)

-- two weights together
weighed-add : (g h : ℕ → ℕ → ℕ) (p : ℕ) (rs : List Record) → weighed (λ j i. g j i + h j i) p rs ≡ weighed g p rs + weighed h p rs
weighed-add g h p [] = refl
weighed-add g h p (r ∷ rs) = omega (arith, weighed-add g h (suc p) rs)

-- a weight on the records of kind k alone
abbrev on : ℕ → (ℕ → ℕ) → ℕ → ℕ → ℕ
on k h j i = cond (eqb k j) (h i) 0

-- is what their places weigh.
on-places : (k : ℕ) (h : ℕ → ℕ) (p : ℕ) (rs : List Record) → sum h (places (eqb k) p rs) ≡ weighed (on k h) p rs
on-places k h p [] = refl
on-places k h p (r ∷ rs) = go (eqb k (kind r)) (on-places k h (suc p) rs)
  where
    ps : List ℕ
    ps = places (eqb k) (suc p) rs

    go : (b : Bool) → sum h ps ≡ weighed (on k h) (suc p) rs → sum h (place_if b p ps) ≡ cond b (h p) 0 + weighed (on k h) (suc p) rs
    go true e = omega (arith, e)
    go false e = omega (arith, e)

sum-map : {A B : Type 0} (w : B → ℕ) (g : A → B) (xs : List A) → sum w (map g xs) ≡ sum (λ x. w (g x)) xs
sum-map w g [] = refl
sum-map w g (x ∷ xs) = ap (λ n. w (g x) + n) (sum-map w g xs)

module _ (s : List ℕ) (k : ℕ) (g : ℕ → ℕ → ℕ) where
  -- SECTIONS that start at these places, the last one before place q, weigh what stands in them,
  abbrev sections_weigh : ℕ → List ℕ → ℕ
  sections_weigh q [] = 0
  sections_weigh q (p ∷ ps) = weighed g (suc p) (between s (suc p) (first_or q ps)) + sections_weigh q ps

  -- and with what stands in front of the first they weigh all, if their heads weigh nothing.
  sections-weigh :
      ((i : ℕ) → g k i ≡ 0) → (n p q : ℕ) → p + n ≡ q → q ≤ record_count s
      → let ps = places (eqb k) p (between s p q) in
      sections_weigh q ps + weighed g p (between s p (first_or q ps)) ≡ weighed g p (between s p q)
  sections-weigh light zero p q e m =
      let same : q ≡ p = omega arith in
      rw (same, between_none s p, between_none s p) refl
  sections-weigh light (suc n) p q e m =
      rw (between_more s p q (omega arith) m)
      (go (eqb k (kind r)) (λ t. eqb→eq k (kind r) t) (sections-weigh light n (suc p) q (omega arith) m))
    where
      r : Record
      r = record_at s p

      rs : List Record
      rs = between s (suc p) q

      ps : List ℕ
      ps = places (eqb k) (suc p) rs

      bounds : (suc p ≤ first_or q ps) × (first_or q ps ≤ q)
      bounds = first-bounds (eqb k) (suc p) q rs (omega (arith, e, length-between s (suc p) q m))

      go : (b : Bool) → (T b → k ≡ kind r)
          → sections_weigh q ps + weighed g (suc p) (between s (suc p) (first_or q ps)) ≡ weighed g (suc p) rs
          → sections_weigh q (place_if b p ps) + weighed g p (between s p (first_or q (place_if b p ps))) ≡ g (kind r) p + weighed g (suc p) rs
      go true same later =
          let head : g (kind r) p ≡ 0 = ap (λ (j : ℕ). g j p) (sym (same tt)) ∙ light p in
          omega (arith, later, head, ap (weighed g p) (between_none s p))
      go false same later =
          omega (arith, later, ap (weighed g p) (between_more s p (first_or q ps) (omega (arith, bounds.0)) (omega (arith, bounds.1, m))))

-- places of which each stands before the next, the last one before place q
abbrev Inside : ℕ → List ℕ → Type 0
Inside q [] = Unit
Inside q (p ∷ ps) = (p < first_or q ps) × (first_or q ps ≤ q) × Inside q ps

places-inside : (opens : ℕ → Bool) (p q : ℕ) (rs : List Record) → p + length rs ≡ q → Inside q (places opens p rs)
places-inside opens p q [] e = tt
places-inside opens p q (r ∷ rs) e =
    go (opens (kind r)) (first-bounds opens (suc p) q rs (omega arith)) (places-inside opens (suc p) q rs (omega arith))
  where
    ps : List ℕ
    ps = places opens (suc p) rs

    go : (b : Bool) → (suc p ≤ first_or q ps) × (first_or q ps ≤ q) → Inside q ps → Inside q (place_if b p ps)
    go true bounds later = (bounds.0, bounds.1, later)
    go false bounds later = later

module _ (s numbers : List ℕ) where
  -- the weights of the numbers beside records, by kind: those of operands and definitions,
  abbrev two : ℕ → ℕ
  two i = made_adds (made_at s numbers i)

  -- and those of edges
  abbrev three : ℕ → ℕ
  three i = landing_adds (made_at s numbers i)

  mades-weigh : (k p q : ℕ) → sum made_adds (mades_between s numbers k p q) ≡ weighed (on k two) p (between s p q)
  mades-weigh k p q = sum-map made_adds (made_at s numbers) (places_between s numbers k p q) ∙ on-places k two p (between s p q)

  -- EDGES: their landings, and what they pass.
  edges-weigh : (q : ℕ) (ps : List ℕ) → sum edge_adds (edge_plans_at s numbers q ps) ≡ sum three ps + sections_weigh s 7 (on 8 two) q ps
  edges-weigh q [] = refl
  edges-weigh q (p ∷ ps) = omega (arith, mades-weigh 8 (suc p) (first_or q ps), edges-weigh q ps)

  -- what the numbers in an instruction's body weigh, by kind
  abbrev in_body : ℕ → ℕ → ℕ
  in_body j i = on 6 two j i + on 5 two j i + (on 7 three j i + on 8 two j i)

  -- AN INSTRUCTION, in front of whose first edge no edge argument stands.
  instruction-weighs :
      (p q : ℕ) → p < q → q ≤ record_count s → T (is_instruction (record { head = record_at s p; body = between s (suc p) q }))
      → instruction_adds (instruction_plan_at s numbers p q) ≡ weighed in_body (suc p) (between s (suc p) q)
  instruction-weighs p q l m is =
      let rs = between s (suc p) q in
      let ps = places (eqb 7) (suc p) rs in
      let front = between s (suc p) (first_or q ps) in
      let cut_front : Kinds (λ j. not (eqb j 8)) front =
      subst (Kinds (λ j. not (eqb j 8))) (ap (λ (c : Cut). c.front) (cut-between s (eqb 7) (suc p) q l m))
      (front-edges (record { head = record_at s p; body = rs }) is) in
      let light : weighed (on 8 two) (suc p) front ≡ 0 =
      weighed-none (λ j. not (eqb j 8)) (on 8 two) (λ j i t. other j (two i) t) (suc p) front cut_front in
      omega (
        arith,
        mades-weigh 6 (suc p) q,
        mades-weigh 5 (suc p) q,
        edges-weigh q ps,
        on-places 7 three (suc p) rs,
        sections-weigh s 7 (on 8 two) (λ i. refl) (q - suc p) (suc p) q (omega arith) m,
        light,
        weighed-add (λ j i. on 6 two j i + on 5 two j i) (λ j i. on 7 three j i + on 8 two j i) (suc p) rs,
        weighed-add (on 6 two) (on 5 two) (suc p) rs,
        weighed-add (on 7 three) (on 8 two) (suc p) rs,
      )
    where
      other : (j n : ℕ) → T (not (eqb j 8)) → cond (eqb 8 j) n 0 ≡ 0
      other j n t = ap (λ b. cond b n 0) (eqb_same 8 j ∙ is_false (eqb j 8) t)

  -- INSTRUCTIONS that start at these places, the last one before place q
  instructions-weigh :
      (q : ℕ) → q ≤ record_count s → (ps : List ℕ) → Inside q ps → Sections is_instruction (sections_at s q ps)
      → sum instruction_adds (instruction_plans_at s numbers q ps) ≡ sections_weigh s 4 in_body q ps
  instructions-weigh q m [] l is = refl
  instructions-weigh q m (p ∷ ps) l is =
      let both =
      T_and (is_instruction (record { head = record_at s p; body = between s (suc p) (first_or q ps) })) (all is_instruction (sections_at s q ps)) is in
      omega (arith, instruction-weighs p (first_or q ps) l.0 (omega (arith, l.1, m)) both.0, instructions-weigh q m ps l.2 both.1)

  -- the weights of all kinds in a block
  weight_is : (j i : ℕ) → T (in_block j) → weight j (get_or numbers i 0) ≡ on 3 two j i + in_body j i
  weight_is j i t = go (get_or numbers i 0)
    where
      go : (tag : ℕ)
          → weight j tag
          ≡ cond (eqb 3 j) (made_adds (made tag)) 0
          + (cond (eqb 6 j) (made_adds (made tag)) 0 + cond (eqb 5 j) (made_adds (made tag)) 0
          + (cond (eqb 7 j) (landing_adds (made tag)) 0 + cond (eqb 8 j) (made_adds (made tag)) 0))
      go zero =
          eqb→eq _ _
          (passes_at (λ j. eqb 0 (cond (eqb 3 j) 0 0 + (cond (eqb 6 j) 0 0 + cond (eqb 5 j) 0 0 + (cond (eqb 7 j) 0 0 + cond (eqb 8 j) 0 0))))
          (3 ∷ 4 ∷ 5 ∷ 6 ∷ 7 ∷ 8 ∷ 9 ∷ []) tt j t)
      go (suc n) =
          eqb→eq _ _
          (passes_at
          (λ j.
          eqb (kind_weight j)
          (cond (eqb 3 j) 2 0 + (cond (eqb 6 j) 2 0 + cond (eqb 5 j) 2 0 + (cond (eqb 7 j) 3 0 + cond (eqb 8 j) 2 0))))
          (3 ∷ 4 ∷ 5 ∷ 6 ∷ 7 ∷ 8 ∷ 9 ∷ []) tt j t)

  -- A BLOCK, in front of whose first instruction only parameters stand.
  pub block-weighs :
      T (ordered 0 (records s)) → (b : ℕ) → b < length (function_in s).blocks
      → let p = suc (place_of s b) in
      block_adds (block_plan_at s numbers b) ≡ weighed (beside_records numbers) p (between s p (place_of s (suc b)))
  unfolding block_adds
  block-weighs order b l =
      omega (
        arith,
        mades-weigh 3 p q,
        instructions-weigh q in_file ps (places-inside (eqb 4) p q rs whole)
            (subst (Sections is_instruction) (ap (λ (c : Cut). c.sections) cut_at) (block-instructions rs body)),
        sections-weigh s 4 in_body (λ i. refl) (q - p) p q (omega (arith, up)) in_file,
        weighed-none (eqb 3) in_body (λ j i t. parameter j i t) p (between s p (first_or q ps))
            (subst (Kinds (eqb 3)) (ap (λ (c : Cut). c.front) cut_at) (front-parameters rs body)),
        weighed-same in_block (beside_records numbers) (λ j i. on 3 two j i + in_body j i) weight_is p rs (in-block rs body),
        weighed-add (on 3 two) in_body p rs,
      )
    where
      p : ℕ
      p = suc (place_of s b)

      q : ℕ
      q = place_of s (suc b)

      rs : List Record
      rs = between s p q

      ps : List ℕ
      ps = places (eqb 4) p rs

      up : p ≤ q
      up = place-less s b l

      in_file : q ≤ record_count s
      in_file = place-le s (suc b) l

      whole : p + length rs ≡ q
      whole = omega (arith, up, length-between s p q in_file)

      body : BlockBody rs
      body = block-body s order b l

      -- its items open at records of kind 4
      cut_at : cut opens_item rs ≡ record { front = between s p (first_or q ps); sections = sections_at s q ps }
      cut_at =
          cut-between s opens_item p q up in_file
          ∙ ap (λ (xs : List ℕ). record { front = between s p (first_or q xs); sections = sections_at s q xs })
          (places_same opens_item (eqb 4) p rs
          (kinds-weaken in_block (λ j. agree (opens_item j) (eqb 4 j))
          (passes_at (λ j. agree (opens_item j) (eqb 4 j)) (3 ∷ 4 ∷ 5 ∷ 6 ∷ 7 ∷ 8 ∷ 9 ∷ []) tt) rs (in-block rs body)))

      parameter : (j i : ℕ) → T (eqb 3 j) → in_body j i ≡ 0
      parameter j i t = subst (λ (x : ℕ). in_body x i ≡ 0) (eqb→eq 3 j t) refl
