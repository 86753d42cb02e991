-- The numbers that planning gives to operands: for each spilled one an address and the value loaded behind it, in a landing
-- also one for each word. They ascend, so no two are one; and they are none of the file's values.
use Rattle.std.specs.Prelude.{ℕ, suc, ◌+◌, ◌≤◌, ◌≡◌, refl, Bool, true, false, not, ◌||◌, cond, List, [], ◌∷◌, ◌++◌, map, length, T}
use Rattle.std.proofs.Common.{arith, sym, ap, subst, ◌∙◌, length-append}
use Rattle.std.proofs.Math.Option.{none, some}
use Rattle.rules.specs.Lists.{any, zip_with}
use Rattle.rules.specs.Tree.{Value, Function}
use Rattle.rules.specs.Graph.{size_of, values_among}
use Rattle.rules.specs.Liveness.{is_spilled}
use Rattle.rules.specs.Plan.{Plan, Made, Planning, ◌>>=◌, pure, for_each, new_value, plan_load, plan_use, plan_edge_use, plan_landed}
use Rattle.rules.specs.declared.EdgeArgument.{EdgeArgument}
use Rattle.rules.specs.declared.EdgeArgument.TheVariants as passes

-- an alternative that fails, fails in both parts
pub neither : (a b : Bool) → T (not (a || b)) → T (not a) × T (not b)
neither true b h = absurd h
neither false b h = (tt, h)

-- how many values there are
abbrev pub value_count : Plan → ℕ
value_count p = length p.values

-- a value more
pub one_more : (vs : List Value) (v : Value) → length (vs ++ (v ∷ [])) ≡ suc (length vs)
one_more vs v =
    let long = length-append vs (v ∷ []) in
    let more : length vs + 1 ≡ suc (length vs) = omega arith in
    long ∙ more

-- Operands have these numbers, ascending from one count of values to another: a value has one exactly where it is spilled, a
-- word exactly in a landing.
module _ (f : Function) (landing : Bool) where
  abbrev pub Numbered : ℕ → ℕ → List EdgeArgument → List Made → Type 0
  Numbered lo hi [] [] = lo ≤ hi
  Numbered lo hi [] (_ ∷ _) = ⊥
  Numbered lo hi (_ ∷ _) [] = ⊥
  Numbered lo hi (passes.Value v ∷ xs) (none ∷ ns) = T (not (is_spilled f v)) × Numbered lo hi xs ns
  Numbered lo hi (passes.Value v ∷ xs) (some a ∷ ns) = T (is_spilled f v) × (lo ≤ a) × Numbered (suc (suc a)) hi xs ns
  Numbered lo hi (passes.Returned _ ∷ xs) (none ∷ ns) = T (not landing) × Numbered lo hi xs ns
  Numbered lo hi (passes.Returned _ ∷ xs) (some p ∷ ns) = T landing × (lo ≤ p) × Numbered (suc p) hi xs ns
  Numbered lo hi (passes.Exception _ ∷ xs) (none ∷ ns) = T (not landing) × Numbered lo hi xs ns
  Numbered lo hi (passes.Exception _ ∷ xs) (some p ∷ ns) = T landing × (lo ≤ p) × Numbered (suc p) hi xs ns

  -- counts only grow
  pub numbered-grows : (lo hi : ℕ) (xs : List EdgeArgument) (ns : List Made) → Numbered lo hi xs ns → lo ≤ hi
  numbered-grows lo hi [] [] h = h
  numbered-grows lo hi [] (_ ∷ _) h = absurd h
  numbered-grows lo hi (passes.Value v ∷ xs) [] h = absurd h
  numbered-grows lo hi (passes.Returned k ∷ xs) [] h = absurd h
  numbered-grows lo hi (passes.Exception k ∷ xs) [] h = absurd h
  numbered-grows lo hi (passes.Value v ∷ xs) (none ∷ ns) h = numbered-grows lo hi xs ns h.1
  numbered-grows lo hi (passes.Value v ∷ xs) (some a ∷ ns) h =
      omega (arith, h.1, numbered-grows (suc (suc a)) hi xs ns h.2)
  numbered-grows lo hi (passes.Returned k ∷ xs) (none ∷ ns) h = numbered-grows lo hi xs ns h.1
  numbered-grows lo hi (passes.Returned k ∷ xs) (some p ∷ ns) h = omega (arith, h.1, numbered-grows (suc p) hi xs ns h.2)
  numbered-grows lo hi (passes.Exception k ∷ xs) (none ∷ ns) h = numbered-grows lo hi xs ns h.1
  numbered-grows lo hi (passes.Exception k ∷ xs) (some p ∷ ns) h = omega (arith, h.1, numbered-grows (suc p) hi xs ns h.2)

module _ (f : Function) (pointer : ℕ) where
  -- A step whose numbers are these, from its first plan to its last.
  abbrev Numbers : Bool → List EdgeArgument → Planning (List Made) → Type 0
  Numbers landing xs m = (p : Plan) → Numbered f landing (value_count p) (value_count (m p).1) xs (m p).0

  -- a step for one operand and then for the others
  abbrev and_then : Planning Made → Planning (List Made) → Planning (List Made)
  and_then m rest = do
    n ← m
    ns ← rest
    pure (n ∷ ns)

  use-then : (landing : Bool) (v : ℕ) (xs : List EdgeArgument) (rest : Planning (List Made)) → Numbers landing xs rest
      → Numbers landing (passes.Value v ∷ xs) (and_then (plan_use f pointer v) rest)
  use-then landing v xs rest h p = go (is_spilled f v) (λ t. t) (λ t. t)
    where
      go : (c : Bool) → (T c → T (is_spilled f v)) → (T (not c) → T (not (is_spilled f v)))
          → Numbered f landing (value_count p) (value_count (and_then (cond c (plan_load f pointer v) (pure none)) rest p).1)
          (passes.Value v ∷ xs) (and_then (cond c (plan_load f pointer v) (pure none)) rest p).0
      go true s n =
          let loaded = (plan_load f pointer v p).1 in
          let address : Value = record { size = pointer; marked = false } in
          let two : value_count loaded ≡ suc (suc (value_count p)) =
          one_more (p.values ++ (address ∷ [])) (record { size = size_of f v; marked = false }) ∙ ap suc (one_more p.values address) in
          (s tt, omega arith, subst (λ k. Numbered f landing k (value_count (rest loaded).1) xs (rest loaded).0) two (h loaded))
      go false s n = (n tt, h p)

  -- rule 3: what an edge without a landing passes
  pub uses-numbered : (xs : List EdgeArgument) → Numbers false xs (for_each (plan_edge_use f pointer) xs)
  uses-numbered [] p = omega arith
  uses-numbered (passes.Value v ∷ xs) p = use-then false v xs (for_each (plan_edge_use f pointer) xs) (uses-numbered xs) p
  uses-numbered (passes.Returned k ∷ xs) p = (tt, uses-numbered xs p)
  uses-numbered (passes.Exception k ∷ xs) p = (tt, uses-numbered xs p)

  -- arguments are numbered as if an edge passed them
  pub arguments-passed : (vs : List ℕ) → for_each (plan_use f pointer) vs ≡ for_each (plan_edge_use f pointer) (map passes.Value vs)
  arguments-passed [] = refl
  arguments-passed (v ∷ vs) = ap (and_then (plan_use f pointer v)) (arguments-passed vs)

  -- so their numbers are as an edge's
  pub arguments-numbered : (vs : List ℕ) → Numbers false (map passes.Value vs) (for_each (plan_use f pointer) vs)
  arguments-numbered vs = subst (Numbers false (map passes.Value vs)) (sym (arguments-passed vs)) (uses-numbered (map passes.Value vs))

  -- a word's parameter
  word-then : (size : ℕ) (xs : List EdgeArgument) (rest : Planning (List Made)) → Numbers true xs rest → (p : Plan)
      → Numbered f true (suc (value_count p)) (value_count (rest (new_value size p).1).1) xs (rest (new_value size p).1).0
  word-then size xs rest h p =
      let made = (new_value size p).1 in
      subst (λ k. Numbered f true k (value_count (rest made).1) xs (rest made).0)
      (one_more p.values (record { size = size; marked = false })) (h made)

  -- rule 2: what a landing is passed, of which each operand has a parameter of the target
  abbrev pub landed_steps : List EdgeArgument → List ℕ → List (Planning Made)
  landed_steps xs ps = zip_with (λ x p. plan_landed f pointer x (size_of f p)) xs ps

  -- each operand of a landing has its numbers
  pub landed-numbered : (xs : List EdgeArgument) (ps : List ℕ) → length xs ≡ length ps
      → Numbers true xs (for_each (λ m. m) (landed_steps xs ps))
  landed-numbered [] ps e p = omega arith
  landed-numbered (x ∷ xs) [] e p = absurd (omega arith)
  landed-numbered (passes.Value v ∷ xs) (t ∷ ps) e p =
      use-then true v xs (for_each (λ m. m) (landed_steps xs ps)) (landed-numbered xs ps (omega arith)) p
  landed-numbered (passes.Returned k ∷ xs) (t ∷ ps) e p =
      (tt, omega arith, word-then (size_of f t) xs (for_each (λ m. m) (landed_steps xs ps)) (landed-numbered xs ps (omega arith)) p)
  landed-numbered (passes.Exception k ∷ xs) (t ∷ ps) e p =
      (tt, omega arith, word-then (size_of f t) xs (for_each (λ m. m) (landed_steps xs ps)) (landed-numbered xs ps (omega arith)) p)

  -- where no value is spilled there are no numbers
  pub unspilled-numbered : (xs : List EdgeArgument) (n : ℕ) → T (not (any (is_spilled f) (values_among xs)))
      → Numbered f false n n xs (map (λ _. none) xs)
  unspilled-numbered [] n h = omega arith
  unspilled-numbered (passes.Value v ∷ xs) n h =
      let both = neither (is_spilled f v) (any (is_spilled f) (values_among xs)) h in
      (both.0, unspilled-numbered xs n both.1)
  unspilled-numbered (passes.Returned k ∷ xs) n h = (tt, unspilled-numbered xs n h)
  unspilled-numbered (passes.Exception k ∷ xs) n h = (tt, unspilled-numbered xs n h)
