-- The rewritten function can be written: its new numbers are below counts that a word has room for.
use Rattle.std.specs.Prelude.{ℕ, suc, ◌≤◌, ◌<◌, ◌≡◌, refl, ◌⊎◌, true, false, List, [], ◌∷◌, map, length}
use Rattle.std.proofs.Common.{arith, sym, subst, inl, inr, ⊎_elim}
use Rattle.std.proofs.Math.Option.{none, some}
use Rattle.rules.specs.Lists.{zip_with, concat_zip}
use Rattle.rules.specs.Tree.{Instruction, Item, Function}
use Rattle.rules.specs.Graph.{block_at, size_of, instructions_of}
use Rattle.rules.specs.Plan.{Made, planned}
use Rattle.rules.specs.Rewriting.{operand, edge_operand, words_among, landed_argument, store_items}
use Rattle.rules.specs.Rewriting.{slot_number}
use Rattle.rules.specs.declared.EdgeArgument.{EdgeArgument}
use Rattle.rules.specs.declared.EdgeArgument.TheVariants as passes
use Rattle.lists.specs.Members.{◌∈◌, here, there, not-∈-nil, ∈-elim}
use Rattle.records.specs.Writing.{IsWord}
use Rattle.simulation.specs.Related.{Each}
use Rattle.agreement.specs.Numbers.{Numbered, numbered-grows}
use Rattle.agreement.specs.Plans.{loaded, Ascending, value_limit, Defined}
use Rattle.agreement.specs.Items.{loads_of}
use Rattle.agreement.specs.Accepted.{Accepted}
use Rattle.agreement.specs.Operands.{parameters_of}
use Rattle.demand3.specs.Fine.{AllWords, FineArgument, FineInstruction, FineItem}

-- what is small in a plan
pub record SmallPlan (f : Function) (pointer : ℕ) : Type 0 where
  pub values : length f.values ≤ value_limit f pointer
  pub numbers : (a : ℕ) → a < value_limit f pointer → IsWord a
  pub blocks : (b : ℕ) → b < (planned f pointer).1.blocks → IsWord b
  pub own-blocks : length f.blocks ≤ (planned f pointer).1.blocks
  pub slots : (v : ℕ) → IsWord (slot_number f pointer v)
  pub sizes : (v : ℕ) → IsWord (size_of f v)
  pub own : (b : ℕ) → b < length f.blocks → (i : Instruction) → i ∈ instructions_of (block_at f b) → FineInstruction i

-- addresses that ascend, with what is loaded behind each, are below the end
ascending-le : (lo hi : ℕ) (ls : List (ℕ × ℕ)) → Ascending lo hi ls → lo ≤ hi
ascending-le lo hi [] a = a
ascending-le lo hi (l ∷ ls) a = omega (arith, a.0, ascending-le (suc (suc l.1)) hi ls a.1)

pub ascending-below : (lo hi : ℕ) (ls : List (ℕ × ℕ)) → Ascending lo hi ls → (l : ℕ × ℕ) → l ∈ ls → suc (suc l.1) ≤ hi
ascending-below lo hi [] a l m = absurd (not-∈-nil m)
ascending-below lo hi (k ∷ ls) a l m =
    ∈-elim (λ e. subst (λ (x : ℕ × ℕ). suc (suc x.1) ≤ hi) (sym e) (ascending-le (suc (suc k.1)) hi ls a.1))
    (ascending-below (suc (suc k.1)) hi ls a.1 l) m

-- a rewritten argument is an argument, or loaded for one
pub operand-from : (vs : List ℕ) (ns : List Made) (x : ℕ) → x ∈ zip_with operand vs ns
    → (x ∈ vs) ⊎ ((l : ℕ × ℕ) × (l ∈ loaded (map passes.Value vs) ns) × (x ≡ suc l.1))
operand-from [] ns x m = absurd (not-∈-nil m)
operand-from (v ∷ vs) [] x m = absurd (not-∈-nil m)
operand-from (v ∷ vs) (none ∷ ns) x m =
    ∈-elim (λ e. inl (here e)) (λ k. ⊎_elim (λ o. inl (there o)) inr (operand-from vs ns x k)) m
operand-from (v ∷ vs) (some a ∷ ns) x m =
    ∈-elim (λ e. inr ((v, a), here refl, e))
    (λ k. ⊎_elim (λ o. inl (there o)) (λ l. inr (l.0, there l.1, l.2)) (operand-from vs ns x k)) m

-- the words among an edge's arguments are some of them
pub words-among : (xs : List EdgeArgument) (x : EdgeArgument) → x ∈ words_among xs → x ∈ xs
words-among [] x m = absurd (not-∈-nil m)
words-among (passes.Value v ∷ xs) x m = there (words-among xs x m)
words-among (passes.Returned k ∷ xs) x m = ∈-elim here (λ n. there (words-among xs x n)) m
words-among (passes.Exception k ∷ xs) x m = ∈-elim here (λ n. there (words-among xs x n)) m

module _ (f : Function) (pointer : ℕ) (accepted : Accepted f) (small : SmallPlan f pointer) where
  -- a value of the file is a word
  pub own-word : (v : ℕ) → v < length f.values → IsWord v
  own-word v l = small.numbers v (omega (arith, l, small.values))

  -- ITEMS
  pub loads-fine : (lo hi : ℕ) (ls : List (ℕ × ℕ)) → Ascending lo hi ls → hi ≤ value_limit f pointer
      → (x : Item) → x ∈ loads_of (size_of f) (slot_number f pointer) ls → FineItem x
  loads-fine lo hi [] a u x m = absurd (not-∈-nil m)
  loads-fine lo hi (l ∷ ls) a u x m =
      let below = ascending-le (suc (suc l.1)) hi ls a.1 in
      let address = small.numbers l.1 (omega (arith, below, u)) in
      ∈-elim (λ e. subst FineItem (sym e) (address, small.slots l.0))
      (∈-elim (λ e. subst FineItem (sym e) (small.numbers (suc l.1) (omega (arith, below, u)), address, small.sizes l.0))
      (loads-fine (suc (suc l.1)) hi ls a.1 u x)) m

  -- stores of definitions
  pub stores-fine : (vs : List ℕ) (ns : List Made) → Each (Defined f (value_limit f pointer)) vs ns → ((v : ℕ) → v ∈ vs → v < length f.values)
      → (x : Item) → x ∈ concat_zip (store_items (size_of f) (slot_number f pointer)) vs ns → FineItem x
  stores-fine [] ns d inside x m = absurd (not-∈-nil m)
  stores-fine (v ∷ vs) [] d inside x m = absurd d
  stores-fine (v ∷ vs) (none ∷ ns) d inside x m = stores-fine vs ns d.1 (λ w k. inside w (there k)) x m
  stores-fine (v ∷ vs) (some a ∷ ns) d inside x m =
      let address = small.numbers a d.0.2 in
      ∈-elim (λ e. subst FineItem (sym e) (address, small.slots v))
      (∈-elim (λ e. subst FineItem (sym e) (own-word v (inside v (here refl)), address))
      (stores-fine vs ns d.1 (λ w k. inside w (there k)) x)) m

  -- OPERANDS of edges
  pub passed-fine : (lo hi : ℕ) (xs : List EdgeArgument) (ns : List Made) → Numbered f false lo hi xs ns → hi ≤ value_limit f pointer
      → ((x : EdgeArgument) → x ∈ xs → FineArgument x) → (y : EdgeArgument) → y ∈ zip_with edge_operand xs ns → FineArgument y
  passed-fine lo hi [] ns h u own y m = absurd (not-∈-nil m)
  passed-fine lo hi (passes.Value v ∷ xs) [] h u own y m = absurd h
  passed-fine lo hi (passes.Returned k ∷ xs) [] h u own y m = absurd h
  passed-fine lo hi (passes.Exception k ∷ xs) [] h u own y m = absurd h
  passed-fine lo hi (passes.Value v ∷ xs) (none ∷ ns) h u own y m =
      ∈-elim (λ e. subst FineArgument (sym e) (own (passes.Value v) (here refl))) (passed-fine lo hi xs ns h.1 u (λ x k. own x (there k)) y) m
  passed-fine lo hi (passes.Value v ∷ xs) (some a ∷ ns) h u own y m =
      let below = numbered-grows f false (suc (suc a)) hi xs ns h.2 in
      ∈-elim (λ e. subst FineArgument (sym e) (small.numbers (suc a) (omega (arith, below, u))))
      (passed-fine (suc (suc a)) hi xs ns h.2 u (λ x k. own x (there k)) y) m
  passed-fine lo hi (passes.Returned k ∷ xs) (none ∷ ns) h u own y m =
      ∈-elim (λ e. subst FineArgument (sym e) (own (passes.Returned k) (here refl))) (passed-fine lo hi xs ns h.1 u (λ x q. own x (there q)) y) m
  passed-fine lo hi (passes.Returned k ∷ xs) (some p ∷ ns) h u own y m = absurd h.0
  passed-fine lo hi (passes.Exception k ∷ xs) (none ∷ ns) h u own y m =
      ∈-elim (λ e. subst FineArgument (sym e) (own (passes.Exception k) (here refl))) (passed-fine lo hi xs ns h.1 u (λ x q. own x (there q)) y) m
  passed-fine lo hi (passes.Exception k ∷ xs) (some p ∷ ns) h u own y m = absurd h.0

  -- what a landing passes on
  pub landed-fine : (lo hi : ℕ) (xs : List EdgeArgument) (ns : List Made) → Numbered f true lo hi xs ns → hi ≤ value_limit f pointer
      → ((x : EdgeArgument) → x ∈ xs → FineArgument x) → (y : EdgeArgument) → y ∈ zip_with landed_argument xs ns → FineArgument y
  landed-fine lo hi [] ns h u own y m = absurd (not-∈-nil m)
  landed-fine lo hi (passes.Value v ∷ xs) [] h u own y m = absurd h
  landed-fine lo hi (passes.Returned k ∷ xs) [] h u own y m = absurd h
  landed-fine lo hi (passes.Exception k ∷ xs) [] h u own y m = absurd h
  landed-fine lo hi (passes.Value v ∷ xs) (none ∷ ns) h u own y m =
      ∈-elim (λ e. subst FineArgument (sym e) (own (passes.Value v) (here refl))) (landed-fine lo hi xs ns h.1 u (λ x k. own x (there k)) y) m
  landed-fine lo hi (passes.Value v ∷ xs) (some a ∷ ns) h u own y m =
      let below = numbered-grows f true (suc (suc a)) hi xs ns h.2 in
      ∈-elim (λ e. subst FineArgument (sym e) (small.numbers (suc a) (omega (arith, below, u))))
      (landed-fine (suc (suc a)) hi xs ns h.2 u (λ x k. own x (there k)) y) m
  landed-fine lo hi (passes.Returned k ∷ xs) (none ∷ ns) h u own y m = absurd h.0
  landed-fine lo hi (passes.Returned k ∷ xs) (some p ∷ ns) h u own y m =
      let below = numbered-grows f true (suc p) hi xs ns h.2 in
      ∈-elim (λ e. subst FineArgument (sym e) (small.numbers p (omega (arith, below, u))))
      (landed-fine (suc p) hi xs ns h.2 u (λ x q. own x (there q)) y) m
  landed-fine lo hi (passes.Exception k ∷ xs) (none ∷ ns) h u own y m = absurd h.0
  landed-fine lo hi (passes.Exception k ∷ xs) (some p ∷ ns) h u own y m =
      let below = numbered-grows f true (suc p) hi xs ns h.2 in
      ∈-elim (λ e. subst FineArgument (sym e) (small.numbers p (omega (arith, below, u))))
      (landed-fine (suc p) hi xs ns h.2 u (λ x q. own x (there q)) y) m

  -- and its parameters
  pub parameters-fine : (lo hi : ℕ) (xs : List EdgeArgument) (ns : List Made) → Numbered f true lo hi xs ns → hi ≤ value_limit f pointer
      → AllWords (parameters_of xs ns)
  parameters-fine lo hi [] ns h u p m = absurd (not-∈-nil m)
  parameters-fine lo hi (passes.Value v ∷ xs) [] h u p m = absurd h
  parameters-fine lo hi (passes.Returned k ∷ xs) [] h u p m = absurd h
  parameters-fine lo hi (passes.Exception k ∷ xs) [] h u p m = absurd h
  parameters-fine lo hi (passes.Value v ∷ xs) (none ∷ ns) h u p m = parameters-fine lo hi xs ns h.1 u p m
  parameters-fine lo hi (passes.Value v ∷ xs) (some a ∷ ns) h u p m = parameters-fine (suc (suc a)) hi xs ns h.2 u p m
  parameters-fine lo hi (passes.Returned k ∷ xs) (none ∷ ns) h u p m = absurd h.0
  parameters-fine lo hi (passes.Returned k ∷ xs) (some q ∷ ns) h u p m =
      let below = numbered-grows f true (suc q) hi xs ns h.2 in
      ∈-elim (λ e. small.numbers p (omega (arith, below, u, e))) (parameters-fine (suc q) hi xs ns h.2 u p) m
  parameters-fine lo hi (passes.Exception k ∷ xs) (none ∷ ns) h u p m = absurd h.0
  parameters-fine lo hi (passes.Exception k ∷ xs) (some q ∷ ns) h u p m =
      let below = numbered-grows f true (suc q) hi xs ns h.2 in
      ∈-elim (λ e. small.numbers p (omega (arith, below, u, e))) (parameters-fine (suc q) hi xs ns h.2 u p) m
