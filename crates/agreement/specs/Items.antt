-- The items of a rewritten block in order: stores of its parameters; and for each instruction the loads before it, itself, and
-- the stores of its results. All but the instructions are added ones.
use Rattle.std.specs.Prelude.{ℕ, suc, ◌≡◌, refl, not, List, [], ◌∷◌, ◌++◌, map, length, T}
use Rattle.std.proofs.Common.{sym, ap, subst, ◌∙◌, append_assoc}
use Rattle.std.proofs.Math.Option.{Option, none, some}
use Rattle.rules.specs.Lists.{all, zip_with, concat_zip, or_else, is_none}
use Rattle.rules.specs.Tree.{Edge, Instruction, Item, instruction, slot_address, load, jump, Function}
use Rattle.rules.specs.Plan.{Made, EdgePlan, InstructionPlan}
use Rattle.rules.specs.Rewriting.{rewritten_edge, store_items, load_items, edge_load_items, edge_loads, landing_of}
use Rattle.rules.specs.Rewriting.{rewritten_instruction, instruction_items, landed_argument}
use Rattle.rules.specs.declared.EdgeArgument.{EdgeArgument}
use Rattle.rules.specs.declared.EdgeArgument.TheVariants as passes
use Rattle.lists.specs.Tests.{and_left, and_right}
use Rattle.simulation.specs.Related.{Each, Place, at, crossing, is_added, Shape}
use Rattle.agreement.specs.Plans.{loaded, edge_loaded, loaded_before, EdgeNumbered, InstructionNumbered}

-- two lists taken together are as long as they are
zip_length : {A B C : Type 0} (k : A → B → C) (R : A → B → Type 0) (xs : List A) (ys : List B) → Each R xs ys
    → length (zip_with k xs ys) ≡ length xs
zip_length k R [] ys r = refl
zip_length k R (x ∷ xs) [] r = absurd r
zip_length k R (x ∷ xs) (y ∷ ys) r = ap suc (zip_length k R xs ys r.1)

module _ (size slot : ℕ → ℕ) where
  -- the items that load these values through these addresses
  abbrev pub loads_of : List (ℕ × ℕ) → List Item
  loads_of [] = []
  loads_of (l ∷ ls) = slot_address l.1 (slot l.0) ∷ load (suc l.1) l.1 (size l.0) ∷ loads_of ls

  loads-append : (xs ys : List (ℕ × ℕ)) → loads_of (xs ++ ys) ≡ loads_of xs ++ loads_of ys
  loads-append [] ys = refl
  loads-append (x ∷ xs) ys =
      ap (λ is. slot_address x.1 (slot x.0) ∷ load (suc x.1) x.1 (size x.0) ∷ is) (loads-append xs ys)

  arguments-loads : (vs : List ℕ) (ns : List Made) → concat_zip (load_items size slot) vs ns ≡ loads_of (loaded (map passes.Value vs) ns)
  arguments-loads [] ns = refl
  arguments-loads (v ∷ vs) [] = refl
  arguments-loads (v ∷ vs) (none ∷ ns) = arguments-loads vs ns
  arguments-loads (v ∷ vs) (some a ∷ ns) =
      ap (λ is. slot_address a (slot v) ∷ load (suc a) a (size v) ∷ is) (arguments-loads vs ns)

  -- what is loaded for an edge's operands
  pub operands-loads : (xs : List EdgeArgument) (ns : List Made) → concat_zip (edge_load_items size slot) xs ns ≡ loads_of (loaded xs ns)
  operands-loads [] ns = refl
  operands-loads (x ∷ xs) [] = refl
  operands-loads (passes.Value v ∷ xs) (none ∷ ns) = operands-loads xs ns
  operands-loads (passes.Value v ∷ xs) (some a ∷ ns) =
      ap (λ is. slot_address a (slot v) ∷ load (suc a) a (size v) ∷ is) (operands-loads xs ns)
  operands-loads (passes.Returned k ∷ xs) (n ∷ ns) = operands-loads xs ns
  operands-loads (passes.Exception k ∷ xs) (n ∷ ns) = operands-loads xs ns

  edge-loads : (e : Edge) (landing : Option ℕ) (ms : List Made)
      → edge_loads size slot e (record { landing = landing; arguments = ms })
      ≡ loads_of (edge_loaded e (record { landing = landing; arguments = ms }))
  edge-loads e none ms = operands-loads e.arguments ms
  edge-loads e (some b) ms = refl

  edges-loads : (es : List Edge) (ns : List EdgePlan) → concat_zip (edge_loads size slot) es ns ≡ loads_of (concat_zip edge_loaded es ns)
  edges-loads [] ns = refl
  edges-loads (e ∷ es) [] = refl
  edges-loads (e ∷ es) (n ∷ ns) =
      ap (λ is. is ++ concat_zip (edge_loads size slot) es ns) (edge-loads e n.landing n.arguments)
      ∙ ap (λ is. loads_of (edge_loaded e n) ++ is) (edges-loads es ns)
      ∙ sym (loads-append (edge_loaded e n) (concat_zip edge_loaded es ns))

  -- an instruction's items, and others behind them
  abbrev pub in_order : Instruction × Option (List ℕ) → InstructionPlan → List Item → List Item
  in_order x n rest =
      loads_of (loaded_before x.0 n)
      ++ (instruction (rewritten_instruction size slot x.0 (or_else [] x.1) n)
      ∷ (concat_zip (store_items size slot) x.0.results n.results ++ rest))

  pub items-in-order : (x : Instruction × Option (List ℕ)) (n : InstructionPlan) (rest : List Item)
      → instruction_items size slot x n ++ rest ≡ in_order x n rest
  items-in-order x n rest =
      let i = x.0 in
      let first = concat_zip (load_items size slot) i.arguments n.arguments in
      let second = concat_zip (edge_loads size slot) i.edges n.edges in
      let j = instruction (rewritten_instruction size slot i (or_else [] x.1) n) in
      let stores = concat_zip (store_items size slot) i.results n.results in
      let last = j ∷ (stores ++ rest) in
      let apart : (first ++ (second ++ (j ∷ stores))) ++ rest ≡ (first ++ second) ++ last =
      append_assoc first (second ++ (j ∷ stores)) rest
      ∙ ap (λ is. first ++ is) (append_assoc second (j ∷ stores) rest)
      ∙ sym (append_assoc first second last) in
      apart
      ∙ ap (λ is. (is ++ second) ++ last) (arguments-loads i.arguments n.arguments)
      ∙ ap (λ is. (loads_of (loaded (map passes.Value i.arguments) n.arguments) ++ is) ++ last) (edges-loads i.edges n.edges)
      ∙ ap (λ is. is ++ last) (sym (loads-append (loaded (map passes.Value i.arguments) n.arguments) (concat_zip edge_loaded i.edges n.edges)))

  -- SHAPE
  shape_behind : (p : Place) (xs js : List Item) → T (all is_added xs) → Shape p js → Shape p (xs ++ js)
  shape_behind p [] js t s = s
  shape_behind p (x ∷ xs) js t s =
      Shape.added x (and_left (is_added x) (all is_added xs) t) (shape_behind p xs js (and_right (is_added x) (all is_added xs) t) s)

  loads-added : (ls : List (ℕ × ℕ)) → T (all is_added (loads_of ls))
  loads-added [] = tt
  loads-added (l ∷ ls) = loads-added ls

  stores-added : (vs : List ℕ) (ns : List Made) → T (all is_added (concat_zip (store_items size slot) vs ns))
  stores-added [] ns = tt
  stores-added (v ∷ vs) [] = tt
  stores-added (v ∷ vs) (none ∷ ns) = stores-added vs ns
  stores-added (v ∷ vs) (some a ∷ ns) = stores-added vs ns

  -- the instructions of a list with their own items
  pub instructions-shape : (f : Function) (limit : ℕ) (xs : List (Instruction × Option (List ℕ))) (ns : List InstructionPlan)
      → Each (InstructionNumbered f limit) xs ns
      → Shape (at (map (λ x. instruction x.0) xs)) (concat_zip (instruction_items size slot) xs ns)
  instructions-shape f limit [] ns h = Shape.done
  instructions-shape f limit (x ∷ xs) [] h = absurd h
  instructions-shape f limit (x ∷ xs) (n ∷ ns) h =
      let i = x.0 in
      let rest = concat_zip (instruction_items size slot) xs ns in
      let stores = concat_zip (store_items size slot) i.results n.results in
      let j = rewritten_instruction size slot i (or_else [] x.1) n in
      let is = map (λ (x : Instruction × Option (List ℕ)). instruction x.0) xs in
      subst (Shape (at (instruction i ∷ is))) (sym (items-in-order x n rest))
      (shape_behind (at (instruction i ∷ is)) (loads_of (loaded_before i n)) (instruction j ∷ (stores ++ rest)) (loads-added (loaded_before i n))
      (Shape.kept i j.arguments j.edges j.entries
      (zip_length rewritten_edge (EdgeNumbered f limit (not (is_none x.1))) i.edges n.edges h.0.edges)
      (shape_behind (at is) stores rest (stores-added i.results n.results) (instructions-shape f limit xs ns h.1))))

  -- a block's parameters' stores before them
  pub block-shape : (is : List Item) (vs : List ℕ) (ns : List Made) (js : List Item) → Shape (at is) js
      → Shape (at is) (concat_zip (store_items size slot) vs ns ++ js)
  block-shape is vs ns js s = shape_behind (at is) (concat_zip (store_items size slot) vs ns) js (stores-added vs ns) s

  -- a landing's items
  pub landing-shape : (e e' : Edge) (ns : List Made) (b : ℕ) → Shape (crossing e) (landing_of size slot e' ns b).items
  landing-shape e e' ns b =
      let jumps = jump (record { target = e'.target; arguments = zip_with landed_argument e'.arguments ns }) ∷ [] in
      subst (λ is. Shape (crossing e) (is ++ jumps)) (sym (operands-loads e'.arguments ns))
      (shape_behind (crossing e) (loads_of (loaded e'.arguments ns)) jumps (loads-added (loaded e'.arguments ns)) (Shape.lands e _))

-- a block that is copied: its instructions as they were
pub copied-shape : (is : List Instruction) → Shape (at (map instruction is)) (map instruction is)
copied-shape [] = Shape.done
copied-shape (i ∷ is) = Shape.kept i i.arguments i.edges i.entries refl (copied-shape is)
