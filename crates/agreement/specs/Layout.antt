-- How a block is laid out: by its plan with its landings behind it, or copied; and its instructions with their lists are its
-- instructions.
use Rattle.std.specs.Prelude.{ℕ, suc, ◌≡◌, refl, ◌≢◌, Bool, true, false, not, T, eqb}
use Rattle.std.proofs.Common.{arith, sym, ap, subst, ◌∙◌, ⊎_elim, T_not, eqb→eq}
use Rattle.std.proofs.Math.Option.{Option, none}
use mathlib.Core.List.Memᴰ
use mathlib.Core.List.{List, [], ◌∷◌, ◌++◌, map}
use Rattle.std.proofs.Math.ListN.{length}
use Rattle.std.proofs.Math.Dec.{not_T}
use Rattle.rules.specs.Lists.{has, zip_with, concat_zip, NumberSet}
use Rattle.rules.specs.Tree.{Instruction, Block, Function}
use Rattle.rules.specs.Graph.{block_at, size_of, instructions_of, reachable}
use Rattle.rules.specs.Liveness.{process, lists_among, lists_of, listed_instructions}
use Rattle.rules.specs.Plan.{BlockPlan}
use Rattle.rules.specs.Rewriting.{store_items, instruction_items, rewritten_block, slot_number, laid}
use Rattle.lists.specs.Tests.{if-elim, neqb→ne, eqb_swap, left_out}
use Rattle.lists.specs.Members.{◌∈◌, here, there, not-∈-nil, ∈-elim}
use Rattle.simulation.specs.Related.{Each, Paired, refilled}
use Rattle.agreement.specs.Numbers.{neither}

-- LISTS TAKEN TOGETHER
module _ {A B C : Type 0} (g : A → B → List C) where
  -- what is among what two lists give, a pair of members gives
  pub ∈-concat_zip-from : (xs : List A) (ns : List B) {y : C} → y ∈ concat_zip g xs ns → (x : A) × (n : B) × Paired x n xs ns × (y ∈ g x n)
  ∈-concat_zip-from [] ns m = absurd (not-∈-nil m)
  ∈-concat_zip-from (x ∷ xs) [] m = absurd (not-∈-nil m)
  ∈-concat_zip-from (x ∷ xs) (n ∷ ns) m =
      ⊎_elim (λ k. (x, n, here refl, k)) (λ k. let r = ∈-concat_zip-from xs ns k in (r.0, r.1, there r.2, r.3))
      (Memᴰ.append_cases (g x n) m)

  -- and the other way round
  pub ∈-concat_zip : (xs : List A) (ns : List B) (x : A) (n : B) {y : C} → Paired x n xs ns → y ∈ g x n → y ∈ concat_zip g xs ns
  ∈-concat_zip [] ns x n p m = absurd (not-∈-nil p)
  ∈-concat_zip (a ∷ xs) [] x n p m = absurd (not-∈-nil p)
  ∈-concat_zip (a ∷ xs) (b ∷ ns) x n {y} p m =
      ∈-elim
      (λ e. Memᴰ.append_left (concat_zip g xs ns) (subst (λ (z : A × B). y ∈ g z.0 z.1) e m))
      (λ k. Memᴰ.append_right (g a b) (∈-concat_zip xs ns x n k m)) p

-- the first of a pair stands in the first list
pub paired-first : {A B : Type 0} (xs : List A) (ns : List B) (x : A) (n : B) → Paired x n xs ns → x ∈ xs
paired-first [] ns x n p = absurd (not-∈-nil p)
paired-first (a ∷ xs) [] x n p = absurd (not-∈-nil p)
paired-first {A} {B} (a ∷ xs) (b ∷ ns) x n p = ∈-elim (λ e. here (ap (λ (z : A × B). z.0) e)) (λ k. there (paired-first xs ns x n k)) p

-- two lists of one length, taken together, have the first one's members
zip-firsts : {A B : Type 0} (xs : List A) (ys : List B) → length ys ≡ length xs → map (λ (z : A × B). z.0) (zip_with (λ x y. (x, y)) xs ys) ≡ xs
zip-firsts [] ys e = refl
zip-firsts (x ∷ xs) [] e = absurd (omega arith)
zip-firsts (x ∷ xs) (y ∷ ys) e = ap (λ zs. x ∷ zs) (zip-firsts xs ys (omega arith))

module _ (f : Function) where
  lists-among-length : (is : List Instruction) (out : NumberSet) → length (lists_among f is out) ≡ length is
  lists-among-length [] out = refl
  lists-among-length (i ∷ is) out = ap suc (lists-among-length is out)

  nones-length : (is : List Instruction) → length {A = Option (List ℕ)} (map (λ _. none) is) ≡ length is
  nones-length [] = refl
  nones-length (i ∷ is) = ap suc (nones-length is)

  pub lists_length : (b : ℕ) → length (lists_of f b) ≡ length (instructions_of (block_at f b))
  unfolding lists_of
  lists_length b =
      let is = instructions_of (block_at f b) in
      if-elim (λ (l : List (Option (List ℕ))). length l ≡ length is) (has b (reachable f)) (lists_among f is ((process f).outs b)) (map (λ _. none) is)
      (λ _. lists-among-length is ((process f).outs b)) (λ _. nones-length is)

  -- a block's instructions with their lists are its instructions
  pub listed-firsts : (b : ℕ) → map (λ (x : Instruction × Option (List ℕ)). x.0) (listed_instructions f b) ≡ instructions_of (block_at f b)
  listed-firsts b = zip-firsts (instructions_of (block_at f b)) (lists_of f b) (lists_length b)

module _ (f : Function) (pointer : ℕ) where
  -- the rewritten block itself, without its landings
  abbrev pub main_block : Block → List (Instruction × Option (List ℕ)) → BlockPlan → Block
  main_block b is n =
      refilled b
      (concat_zip (store_items (size_of f) (slot_number f pointer)) b.parameters n.parameters
      ++ concat_zip (instruction_items (size_of f) (slot_number f pointer)) is n.instructions)

  -- a planned block is laid out with its landings, another is copied
  pub laid-planned : (R : ℕ → BlockPlan → Type 0) (xs : List ℕ) (ns : List BlockPlan) → Each R xs ns → (b : Block) → b.number ∈ xs
      → (n : BlockPlan) × Paired b.number n xs ns
      × (laid f pointer xs ns b ≡ rewritten_block (size_of f) (slot_number f pointer) b (listed_instructions f b.number) n)
  laid-planned R [] ns r b m = absurd (not-∈-nil m)
  laid-planned R (x ∷ xs) [] r b m = absurd r
  laid-planned R (x ∷ xs) (n ∷ ns) r b m =
      go (eqb x b.number) (eqb→eq x b.number) (λ t. neqb→ne x b.number t) (laid-planned R xs ns r.1 b)
    where
      block : ℕ → BlockPlan → List Block
      block y k = rewritten_block (size_of f) (slot_number f pointer) b (listed_instructions f y) k

      go : (c : Bool) → (T c → x ≡ b.number) → (T (not c) → x ≢ b.number)
          → (b.number ∈ xs → (n : BlockPlan) × Paired b.number n xs ns × (laid f pointer xs ns b ≡ block b.number n))
          → (k : BlockPlan) × Paired b.number k (x ∷ xs) (n ∷ ns)
          × (elim c [ true ↦ block x n | false ↦ laid f pointer xs ns b ] ≡ block b.number k)
      go true same other later =
          (n, here (ap (λ (y : ℕ). (y, n)) (sym (same tt))), ap (λ (y : ℕ). block y n) (same tt))
      go false same other later =
          let rest = later (∈-elim (λ e. absurd (other tt (sym e))) (λ k. k) m) in
          (rest.0, there rest.1, rest.2)

  -- a block without a plan is copied
  pub laid-copied : (xs : List ℕ) (ns : List BlockPlan) (b : Block) → T (not (has b.number xs)) → laid f pointer xs ns b ≡ b ∷ []
  laid-copied [] ns b h = refl
  laid-copied (x ∷ xs) [] b h = refl
  laid-copied (x ∷ xs) (n ∷ ns) b h =
      let parts = neither (eqb b.number x) (has b.number xs) h in
      let other : T (not (eqb x b.number)) =
      not_T (eqb x b.number) (λ t. T_not (eqb b.number x) parts.0 (eqb_swap x b.number t)) in
      left_out (eqb x b.number) (rewritten_block (size_of f) (slot_number f pointer) b (listed_instructions f x) n) (laid f pointer xs ns b) other
      ∙ laid-copied xs ns b parts.1
