-- A value is defined at one place: in one block, and there once. Places are told apart by counting.
use Rattle.std.specs.Prelude.{ℕ, zero, suc, ◌+◌, ◌≤◌, ◌≡◌, refl, ◌≢◌, Bool, false, not, length, get_or, T, eqb, ltb}
use Rattle.std.proofs.Common.{arith, sym, ap, subst, ◌∙◌, T_not, eqb→eq, ltb→lt}
use mathlib.Core.List.Memᴰ
use mathlib.Core.List.{List, [], ◌∷◌, ◌++◌, Nodup, Nodup-cons, append_assoc}
use Rattle.std.proofs.Math.Dec.{not_T}
use Rattle.rules.specs.Lists.{all, count, concat_map, has, up_from}
use Rattle.rules.specs.Tree.{Instruction, Block, Function}
use Rattle.rules.specs.Graph.{block_at, instructions_of}
use Rattle.rules.specs.Refusals.{all_instructions, all_edges, definitions, uses, numbers_in_file, defined_once}
use Rattle.rules.specs.Demand3.{results_of, defined_in}
use Rattle.lists.specs.Tests.{test-elim, and_left, eq→eqb, is_true, neqb→ne}
use Rattle.lists.specs.Counts.{count-more, count-append}
use Rattle.lists.specs.Maps.{concat_map-append}
use Rattle.lists.specs.Members.{◌∈◌, here, there, all→∈, has→∈, ∈→has}
use Rattle.rules.specs.Records.{bit}
use Rattle.fixpoint.specs.Finding.{∈-up_from}
use Rattle.fixpoint.specs.Sums.{count_none}

-- a member is counted
pub ∈→count : {v : ℕ} {l : List ℕ} → v ∈ l → 1 ≤ count (eqb v) l
∈→count {v} (here {x = y} {xs = l} e) =
    let same : bit (eqb v y) ≡ 1 = ap bit (is_true (eqb v y) (eq→eqb e)) in
    omega (arith, count-more (eqb v) y l, same)
∈→count {v} (there {x = y} {xs = l} m) = omega (arith, count-more (eqb v) y l, ∈→count m)

-- and nothing else is
pub not-∈→count : {v : ℕ} (l : List ℕ) → (v ∈ l → ⊥) → count (eqb v) l ≡ 0
not-∈→count {v} l n =
    count_none (eqb v) l (λ x m. not_T (eqb v x) (λ e. n (subst (λ y. y ∈ l) (sym (eqb→eq v x e)) m)))

module _ {A B : Type 0} (p : B → Bool) (g : A → List B) where
  -- nothing is counted where no member gives any
  count-concat_map-none : (xs : List A) → ((x : A) → x ∈ xs → count p (g x) ≡ 0) → count p (concat_map g xs) ≡ 0
  count-concat_map-none [] h = refl
  count-concat_map-none (x ∷ xs) h =
      omega (
        arith,
        count-append p (g x) (concat_map g xs),
        h x (here refl),
        count-concat_map-none xs (λ y m. h y (there m)),
      )

  module _ (d : A) (empty : count p (g d) ≡ 0) where
    -- what is counted at one place is counted among all,
    count-at-place : (xs : List A) (i : ℕ) → count p (g (get_or xs i d)) ≤ count p (concat_map g xs)
    count-at-place [] i = omega (arith, empty)
    count-at-place (x ∷ xs) zero = omega (arith, count-append p (g x) (concat_map g xs))
    count-at-place (x ∷ xs) (suc i) = omega (arith, count-append p (g x) (concat_map g xs), count-at-place xs i)

    -- and what is counted at two places.
    count-at-places :
        (xs : List A) (i j : ℕ) → i ≢ j
        → count p (g (get_or xs i d)) + count p (g (get_or xs j d)) ≤ count p (concat_map g xs)
    count-at-places [] i j n = omega (arith, empty)
    count-at-places (x ∷ xs) zero zero n = absurd (n refl)
    count-at-places (x ∷ xs) zero (suc j) n = omega (arith, count-append p (g x) (concat_map g xs), count-at-place xs j)
    count-at-places (x ∷ xs) (suc i) zero n = omega (arith, count-append p (g x) (concat_map g xs), count-at-place xs i)
    count-at-places (x ∷ xs) (suc i) (suc j) n =
        omega (arith, count-append p (g x) (concat_map g xs), count-at-places xs i j (λ e. n (ap suc e)))

-- what a block defines
abbrev defined_by : Block → List ℕ
defined_by b = b.parameters ++ results_of (instructions_of b)

-- the block that stands for one outside the file
abbrev absent : Block
absent = record { cold = false; number = 0; parameters = []; items = [] }

-- Definitions are counted block by block.
count-definitions :
    (v : ℕ) (bs : List Block)
    → count (eqb v) (concat_map defined_by bs)
    ≡ count (eqb v) (concat_map (λ b. b.parameters) bs) + count (eqb v) (results_of (concat_map instructions_of bs))
count-definitions v [] = refl
count-definitions v (b ∷ bs) =
    let rest = concat_map instructions_of bs in
    let parted : count (eqb v) (results_of (instructions_of b ++ rest))
    ≡ count (eqb v) (results_of (instructions_of b) ++ results_of rest) =
    ap (count (eqb v)) (concat_map-append (λ i. i.results) (instructions_of b) rest) in
    omega (
      arith,
      count-definitions v bs,
      count-append (eqb v) (defined_by b) (concat_map defined_by bs),
      count-append (eqb v) b.parameters (results_of (instructions_of b)),
      count-append (eqb v) b.parameters (concat_map (λ x. x.parameters) bs),
      parted,
      count-append (eqb v) (results_of (instructions_of b)) (results_of rest),
    )

-- A block defines what its parameters and earlier instructions define,
module _ (f : Function) (b : ℕ) (earlier later : List Instruction) (split : instructions_of (block_at f b) ≡ earlier ++ later) where
  parts-defined : {v : ℕ} → v ∈ (block_at f b).parameters ++ (results_of earlier ++ results_of later) → v ∈ defined_in f b
  parts-defined {v} m =
      subst (λ is. v ∈ (block_at f b).parameters ++ results_of is) (sym split)
      (subst (λ l. v ∈ (block_at f b).parameters ++ l) (sym (concat_map-append (λ i. i.results) earlier later)) m)

  pub earlier-defined : {v : ℕ} → v ∈ (block_at f b).parameters ++ results_of earlier → v ∈ defined_in f b
  earlier-defined {v} m =
      parts-defined
      (subst (λ l. v ∈ l) (append_assoc (block_at f b).parameters (results_of earlier) (results_of later))
      (Memᴰ.append_left (results_of later) m))

  -- and what later ones do.
  pub later-defined : {v : ℕ} → v ∈ results_of later → v ∈ defined_in f b
  later-defined m = parts-defined (Memᴰ.append_right (block_at f b).parameters (Memᴰ.append_right (results_of earlier) m))

module _ (f : Function) (once : T (defined_once f)) (in-file : T (numbers_in_file f)) where
  -- each number is defined at most once,
  defined-at-most-once : (v : ℕ) → count (eqb v) (definitions f) ≤ 1
  defined-at-most-once v = test-elim (ltb v n) inside outside
    where
      n : ℕ
      n = length f.values

      inside : T (ltb v n) → count (eqb v) (definitions f) ≤ 1
      inside low =
          let one : count (eqb v) (definitions f) ≡ 1 =
          eqb→eq (count (eqb v) (definitions f)) 1
          (all→∈ (λ w. eqb (count (eqb w) (definitions f)) 1) (up_from 0 n) once
          (∈-up_from 0 n v (omega arith) (omega (arith, ltb→lt v n low)))) in
          omega (arith, one)

      known : T (all (λ w. ltb w n) (definitions f ++ uses f))
      known =
          and_left (all (λ w. ltb w n) (definitions f ++ uses f)) (all (λ e. ltb e.target (length f.blocks)) (all_edges f))
          in-file

      outside : T (not (ltb v n)) → count (eqb v) (definitions f) ≤ 1
      outside high =
          let none : count (eqb v) (definitions f) ≡ 0 =
          not-∈→count (definitions f)
          (λ m.
          T_not (ltb v n) high (all→∈ (λ w. ltb w n) (definitions f ++ uses f) known (Memᴰ.append_left (uses f) m))) in
          omega (arith, none)

  -- so among the blocks,
  blocks-at-most-once : (v : ℕ) → count (eqb v) (concat_map defined_by f.blocks) ≤ 1
  blocks-at-most-once v =
      omega (
        arith,
        defined-at-most-once v,
        count-definitions v f.blocks,
        count-append (eqb v) (concat_map (λ b. b.parameters) f.blocks) (results_of (all_instructions f)),
      )

  -- in each block,
  pub block-defines-once : (v b : ℕ) → count (eqb v) (defined_in f b) ≤ 1
  block-defines-once v b =
      omega (
        arith,
        blocks-at-most-once v,
        count-at-place (eqb v) defined_by absent refl f.blocks b,
      )

  -- and in no two.
  pub same_block : {v b c : ℕ} → v ∈ defined_in f b → v ∈ defined_in f c → b ≡ c
  same_block {v} {b} {c} m k =
      test-elim (eqb b c) (eqb→eq b c)
      (λ n.
      absurd
      (omega (
        arith,
        blocks-at-most-once v,
        ∈→count m,
        ∈→count k,
        count-at-places (eqb v) defined_by absent refl f.blocks
            b c (neqb→ne b c n),
      )))

  -- What a block defines, others do not define.
  pub others-define-none :
      {v b : ℕ} → v ∈ defined_in f b → (bs : List ℕ) → (b ∈ bs → ⊥) → count (eqb v) (concat_map (defined_in f) bs) ≡ 0
  others-define-none {v} {b} m bs off =
      count-concat_map-none (eqb v) (defined_in f) bs
      (λ c k. not-∈→count (defined_in f c) (λ j. off (subst (λ y. y ∈ bs) (sym (same_block m j)) k)))

  -- Different blocks together define a value at most once.
  pub blocks-define-once : (v : ℕ) (bs : List ℕ) → Nodup bs → count (eqb v) (concat_map (defined_in f) bs) ≤ 1
  blocks-define-once v [] d = omega arith
  blocks-define-once v (b ∷ bs) d =
      let parts = Nodup-cons.0 d in
      let both = count-append (eqb v) (defined_in f b) (concat_map (defined_in f) bs) in
      test-elim (has v (defined_in f b))
      (λ t.
      omega (
        arith,
        both,
        block-defines-once v b,
        others-define-none (has→∈ (defined_in f b) t) bs (λ k. parts.0 ∣ k ∣₁),
      ))
      (λ n.
      omega (
        arith,
        both,
        blocks-define-once v bs parts.1,
        not-∈→count (defined_in f b) (λ m. T_not (has v (defined_in f b)) n (∈→has m)),
      ))

  -- In a block: what its parameters or earlier instructions define, later ones do not define.
  pub later-define-none :
      {v : ℕ} (b : ℕ) (earlier later : List Instruction) → instructions_of (block_at f b) ≡ earlier ++ later
      → v ∈ (block_at f b).parameters ++ results_of earlier → count (eqb v) (results_of later) ≡ 0
  later-define-none {v} b earlier later split m =
      let ps = (block_at f b).parameters in
      let parted : defined_in f b ≡ (ps ++ results_of earlier) ++ results_of later =
      ap (λ is. ps ++ results_of is) split
      ∙ ap (λ l. ps ++ l) (concat_map-append (λ i. i.results) earlier later)
      ∙ sym (append_assoc ps (results_of earlier) (results_of later)) in
      let counted : count (eqb v) (defined_in f b) ≡ count (eqb v) ((ps ++ results_of earlier) ++ results_of later) =
      ap (count (eqb v)) parted in
      omega (
        arith,
        block-defines-once v b,
        counted,
        count-append (eqb v) (ps ++ results_of earlier) (results_of later),
        ∈→count m,
      )
