-- THE RULE BY BLOCKS. Going back over a block's records gives the rule through it; so from nothing, what it uses; and what
-- its records define is what it kills. Tables of sets, filled block by block.
use Rattle.std.specs.Prelude.{ℕ, ◌+◌, ◌<◌, ◌≤◌, ◌≡◌, refl, Bool, true, false, not, ◌||◌, cond, List, [], ◌∷◌, ◌++◌, map, length, T, eqb, ltb}
use Rattle.std.proofs.Common.{sym, ap, ap₂, ◌∙◌, arith, ltb→lt, nltb→le, lt-ltb, le-ltb}
use Rattle.std.proofs.Math.ListN.{get_or-eq_default}
use Rattle.rules.specs.Lists.{all, has, update, concat_map, NumberSet, nothing, removing}
use Rattle.rules.specs.Tree.{Instruction, Block, Function}
use Rattle.rules.specs.Records.{kind, records}
use Rattle.rules.specs.File.{ordered, Section, cut, named, instruction_of, opens_item, function_in}
use Rattle.rules.specs.Graph.{block_at, instructions_of}
use Rattle.rules.specs.Liveness.{before_all, through}
use Rattle.rules.specs.declared.EdgeArgument.TheVariants as passes
use Rattle.rules.specs.declared.Record.{Record}
use Rattle.rules.specs.declared.Record.TheVariants as record'
use Rattle.lists.specs.Tests.{test-elim, and_left, and_right, and_intro, differ, neqb→ne}
use Rattle.lists.specs.Anys.{or_assoc}
use Rattle.records.specs.Kinds.{Kinds, kinds-append, kinds-weaken, of_kind-stop}
use Rattle.records.specs.InOrder.{Sections, whole, cut-joins}
use Rattle.records.specs.Parts.{is_instruction, front-parameters, block-instructions, block-instructions-are, block-picked, head-instruction, second}
use Rattle.fixpoint.specs.Rule.{uses, results, kills}
use Rattle.fixpoint.specs.Finding.{update-elim}
use Rattle.graph.specs.Blocks.{body_at, section_of, block_at-by-place, block_at-parameters, block-body}
use Rattle.blocksets.specs.Operands.{over-append, live_before, back, defined_in}
use Rattle.blocksets.specs.Instructions.{in_instruction, removing-more, body-kinds, back-sections}

-- PARAMETERS. Going back over parameters removes them.
back-parameters :
    (f : Function) (rs : List Record) (live : NumberSet) → Kinds (eqb 3) rs → back f rs live ≡ removing (named 3 rs) live
back-parameters f [] live k = refl
back-parameters f (record'.Value _ _ ∷ rs) live k = absurd k
back-parameters f (record'.Block _ _ ∷ rs) live k = absurd k
back-parameters f (record'.Parameter v ∷ rs) live k =
    ap (removing (v ∷ [])) (back-parameters f rs live k) ∙ sym (removing-more v (named 3 rs) live)
back-parameters f (record'.Instruction _ _ _ ∷ rs) live k = absurd k
back-parameters f (record'.Result _ ∷ rs) live k = absurd k
back-parameters f (record'.Argument _ ∷ rs) live k = absurd k
back-parameters f (record'.Edge _ ∷ rs) live k = absurd k
back-parameters f (record'.EdgeArgument (passes.Value _) ∷ rs) live k = absurd k
back-parameters f (record'.EdgeArgument (passes.Returned _) ∷ rs) live k = absurd k
back-parameters f (record'.EdgeArgument (passes.Exception _) ∷ rs) live k = absurd k
back-parameters f (record'.Context _ ∷ rs) live k = absurd k
back-parameters f (record'.Slot _ ∷ rs) live k = absurd k
back-parameters f (record'.MapEntry _ _ ∷ rs) live k = absurd k
back-parameters f (record'.SlotAddress _ _ ∷ rs) live k = absurd k
back-parameters f (record'.Store _ _ ∷ rs) live k = absurd k
back-parameters f (record'.Load _ _ _ ∷ rs) live k = absurd k
back-parameters f (record'.Jump ∷ rs) live k = absurd k
back-parameters f (record'.Outside ∷ rs) live k = absurd k

-- no instruction's records have one
no-parameters : (f : Function) (ts : List Section) → Sections is_instruction ts → Kinds (λ j. not (eqb j 3)) (concat_map whole ts)
no-parameters f [] h = tt
no-parameters f (t ∷ ts) h =
    let here = and_left (is_instruction t) (all is_instruction ts) h in
    kinds-append (λ j. not (eqb j 3)) (whole t) (concat_map whole ts)
    (and_intro (not (eqb (kind t.head) 3)) (all (λ r. not (eqb (kind r) 3)) t.body)
    (differ (λ j. eqb j 4) (kind t.head) 3 (head-instruction t here) tt)
    (kinds-weaken in_instruction (λ j. not (eqb j 3)) (λ j m. differ in_instruction j 3 m tt) t.body (body-kinds f t here)))
    (no-parameters f ts (and_right (is_instruction t) (all is_instruction ts) h))

-- DEFINITIONS. What records define is what those of kinds 3 and 5 name.
defined-named :
    (rs : List Record) (set : NumberSet) (v : ℕ) → defined_in rs set v ≡ has v (named 3 rs) || (has v (named 5 rs) || set v)
defined-named [] set v = refl
defined-named (record'.Value _ _ ∷ rs) set v = defined-named rs set v
defined-named (record'.Block _ _ ∷ rs) set v = defined-named rs set v
defined-named (record'.Parameter w ∷ rs) set v =
    ap (λ x. (eqb v w || false) || x) (defined-named rs set v) ∙ three (eqb v w) (has v (named 3 rs)) (has v (named 5 rs) || set v)
  where
    three : (a b c : Bool) → (a || false) || (b || c) ≡ (a || b) || c
    three true b c = refl
    three false b c = refl
defined-named (record'.Instruction _ _ _ ∷ rs) set v = defined-named rs set v
defined-named (record'.Result w ∷ rs) set v =
    ap (λ x. (eqb v w || false) || x) (defined-named rs set v) ∙ four (eqb v w) (has v (named 3 rs)) (has v (named 5 rs)) (set v)
  where
    four : (a b c d : Bool) → (a || false) || (b || (c || d)) ≡ b || ((a || c) || d)
    four true true c d = refl
    four true false c d = refl
    four false b c d = refl
defined-named (record'.Argument _ ∷ rs) set v = defined-named rs set v
defined-named (record'.Edge _ ∷ rs) set v = defined-named rs set v
defined-named (record'.EdgeArgument (passes.Value _) ∷ rs) set v = defined-named rs set v
defined-named (record'.EdgeArgument (passes.Returned _) ∷ rs) set v = defined-named rs set v
defined-named (record'.EdgeArgument (passes.Exception _) ∷ rs) set v = defined-named rs set v
defined-named (record'.Context _ ∷ rs) set v = defined-named rs set v
defined-named (record'.Slot _ ∷ rs) set v = defined-named rs set v
defined-named (record'.MapEntry _ _ ∷ rs) set v = defined-named rs set v
defined-named (record'.SlotAddress _ _ ∷ rs) set v = defined-named rs set v
defined-named (record'.Store _ _ ∷ rs) set v = defined-named rs set v
defined-named (record'.Load _ _ _ ∷ rs) set v = defined-named rs set v
defined-named (record'.Jump ∷ rs) set v = defined-named rs set v
defined-named (record'.Outside ∷ rs) set v = defined-named rs set v

has-append : (v : ℕ) (xs ys : List ℕ) → has v (xs ++ ys) ≡ has v xs || has v ys
has-append v [] ys = refl
has-append v (x ∷ xs) ys = ap (λ b. eqb v x || b) (has-append v xs ys) ∙ or_assoc (eqb v x) (has v xs) (has v ys)

-- what some instruction defines is among all that they define
results-joined : (is : List Instruction) (v : ℕ) → results is v ≡ has v (concat_map (λ i. i.results) is)
results-joined [] v = refl
results-joined (i ∷ is) v =
    ap (λ b. has v i.results || b) (results-joined is v) ∙ sym (has-append v i.results (concat_map (λ x. x.results) is))

module _ (s : List ℕ) (h : T (ordered 0 (records s))) (b : ℕ) (l : b < length (function_in s).blocks) where
  abbrev f : Function
  f = function_in s

  abbrev body : List Record
  body = body_at s b

  -- the records of a block are its parameters, and those of its instructions
  block-parts : named 3 (cut opens_item body).front ≡ (block_at f b).parameters
  block-parts =
      let ts = (cut opens_item body).sections in
      sym (block_at-parameters s b l ∙ ap (named 3) (sym (cut-joins opens_item body))
      ∙ ap (map second) (of_kind-stop 3 (cut opens_item body).front (concat_map whole ts) (no-parameters f ts (block-instructions body (block-body s h b l)))))

  -- THE RULE through a block, by its records
  pub back-through : (out : NumberSet) → back f body out ≡ through f b out
  back-through out =
      let front = (cut opens_item body).front in
      let ts = (cut opens_item body).sections in
      let whole-body = block-body s h b l in
      ap (λ (rs : List Record). back f rs out) (sym (cut-joins opens_item body))
      ∙ over-append (live_before f) front (concat_map whole ts) out
      ∙ ap (back f front) (back-sections f ts out (block-instructions body whole-body))
      ∙ back-parameters f front (before_all f (map instruction_of ts) out) (front-parameters body whole-body)
      ∙ ap₂ (λ (ps : List ℕ) (is : List Instruction). removing ps (before_all f is out)) block-parts
      (sym (ap instructions_of (block_at-by-place s b l) ∙ block-instructions-are (section_of s b) whole-body))

  -- what it kills
  pub defined-kills : defined_in body nothing ≡ kills f b
  defined-kills = λ i v. each v i
    where
      each : (v : ℕ) → defined_in body nothing v ≡ kills f b v
      each v =
          let rest : (a : Bool) → a || false ≡ a = λ a. elim a as (λ x. x || false ≡ x) [ true ↦ refl | false ↦ refl ] in
          let among : concat_map (λ i. i.results) (instructions_of (block_at f b)) ≡ named 5 body =
          ap (λ (x : Block). concat_map (λ i. i.results) (instructions_of x)) (block_at-by-place s b l)
          ∙ block-picked 5 second (λ i. i.results) (λ t _. refl) tt tt (section_of s b) (block-body s h b l) in
          defined-named body nothing v
          ∙ ap (λ x. has v (named 3 body) || x) (rest (has v (named 5 body)))
          ∙ ap₂ (λ (ps rs : List ℕ). has v ps || has v rs) (sym (block_at-parameters s b l)) (sym among)
          ∙ ap (λ x. has v (block_at f b).parameters || x) (sym (results-joined (instructions_of (block_at f b)) v))

-- A number that is no block uses and kills nothing.
module _ (f : Function) (b : ℕ) (l : length f.blocks ≤ b) where
  no_block : block_at f b ≡ record { cold = false; number = 0; parameters = []; items = [] }
  no_block = get_or-eq_default f.blocks (record { cold = false; number = 0; parameters = []; items = [] }) l

  pub uses-outside : uses f b ≡ nothing
  uses-outside = ap (λ (x : Block). removing x.parameters (before_all f (instructions_of x) nothing)) no_block

  pub kills-outside : kills f b ≡ nothing
  kills-outside = ap {B = NumberSet} (λ (x : Block) (v : ℕ). has v x.parameters || results (instructions_of x) v) no_block

-- TABLES BLOCK BY BLOCK. The sets of the blocks below n, and nothing from there on.
abbrev pub below : ℕ → (ℕ → NumberSet) → ℕ → NumberSet
below n g b = cond (ltb b n) (g b) nothing

module _ (g : ℕ → NumberSet) where
  pub below_none : (λ _. nothing) ≡ below 0 g
  below_none = λ i b. sym (ap {B = NumberSet} (λ t. cond t (g b) nothing) (le-ltb b 0 (omega arith))) i

  pub below_all : (n : ℕ) → ((b : ℕ) → n ≤ b → g b ≡ nothing) → below n g ≡ g
  below_all n outside = λ i b. each b i
    where
      each : (b : ℕ) → below n g b ≡ g b
      each b =
          test-elim (ltb b n)
          (λ h. ap {B = NumberSet} (λ t. cond t (g b) nothing) (lt-ltb b n (ltb→lt b n h)))
          (λ h.
          let m : n ≤ b = nltb→le b n h in
          ap {B = NumberSet} (λ t. cond t (g b) nothing) (le-ltb b n m) ∙ sym (outside b m))

  -- one block more, whose set is made from nothing
  pub below_more :
      (n : ℕ) (make : NumberSet → NumberSet) (t u : ℕ → NumberSet) → t ≡ below n g → u ≡ update n (make (t n)) t
      → make nothing ≡ g n → u ≡ below (n + 1) g
  below_more n make t u here there made =
      there
      ∙ ap (λ (z : ℕ → NumberSet). update n (make (z n)) z) here
      ∙ ap (λ (z : NumberSet). update n (make z) (below n g)) (ap {B = NumberSet} (λ c. cond c (g n) nothing) (le-ltb n n (omega arith)))
      ∙ ap (λ (z : NumberSet). update n z (below n g)) made
      ∙ (λ i b. each b i)
    where
      each : (b : ℕ) → update n (g n) (below n g) b ≡ below (n + 1) g b
      each b =
          update-elim (λ (z : NumberSet). z ≡ below (n + 1) g b) n (g n) (below n g) b
          (λ e. rw e (sym (ap {B = NumberSet} (λ c. cond c (g n) nothing) (lt-ltb n (n + 1) (omega arith)))))
          (λ other.
          ap {B = NumberSet} (λ c. cond c (g b) nothing)
          (test-elim (ltb b n)
          (λ h. let m : b < n = ltb→lt b n h in lt-ltb b n m ∙ sym (lt-ltb b (n + 1) (omega arith)))
          (λ h. let m : n ≤ b = nltb→le b n h in le-ltb b n m ∙ sym (le-ltb b (n + 1) (omega (arith, neqb→ne b n other))))))
