-- What holds of the tree of an accepted file: where its blocks stand, what its edges lead to, and where an edge may be.
use Rattle.std.specs.Prelude.{ℕ, zero, suc, ◌+◌, ◌<◌, ◌≡◌, refl, Bool, true, false, not, ◌&&◌, ◌||◌, cond, List, [], ◌∷◌, ◌++◌, map, length, get_or, T, ltb, eqb}
use Rattle.std.proofs.Common.{arith, sym, ap, subst, ◌∙◌, T_not, ltb→lt, eqb→eq}
use Rattle.std.proofs.Math.Option.{Option, some, some-injective, none-ne-some}
use mathlib.Core.List.Memᴰ
use Rattle.rules.specs.Lists.{all, empty, concat_map, has}
use Rattle.rules.specs.Tree.{Edge, Instruction, instruction, Block, Function}
use Rattle.rules.specs.Graph.{block_at, size_of, instructions_of, values_passed, successors}
use Rattle.rules.specs.Refusals.{numbered_from, all_instructions, all_edges, definitions, uses, numbers_in_file, ends_once, fit}
use Rattle.rules.specs.Refusals.{safepoint_terminator, only_values, sound_edge, sound_instruction, sound}
use Rattle.rules.specs.declared.EdgeArgument.{EdgeArgument}
use Rattle.rules.specs.declared.EdgeArgument.TheVariants as passes
use Rattle.lists.specs.Tests.{T_and, and_left, and_right}
use Rattle.lists.specs.Members.{◌∈◌, here, there, not-∈-nil, ∈-elim, all→∈, get_d-∈, ∈-concat_map, has→∈, ∈→has}
use Rattle.walks.specs.InFile.{successor-in-file}
use Rattle.simulation.specs.Related.{numbers, found, IsBlock}
use Rattle.simulation.specs.Blocks.{instructions_in}
use Rattle.agreement.specs.Plans.{Fits}

-- a tree that reading gives of a file which no refusal from 4 to 7 applies to
pub record Accepted (f : Function) : Type 0 where
  pub some_block : 0 < length f.blocks
  pub numbered : T (numbered_from 0 f.blocks)
  pub in-file : T (numbers_in_file f)
  pub is-sound : T (sound f)
  pub plain : (b : Block) → b ∈ f.blocks → b.items ≡ map instruction (instructions_of b)

-- BLOCKS BY NUMBER
-- a block that is found stands there, and has that number
pub found-member : (k t : ℕ) (bs : List Block) (r : ℕ × Block) → found k t bs ≡ some r → (r.1 ∈ bs) × (r.1.number ≡ t)
found-member k t [] r e = absurd (none-ne-some r e)
found-member k t (b ∷ bs) r e = go (eqb b.number t) (eqb→eq b.number t) e (found-member (k + instructions_in b.items) t bs r)
  where
    go : (c : Bool) → (T c → b.number ≡ t)
        → ◌≡◌ {A = Option (ℕ × Block)} (elim c [ true ↦ some (k, b) | false ↦ found (k + instructions_in b.items) t bs ]) (some r)
        → (found (k + instructions_in b.items) t bs ≡ some r → (r.1 ∈ bs) × (r.1.number ≡ t))
        → (r.1 ∈ (b ∷ bs)) × (r.1.number ≡ t)
    go true q e later =
        let same : b ≡ r.1 = ap (λ (x : ℕ × Block). x.1) (some-injective (k, b) r e) in
        (here (sym same), ap (λ (x : Block). x.number) (sym same) ∙ q tt)
    go false q e later = let h = later e in (there h.0, h.1)

-- a block that has its position for number, from n on
numbered-at : (n : ℕ) (bs : List Block) (d : Block) → T (numbered_from n bs) → (b : Block) → b ∈ bs
    → (j : ℕ) × (j < length bs) × (b.number ≡ n + j) × (get_or bs j d ≡ b)
numbered-at n [] d t b m = absurd (not-∈-nil m)
numbered-at n (x ∷ bs) d t b m =
    let both = T_and (eqb x.number n) (numbered_from (suc n) bs) t in
    ∈-elim
    (λ e.
    let at : b.number ≡ n = ap (λ (y : Block). y.number) e ∙ eqb→eq x.number n both.0 in
    (0, omega arith, omega (arith, at), sym e))
    (λ k.
    let rest = numbered-at (suc n) bs d both.1 b k in
    (suc rest.0, omega (arith, rest.1), omega (arith, rest.2), rest.3))
    m

numbered-get_d : (n : ℕ) (bs : List Block) (d : Block) → T (numbered_from n bs) → (j : ℕ) → j < length bs → (get_or bs j d).number ≡ n + j
numbered-get_d n [] d t j l = absurd (omega arith)
numbered-get_d n (x ∷ bs) d t zero l =
    let at = eqb→eq x.number n (and_left (eqb x.number n) (numbered_from (suc n) bs) t) in
    let plus : n ≡ n + 0 = omega arith in
    at ∙ plus
numbered-get_d n (x ∷ bs) d t (suc j) l =
    let later = numbered-get_d (suc n) bs d (and_right (eqb x.number n) (numbered_from (suc n) bs) t) j (omega arith) in
    let plus : suc n + j ≡ n + suc j = omega arith in
    later ∙ plus

-- as many arguments as parameters
fit_length : (f : Function) (xs : List EdgeArgument) (ps : List ℕ) → T (fit f xs ps) → length xs ≡ length ps
fit_length f [] [] t = refl
fit_length f [] (_ ∷ _) t = absurd t
fit_length f (passes.Value v ∷ xs) [] t = absurd t
fit_length f (passes.Returned k ∷ xs) [] t = absurd t
fit_length f (passes.Exception k ∷ xs) [] t = absurd t
fit_length f (passes.Value v ∷ xs) (p ∷ ps) t = ap suc (fit_length f xs ps (and_right (eqb (size_of f v) (size_of f p)) (fit f xs ps) t))
fit_length f (passes.Returned k ∷ xs) (p ∷ ps) t = ap suc (fit_length f xs ps t)
fit_length f (passes.Exception k ∷ xs) (p ∷ ps) t = ap suc (fit_length f xs ps t)

-- an empty list has no member
empty-nil : {A : Type 0} (xs : List A) → T (empty xs) → xs ≡ []
empty-nil [] t = refl
empty-nil (x ∷ xs) t = absurd t

-- nothing stands behind a terminator
ends_last : (earlier : List Instruction) (i : Instruction) (later : List Instruction)
    → T (ends_once (earlier ++ (i ∷ later))) → T i.terminator → later ≡ []
ends_last [] i [] t h = refl
ends_last [] i (j ∷ later) t h = absurd (T_not i.terminator (and_left (not i.terminator) (ends_once (j ∷ later)) t) h)
ends_last (e ∷ []) i later t h = ends_last [] i later (and_right (not e.terminator) (ends_once (i ∷ later)) t) h
ends_last (e ∷ x ∷ earlier) i later t h =
    ends_last (x ∷ earlier) i later (and_right (not e.terminator) (ends_once (x ∷ (earlier ++ (i ∷ later)))) t) h

-- a terminator has no results, and another no edges and no contexts
abbrev ends : Instruction → Bool
ends i = cond i.terminator (empty i.results) (empty i.edges && empty i.contexts)

module _ (f : Function) (accepted : Accepted f) where
  abbrev nowhere : Block
  nowhere = record { cold = false; number = 0; parameters = []; items = [] }

  -- a block of the file is the block of its number
  pub block-by-number : (b : Block) → b ∈ f.blocks → (b.number < length f.blocks) × (block_at f b.number ≡ b)
  block-by-number b m =
      let at = numbered-at 0 f.blocks nowhere accepted.numbered b m in
      let same : b.number ≡ at.0 = omega (arith, at.2) in
      (omega (arith, at.1), ap (λ j. get_or f.blocks j nowhere) same ∙ at.3)

  -- and every number of the file has one
  pub block-number : (t : ℕ) → t < length f.blocks → (block_at f t).number ≡ t
  block-number t l = let at = numbered-get_d 0 f.blocks nowhere accepted.numbered t l in omega (arith, at)

  -- block t stands in the file
  pub block-in-file : (t : ℕ) → t < length f.blocks → block_at f t ∈ f.blocks
  block-in-file t l = get_d-∈ f.blocks t nowhere l

  -- what is found under a number is the block of that number
  pub is-block-at : (t : ℕ) (b : Block) → IsBlock f t b → b ≡ block_at f t
  is-block-at t b k =
      let at = found-member 0 t f.blocks (k.0, b) k.1 in
      sym (block-by-number b at.0).1 ∙ ap (block_at f) at.1

  -- the numbers of the file's blocks
  pub number-below : (t : ℕ) → T (has t (numbers f.blocks)) → t < length f.blocks
  number-below t h =
      let at = Memᴰ.of_map (λ (b : Block). b.number) f.blocks (has→∈ (numbers f.blocks) h) in
      subst (λ n. n < length f.blocks) at.2 (block-by-number at.0 at.1).0

  -- and each number below their count is one of theirs
  pub below-number : (t : ℕ) → t < length f.blocks → T (has t (numbers f.blocks))
  below-number t l =
      subst (λ n. T (has n (numbers f.blocks))) (block-number t l) (∈→has (Memᴰ.map (λ (b : Block). b.number) (block-in-file t l)))

  -- a value that is defined is one of the file
  definition-in-file : (v : ℕ) → v ∈ definitions f → v < length f.values
  definition-in-file v m =
      let below : ℕ → Bool = λ w. ltb w (length f.values) in
      ltb→lt v (length f.values)
      (all→∈ below (definitions f ++ uses f)
      (and_left (all below (definitions f ++ uses f)) (all (λ e. ltb e.target (length f.blocks)) (all_edges f)) accepted.in-file)
      (Memᴰ.append_left (uses f) m))

  -- and so is one that is used
  use-in-file : (v : ℕ) → v ∈ uses f → v < length f.values
  use-in-file v m =
      let below : ℕ → Bool = λ w. ltb w (length f.values) in
      ltb→lt v (length f.values)
      (all→∈ below (definitions f ++ uses f)
      (and_left (all below (definitions f ++ uses f)) (all (λ e. ltb e.target (length f.blocks)) (all_edges f)) accepted.in-file)
      (Memᴰ.append_right (definitions f) m))

  -- INSTRUCTIONS of a block of the file
  module _ (b : ℕ) (inside : b < length f.blocks) where
    -- it is sound
    pub instruction-sound : (i : Instruction) → i ∈ instructions_of (block_at f b) → T (sound_instruction f i)
    instruction-sound i m =
        all→∈ (sound_instruction f) (all_instructions f)
        (and_right (all (λ b. ends_once (instructions_of b)) f.blocks) (all (sound_instruction f) (all_instructions f)) accepted.is-sound)
        (∈-concat_map instructions_of (block-in-file b inside) m)

    -- its edges are sound
    pub edge-sound : (i : Instruction) → i ∈ instructions_of (block_at f b) → (e : Edge) → e ∈ i.edges → T (sound_edge f i e)
    edge-sound i m e k =
        all→∈ (sound_edge f i) i.edges
        (and_right (ends i && (safepoint_terminator i || empty i.contexts)) (all (sound_edge f i) i.edges) (instruction-sound i m)) k

    -- so they fit their targets
    pub edge-fits : (i : Instruction) → i ∈ instructions_of (block_at f b) → (e : Edge) → e ∈ i.edges → Fits f e
    edge-fits i m e k =
        let fits = fit f e.arguments (block_at f e.target).parameters in
        fit_length f e.arguments (block_at f e.target).parameters
        (and_right (not (eqb e.target 0) && (safepoint_terminator i || only_values e.arguments)) fits (edge-sound i m e k))

    -- and lead to successors, which are in the file
    pub edge-successor : (i : Instruction) → i ∈ instructions_of (block_at f b) → (e : Edge) → e ∈ i.edges → e.target ∈ successors f b
    edge-successor i m e k = Memᴰ.map (λ (e : Edge). e.target) (∈-concat_map (λ (i : Instruction). i.edges) m k)

    pub edge-in-file : (i : Instruction) → i ∈ instructions_of (block_at f b) → (e : Edge) → e ∈ i.edges → e.target < length f.blocks
    edge-in-file i m e k = successor-in-file f accepted.in-file b (edge-successor i m e k)

    -- an instruction with an edge has no results, and is the last one
    pub edge-results : (i : Instruction) → i ∈ instructions_of (block_at f b) → (e : Edge) → e ∈ i.edges → T i.terminator × (i.results ≡ [])
    edge-results i m e k =
        go i.terminator
        (and_left (ends i) (safepoint_terminator i || empty i.contexts)
        (and_left (ends i && (safepoint_terminator i || empty i.contexts)) (all (sound_edge f i) i.edges) (instruction-sound i m)))
      where
        go : (c : Bool) → T (cond c (empty i.results) (empty i.edges && empty i.contexts)) → T c × (i.results ≡ [])
        go true t = (tt, empty-nil i.results t)
        go false t =
            absurd (not-∈-nil (subst (◌∈◌ e) (empty-nil i.edges (and_left (empty i.edges) (empty i.contexts) t)) k))

    -- nothing stands behind it
    pub edge-last : (earlier : List Instruction) (i : Instruction) (later : List Instruction)
        → instructions_of (block_at f b) ≡ earlier ++ (i ∷ later) → (e : Edge) → e ∈ i.edges → later ≡ []
    edge-last earlier i later split e k =
        let m : i ∈ instructions_of (block_at f b) = subst (◌∈◌ i) (sym split) (Memᴰ.append_right earlier (here refl)) in
        let ends =
        all→∈ (λ (b : Block). ends_once (instructions_of b)) f.blocks
        (and_left (all (λ b. ends_once (instructions_of b)) f.blocks) (all (sound_instruction f) (all_instructions f)) accepted.is-sound)
        (block-in-file b inside) in
        ends_last earlier i later (subst (λ is. T (ends_once is)) split ends) (edge-results i m e k).0

    -- VALUES
    pub parameter-in-file : (v : ℕ) → v ∈ (block_at f b).parameters → v < length f.values
    parameter-in-file v m =
        definition-in-file v (Memᴰ.append_left (concat_map (λ i. i.results) (all_instructions f))
        (∈-concat_map (λ (b : Block). b.parameters) (block-in-file b inside) m))

    -- a result is a value of the file
    pub result-in-file : (i : Instruction) → i ∈ instructions_of (block_at f b) → (v : ℕ) → v ∈ i.results → v < length f.values
    result-in-file i m v k =
        definition-in-file v (Memᴰ.append_right (concat_map (λ b. b.parameters) f.blocks)
        (∈-concat_map (λ (i : Instruction). i.results) (∈-concat_map instructions_of (block-in-file b inside) m) k))

    -- an operand is a value of the file
    operand-in-file : (i : Instruction) → i ∈ instructions_of (block_at f b) → (v : ℕ) → v ∈ (i.arguments ++ (values_passed i ++ i.contexts))
        → v < length f.values
    operand-in-file i m v k =
        use-in-file v
        (∈-concat_map (λ (i : Instruction). i.arguments ++ (values_passed i ++ i.contexts)) (∈-concat_map instructions_of (block-in-file b inside) m) k)

    -- so is an argument, a value passed, and a context
    pub argument-in-file : (i : Instruction) → i ∈ instructions_of (block_at f b) → (v : ℕ) → v ∈ i.arguments → v < length f.values
    argument-in-file i m v k = operand-in-file i m v (Memᴰ.append_left (values_passed i ++ i.contexts) k)

    pub passed-in-file : (i : Instruction) → i ∈ instructions_of (block_at f b) → (v : ℕ) → v ∈ values_passed i → v < length f.values
    passed-in-file i m v k = operand-in-file i m v (Memᴰ.append_right i.arguments (Memᴰ.append_left i.contexts k))

    pub context-in-file : (i : Instruction) → i ∈ instructions_of (block_at f b) → (v : ℕ) → v ∈ i.contexts → v < length f.values
    context-in-file i m v k = operand-in-file i m v (Memᴰ.append_right i.arguments (Memᴰ.append_right (values_passed i) k))
