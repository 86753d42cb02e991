-- The blocks of the rewritten function: they are laid like the file's; and under a block's number its rewritten block is
-- found, under a landing's number that landing.
use Rattle.std.specs.Prelude.{ℕ, ◌≤◌, ◌<◌, ◌≡◌, not, length, get_or, T, eqb}
use Rattle.std.proofs.Common.{arith, sym, ap, subst, ◌∙◌, T_not}
use Rattle.std.proofs.Math.Path.{refl}
use Rattle.std.proofs.Math.Option.{Option, none, some}
use mathlib.Core.List.Memᴰ
use mathlib.Core.List.{List, [], ◌∷◌, ◌++◌, map}
use Rattle.std.proofs.Math.Dec.{not_T}
use Rattle.rules.specs.Lists.{has, concat_map, concat_zip}
use Rattle.rules.specs.Tree.{Edge, Instruction, instruction, Block, Function}
use Rattle.rules.specs.Graph.{block_at, size_of, instructions_of, reachable}
use Rattle.rules.specs.Liveness.{listed_instructions}
use Rattle.rules.specs.Plan.{BlockPlan, planned}
use Rattle.rules.specs.Rewriting.{landings, instruction_items, rewritten_block, slot_number, laid, rewritten}
use Rattle.lists.specs.Tests.{test-elim, if-elim}
use Rattle.lists.specs.Members.{◌∈◌, here, there, not-∈-nil, ∈-elim, has→∈, ∈→has, ∈-concat_map, ∈-concat_map-from}
use Rattle.lists.specs.Maps.{map-map}
use Rattle.walks.specs.InFile.{reachable-in-file}
use Rattle.simulation.specs.Related.{Each, Paired, numbers, IsBlock, at, crossing, Shape, Laid, Lands}
use Rattle.agreement.specs.Entries.{each-paired}
use Rattle.agreement.specs.Plans.{value_limit, BlockNumbered, planned-numbered}
use Rattle.agreement.specs.Landings.{instruction_landings, block_landings, all_landings, landings-between}
use Rattle.agreement.specs.Items.{instructions-shape, block-shape, landing-shape, copied-shape}
use Rattle.agreement.specs.Accepted.{Accepted, found-member, block-by-number, block-number, block-in-file, number-below, edge-fits}
use Rattle.agreement.specs.Layout.{∈-concat_zip-from, ∈-concat_zip, listed-firsts, main_block, laid-planned, laid-copied}

-- landings in front of blocks that are laid like others
landings-laid : {original : List ℕ} {bs bs' : List Block} (ls : List Block)
    → ((l : Block) → l ∈ ls → T (not (has l.number original)) × ((e : Edge) → Shape (crossing e) l.items))
    → Laid original bs bs' → Laid original bs (ls ++ bs')
landings-laid [] h rest = rest
landings-laid (l ∷ ls) h rest =
    Laid.landing l (h l (here refl)).0 (h l (here refl)).1 (landings-laid ls (λ k m. h k (there m)) rest)

module _ (f : Function) (pointer : ℕ) (accepted : Accepted f) where
  -- a reachable block is one of the file
  pub in-file : (b : ℕ) → b ∈ reachable f → b < length f.blocks
  in-file b m = reachable-in-file f accepted.in-file accepted.some_block m

  -- an instruction with its list is one of the block's
  pub listed-instruction : (b : ℕ) (x : Instruction × Option (List ℕ)) → x ∈ listed_instructions f b → x.0 ∈ instructions_of (block_at f b)
  listed-instruction b x m =
      subst (λ (is : List Instruction). x.0 ∈ is) (listed-firsts f b) (Memᴰ.map (λ (x : Instruction × Option (List ℕ)). x.0) m)

  -- the numbers of every reachable block's plan
  pub blocks-numbered : Each (BlockNumbered f (value_limit f pointer)) (reachable f) (planned f pointer).0
  blocks-numbered =
      planned-numbered f pointer (λ b m x k e. edge-fits f accepted b (in-file b m) x.0 (listed-instruction b x k) e)

  -- a landing of a planned block
  module _ (t : ℕ) (n : BlockPlan) (planned-as : Paired t n (reachable f) (planned f pointer).0) where
    pub landing-of-all : (l : Block) → l ∈ block_landings f pointer (size_of f) (slot_number f pointer) t n
        → l ∈ all_landings f pointer (size_of f) (slot_number f pointer)
    landing-of-all l m =
        ∈-concat_zip (block_landings f pointer (size_of f) (slot_number f pointer)) (reachable f) (planned f pointer).0 t n planned-as m

    landing-beyond : (l : Block) → l ∈ block_landings f pointer (size_of f) (slot_number f pointer) t n → length f.blocks ≤ l.number
    landing-beyond l m = ((landings-between f pointer (size_of f) (slot_number f pointer)).inside l (landing-of-all l m)).0

    landing-new : (l : Block) → l ∈ block_landings f pointer (size_of f) (slot_number f pointer) t n → T (not (has l.number (numbers f.blocks)))
    landing-new l m =
        not_T (has l.number (numbers f.blocks))
        (λ h. absurd (omega (arith, landing-beyond l m, number-below f accepted l.number h)))

    -- its items are loads and a jump
    landing-shaped : (l : Block) → l ∈ block_landings f pointer (size_of f) (slot_number f pointer) t n → (e : Edge) → Shape (crossing e) l.items
    landing-shaped l m e =
        let inside = ∈-concat_zip-from (instruction_landings f pointer (size_of f) (slot_number f pointer)) (listed_instructions f t) n.instructions m in
        let edge = ∈-concat_zip-from (landings (size_of f) (slot_number f pointer)) inside.0.0.edges inside.1.edges inside.3 in
        go edge.0 edge.1.landing edge.1.arguments edge.3
      where
        go : (e' : Edge) (landing : Option ℕ) (ns : List (Option ℕ))
            → l ∈ landings (size_of f) (slot_number f pointer) e' (record { landing = landing; arguments = ns }) → Shape (crossing e) l.items
        go e' none ns m = absurd (not-∈-nil m)
        go e' (some b) ns m =
            subst (λ (k : Block). Shape (crossing e) k.items) (sym (Memᴰ.eq_of_singleton m))
            (landing-shape (size_of f) (slot_number f pointer) e e' ns b)

  -- the rewritten block of a block of the file
  main-shaped : (b : Block) → b ∈ f.blocks → (n : BlockPlan) → BlockNumbered f (value_limit f pointer) b.number n
      → Shape (at b.items) (main_block f pointer b (listed_instructions f b.number) n).items
  main-shaped b m n numbered =
      let listed = listed_instructions f b.number in
      let same : map (λ (x : Instruction × Option (List ℕ)). instruction x.0) listed ≡ b.items =
      sym (map-map instruction (λ (x : Instruction × Option (List ℕ)). x.0) listed)
      ∙ ap (map instruction) (listed-firsts f b.number ∙ ap instructions_of (block-by-number f accepted b m).1)
      ∙ sym (accepted.plain b m) in
      block-shape (size_of f) (slot_number f pointer) b.items b.parameters n.parameters
      (concat_zip (instruction_items (size_of f) (slot_number f pointer)) listed n.instructions)
      (subst (λ is. Shape (at is) (concat_zip (instruction_items (size_of f) (slot_number f pointer)) listed n.instructions)) same
      (instructions-shape (size_of f) (slot_number f pointer) f (value_limit f pointer) listed n.instructions numbered.instructions))

  -- the blocks that a block of the file becomes
  abbrev lay : Block → List Block
  lay = laid f pointer (reachable f) (planned f pointer).0

  -- block by block
  blocks-laid : (bs : List Block) → ((b : Block) → b ∈ bs → b ∈ f.blocks) → Laid (numbers f.blocks) bs (concat_map lay bs)
  blocks-laid [] h = Laid.done
  blocks-laid (b ∷ bs) h =
      let rest = blocks-laid bs (λ c m. h c (there m)) in
      let m = h b (here refl) in
      test-elim (has b.number (reachable f))
      (λ t.
      let p = laid-planned f pointer (BlockNumbered f (value_limit f pointer)) (reachable f) (planned f pointer).0 blocks-numbered b (has→∈ (reachable f) t) in
      let n = p.0 in
      subst (λ ls. Laid (numbers f.blocks) (b ∷ bs) (ls ++ concat_map lay bs)) (sym p.2)
      (Laid.block b
      (main-shaped b m n (each-paired (BlockNumbered f (value_limit f pointer)) (reachable f) (planned f pointer).0 blocks-numbered b.number n p.1))
      (landings-laid (block_landings f pointer (size_of f) (slot_number f pointer) b.number n)
      (λ l k. (landing-new b.number n p.1 l k, landing-shaped b.number n p.1 l k)) rest)))
      (λ t.
      subst (λ ls. Laid (numbers f.blocks) (b ∷ bs) (ls ++ concat_map lay bs)) (sym (laid-copied f pointer (reachable f) (planned f pointer).0 b t))
      (Laid.block b (subst (λ is. Shape (at is) is) (sym (accepted.plain b m)) (copied-shape (instructions_of b))) rest))

  -- The rewritten function is laid like the file.
  pub rewritten-laid : Laid (numbers f.blocks) f.blocks (rewritten f pointer).blocks
  unfolding rewritten
  rewritten-laid = blocks-laid f.blocks (λ b m. m)

  -- its first block has the parameters of the file's
  lay-first : (xs : List ℕ) (ns : List BlockPlan) (b d : Block) (rest : List Block)
      → (get_or (laid f pointer xs ns b ++ rest) 0 d).parameters ≡ b.parameters
  lay-first [] ns b d rest = refl
  lay-first (x ∷ xs) [] b d rest = refl
  lay-first (x ∷ xs) (n ∷ ns) b d rest =
      if-elim (λ (ls : List Block). (get_or (ls ++ rest) 0 d).parameters ≡ b.parameters) (eqb x b.number)
      (rewritten_block (size_of f) (slot_number f pointer) b (listed_instructions f x) n) (laid f pointer xs ns b)
      (λ _. refl) (λ _. lay-first xs ns b d rest)

  pub rewritten-first : (block_at (rewritten f pointer) 0).parameters ≡ (block_at f 0).parameters
  unfolding rewritten
  rewritten-first = go f.blocks
    where
      go : (bs : List Block)
          → (block_at (record { values = []; slots = []; blocks = concat_map lay bs }) 0).parameters
          ≡ (block_at (record { values = []; slots = []; blocks = bs }) 0).parameters
      go [] = refl
      go (b ∷ bs) = lay-first (reachable f) (planned f pointer).0 b _ (concat_map lay bs)

  -- FOUND
  abbrev pub landings_of : ℕ → BlockPlan → List Block
  landings_of t n = block_landings f pointer (size_of f) (slot_number f pointer) t n

  -- block t is laid out by this plan
  abbrev pub LaidBy : ℕ → BlockPlan → Type 0
  LaidBy t n =
      Paired t n (reachable f) (planned f pointer).0
      × (lay (block_at f t) ≡ main_block f pointer (block_at f t) (listed_instructions f t) n ∷ landings_of t n)

  -- what stands in the rewritten function: a block of the file, by its plan or copied, or a landing
  pub data Standing (b' : Block) : Type 0 where
    main : (t : ℕ) (n : BlockPlan) → t < length f.blocks → LaidBy t n
        → b' ≡ main_block f pointer (block_at f t) (listed_instructions f t) n → Standing b'
    copied : (t : ℕ) → t < length f.blocks → T (not (has t (reachable f))) → b' ≡ block_at f t → Standing b'
    landing : (t : ℕ) (n : BlockPlan) → Paired t n (reachable f) (planned f pointer).0 → b' ∈ landings_of t n → Standing b'

  standing-in : (b b' : Block) → b ∈ f.blocks → b' ∈ lay b → Standing b'
  standing-in b b' m k =
      let here-at = block-by-number f accepted b m in
      let t = b.number in
      test-elim (has t (reachable f))
      (λ r.
      let p = laid-planned f pointer (BlockNumbered f (value_limit f pointer)) (reachable f) (planned f pointer).0 blocks-numbered b (has→∈ (reachable f) r) in
      let n = p.0 in
      let by : LaidBy t n = (
        p.1,
        subst (λ (c : Block). lay c ≡ main_block f pointer c (listed_instructions f t) n ∷ landings_of t n) (sym here-at.1) p.2,
      ) in
      ∈-elim
      (λ e. main t n here-at.0 by (e ∙ ap (λ (c : Block). main_block f pointer c (listed_instructions f t) n) (sym here-at.1)))
      (λ l. landing t n p.1 l)
      (subst (◌∈◌ b') p.2 k))
      (λ r.
      let alone = subst (◌∈◌ b') (laid-copied f pointer (reachable f) (planned f pointer).0 b r) k in
      copied t here-at.0 r (Memᴰ.eq_of_singleton alone ∙ sym here-at.1))

  -- every block of the rewritten function is one of these
  pub standing : (b' : Block) → b' ∈ (rewritten f pointer).blocks → Standing b'
  unfolding rewritten
  standing b' m =
      let from = ∈-concat_map-from lay f.blocks m in
      standing-in from.0 b' from.1 from.2

  -- Under a reachable block's number its rewritten block is found.
  pub found-main : (t : ℕ) → t ∈ reachable f → (b' : Block) → IsBlock (rewritten f pointer) t b'
      → (n : BlockPlan) × LaidBy t n × (b' ≡ main_block f pointer (block_at f t) (listed_instructions f t) n)
  found-main t r b' k =
      let at = found-member 0 t (rewritten f pointer).blocks (k.0, b') k.1 in
      go at.1 (standing b' at.0)
    where
      go : b'.number ≡ t → Standing b'
          → (n : BlockPlan) × LaidBy t n × (b' ≡ main_block f pointer (block_at f t) (listed_instructions f t) n)
      go e (main u n l by same) =
          let number : u ≡ t = sym (block-number f accepted u l) ∙ sym (ap (λ (c : Block). c.number) same) ∙ e in
          subst (λ y. (n : BlockPlan) × LaidBy y n × (b' ≡ main_block f pointer (block_at f y) (listed_instructions f y) n)) number (n, by, same)
      go e (copied u l other same) =
          let number : u ≡ t = sym (block-number f accepted u l) ∙ sym (ap (λ (c : Block). c.number) same) ∙ e in
          absurd (T_not (has u (reachable f)) other (subst (λ y. T (has y (reachable f))) (sym number) (∈→has r)))
      go e (landing u n by m) = absurd (omega (arith, e, landing-beyond u n by b' m, in-file t r))

  -- Under a landing's number that landing is found, and no block of the file has it.
  module _ (t : ℕ) (inside : t < length f.blocks) (n : BlockPlan) (by : LaidBy t n) (l : Block) (m : l ∈ landings_of t n) where
    landing-stands : l ∈ (rewritten f pointer).blocks
    unfolding rewritten
    landing-stands = ∈-concat_map lay (block-in-file f accepted t inside) (subst (◌∈◌ l) (sym by.1) (there m))

    -- an edge to it lands
    pub lands : (e' : Edge) → e'.target ≡ l.number → Lands f (rewritten f pointer) e'
    lands e' same =
        record {
          new = subst (λ c. T (not (has c (numbers f.blocks)))) (sym same) (landing-new t n by.0 l m);
          in-file = subst (λ c. T (has c (numbers (rewritten f pointer).blocks))) (sym same) (∈→has (Memᴰ.map (λ (b : Block). b.number) landing-stands));
        }

    -- and finds it
    pub found-landing : (c : ℕ) → c ≡ l.number → (l' : Block) → IsBlock (rewritten f pointer) c l' → l' ≡ l
    found-landing c same l' k =
        let at = found-member 0 c (rewritten f pointer).blocks (k.0, l') k.1 in
        go (at.1 ∙ same) (standing l' at.0)
      where
        go : l'.number ≡ l.number → Standing l' → l' ≡ l
        go e (main u k low _ same) =
            let number : l'.number ≡ u = ap (λ (c : Block). c.number) same ∙ block-number f accepted u low in
            absurd (omega (arith, e, number, low, landing-beyond t n by.0 l m))
        go e (copied u low _ same) =
            let number : l'.number ≡ u = ap (λ (c : Block). c.number) same ∙ block-number f accepted u low in
            absurd (omega (arith, e, number, low, landing-beyond t n by.0 l m))
        go e (landing u k paired m') =
            (landings-between f pointer (size_of f) (slot_number f pointer)).apart l' l (landing-of-all u k paired l' m')
            (landing-of-all t n by.0 l m) e
