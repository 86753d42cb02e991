-- Every block of the rewritten function has words for numbers: a rewritten one, a copied one, and a landing.
use Rattle.std.specs.Prelude.{ℕ, suc, ◌<◌, refl, true, not, List, [], ◌∷◌, length}
use Rattle.std.proofs.Common.{arith, sym, ap, subst, ◌∙◌, ⊎_elim, append-nil}
use Rattle.std.proofs.Math.Option.{Option, none, some}
use mathlib.Core.List.Memᴰ
use Rattle.rules.specs.Lists.{is_none, or_else, zip_with, concat_zip}
use Rattle.rules.specs.Tree.{Edge, MapEntry, Instruction, Item, instruction, Block, Function}
use Rattle.rules.specs.Graph.{block_at, size_of, instructions_of, reachable}
use Rattle.rules.specs.Liveness.{listed_instructions}
use Rattle.rules.specs.Plan.{Made, EdgePlan, InstructionPlan, BlockPlan, planned}
use Rattle.rules.specs.Rewriting.{edge_to, rewritten_edge, store_items, edge_load_items, landing_of, landings, map_entry}
use Rattle.rules.specs.Rewriting.{rewritten_instruction, instruction_items, slot_number, rewritten}
use Rattle.lists.specs.Members.{◌∈◌, here, there, not-∈-nil, ∈-elim}
use Rattle.records.specs.Writing.{IsWord}
use Rattle.simulation.specs.Related.{Paired}
use Rattle.agreement.specs.Entries.{each-paired}
use Rattle.agreement.specs.Plans.{loaded, edge_loaded, loaded_before, numbered-ascending, value_limit, EdgeNumbered, InstructionNumbered, BlockNumbered}
use Rattle.agreement.specs.Landings.{instruction_landings, landings-between}
use Rattle.agreement.specs.Items.{loads_of, operands-loads, items-in-order}
use Rattle.agreement.specs.Accepted.{Accepted, block-number, block-in-file, edge-in-file, parameter-in-file, result-in-file}
use Rattle.agreement.specs.Layout.{∈-concat_zip, ∈-concat_zip-from, paired-first, main_block}
use Rattle.agreement.specs.Rewritten.{in-file, listed-instruction, blocks-numbered, landings_of, Standing, main, copied, landing, standing, landing-of-all}
use Rattle.demand3.specs.Fine.{FineEdge, FineInstruction, FineItem, FineBlock}
use Rattle.demand3.specs.Writable.{SmallPlan, ascending-below, operand-from, words-among, own-word, loads-fine, stores-fine, passed-fine, landed-fine, parameters-fine}

module _ (f : Function) (pointer : ℕ) (accepted : Accepted f) (small : SmallPlan f pointer) where
  abbrev limit : ℕ
  limit = value_limit f pointer

  -- a block's number of the file
  own-number : (t : ℕ) → t < length f.blocks → IsWord t
  own-number t l = small.blocks t (omega (arith, l, small.own-blocks))

  module _ (t : ℕ) (n : BlockPlan) (by : Paired t n (reachable f) (planned f pointer).0) where
    inside : t < length f.blocks
    inside = in-file f pointer accepted t (paired-first (reachable f) (planned f pointer).0 t n by)

    numbered : BlockNumbered f limit t n
    numbered = each-paired (BlockNumbered f limit) (reachable f) (planned f pointer).0 (blocks-numbered f pointer accepted) t n by

    -- a landing's number
    landing-number : (l : Block) → l ∈ landings_of f pointer accepted t n → IsWord l.number
    landing-number l m =
        small.blocks l.number ((landings-between f pointer (size_of f) (slot_number f pointer)).inside l (landing-of-all f pointer accepted t n by l m)).1

    -- ONE INSTRUCTION with its plan
    module _ (x : Instruction × Option (List ℕ)) (m : InstructionPlan) (pair : Paired x m (listed_instructions f t) n.instructions) where
      abbrev i : Instruction
      i = x.0

      stands : i ∈ instructions_of (block_at f t)
      stands = listed-instruction f pointer accepted t x (paired-first (listed_instructions f t) n.instructions x m pair)

      own : FineInstruction i
      own = small.own t inside i stands

      instruction-numbered : InstructionNumbered f limit x m
      instruction-numbered = each-paired (InstructionNumbered f limit) (listed_instructions f t) n.instructions numbered.instructions x m pair

      -- what is loaded before it is below the limit
      loaded_word : (l : ℕ × ℕ) → l ∈ loaded_before i m → IsWord (suc l.1)
      loaded_word l k =
          let loads = instruction-numbered.loads in
          let below = ascending-below instruction-numbered.first loads.0 (loaded_before i m) loads.1 l k in
          small.numbers (suc l.1) (omega (arith, below, loads.2))

      module _ (e : Edge) (k : e ∈ i.edges) where
        target-word : IsWord e.target
        target-word = own-number e.target (edge-in-file f accepted t inside i stands e k)

        -- an edge, with its landing or without, and the landing
        edge-fine : (c : Option ℕ) (ns : List Made) → Paired e (record { landing = c; arguments = ns }) i.edges m.edges → FineEdge (edge_to c e ns)
        edge-fine none ns p =
            let h = each-paired (EdgeNumbered f limit (not (is_none x.1))) i.edges m.edges instruction-numbered.edges e _ p in
            record { target = target-word; arguments = passed-fine f pointer accepted small h.0 h.1 e.arguments ns h.3.0 h.4 (own.edges e k).arguments }
        edge-fine (some c) ns p =
            let l = landing_of (size_of f) (slot_number f pointer) e ns c in
            let laid : l ∈ landings_of f pointer accepted t n =
            ∈-concat_zip (instruction_landings f pointer (size_of f) (slot_number f pointer)) (listed_instructions f t) n.instructions x m pair
            (∈-concat_zip (landings (size_of f) (slot_number f pointer)) i.edges m.edges e _ p (here refl)) in
            record { target = landing-number l laid; arguments = λ y q. (own.edges e k).arguments y (words-among e.arguments y q) }

        landing-fine : (c : ℕ) (ns : List Made) → Paired e (record { landing = some c; arguments = ns }) i.edges m.edges
            → IsWord c → FineBlock (landing_of (size_of f) (slot_number f pointer) e ns c)
        landing-fine c ns p number =
            let h = each-paired (EdgeNumbered f limit (not (is_none x.1))) i.edges m.edges instruction-numbered.edges e _ p in
            let xs = e.arguments in
            record {
              number = number;
              parameters = parameters-fine f pointer accepted small h.0 h.1 xs ns h.3 h.4;
              items = λ y q.
                  ⊎_elim
                  (λ r.
                  loads-fine f pointer accepted small h.0 h.1 (loaded xs ns) (numbered-ascending f true h.0 h.1 xs ns h.3) h.4 y
                  (subst (◌∈◌ y) (operands-loads (size_of f) (slot_number f pointer) xs ns) r))
                  (λ r.
                  subst FineItem (sym (Memᴰ.eq_of_singleton r))
                  (record {
                    target = target-word;
                    arguments = landed-fine f pointer accepted small h.0 h.1 xs ns h.3 h.4 (own.edges e k).arguments;
                  }))
                  (Memᴰ.append_cases (concat_zip (edge_load_items (size_of f) (slot_number f pointer)) xs ns) q);
            }

      edges-fine : (es : List Edge) (ks : List EdgePlan) → ((e : Edge) (k : EdgePlan) → Paired e k es ks → FineEdge (rewritten_edge e k))
          → (y : Edge) → y ∈ zip_with rewritten_edge es ks → FineEdge y
      edges-fine [] ks h y q = absurd (not-∈-nil q)
      edges-fine (e ∷ es) [] h y q = absurd (not-∈-nil q)
      edges-fine (e ∷ es) (k ∷ ks) h y q =
          ∈-elim (λ r. subst FineEdge (sym r) (h e k (here refl))) (edges-fine es ks (λ e' k' p. h e' k' (there p)) y) q

      rewritten-fine : FineInstruction (rewritten_instruction (size_of f) (slot_number f pointer) i (or_else [] x.1) m)
      rewritten-fine =
          record {
            tag = own.tag;
            arguments = λ v q.
                ⊎_elim (own.arguments v)
                (λ l.
                subst IsWord (sym l.2) (loaded_word l.0 (Memᴰ.append_left (concat_zip edge_loaded i.edges m.edges) l.1)))
                (operand-from i.arguments m.arguments v q);
            results = own.results;
            edges = edges-fine i.edges m.edges
                (λ e k p. edge-fine e (paired-first i.edges m.edges e k p) k.landing k.arguments p);
            contexts = own.contexts;
            entries = λ y q.
                let v = Memᴰ.of_map (map_entry (size_of f) (slot_number f pointer)) (or_else [] x.1) q in
                subst (λ (z : MapEntry). IsWord z.slot × IsWord z.size) v.2 (small.slots v.0, small.sizes v.0);
          }

      -- its items
      items-fine : (y : Item) → y ∈ instruction_items (size_of f) (slot_number f pointer) x m → FineItem y
      items-fine y q =
          let items = instruction_items (size_of f) (slot_number f pointer) x m in
          let loads = instruction-numbered.loads in
          let ordered = subst (◌∈◌ y) (sym (append-nil items) ∙ items-in-order (size_of f) (slot_number f pointer) x m []) q in
          let stores = concat_zip (store_items (size_of f) (slot_number f pointer)) i.results m.results in
          ⊎_elim (loads-fine f pointer accepted small instruction-numbered.first loads.0 (loaded_before i m) loads.1 loads.2 y)
          (∈-elim (λ e. subst FineItem (sym e) rewritten-fine)
          (λ r.
          ⊎_elim
          (stores-fine f pointer accepted small i.results m.results instruction-numbered.results (result-in-file f accepted t inside i stands) y)
          (λ z. absurd (not-∈-nil z)) (Memᴰ.append_cases stores r)))
          (Memᴰ.append_cases (loads_of (size_of f) (slot_number f pointer) (loaded_before i m)) ordered)

    -- BLOCKS
    main-fine : FineBlock (main_block f pointer (block_at f t) (listed_instructions f t) n)
    main-fine =
        let b = block_at f t in
        record {
          number = subst IsWord (sym (block-number f accepted t inside)) (own-number t inside);
          parameters = λ v m. own-word f pointer accepted small v (parameter-in-file f accepted t inside v m);
          items = λ y q.
              ⊎_elim
              (stores-fine f pointer accepted small b.parameters n.parameters numbered.parameters (parameter-in-file f accepted t inside) y)
              (λ r.
              let from = ∈-concat_zip-from (instruction_items (size_of f) (slot_number f pointer)) (listed_instructions f t) n.instructions r in
              items-fine from.0 from.1 from.2 y from.3)
              (Memᴰ.append_cases (concat_zip (store_items (size_of f) (slot_number f pointer)) b.parameters n.parameters) q);
        }

    -- its landings
    landings-fine : (l : Block) → l ∈ landings_of f pointer accepted t n → FineBlock l
    landings-fine l q =
        let inner = ∈-concat_zip-from (instruction_landings f pointer (size_of f) (slot_number f pointer)) (listed_instructions f t) n.instructions q in
        let edge = ∈-concat_zip-from (landings (size_of f) (slot_number f pointer)) inner.0.0.edges inner.1.edges inner.3 in
        go inner.0 inner.1 inner.2 edge.0 edge.1.landing edge.1.arguments edge.2 edge.3
      where
        go : (x : Instruction × Option (List ℕ)) (m : InstructionPlan) → Paired x m (listed_instructions f t) n.instructions
            → (e : Edge) (c : Option ℕ) (ns : List Made) → Paired e (record { landing = c; arguments = ns }) x.0.edges m.edges
            → l ∈ landings (size_of f) (slot_number f pointer) e (record { landing = c; arguments = ns }) → FineBlock l
        go x m pair e none ns p r = absurd (not-∈-nil r)
        go x m pair e (some c) ns p r =
            let same = Memᴰ.eq_of_singleton r in
            subst FineBlock (sym same)
            (landing-fine x m pair e (paired-first x.0.edges m.edges e _ p) c ns p
            (subst IsWord (ap (λ (b : Block). b.number) same) (landing-number l q)))

  -- a block that is copied
  copied-fine : (t : ℕ) → t < length f.blocks → FineBlock (block_at f t)
  copied-fine t inside =
      let b = block_at f t in
      record {
        number = subst IsWord (sym (block-number f accepted t inside)) (own-number t inside);
        parameters = λ v m. own-word f pointer accepted small v (parameter-in-file f accepted t inside v m);
        items = λ y q.
            let i = Memᴰ.of_map instruction (instructions_of b) (subst (◌∈◌ y) (accepted.plain b (block-in-file f accepted t inside)) q) in
            subst FineItem i.2 (small.own t inside i.0 i.1);
      }

  -- Every block is one of these.
  pub blocks-fine : (b : Block) → b ∈ (rewritten f pointer).blocks → FineBlock b
  blocks-fine b m = go (standing f pointer accepted b m)
    where
      go : Standing f pointer accepted b → FineBlock b
      go (main t n l by same) = subst FineBlock (sym same) (main-fine t n by.0)
      go (copied t l other same) = subst FineBlock (sym same) (copied-fine t l)
      go (landing t n by q) = landings-fine t n by b q
