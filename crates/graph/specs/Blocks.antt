-- The block table: the place of each block's record, and behind the last the number of records. Block b is what stands
-- from place b to the next, and each of its parts is read off the records there.
use Prim.Native.Nat.{ℕ, zero, suc, ◌<◌, ◌≤◌}
use Rattle.std.specs.Prelude.{◌≡◌, refl}
use Rattle.std.proofs.Math.Path.{sym, ap}
use Rattle.std.proofs.Common.{◌∙◌, subst, arith, eqb→eq}
use Rattle.std.proofs.Math.Bool.{Bool}
use mathlib.Core.List.{List, [], ◌∷◌, ◌++◌, map}
use Rattle.std.proofs.Math.ListN.{length, get_or, length-map, get_or-append}
use Rattle.std.proofs.Math.Dec.{T, eqb}
use Rattle.rules.specs.Tree.{Edge, Instruction, Block}
use Rattle.rules.specs.Records.{kind, record_at, record_count, records}
use Rattle.rules.specs.File.{ordered, Section, Cut, cut, named, instruction_of, opens_item, block_of, function, function_in}
use Rattle.rules.specs.Graph.{block_at, instructions_of, edges_out, successors}
use Rattle.rules.specs.declared.Record.{Record}
use Rattle.rules.specs.Lists.{concat_map}
use Rattle.lists.specs.Tests.{passes_at}
use Rattle.lists.specs.Maps.{map-concat_map}
use Rattle.lists.specs.Members.{all→∈, get_d-∈}
use Rattle.records.specs.Kinds.{kinds-weaken}
use Rattle.records.specs.Parts.{BlockBody, in_block, in-block, is_block, file-blocks, is_block-body, block-instructions-are, block-picked, targets-picked}
use Rattle.graph.specs.Between.{between, between-all}
use Rattle.graph.specs.Sections.{agree, first_or, places, sections_at, cut-between, length-sections_at, section-at, places_same}
use Rattle.graph.specs.Placed.{places_of, place_table, places_of-kind, length-place_table, place_table-le, place_table-less}

-- the places of a file's block records, and the block table
abbrev pub block_places : List ℕ → List ℕ
block_places s = places_of 2 s

abbrev pub block_table : List ℕ → List ℕ
block_table s = place_table 2 s

-- where block b starts
abbrev pub place_of : List ℕ → ℕ → ℕ
place_of s b = get_or (block_table s) b 0

-- the records of block b behind its first
abbrev pub body_at : List ℕ → ℕ → List Record
body_at s b = between s (suc (place_of s b)) (place_of s (suc b))

abbrev pub section_of : List ℕ → ℕ → Section
section_of s b = record { head = record_at s (place_of s b); body = body_at s b }

get_d-map-in :
    {A B : Type 0} (g : A → B) (l : List A) (i : ℕ) (d : A) (e : B) → i < length l → get_or (map g l) i e ≡ g (get_or l i d)
get_d-map-in g [] i d e h = absurd (omega arith)
get_d-map-in g (x ∷ l) zero d e h = refl
get_d-map-in g (x ∷ l) (suc i) d e h = get_d-map-in g l i d e (omega arith)

-- the first and the last entry of a table with a number behind its places
first_entry : (ps : List ℕ) (q : ℕ) → first_or q ps ≡ get_or (ps ++ (q ∷ [])) 0 0
first_entry [] q = refl
first_entry (p ∷ ps) q = refl

last_entry : (ps : List ℕ) (q : ℕ) → get_or (ps ++ (q ∷ [])) (length ps) 0 ≡ q
last_entry [] q = refl
last_entry (p ∷ ps) q = last_entry ps q

module _ (s : List ℕ) where
  -- the sections of the file's blocks
  block-sections : (cut (eqb 2) (records s)).sections ≡ sections_at s (record_count s) (block_places s)
  unfolding places_of
  block-sections =
      ap (λ (rs : List Record). (cut (eqb 2) rs).sections) (sym (between-all s))
      ∙ ap (λ (c : Cut). c.sections) (cut-between s (eqb 2) 0 (record_count s) (omega arith) (omega arith))
      ∙ ap (λ (rs : List Record). sections_at s (record_count s) (places (eqb 2) 0 rs)) (between-all s)

  -- There are as many places as blocks.
  pub length-block_places : length (block_places s) ≡ length (function_in s).blocks
  unfolding function
  length-block_places =
      sym (length-map (cut (eqb 2) (records s)).sections block_of ∙ ap length block-sections
      ∙ length-sections_at s (record_count s) (block_places s))

  pub length-block_table : length (block_table s) ≡ suc (length (function_in s).blocks)
  length-block_table = omega (arith, length-place_table 2 s, length-block_places)

  -- Each block starts in the file, before the next one; and the last ends with it.
  pub place-le : (b : ℕ) → b ≤ length (function_in s).blocks → place_of s b ≤ record_count s
  place-le b l = place_table-le 2 s b (omega (arith, length-block_places))

  pub place-less : (b : ℕ) → b < length (function_in s).blocks → place_of s b < place_of s (suc b)
  place-less b l = place_table-less 2 s b (omega (arith, length-block_places))

  pub place-last : place_of s (length (function_in s).blocks) ≡ record_count s
  unfolding place_table
  place-last = ap (place_of s) (sym length-block_places) ∙ last_entry (block_places s) (record_count s)

  -- Its own record stands there, and before the first one what is in front of all blocks.
  pub block-head : (b : ℕ) → b < length (function_in s).blocks → kind (record_at s (place_of s b)) ≡ 2
  unfolding place_table
  block-head b l =
      let is : ℕ → Bool = λ p. eqb 2 (kind (record_at s p)) in
      let long : b < length (block_places s) = omega (arith, length-block_places) in
      sym (eqb→eq 2 (kind (record_at s (place_of s b)))
      (subst (λ p. T (is p)) (sym (get_or-append (block_places s) (record_count s ∷ []) 0 b long))
      (all→∈ is (block_places s) (places_of-kind 2 s) (get_d-∈ (block_places s) b 0 long))))

  pub front-by-place : (cut (eqb 2) (records s)).front ≡ between s 0 (place_of s 0)
  unfolding place_table places_of
  front-by-place =
      ap (λ (rs : List Record). (cut (eqb 2) rs).front) (sym (between-all s))
      ∙ ap (λ (c : Cut). c.front) (cut-between s (eqb 2) 0 (record_count s) (omega arith) (omega arith))
      ∙ ap (λ (rs : List Record). between s 0 (first_or (record_count s) (places (eqb 2) 0 rs))) (between-all s)
      ∙ ap (between s 0) (first_entry (places (eqb 2) 0 (records s)) (record_count s))

  section-of : (b : ℕ) (none : Section) → b < length (function_in s).blocks → get_or (cut (eqb 2) (records s)).sections b none ≡ section_of s b
  unfolding place_table
  section-of b none l =
      ap (λ (ss : List Section). get_or ss b none) block-sections
      ∙ section-at s (record_count s) (block_places s) b none (omega (arith, length-block_places))

  -- Block b is what stands from its place to the next.
  pub block_at-by-place : (b : ℕ) → b < length (function_in s).blocks → block_at (function_in s) b ≡ block_of (section_of s b)
  unfolding function
  block_at-by-place b l =
      let none : Section = section_of s b in
      get_d-map-in block_of (cut (eqb 2) (records s)).sections b none _ (omega (arith, length-map (cut (eqb 2) (records s)).sections block_of))
      ∙ ap block_of (section-of b none l)

  -- Its parameters are what the records of kind 3 there name,
  pub block_at-parameters :
      (b : ℕ) → b < length (function_in s).blocks → (block_at (function_in s) b).parameters ≡ named 3 (body_at s b)
  block_at-parameters b l = ap (λ (x : Block). x.parameters) (block_at-by-place b l)

  module _ (h : T (ordered 0 (records s))) (b : ℕ) (l : b < length (function_in s).blocks) where
    -- and where the file is in order,
    pub block-body : BlockBody (body_at s b)
    block-body =
        let ss = (cut (eqb 2) (records s)).sections in
        let none : Section = section_of s b in
        let long : b < length ss = omega (arith, length-block_places, ap length block-sections, length-sections_at s (record_count s) (block_places s)) in
        is_block-body (section_of s b)
        (subst (λ x. T (is_block x)) (section-of b none l) (all→∈ is_block ss (file-blocks (records s) h) (get_d-∈ ss b none long)))

    -- its instructions start at the records of kind 4 there,
    pub instructions-by-place :
        let p = suc (place_of s b) in
        let q = place_of s (suc b) in
        instructions_of (block_at (function_in s) b) ≡ map instruction_of (sections_at s q (places (eqb 4) p (between s p q)))
    instructions-by-place =
        let p = suc (place_of s b) in
        let q = place_of s (suc b) in
        ap instructions_of (block_at-by-place b l)
        ∙ block-instructions-are (section_of s b) block-body
        ∙ ap (λ (c : Cut). map instruction_of c.sections) (cut-between s opens_item p q (place-less b l) (place-le (suc b) l))
        ∙ ap (λ (ps : List ℕ). map instruction_of (sections_at s q ps))
        (places_same opens_item (eqb 4) p (between s p q)
        (kinds-weaken in_block (λ j. agree (opens_item j) (eqb 4 j))
        (passes_at (λ j. agree (opens_item j) (eqb 4 j)) (3 ∷ 4 ∷ 5 ∷ 6 ∷ 7 ∷ 8 ∷ 9 ∷ []) tt) (between s p q) (in-block (between s p q) block-body)))

    -- and its successors are what the records of kind 7 there name.
    pub successors-by-place : successors (function_in s) b ≡ named 7 (body_at s b)
    successors-by-place =
        ap (λ (x : Block). map (λ e. e.target) (edges_out x)) (block_at-by-place b l)
        ∙ map-concat_map (λ (e : Edge). e.target) (λ (i : Instruction). i.edges) (instructions_of (block_of (section_of s b)))
        ∙ block-picked 7 (λ w. w.second) (λ i. map (λ e. e.target) i.edges) (λ t _. targets-picked t.body) tt tt (section_of s b) block-body

    -- What its contexts name, in file order, is what the records of kind 9 there name.
    pub contexts-by-place : concat_map (λ i. i.contexts) (instructions_of (block_at (function_in s) b)) ≡ named 9 (body_at s b)
    contexts-by-place =
        ap (λ (x : Block). concat_map (λ i. i.contexts) (instructions_of x)) (block_at-by-place b l)
        ∙ block-picked 9 (λ w. w.second) (λ i. i.contexts) (λ t _. refl) tt tt (section_of s b) block-body
