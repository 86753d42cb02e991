-- The parts of a file's function, each in file order, are the file's records of their kind, where the file is in order.
use Rattle.std.specs.Prelude.{ℕ, ◌≡◌, refl, Bool, true, false, ◌&&◌, ◌||◌, T, eqb}
use Rattle.std.proofs.Math.Path.{sym, ap}
use Rattle.std.proofs.Common.{ap₂, ◌∙◌, T_not, eqb→eq}
use Rattle.std.proofs.Math.Bool.{not}
use mathlib.Core.List.{List, [], ◌∷◌, ◌++◌, map}
use Rattle.rules.specs.Lists.{all, concat_map, has}
use Rattle.rules.specs.Tree.{Edge, Instruction, Block}
use Rattle.rules.specs.Records.{encode, kind, edge_argument}
use Rattle.rules.specs.declared.Words.{Words}
use Rattle.rules.specs.File.{followers, ordered, Section, Cut, cut, of_kind, named, edge_of, edges_of, instruction_of, item_of, opens_item, block_of, function}
use Rattle.rules.specs.Graph.{instructions_among, instructions_of}
use Rattle.rules.specs.Refusals.{all_instructions, all_edges}
use Rattle.rules.specs.declared.EdgeArgument.{EdgeArgument}
use Rattle.rules.specs.declared.Record.{Record}
use Rattle.rules.specs.declared.Record.TheVariants as record'
use Rattle.lists.specs.Tests.{and_left, and_right, T_and, or-then, is_true, eqb_swap, differ, chosen, left_out, passes_at}
use Rattle.lists.specs.Maps.{map-map, concat_map-map, map-concat_map, concat_map-concat_map, concat_map-where, all-weaken, all-and}
use Rattle.lists.specs.Truths.{agree}
use Rattle.records.specs.Kinds.{Kinds, kind-edge_argument, kinds-weaken, of_kind-append, of_kind-skip, cut-same}
use Rattle.records.specs.InOrder.{chain, ordered-chain, whole, Sections, cut_keeps, cut-joins, opened, cut_opened, chained, cut-chained, cut-kinds, kept_by, chain-good}

-- RECORDS OF A KIND, BY SECTIONS. Where no section is opened by the kind, and the front has none.
of_kind-sections : (k : ℕ) (ss : List Section) → Sections (λ s. not (eqb (kind s.head) k)) ss
    → of_kind k (concat_map whole ss) ≡ concat_map (λ s. of_kind k s.body) ss
of_kind-sections k [] h = refl
of_kind-sections k (s ∷ ss) h =
    let t = s.body ++ concat_map whole ss in
    left_out (eqb (kind s.head) k) (encode s.head ∷ of_kind k t) (of_kind k t) (and_left (not (eqb (kind s.head) k)) (all (λ x. not (eqb (kind x.head) k)) ss) h)
    ∙ of_kind-append k s.body (concat_map whole ss)
    ∙ ap (λ x. of_kind k s.body ++ x) (of_kind-sections k ss (and_right (not (eqb (kind s.head) k)) (all (λ x. not (eqb (kind x.head) k)) ss) h))

pub of_kind-cut : (opens : ℕ → Bool) (k : ℕ) (rs : List Record) → ((j : ℕ) → T (opens j) → T (not (eqb j k)))
    → Kinds (λ j. not (eqb j k)) (cut opens rs).front → concat_map (λ s. of_kind k s.body) (cut opens rs).sections ≡ of_kind k rs
of_kind-cut opens k rs o f =
    let c = cut opens rs in
    sym (of_kind-sections k c.sections
    (all-weaken (opened opens) (λ s. not (eqb (kind s.head) k))
    (λ s h. o (kind s.head) (and_left (opens (kind s.head)) (all (λ r. not (opens (kind r))) s.body) h)) c.sections (cut_opened opens rs).1))
    ∙ sym (of_kind-skip k c.front (concat_map whole c.sections) f)
    ∙ ap (of_kind k) (cut-joins opens rs)

-- the heads of the sections that one kind opens are the records of that kind
pub cut-heads : (k : ℕ) (rs : List Record) → map (λ s. encode s.head) (cut (eqb k) rs).sections ≡ of_kind k rs
cut-heads k =
    cut_keeps (eqb k) (λ rs c. map (λ s. encode s.head) c.sections ≡ of_kind k rs) refl
    (λ r rs c o e. ap (λ t. encode r ∷ t) e ∙ sym (chosen (eqb (kind r) k) (encode r ∷ of_kind k rs) (of_kind k rs) (eqb_swap k (kind r) o)))
    (λ r rs c o e. e ∙ sym (left_out (eqb (kind r) k) (encode r ∷ of_kind k rs) (of_kind k rs) (not-swap (eqb k (kind r)) (eqb (kind r) k) (eqb_swap (kind r) k) o)))
  where
    not-swap : (a b : Bool) → (T b → T a) → T (not a) → T (not b)
    not-swap true b f h = absurd h
    not-swap false true f h = f tt
    not-swap false false f h = tt

-- ORDER AT EACH LEVEL. In front of the first block there are values only.
pub front-values : (rs : List Record) → T (ordered 0 rs) → Kinds (eqb 1) (cut (eqb 2) rs).front
unfolding kept_by followers
front-values rs h =
    chain-good (0 ∷ 1 ∷ []) (λ j. not (eqb 2 j)) (eqb 1) tt 0 (cut (eqb 2) rs).front tt
    (cut-chained (eqb 2) rs 0 (ordered-chain 0 rs h)).0 (cut_opened (eqb 2) rs).0

-- a block's body is a chain behind its record, and opens no other block
abbrev pub BlockBody : List Record → Type 0
BlockBody body = T (chain 2 body) × Kinds (λ j. not (eqb 2 j)) body

-- in front of its first item there are parameters only
pub front-parameters : (body : List Record) → BlockBody body → Kinds (eqb 3) (cut opens_item body).front
unfolding kept_by followers
front-parameters body h =
    chain-good (2 ∷ 3 ∷ []) (λ j. not (opens_item j)) (eqb 3) tt 2 (cut opens_item body).front tt
    (cut-chained opens_item body 2 h.0).0 (cut_opened opens_item body).0

-- AN INSTRUCTION'S SECTION, in a block of an input: its head is of kind 4, and its body has kinds 5 to 9 in order.
abbrev pub in_block : ℕ → Bool
in_block j = has j (3 ∷ 4 ∷ 5 ∷ 6 ∷ 7 ∷ 8 ∷ 9 ∷ [])

abbrev pub is_instruction : Section → Bool
is_instruction t = opened opens_item t && (chained t && all (λ r. in_block (kind r)) (whole t))

-- the kinds that stand in its body
abbrev pub in_body : ℕ → Bool
in_body j = not (opens_item j) && in_block j

module _ (t : Section) (h : T (is_instruction t)) where
  instruction-opened : T (opened opens_item t)
  instruction-opened = and_left (opened opens_item t) (chained t && all (λ r. in_block (kind r)) (whole t)) h

  instruction-chained : T (chained t)
  instruction-chained =
      and_left (chained t) (all (λ r. in_block (kind r)) (whole t)) (and_right (opened opens_item t) (chained t && all (λ r. in_block (kind r)) (whole t)) h)

  instruction-kinds : Kinds in_block (whole t)
  instruction-kinds =
      and_right (chained t) (all (λ r. in_block (kind r)) (whole t)) (and_right (opened opens_item t) (chained t && all (λ r. in_block (kind r)) (whole t)) h)

  pub head-instruction : T (eqb (kind t.head) 4)
  head-instruction =
      let k = kind t.head in
      or-then (opens_item k) (eqb k 4)
      (passes_at (λ j. not (opens_item j) || eqb j 4) (3 ∷ 4 ∷ 5 ∷ 6 ∷ 7 ∷ 8 ∷ 9 ∷ []) tt k (and_left (in_block k) (all (λ r. in_block (kind r)) t.body) instruction-kinds))
      (and_left (opens_item k) (all (λ r. not (opens_item (kind r))) t.body) instruction-opened)

  -- the body behind a record of kind 4
  pub body-chained : T (chain 4 t.body)
  body-chained = rw (← eqb→eq (kind t.head) 4 head-instruction) instruction-chained

  pub body-allowed : Kinds in_body t.body
  body-allowed =
      all-and (λ r. not (opens_item (kind r))) (λ r. in_block (kind r)) t.body
      (and_right (opens_item (kind t.head)) (all (λ r. not (opens_item (kind r))) t.body) instruction-opened)
      (and_right (in_block (kind t.head)) (all (λ r. in_block (kind r)) t.body) instruction-kinds)

  -- in front of its first edge no edge argument stands
  pub front-edges : Kinds (λ j. not (eqb j 8)) (cut (eqb 7) t.body).front
  unfolding kept_by followers
  front-edges =
      chain-good (4 ∷ 5 ∷ 6 ∷ 9 ∷ []) (λ j. not (eqb 7 j) && in_body j) (λ j. not (eqb j 8)) tt 4 (cut (eqb 7) t.body).front tt
      (cut-chained (eqb 7) t.body 4 body-chained).0
      (all-and (λ r. not (eqb 7 (kind r))) (λ r. in_body (kind r)) (cut (eqb 7) t.body).front (cut_opened (eqb 7) t.body).0
      (cut-kinds (eqb 7) in_body t.body body-allowed).0)

pub in-block : (body : List Record) → BlockBody body → Kinds in_block body
unfolding kept_by followers
in-block body h = chain-good (2 ∷ 3 ∷ 4 ∷ 5 ∷ 6 ∷ 7 ∷ 8 ∷ 9 ∷ []) (λ j. not (eqb 2 j)) in_block tt 2 body tt h.0 h.1

-- a block's items are instructions
pub block-instructions : (body : List Record) → BlockBody body → Sections is_instruction (cut opens_item body).sections
block-instructions body h =
    let ts = (cut opens_item body).sections in
    all-and (opened opens_item) (λ t. chained t && all (λ r. in_block (kind r)) (whole t)) ts (cut_opened opens_item body).1
    (all-and chained (λ t. all (λ r. in_block (kind r)) (whole t)) ts (cut-chained opens_item body 2 h.0).1 (cut-kinds opens_item in_block body (in-block body h)).1)

instructions-are : (ts : List Section) → Sections is_instruction ts → instructions_among (map item_of ts) ≡ map instruction_of ts
instructions-are [] h = refl
instructions-are (t ∷ ts) h =
    let here = and_left (is_instruction t) (all is_instruction ts) h in
    let later = instructions-are ts (and_right (is_instruction t) (all is_instruction ts) h) in
    let four : eqb (kind t.head) 4 ≡ true = is_true (eqb (kind t.head) 4) (head-instruction t here) in
    rw four (ap (λ x. instruction_of t ∷ x) later)

pub block-instructions-are : (s : Section) → BlockBody s.body → instructions_of (block_of s) ≡ map instruction_of (cut opens_item s.body).sections
block-instructions-are s h = instructions-are (cut opens_item s.body).sections (block-instructions s.body h)

-- and the records of kind 4 open them
pub instruction-heads : (body : List Record) → BlockBody body → map (λ t. encode t.head) (cut opens_item body).sections ≡ of_kind 4 body
unfolding agree
instruction-heads body h =
    ap (λ (c : Cut). map (λ t. encode t.head) c.sections)
    (cut-same opens_item (eqb 4) body
    (kinds-weaken in_block (λ j. agree (opens_item j) (eqb 4 j)) (passes_at (λ j. agree (opens_item j) (eqb 4 j)) (3 ∷ 4 ∷ 5 ∷ 6 ∷ 7 ∷ 8 ∷ 9 ∷ []) tt) body (in-block body h)))
    ∙ cut-heads 4 body

-- PARTS, IN FILE ORDER. What the instructions of a block have by records of a kind in their bodies, and the same of all
-- blocks of a file.
pub block-picked : {B : Type 0} (k : ℕ) (read : Words → B) (part : Instruction → List B)
    → ((t : Section) → T (is_instruction t) → part (instruction_of t) ≡ map read (of_kind k t.body))
    → T (not (opens_item k)) → T (not (eqb 3 k))
    → (s : Section) → BlockBody s.body → concat_map part (instructions_of (block_of s)) ≡ map read (of_kind k s.body)
block-picked k read part p o n s h =
    let ts = (cut opens_item s.body).sections in
    ap (concat_map part) (block-instructions-are s h) ∙ concat_map-map part instruction_of ts
    ∙ concat_map-where is_instruction (λ t. part (instruction_of t)) (λ t. map read (of_kind k t.body)) p ts (block-instructions s.body h)
    ∙ sym (map-concat_map read (λ t. of_kind k t.body) ts)
    ∙ ap (map read)
    (of_kind-cut opens_item k s.body (λ j t. differ opens_item j k t o)
    (kinds-weaken (eqb 3) (λ j. not (eqb j k)) (λ j t. differ (eqb 3) j k t n) (cut opens_item s.body).front (front-parameters s.body h)))

-- the sections of a file's blocks
abbrev pub is_block : Section → Bool
is_block s = opened (eqb 2) s && chained s

pub file-blocks : (rs : List Record) → T (ordered 0 rs) → Sections is_block (cut (eqb 2) rs).sections
file-blocks rs h =
    all-and (opened (eqb 2)) chained (cut (eqb 2) rs).sections (cut_opened (eqb 2) rs).1 (cut-chained (eqb 2) rs 0 (ordered-chain 0 rs h)).1

pub is_block-body : (s : Section) → T (is_block s) → BlockBody s.body
is_block-body s h =
    let o = and_left (opened (eqb 2) s) (chained s) h in
    let two = eqb→eq 2 (kind s.head) (and_left (eqb 2 (kind s.head)) (all (λ r. not (eqb 2 (kind r))) s.body) o) in
    (rw two (and_right (opened (eqb 2) s) (chained s) h), and_right (eqb 2 (kind s.head)) (all (λ r. not (eqb 2 (kind r))) s.body) o)

module _ {B : Type 0} (rs : List Record) (h : T (ordered 0 rs)) (k : ℕ) (read : Words → B) (one : T (not (eqb 1 k))) (two : T (not (eqb 2 k))) where
  pub blocks-picked : (part : Block → List B) → ((s : Section) → BlockBody s.body → part (block_of s) ≡ map read (of_kind k s.body))
      → concat_map part (function rs).blocks ≡ map read (of_kind k rs)
  unfolding function
  blocks-picked part p =
      let ss = (cut (eqb 2) rs).sections in
      concat_map-map part block_of ss
      ∙ concat_map-where is_block (λ s. part (block_of s)) (λ s. map read (of_kind k s.body)) (λ s t. p s (is_block-body s t)) ss (file-blocks rs h)
      ∙ sym (map-concat_map read (λ s. of_kind k s.body) ss)
      ∙ ap (map read)
      (of_kind-cut (eqb 2) k rs (λ j t. differ (eqb 2) j k t two)
      (kinds-weaken (eqb 1) (λ j. not (eqb j k)) (λ j t. differ (eqb 1) j k t one) (cut (eqb 2) rs).front (front-values rs h)))

  pub instructions-picked : (part : Instruction → List B)
      → ((t : Section) → T (is_instruction t) → part (instruction_of t) ≡ map read (of_kind k t.body))
      → T (not (opens_item k)) → T (not (eqb 3 k)) → concat_map part (all_instructions (function rs)) ≡ map read (of_kind k rs)
  instructions-picked part p o n =
      concat_map-concat_map part instructions_of (function rs).blocks
      ∙ blocks-picked (λ b. concat_map part (instructions_of b)) (block-picked k read part p o n)

-- the words of an instruction's own record
abbrev pub head_words : Instruction → Words
head_words i = encode (record'.Instruction i.safepoint i.terminator i.tag)

head-words : (r : Record) (body : List Record) → T (eqb (kind r) 4) → head_words (instruction_of (record { head = r; body = body })) ≡ encode r
head-words (record'.Instruction true true tag) body h = refl
head-words (record'.Instruction true false tag) body h = refl
head-words (record'.Instruction false true tag) body h = refl
head-words (record'.Instruction false false tag) body h = refl
head-words (record'.Value _ _) body h = absurd h
head-words (record'.Block _ _) body h = absurd h
head-words (record'.Parameter _) body h = absurd h
head-words (record'.Result _) body h = absurd h
head-words (record'.Argument _) body h = absurd h
head-words (record'.Edge _) body h = absurd h
head-words (record'.EdgeArgument x) body h = absurd (T_not (eqb (kind (record'.EdgeArgument x)) 4) (kind-edge_argument (λ j. not (eqb j 4)) x tt) h)
head-words (record'.Context _) body h = absurd h
head-words (record'.Slot _) body h = absurd h
head-words (record'.MapEntry _ _) body h = absurd h
head-words (record'.SlotAddress _ _) body h = absurd h
head-words (record'.Store _ _) body h = absurd h
head-words (record'.Load _ _ _) body h = absurd h
head-words record'.Jump body h = absurd h
head-words record'.Outside body h = absurd h

heads-words : (ts : List Section) → Sections is_instruction ts → map (λ t. head_words (instruction_of t)) ts ≡ map (λ t. encode t.head) ts
heads-words [] h = refl
heads-words (t ∷ ts) h =
    let both = T_and (is_instruction t) (all is_instruction ts) h in
    ap₂ (λ (w : Words) (ws : List Words). w ∷ ws) (head-words t.head t.body (head-instruction t both.0)) (heads-words ts both.1)

abbrev pub second : Words → ℕ
second w = w.second

-- the edge argument that a record of kind 8 is
abbrev pub argument : Words → EdgeArgument
argument w = edge_argument w.second w.third

-- the targets of an instruction's edges, and what its edges pass
pub targets-picked : (body : List Record) → map (λ e. e.target) (edges_of body) ≡ named 7 body
targets-picked body =
    let us = (cut (eqb 7) body).sections in
    map-map (λ (e : Edge). e.target) edge_of us ∙ sym (map-map second (λ (u : Section). encode u.head) us) ∙ ap (map second) (cut-heads 7 body)

pub passed-picked : (t : Section) → T (is_instruction t) → concat_map (λ e. e.arguments) (edges_of t.body) ≡ map argument (of_kind 8 t.body)
passed-picked t h =
    let us = (cut (eqb 7) t.body).sections in
    concat_map-map (λ (e : Edge). e.arguments) edge_of us ∙ sym (map-concat_map argument (λ (u : Section). of_kind 8 u.body) us)
    ∙ ap (map argument) (of_kind-cut (eqb 7) 8 t.body (λ j m. differ (eqb 7) j 8 m tt) (front-edges t h))

module _ (rs : List Record) (h : T (ordered 0 rs)) where
  pub parameters-in-order : concat_map (λ b. b.parameters) (function rs).blocks ≡ named 3 rs
  parameters-in-order = blocks-picked rs h 3 second tt tt (λ b. b.parameters) (λ s t. refl)

  -- an instruction by its own record
  pub instructions-in-order : map head_words (all_instructions (function rs)) ≡ of_kind 4 rs
  instructions-in-order =
      map-concat_map head_words instructions_of (function rs).blocks
      ∙ blocks-picked rs h 4 (λ w. w) tt tt (λ b. map head_words (instructions_of b))
      (λ s t.
      let ts = (cut opens_item s.body).sections in
      ap (map head_words) (block-instructions-are s t) ∙ map-map head_words instruction_of ts ∙ heads-words ts (block-instructions s.body t)
      ∙ instruction-heads s.body t ∙ sym (map_same (of_kind 4 s.body)))
      ∙ map_same (of_kind 4 rs)
    where
      map_same : (ws : List Words) → map (λ w. w) ws ≡ ws
      map_same [] = refl
      map_same (w ∷ ws) = ap (λ x. w ∷ x) (map_same ws)

  pub results-in-order : concat_map (λ i. i.results) (all_instructions (function rs)) ≡ named 5 rs
  results-in-order = instructions-picked rs h 5 second tt tt (λ i. i.results) (λ t u. refl) tt tt

  pub arguments-in-order : concat_map (λ i. i.arguments) (all_instructions (function rs)) ≡ named 6 rs
  arguments-in-order = instructions-picked rs h 6 second tt tt (λ i. i.arguments) (λ t u. refl) tt tt

  pub contexts-in-order : concat_map (λ i. i.contexts) (all_instructions (function rs)) ≡ named 9 rs
  contexts-in-order = instructions-picked rs h 9 second tt tt (λ i. i.contexts) (λ t u. refl) tt tt

  pub targets-in-order : map (λ e. e.target) (all_edges (function rs)) ≡ named 7 rs
  targets-in-order =
      map-concat_map (λ (e : Edge). e.target) (λ (i : Instruction). i.edges) (all_instructions (function rs))
      ∙ instructions-picked rs h 7 second tt tt (λ i. map (λ e. e.target) i.edges) (λ t _. targets-picked t.body) tt tt

  pub edge_arguments-in-order : concat_map (λ e. e.arguments) (all_edges (function rs)) ≡ map argument (of_kind 8 rs)
  edge_arguments-in-order =
      concat_map-concat_map (λ (e : Edge). e.arguments) (λ (i : Instruction). i.edges) (all_instructions (function rs))
      ∙ instructions-picked rs h 8 argument tt tt (λ i. concat_map (λ e. e.arguments) i.edges) passed-picked tt tt

-- BLOCKS ONE RECORD MORE, for a loop over records.
pub blocks_more : (r : Record) (rs : List Record)
    → (function (r ∷ rs)).blocks
    ≡ elim (eqb 2 (kind r)) [ true ↦ block_of (record { head = r; body = (cut (eqb 2) rs).front }) ∷ (function rs).blocks | false ↦ (function rs).blocks ]
unfolding function
blocks_more r rs = go (eqb 2 (kind r))
  where
    go : (b : Bool)
        → map block_of (elim b as (λ _. Cut) [
          | true ↦ record { front = []; sections = record { head = r; body = (cut (eqb 2) rs).front } ∷ (cut (eqb 2) rs).sections }
          | false ↦ record { front = r ∷ (cut (eqb 2) rs).front; sections = (cut (eqb 2) rs).sections }
        ]).sections
        ≡ elim b [ true ↦ block_of (record { head = r; body = (cut (eqb 2) rs).front }) ∷ map block_of (cut (eqb 2) rs).sections | false ↦ map block_of (cut (eqb 2) rs).sections ]
    go true = refl
    go false = refl
