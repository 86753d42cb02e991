-- How two functions are found to be related without going through paths: facts are written down for the entry of each block
-- of the original, and one pass over each block, and over each landing at each edge that leads to it, confirms them. This
-- is the part about paths of a checker of files.
use Rattle.std.specs.Prelude.{ℕ, ◌≡◌, refl, ◌⊎◌, Bool, true, false, not, ◌&&◌, cond, List, [], ◌∷◌, map, T, eqb}
use Rattle.std.proofs.Common.{sym, ap, subst, subst₂, ◌∙◌, inl, inr, eqb→eq}
use Rattle.std.proofs.Math.Option.{Option, none, some}
use Rattle.rules.specs.Lists.{all, has}
use Rattle.rules.specs.Tree.{Edge, Instruction, Item, instruction, slot_address, store, load, jump, Block, Function}
use Rattle.rules.specs.Graph.{block_at, is_marked}
use Rattle.rules.specs.declared.EdgeArgument.{EdgeArgument}
use Rattle.rules.specs.declared.EdgeArgument.TheVariants as passes
use Rattle.lists.specs.Tests.{T_and, and_left, and_right, passes_at, test-elim, chosen, left_out}
use Rattle.lists.specs.Members.{not-∈-nil, ∈-elim}
use Rattle.simulation.specs.Ghost.{Meaning, unknown, word, Ghost, nothing_known, loaded_through, past, defining}
use Rattle.simulation.specs.Ghost.{stepping, passing, jumping, meant, binding}
use Rattle.simulation.specs.Related.{Each, Paired, numbers, found, IsBlock, Place, at, crossing, is_added, Laid}
use Rattle.simulation.specs.Related.{Reached, start, onward, direct, landed, Passes, Lands, Related}
use Rattle.simulation.specs.Blocks.{found-has}
use Rattle.simulation.specs.Laying.{same_list, same-list, laid_ok, laid-ok}
use Rattle.simulation.specs.Less.{Less, Below, is_known, less-known, is_word, is_address, less-word, less-address, alike}
use Rattle.simulation.specs.Less.{alike_same, below-past, below-defining, below-stepping, less-passing, less-jumping}
use Rattle.simulation.specs.Less.{less-loaded, below-binding}

-- FACTS, finitely many: what values and slots surely are
pub record Known : Type 0 where
  pub words : List (ℕ × Meaning)
  pub slots : List (ℕ × Meaning)

abbrev pub look_in : List (ℕ × Meaning) → ℕ → Meaning
look_in [] x = unknown
look_in (k ∷ ks) x = cond (eqb x k.0) k.1 (look_in ks x)

abbrev pub ghost_of : Known → Ghost
ghost_of k = record { words = look_in k.words; slots = look_in k.slots }

-- a ghost has these facts
abbrev hold : List (ℕ × Meaning) → (ℕ → Meaning) → Bool
hold ks h = all (λ k. alike k.1 (h k.0)) ks

abbrev pub within : Known → Ghost → Bool
within k γ = hold k.words γ.words && hold k.slots γ.slots

look-less : (ks : List (ℕ × Meaning)) (h : ℕ → Meaning) → T (hold ks h) → (x : ℕ) → Less (look_in ks x) (h x)
look-less [] h t x = inl refl
look-less (k ∷ ks) h t x =
    let both = T_and (alike k.1 (h k.0)) (hold ks h) t in
    go (eqb x k.0) (λ q. eqb→eq x k.0 q) (alike_same k.1 (h k.0) both.0) (look-less ks h both.1 x)
  where
    go : (c : Bool) → (T c → x ≡ k.0) → k.1 ≡ h k.0 → Less (look_in ks x) (h x) → Less (cond c k.1 (look_in ks x)) (h x)
    go true q e l = inr (e ∙ ap h (sym (q tt)))
    go false q e l = l

within-below : (k : Known) (γ : Ghost) → T (within k γ) → Below (ghost_of k) γ
within-below k γ t =
    let both = T_and (hold k.words γ.words) (hold k.slots γ.slots) t in
    record { words = look-less k.words γ.words both.0; slots = look-less k.slots γ.slots both.1 }

less-trans : {m n k : Meaning} → Less m n → Less n k → Less m k
less-trans (inl u) l = inl u
less-trans (inr e) (inl u) = inl (e ∙ u)
less-trans (inr e) (inr d) = inr (e ∙ d)

below-trans : {α κ γ : Ghost} → Below α κ → Below κ γ → Below α γ
below-trans a b = record { words = λ x. less-trans (a.words x) (b.words x); slots = λ s. less-trans (a.slots s) (b.slots s) }

below-refl : (γ : Ghost) → Below γ γ
below-refl γ = record { words = λ _. inr refl; slots = λ _. inr refl }

-- TESTS member by member
module _ {A B : Type 0} (q : A → B → Bool) where
  abbrev pub each_ok : List A → List B → Bool
  each_ok [] [] = true
  each_ok [] (_ ∷ _) = false
  each_ok (_ ∷ _) [] = false
  each_ok (x ∷ xs) (y ∷ ys) = q x y && each_ok xs ys

  each-ok : (R : A → B → Type 0) → ((x : A) (y : B) → T (q x y) → R x y) → (xs : List A) (ys : List B) → T (each_ok xs ys)
      → Each R xs ys
  each-ok R h [] [] t = tt
  each-ok R h [] (_ ∷ _) t = absurd t
  each-ok R h (_ ∷ _) [] t = absurd t
  each-ok R h (x ∷ xs) (y ∷ ys) t =
      let both = T_and (q x y) (each_ok xs ys) t in
      (h x y both.0, each-ok R h xs ys both.1)

  paired_ok : (xs : List A) (ys : List B) → T (each_ok xs ys) → (x : A) (y : B) → Paired x y xs ys → T (q x y)
  paired_ok [] ys t x y m = absurd (not-∈-nil m)
  paired_ok (a ∷ xs) [] t x y m = absurd (not-∈-nil m)
  paired_ok (a ∷ xs) (b ∷ ys) t x y m =
      let both = T_and (q a b) (each_ok xs ys) t in
      ∈-elim (λ e. subst (λ (z : A × B). T (q z.0 z.1)) (sym e) both.0) (paired_ok xs ys both.1 x y) m

-- THE PASS
-- an added item reads what it may
abbrev pub added_ok : Item → Ghost → Bool
added_ok (instruction _) κ = true
added_ok (slot_address _ _) κ = true
added_ok (store x a) κ = is_word (κ.words x) && is_address (κ.words a)
added_ok (load _ a _) κ = is_address (κ.words a) && is_word (loaded_through (κ.words a) κ.slots)
added_ok (jump _) κ = true

-- an instruction reads what the original's reads
abbrev pub arguments_ok : Instruction → Instruction → Ghost → Bool
arguments_ok i j κ = each_ok (λ v x. alike (κ.words x) (word v)) i.arguments j.arguments

-- the instruction that items begin with, and the items behind it
abbrev pub head_of : List Item → Option Instruction
head_of [] = none
head_of (instruction i ∷ _) = some i
head_of (slot_address _ _ ∷ _) = none
head_of (store _ _ ∷ _) = none
head_of (load _ _ _ ∷ _) = none
head_of (jump _ ∷ _) = none

abbrev pub behind : List Item → List Item
behind [] = []
behind (_ ∷ xs) = xs

module _ (f g : Function) (known : ℕ → Known) where
  -- an edge leads where the original's does, with the arguments meant
  abbrev pub leads_ok : (EdgeArgument → Meaning) → Edge → Edge → Bool
  leads_ok mean e e' =
      eqb e'.target e.target
      && (has e.target (numbers f.blocks) && each_ok (λ a a'. alike (mean a') (meant a)) e.arguments e'.arguments)

  -- and its target's facts hold
  abbrev pub passes_ok : (EdgeArgument → Meaning) → Edge → Edge → Ghost → Bool
  passes_ok mean e e' κ =
      leads_ok mean e e' && within (known e'.target) κ

  abbrev pub landing_ok : Edge → List Item → Ghost → Bool
  landing_ok e [] κ = true
  landing_ok e (instruction _ ∷ js) κ = true
  landing_ok e (slot_address r s ∷ js) κ = landing_ok e js (past (slot_address r s) κ)
  landing_ok e (store x a ∷ js) κ = added_ok (store x a) κ && landing_ok e js (past (store x a) κ)
  landing_ok e (load r a size ∷ js) κ = added_ok (load r a size) κ && landing_ok e js (past (load r a size) κ)
  landing_ok e (jump e' ∷ js) κ = passes_ok (jumping κ) e e' κ

  abbrev pub lands_ok : Edge → Edge → Ghost → Option (ℕ × Block) → Bool
  lands_ok e e' κ none = false
  lands_ok e e' κ (some l) = landing_ok e l.1.items (binding l.1.parameters (map (passing κ) e'.arguments) κ)

  abbrev pub edge_ok : Ghost → Edge → Edge → Bool
  edge_ok κ e e' =
      elim (has e'.target (numbers f.blocks)) [
        | true ↦ passes_ok (passing κ) e e' κ
        | false ↦ lands_ok e e' κ (found 0 e'.target g.blocks)
      ]

  abbrev pub edges_ok : Instruction → Instruction → Ghost → Bool
  edges_ok i j κ = each_ok (edge_ok (stepping (is_marked f) j κ)) i.edges j.edges

  abbrev pub instruction_ok : Option Instruction → Instruction → Ghost → Bool
  instruction_ok none j κ = true
  instruction_ok (some i) j κ = arguments_ok i j κ && edges_ok i j κ

  abbrev pub block_ok : List Item → List Item → Ghost → Bool
  block_ok is [] κ = true
  block_ok is (instruction j ∷ js) κ = instruction_ok (head_of is) j κ && block_ok (behind is) js (stepping (is_marked f) j κ)
  block_ok is (slot_address r s ∷ js) κ = block_ok is js (past (slot_address r s) κ)
  block_ok is (store x a ∷ js) κ = added_ok (store x a) κ && block_ok is js (past (store x a) κ)
  block_ok is (load r a size ∷ js) κ = added_ok (load r a size) κ && block_ok is js (past (load r a size) κ)
  block_ok is (jump _ ∷ js) κ = true

  abbrev pub both_ok : ℕ → Option (ℕ × Block) → Option (ℕ × Block) → Bool
  both_ok t none none = false
  both_ok t none (some _) = false
  both_ok t (some _) none = false
  both_ok t (some b) (some b') = block_ok b.1.items b'.1.items (defining b'.1.parameters (ghost_of (known t)))

  abbrev pub entry_ok : ℕ → Bool
  entry_ok t = both_ok t (found 0 t f.blocks) (found 0 t g.blocks)

  -- nothing is known where block 0 is entered first, and every block of the original is passed
  abbrev pub all_ok : Bool
  all_ok = within (known 0) nothing_known && all entry_ok (numbers f.blocks)

  -- IT SUFFICES. At every point of a path the pass has been, knowing less than the path's ghost.
  abbrev place_ok : Place → List Item → Ghost → Bool
  place_ok (at is) js κ = block_ok is js κ
  place_ok (crossing e) js κ = landing_ok e js κ

  record Passed (p : Place) (js : List Item) (γ : Ghost) : Type 0 where
    ghost : Ghost
    below : Below ghost γ
    ok : T (place_ok p js ghost)

  added-ok : (p : Place) (x : Item) (js : List Item) (κ : Ghost) → T (is_added x) → T (place_ok p (x ∷ js) κ)
      → T (added_ok x κ) × T (place_ok p js (past x κ))
  added-ok p (instruction _) js κ t q = absurd t
  added-ok (at is) (slot_address r s) js κ t q = (tt, q)
  added-ok (crossing e) (slot_address r s) js κ t q = (tt, q)
  added-ok (at is) (store x a) js κ t q = T_and (added_ok (store x a) κ) (block_ok is js (past (store x a) κ)) q
  added-ok (crossing e) (store x a) js κ t q = T_and (added_ok (store x a) κ) (landing_ok e js (past (store x a) κ)) q
  added-ok (at is) (load r a size) js κ t q = T_and (added_ok (load r a size) κ) (block_ok is js (past (load r a size) κ)) q
  added-ok (crossing e) (load r a size) js κ t q = T_and (added_ok (load r a size) κ) (landing_ok e js (past (load r a size) κ)) q
  added-ok p (jump _) js κ t q = absurd t

  -- an edge that passes
  arguments-meant : (mean mean' : EdgeArgument → Meaning) → ((x : EdgeArgument) → Less (mean x) (mean' x)) → (x x' : EdgeArgument)
      → T (alike (mean x') (meant x)) → mean' x' ≡ meant x
  arguments-meant mean mean' l x x' t = less-known (meant x) (l x') (alike_same (mean x') (meant x) t) (is-known x)
    where
      is-known : (x : EdgeArgument) → T (is_known (meant x))
      is-known (passes.Value _) = tt
      is-known (passes.Returned _) = tt
      is-known (passes.Exception _) = tt

  edge-passes : (mean mean' : EdgeArgument → Meaning) → ((x : EdgeArgument) → Less (mean x) (mean' x)) → (e e' : Edge) (κ : Ghost)
      → T (passes_ok mean e e' κ) → Passes f mean' e e'
  edge-passes mean mean' l e e' κ t =
      let each = each_ok (λ a a'. alike (mean a') (meant a)) e.arguments e'.arguments in
      let here = has e.target (numbers f.blocks) in
      let led =
      T_and (eqb e'.target e.target) (here && each) (and_left (leads_ok mean e e') (within (known e'.target) κ) t) in
      record {
        target = eqb→eq e'.target e.target led.0;
        in-file = and_left here each led.1;
        arguments = each-ok (λ a a'. alike (mean a') (meant a)) (λ a a'. mean' a' ≡ meant a) (arguments-meant mean mean' l)
            e.arguments e'.arguments (and_right here each led.1);
      }

  passes-within : (mean : EdgeArgument → Meaning) (e e' : Edge) (κ : Ghost) → T (passes_ok mean e e' κ)
      → T (within (known e'.target) κ)
  passes-within mean e e' κ t = and_right (leads_ok mean e e') (within (known e'.target) κ) t

  -- an edge by whether its target is a block of the original
  edge-direct : (κ : Ghost) (e e' : Edge) → T (has e'.target (numbers f.blocks)) → T (edge_ok κ e e')
      → T (passes_ok (passing κ) e e' κ)
  edge-direct κ e e' h t =
      let there = lands_ok e e' κ (found 0 e'.target g.blocks) in
      subst T (chosen (has e'.target (numbers f.blocks)) (passes_ok (passing κ) e e' κ) there h) t

  edge-lands : (κ : Ghost) (e e' : Edge) → T (not (has e'.target (numbers f.blocks))) → T (edge_ok κ e e')
      → T (lands_ok e e' κ (found 0 e'.target g.blocks))
  edge-lands κ e e' h t =
      let there = lands_ok e e' κ (found 0 e'.target g.blocks) in
      subst T (left_out (has e'.target (numbers f.blocks)) (passes_ok (passing κ) e e' κ) there h) t

  edge-fits : (κ γ : Ghost) → Below κ γ → (e e' : Edge) → T (edge_ok κ e e') → Passes f (passing γ) e e' ⊎ Lands f g e'
  edge-fits κ γ b e e' t =
      test-elim (has e'.target (numbers f.blocks))
      (λ h. inl (edge-passes (passing κ) (passing γ) (less-passing b) e e' κ (edge-direct κ e e' h t)))
      (λ h. inr (record { new = h; in-file = landed-somewhere (found 0 e'.target g.blocks) refl (edge-lands κ e e' h t) }))
    where
      landed-somewhere : (l : Option (ℕ × Block)) → found 0 e'.target g.blocks ≡ l → T (lands_ok e e' κ l)
          → T (has e'.target (numbers g.blocks))
      landed-somewhere none q t = absurd t
      landed-somewhere (some l) q t = found-has 0 e'.target g.blocks l q

  -- what the pass tests of an instruction's edge
  edge-ok : {i j : Instruction} {is js : List Item} {γ : Ghost} (q : Passed (at (instruction i ∷ is)) (instruction j ∷ js) γ) {e e' : Edge}
      → Paired e e' i.edges j.edges → T (edge_ok (stepping (is_marked f) j q.ghost) e e')
  edge-ok {i} {j} {is} {js} q {e} {e'} pair =
      let κ = stepping (is_marked f) j q.ghost in
      paired_ok (edge_ok κ) i.edges j.edges
      (and_right (arguments_ok i j q.ghost) (each_ok (edge_ok κ) i.edges j.edges)
      (and_left (instruction_ok (some i) j q.ghost) (block_ok is js κ) q.ok))
      e e' pair

  module _ (all_is_ok : T all_ok) where
    -- where a block of the original is entered and its facts hold
    enters-ok : (t : ℕ) (b b' : Block) → IsBlock f t b → IsBlock g t b' → (κ γ : Ghost) → Below κ γ → T (within (known t) κ)
        → Passed (at b.items) b'.items (defining b'.parameters γ)
    enters-ok t b b' k k' κ γ l w =
        let here = found-has 0 t f.blocks (k.0, b) k.1 in
        record {
          ghost = defining b'.parameters (ghost_of (known t));
          below = below-defining b'.parameters (below-trans (within-below (known t) κ w) l);
          ok = subst₂ (λ x y. T (both_ok t x y)) k.1 k'.1
              (passes_at entry_ok (numbers f.blocks)
              (and_right (within (known 0) nothing_known) (all entry_ok (numbers f.blocks)) all_is_ok) t here);
        }

    reached-ok : {p : Place} {js : List Item} {γ : Ghost} → Reached f g p js γ → Passed p js γ
    reached-ok (start {b} {b'} k k') =
        enters-ok 0 b b' k k' nothing_known nothing_known (below-refl nothing_known)
        (and_left (within (known 0) nothing_known) (all entry_ok (numbers f.blocks)) all_is_ok)
    reached-ok (Reached.added {p} {x} {js} {γ} t r) =
        let q = reached-ok r in
        record { ghost = past x q.ghost; below = below-past x q.below; ok = (added-ok p x js q.ghost t q.ok).1 }
    reached-ok (onward {i} {j} {is} {js} {γ} r) =
        let q = reached-ok r in
        record {
          ghost = stepping (is_marked f) j q.ghost;
          below = below-stepping (is_marked f) j q.below;
          ok = and_right (instruction_ok (some i) j q.ghost) (block_ok is js (stepping (is_marked f) j q.ghost)) q.ok;
        }
    reached-ok (direct {i} {j} {is} {js} {γ} {e} {e'} {b} {b'} r pair k k') =
        let q = reached-ok r in
        let κ = stepping (is_marked f) j q.ghost in
        enters-ok e'.target b b' k k' κ (stepping (is_marked f) j γ) (below-stepping (is_marked f) j q.below)
        (passes-within (passing κ) e e' κ (edge-direct κ e e' (found-has 0 e'.target f.blocks (k.0, b) k.1) (edge-ok q pair)))
    reached-ok (Reached.landing {i} {j} {is} {js} {γ} {e} {e'} {l} r pair new k) =
        let q = reached-ok r in
        let κ = stepping (is_marked f) j q.ghost in
        let below = below-stepping (is_marked f) j q.below in
        record {
          ghost = binding l.parameters (map (passing κ) e'.arguments) κ;
          below = below-binding l.parameters e'.arguments κ (stepping (is_marked f) j γ) below below;
          ok = subst (λ y. T (lands_ok e e' κ y)) k.1 (edge-lands κ e e' new (edge-ok q pair));
        }
    reached-ok (landed {e} {e'} {js} {γ} {b} {b'} r k k') =
        let q = reached-ok r in
        enters-ok e'.target b b' k k' q.ghost γ q.below (passes-within (jumping q.ghost) e e' q.ghost q.ok)

-- Functions that are laid alike, and whose facts the pass confirms, are related.
pub checked-related : (f g : Function) (known : ℕ → Known)
    → Laid (numbers f.blocks) f.blocks g.blocks → T (has 0 (numbers f.blocks))
    → (block_at g 0).parameters ≡ (block_at f 0).parameters
    → T (all_ok f g known) → Related f g
checked-related f g known laid begins first ok =
    record {
      laid = laid;
      begins = begins;
      first = first;
      stores = λ {p} {x} {a} {js} {γ} r.
          let q = reached-ok f g known ok r in
          let κ = q.ghost in
          let t = T_and (is_word (κ.words x)) (is_address (κ.words a)) (added-ok f g known p (store x a) js κ tt q.ok).0 in (
            less-word (κ.words x) (γ.words x) (q.below.words x) t.0,
            less-address (κ.words a) (γ.words a) (q.below.words a) t.1,
          );
      loads = λ {p} {r} {a} {size} {js} {γ} reached.
          let q = reached-ok f g known ok reached in
          let κ = q.ghost in
          let t =
          T_and (is_address (κ.words a)) (is_word (loaded_through (κ.words a) κ.slots))
          (added-ok f g known p (load r a size) js κ tt q.ok).0 in (
            less-address (κ.words a) (γ.words a) (q.below.words a) t.0,
            less-word (loaded_through (κ.words a) κ.slots) (loaded_through (γ.words a) γ.slots)
                (less-loaded (κ.words a) (γ.words a) κ.slots γ.slots (q.below.words a) q.below.slots) t.1,
          );
      arguments = λ {i} {j} {is} {js} {γ} r.
          let q = reached-ok f g known ok r in
          let κ = q.ghost in
          each-ok (λ v x. alike (κ.words x) (word v)) (λ v x. γ.words x ≡ word v)
          (λ v x t. less-known (word v) (q.below.words x) (alike_same (κ.words x) (word v) t) tt) i.arguments j.arguments
          (and_left (arguments_ok i j κ) (edges_ok f g known i j κ)
          (and_left (instruction_ok f g known (some i) j κ) (block_ok f g known is js (stepping (is_marked f) j κ)) q.ok));
      edges = λ {i} {j} {is} {js} {γ} r.
          let q = reached-ok f g known ok r in
          let κ = q.ghost in
          let κ' = stepping (is_marked f) j κ in
          let γ' = stepping (is_marked f) j γ in
          each-ok (edge_ok f g known κ') (λ e e'. Passes f (passing γ') e e' ⊎ Lands f g e')
          (edge-fits f g known κ' γ' (below-stepping (is_marked f) j q.below)) i.edges j.edges
          (and_right (arguments_ok i j κ) (edges_ok f g known i j κ)
          (and_left (instruction_ok f g known (some i) j κ) (block_ok f g known is js κ') q.ok));
      jumps = λ {e} {e'} {js} {γ} r.
          let q = reached-ok f g known ok r in
          edge-passes f g known (jumping q.ghost) (jumping γ) (less-jumping q.below) e e' q.ghost q.ok;
    }

-- The whole test, of shape and of facts.
abbrev pub related_ok : (f g : Function) (known : ℕ → Known) → Bool
related_ok f g known =
    laid_ok (numbers f.blocks) f.blocks g.blocks
    && (has 0 (numbers f.blocks) && (same_list (block_at g 0).parameters (block_at f 0).parameters && all_ok f g known))

pub related-ok : (f g : Function) (known : ℕ → Known) → T (related_ok f g known) → Related f g
related-ok f g known t =
    let t₁ = T_and (laid_ok (numbers f.blocks) f.blocks g.blocks) _ t in
    let t₂ = T_and (has 0 (numbers f.blocks)) _ t₁.1 in
    let t₃ = T_and (same_list (block_at g 0).parameters (block_at f 0).parameters) (all_ok f g known) t₂.1 in
    checked-related f g known (laid-ok (numbers f.blocks) f.blocks g.blocks t₁.0) t₂.0
    (same-list (block_at g 0).parameters (block_at f 0).parameters t₃.0) t₃.1
