-- Blocks by number, in two functions that are laid alike: the original's block and its rewritten one are found under one
-- number, with the same number of instructions before them; and under any other number a landing is found.
use Rattle.std.specs.Prelude.{ℕ, zero, suc, ◌+◌, ◌<◌, ◌≡◌, refl, Bool, true, false, not, ◌||◌, List, [], ◌∷◌, length, get_or, T, eqb}
use Rattle.std.proofs.Common.{arith, sym, ap, subst, ◌∙◌, T_not, eqb→eq}
use Rattle.std.proofs.Math.Option.{Option, none, some, some-injective, none-ne-some}
use Rattle.std.proofs.Math.Dec.{not_T}
use Rattle.rules.specs.Lists.{count, has, NumberSet}
use Rattle.rules.specs.Tree.{Edge, Item, instruction, slot_address, store, load, jump, Block, Function}
use Rattle.rules.specs.Graph.{instructions_among}
use Rattle.rules.specs.TwoRuns.{World, Mover, Machine, Next, ends, enter_with, enter_among}
use Rattle.rules.specs.Demand3.{every_instruction}
use Rattle.lists.specs.Tests.{or_elim, or_left, or_right, eqb_swap, left_out}
use Rattle.lists.specs.Members.{here, there}
use Rattle.simulation.specs.Related.{Each, Paired, numbers, found, Place, at, crossing, is_added, Shape, done, kept}
use Rattle.simulation.specs.Related.{added, lands, refilled, Laid, block, landing}

-- HOW MANY INSTRUCTIONS
abbrev pub instructions_in : List Item → ℕ
instructions_in js = count every_instruction (instructions_among js)

abbrev pub instructions_at : Place → ℕ
instructions_at (at is) = instructions_in is
instructions_at (crossing _) = 0

added_none : (x : Item) (js : List Item) → T (is_added x) → instructions_in (x ∷ js) ≡ instructions_in js
added_none (instruction _) js t = absurd t
added_none (slot_address _ _) js t = refl
added_none (store _ _) js t = refl
added_none (load _ _ _) js t = refl
added_none (jump _) js t = absurd t

pub shape-count : {p : Place} {js : List Item} → Shape p js → instructions_at p ≡ instructions_in js
shape-count done = refl
shape-count (kept i vs es ms _ s) = ap suc (shape-count s)
shape-count (added x {js = js} t s) = shape-count s ∙ sym (added_none x js t)
shape-count (lands e e') = refl

-- FOUND
-- a number that is some block's is found
pub found_some : (k t : ℕ) (bs : List Block) → T (has t (numbers bs)) → (r : ℕ × Block) × (found k t bs ≡ some r)
found_some k t [] h = absurd h
found_some k t (b ∷ bs) h = go (eqb b.number t) (λ q. eqb_swap t b.number q) h (found_some (k + instructions_in b.items) t bs)
  where
    go : (c : Bool) → (T (eqb t b.number) → T c) → T (eqb t b.number || has t (numbers bs))
        → (T (has t (numbers bs)) → (r : ℕ × Block) × (found (k + instructions_in b.items) t bs ≡ some r))
        → (r : ℕ × Block) × (elim c [ true ↦ some (k, b) | false ↦ found (k + instructions_in b.items) t bs ] ≡ some r)
    go true q h later = ((k, b), refl)
    go false q h later = or_elim (eqb t b.number) (has t (numbers bs)) (λ s. absurd (q s)) later h

-- and only such a number
pub found-has : (k t : ℕ) (bs : List Block) (r : ℕ × Block) → found k t bs ≡ some r → T (has t (numbers bs))
found-has k t [] r e = absurd (none-ne-some r e)
found-has k t (b ∷ bs) r e = go (eqb b.number t) (λ q. eqb_swap b.number t q) e (found-has (k + instructions_in b.items) t bs r)
  where
    go : (c : Bool) → (T c → T (eqb t b.number))
        → ◌≡◌ {A = Option (ℕ × Block)} (elim c [ true ↦ some (k, b) | false ↦ found (k + instructions_in b.items) t bs ]) (some r)
        → (found (k + instructions_in b.items) t bs ≡ some r → T (has t (numbers bs)))
        → T (eqb t b.number || has t (numbers bs))
    go true q e later = or_left (eqb t b.number) (has t (numbers bs)) (q tt)
    go false q e later = or_right (eqb t b.number) (has t (numbers bs)) (later e)

-- a test that fails chooses the second
found-past : (k t : ℕ) (b : Block) (bs : List Block) → T (not (eqb b.number t))
    → found k t (b ∷ bs) ≡ found (k + instructions_in b.items) t bs
found-past k t b bs h = left_out (eqb b.number t) (some (k, b)) (found (k + instructions_in b.items) t bs) h

add_none : (k n : ℕ) → 0 ≡ n → k + n ≡ k
add_none k n h = omega arith

-- a block, and the same one with other items of its shape
abbrev pub Again : Option (ℕ × Block) → ℕ × Block → Type 0
Again x r = (items : List Item) × (x ≡ some (r.0, refilled r.1 items)) × Shape (at r.1.items) items

module _ {original : List ℕ} where
  -- the original's block is found again, with other items of its shape
  pub found-block : {bs bs' : List Block} → Laid original bs bs' → (t : ℕ) → T (has t original) → (k : ℕ) (r : ℕ × Block)
      → found k t bs ≡ some r → Again (found k t bs') r
  found-block done t known k r e = absurd (none-ne-some r e)
  found-block (block b {items} {bs} {bs'} s l) t known k r e =
      go (eqb b.number t) e (λ q. found-block l t known (k + instructions_in b.items) r q)
    where
      go : (c : Bool)
          → ◌≡◌ {A = Option (ℕ × Block)} (elim c [ true ↦ some (k, b) | false ↦ found (k + instructions_in b.items) t bs ]) (some r)
          → (found (k + instructions_in b.items) t bs ≡ some r → Again (found (k + instructions_in b.items) t bs') r)
          → Again (elim c [ true ↦ some (k, refilled b items) | false ↦ found (k + instructions_in items) t bs' ]) r
      go true q later =
          subst (λ (x : ℕ × Block). Again (some (k, refilled b items)) x) (some-injective (k, b) r q) (items, refl, s)
      go false q later =
          let h = later q in
          (h.0, ap (λ n. found (k + n) t bs') (sym (shape-count s)) ∙ h.1, h.2)
  found-block (landing x {bs} {bs'} new s l) t known k r e =
      let h = found-block l t known k r e in
      let other : T (not (eqb x.number t)) =
      not_T (eqb x.number t)
      (λ q. T_not (has x.number original) new (subst (λ n. T (has n original)) (sym (eqb→eq x.number t q)) known)) in
      let none_here = add_none k (instructions_in x.items) (shape-count (s (record { target = 0; arguments = [] }))) in
      (h.0, found-past k t x bs' other ∙ ap (λ n. found n t bs') none_here ∙ h.1, h.2)

  -- under a number that is none of the original's a landing is found
  pub found-landing : {bs bs' : List Block} → Laid original bs bs' → (t : ℕ) → T (not (has t (numbers bs)))
      → (k : ℕ) (r : ℕ × Block)
      → found k t bs' ≡ some r → (e : Edge) → Shape (crossing e) r.1.items
  found-landing done t new k r e = absurd (none-ne-some r e)
  found-landing (block b {items} {bs} {bs'} s l) t new k r e =
      let other : T (not (eqb b.number t)) =
      not_T (eqb b.number t)
      (λ q. T_not (has t (numbers (b ∷ bs))) new (or_left (eqb t b.number) (has t (numbers bs)) (eqb_swap b.number t q))) in
      found-landing l t (rest (eqb t b.number) new) (k + instructions_in items) r (sym (found-past k t (refilled b items) bs' other) ∙ e)
    where
      rest : (c : Bool) → T (not (c || has t (numbers bs))) → T (not (has t (numbers bs)))
      rest true q = absurd q
      rest false q = q
  found-landing (landing x {bs} {bs'} _ s l) t new k r e =
      go (eqb x.number t) e (λ q. found-landing l t new (k + instructions_in x.items) r q)
    where
      go : (c : Bool)
          → ◌≡◌ {A = Option (ℕ × Block)} (elim c [ true ↦ some (k, x) | false ↦ found (k + instructions_in x.items) t bs' ]) (some r)
          → (found (k + instructions_in x.items) t bs' ≡ some r → (e : Edge) → Shape (crossing e) r.1.items)
          → (e : Edge) → Shape (crossing e) r.1.items
      go true q later = subst (λ (y : ℕ × Block). (e : Edge) → Shape (crossing e) y.1.items) (some-injective (k, x) r q) s
      go false q later = later q

-- ENTERED
module _ (f : Function) (moving : NumberSet) (world : World) (mover : Mover) (ws : List ℕ) (m : Machine) where
  -- a run that comes to a block enters it
  abbrev pub entered : Option (ℕ × Block) → Next
  entered none = ends
  entered (some r) = enter_with f every_instruction moving world mover r.1 r.0 ws m

  pub enter-found : (k t : ℕ) (bs : List Block)
      → enter_among f every_instruction moving world mover bs k t ws m ≡ entered (found k t bs)
  enter-found k t [] = refl
  enter-found k t (b ∷ bs) = go (eqb b.number t) (enter-found (k + instructions_in b.items) t bs)
    where
      next : Next
      next = enter_among f every_instruction moving world mover bs (k + instructions_in b.items) t ws m

      go : (c : Bool) → next ≡ entered (found (k + instructions_in b.items) t bs)
          → elim c [ true ↦ entered (some (k, b)) | false ↦ next ]
          ≡ entered (elim c [ true ↦ some (k, b) | false ↦ found (k + instructions_in b.items) t bs ])
      go true e = refl
      go false e = e

-- PLACES IN TWO LISTS
module _ {A B : Type 0} (R : A → B → Type 0) where
  -- related lists are as long as each other, and related at every place
  pub each-length : (xs : List A) (ys : List B) → Each R xs ys → length xs ≡ length ys
  each-length [] [] r = refl
  each-length [] (_ ∷ _) r = absurd r
  each-length (_ ∷ _) [] r = absurd r
  each-length (x ∷ xs) (y ∷ ys) r = ap suc (each-length xs ys r.1)

  pub each_at : (xs : List A) (ys : List B) → Each R xs ys → (c : ℕ) (d : A) (d' : B) → c < length xs
      → R (get_or xs c d) (get_or ys c d') × Paired (get_or xs c d) (get_or ys c d') xs ys
  each_at [] [] r c d d' h = absurd (omega arith)
  each_at [] (_ ∷ _) r c d d' h = absurd r
  each_at (_ ∷ _) [] r c d d' h = absurd r
  each_at (x ∷ xs) (y ∷ ys) r zero d d' h = (r.0, here refl)
  each_at (x ∷ xs) (y ∷ ys) r (suc c) d d' h =
      let later = each_at xs ys r.1 c d d' (omega arith) in
      (later.0, there later.1)
