-- What is live across each safepoint, as sets: document 01's lists before they are put in order.
use Rattle.std.specs.Prelude.{ℕ, zero, suc, ◌+◌, ◌≡◌, refl, Bool, cond, length, get_or}
use Rattle.std.proofs.Common.{sym, ap₂, ◌∙◌, arith}
use Rattle.std.proofs.Math.Path.{ap}
use Rattle.std.proofs.Math.Bool.{true, false}
use Rattle.std.proofs.Math.Option.{Option, none, some}
use mathlib.Core.List.{List, [], ◌∷◌, ◌++◌, map}
use Rattle.std.proofs.lemmas.List.{length-map}
use Rattle.std.proofs.Math.Dec.{eqb-zero-suc, eqb-suc-zero, eqb-suc-suc}
use Rattle.rules.specs.Lists.{or_else, concat_map, has, update, up_from, NumberSet, nothing}
use Rattle.rules.specs.Tree.{Instruction, Function}
use Rattle.rules.specs.Graph.{block_at, instructions_of, reachable}
use Rattle.rules.specs.Liveness.{across, before_all, process, lists}
use Rattle.lists.specs.Maps.{concat_map-append}

-- what is live across an instruction if it is a safepoint, from what is live behind it
abbrev pub crossing : Function → Instruction → NumberSet → Option NumberSet
crossing f i live = cond i.safepoint (some (across f i live)) none

-- for each of some instructions
abbrev pub crossings_among : Function → List Instruction → NumberSet → List (Option NumberSet)
crossings_among f [] out = []
crossings_among f (i ∷ is) out = crossing f i (before_all f is out) ∷ crossings_among f is out

-- for each instruction of a block, none where it is not reachable
unfoldable pub crossings : Function → ℕ → List (Option NumberSet)
crossings f b =
    let is = instructions_of (block_at f b) in
    elim (has b (reachable f)) [ true ↦ crossings_among f is ((process f).outs b) | false ↦ map (λ _. none) is ]

-- of the blocks below n, by instruction number; so of all instructions of the file
abbrev pub crossings_below : Function → ℕ → List (Option NumberSet)
crossings_below f n = concat_map (crossings f) (up_from 0 n)

abbrev pub all_crossings : Function → List (Option NumberSet)
all_crossings f = crossings_below f (length f.blocks)

-- THE SET ON A LIST: what instruction i has on its list, nothing where it has none
unfoldable pub listed : Function → ℕ → NumberSet
listed f i v = has v (or_else [] (get_or (lists f) i none))

-- ROWS. One row becomes a set, if there is one,
abbrev pub put : ℕ → Option NumberSet → (ℕ → NumberSet) → ℕ → NumberSet
put i none t = t
put i (some x) t = update i x t

-- and rows from i on become these sets
abbrev pub fill : ℕ → List (Option NumberSet) → (ℕ → NumberSet) → ℕ → NumberSet
fill i [] t = t
fill i (x ∷ xs) t = put i x (fill (suc i) xs t)

-- a list of sets as rows
abbrev pub shown : List (Option NumberSet) → ℕ → NumberSet
shown xs j = or_else nothing (get_or xs j none)

-- what is put behind the first row leaves it, and the others as if they were first
put_first : (i : ℕ) (x : Option NumberSet) (t : ℕ → NumberSet) → put (suc i) x t 0 ≡ t 0
put_first i none t = refl
put_first i (some x) t = ap {B = NumberSet} (λ b. cond b x (t 0)) (eqb-zero-suc i)

put-behind : (i : ℕ) (x : Option NumberSet) (t u : ℕ → NumberSet) (j : ℕ) → t (suc j) ≡ u j → put (suc i) x t (suc j) ≡ put i x u j
put-behind i none t u j e = e
put-behind i (some x) t u j e = ap₂ (λ (b : Bool) (y : NumberSet). cond b x y) (eqb-suc-suc j i) e

fill-first : (i : ℕ) (xs : List (Option NumberSet)) (t : ℕ → NumberSet) → fill (suc i) xs t 0 ≡ t 0
fill-first i [] t = refl
fill-first i (x ∷ xs) t = put_first i x (fill (suc (suc i)) xs t) ∙ fill-first (suc i) xs t

fill-behind :
    (i : ℕ) (xs : List (Option NumberSet)) (t : ℕ → NumberSet) (j : ℕ) → fill (suc i) xs t (suc j) ≡ fill i xs (λ k. t (suc k)) j
fill-behind i [] t j = refl
fill-behind i (x ∷ xs) t j =
    put-behind i x (fill (suc (suc i)) xs t) (fill (suc i) xs (λ k. t (suc k))) j (fill-behind (suc i) xs t j)

-- rows filled from the first on are the list
fill-all : (xs : List (Option NumberSet)) (j : ℕ) → shown xs j ≡ fill 0 xs (λ _. nothing) j
fill-all [] j = refl
fill-all (none ∷ xs) zero = sym (fill-first 0 xs (λ _. nothing))
fill-all (some x ∷ xs) zero = refl
fill-all (none ∷ xs) (suc j) = fill-all xs j ∙ sym (fill-behind 0 xs (λ _. nothing) j)
fill-all (some x ∷ xs) (suc j) =
    fill-all xs j ∙ sym (fill-behind 0 xs (λ _. nothing) j)
    ∙ sym (ap {B = NumberSet} (λ b. cond b x (fill 1 xs (λ _. nothing) (suc j))) (eqb-suc-zero j))

-- so a list put behind another one fills the rows behind it
fill-behind-list : (xs ys : List (Option NumberSet)) (j : ℕ) → shown (xs ++ ys) j ≡ fill (length xs) ys (shown xs) j
fill-behind-list [] ys j = fill-all ys j
fill-behind-list (x ∷ xs) ys zero = sym (fill-first (length xs) ys (shown (x ∷ xs)))
fill-behind-list (x ∷ xs) ys (suc j) = fill-behind-list xs ys j ∙ sym (fill-behind (length xs) ys (shown (x ∷ xs)) j)

pub shown-append : (xs ys : List (Option NumberSet)) → shown (xs ++ ys) ≡ fill (length xs) ys (shown xs)
shown-append xs ys = λ i j. fill-behind-list xs ys j i

-- where there is none nothing is filled
pub fill_none : {A : Type 0} (is : List A) (i : ℕ) (t : ℕ → NumberSet) → fill i (map (λ _. none) is) t ≡ t
fill_none [] i t = refl
fill_none (x ∷ is) i t = fill_none is (suc i) t

-- BLOCK BY BLOCK
pub up_from-more : (a n : ℕ) → up_from a (suc n) ≡ up_from a n ++ ((a + n) ∷ [])
up_from-more a zero = let e : a ≡ a + 0 = omega arith in ap (λ x. x ∷ []) e
up_from-more a (suc n) =
    let e : suc a + n ≡ a + suc n = omega arith in
    ap (λ l. a ∷ l) (up_from-more (suc a) n ∙ ap (λ x. up_from (suc a) n ++ (x ∷ [])) e)

append-none : {A : Type 0} (l : List A) → l ++ [] ≡ l
append-none [] = refl
append-none (x ∷ l) = ap (λ y. x ∷ y) (append-none l)

module _ (f : Function) where
  -- one block more
  pub crossings-more : (b : ℕ) → crossings_below f (b + 1) ≡ crossings_below f b ++ crossings f b
  crossings-more b =
      let next : b + 1 ≡ suc b = omega arith in
      let same : 0 + b ≡ b = omega arith in
      ap (crossings_below f) next
      ∙ ap (concat_map (crossings f)) (up_from-more 0 b ∙ ap (λ x. up_from 0 b ++ (x ∷ [])) same)
      ∙ concat_map-append (crossings f) (up_from 0 b) (b ∷ [])
      ∙ ap (λ l. crossings_below f b ++ l) (append-none (crossings f b))

  length-among : (is : List Instruction) (out : NumberSet) → length (crossings_among f is out) ≡ length is
  length-among [] out = refl
  length-among (i ∷ is) out = ap suc (length-among is out)

  -- as many as instructions
  pub length-crossings : (b : ℕ) → length (crossings f b) ≡ length (instructions_of (block_at f b))
  unfolding crossings
  length-crossings b = go (has b (reachable f))
    where
      is : List Instruction
      is = instructions_of (block_at f b)

      go : (r : Bool) → length {A = Option NumberSet} (elim r [ true ↦ crossings_among f is ((process f).outs b) | false ↦ map (λ _. none) is ]) ≡ length is
      go true = length-among is ((process f).outs b)
      go false = length-map is (λ _. none)

  -- of a block that is reachable, or not
  pub crossings-reachable : (b : ℕ) → has b (reachable f) ≡ true → crossings f b ≡ crossings_among f (instructions_of (block_at f b)) ((process f).outs b)
  unfolding crossings
  crossings-reachable b e = ap {B = List (Option NumberSet)} (λ r. elim r [ true ↦ crossings_among f (instructions_of (block_at f b)) ((process f).outs b) | false ↦ map (λ _. none) (instructions_of (block_at f b)) ]) e

  pub crossings-unreachable : (b : ℕ) → has b (reachable f) ≡ false → crossings f b ≡ map (λ _. none) (instructions_of (block_at f b))
  unfolding crossings
  crossings-unreachable b e = ap {B = List (Option NumberSet)} (λ r. elim r [ true ↦ crossings_among f (instructions_of (block_at f b)) ((process f).outs b) | false ↦ map (λ _. none) (instructions_of (block_at f b)) ]) e
