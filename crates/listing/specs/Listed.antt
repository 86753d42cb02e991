-- THE LISTS AS SETS. Document 01's lists are what is live across each safepoint, put in order; so a row that has a list's
-- set has its list, and the values on any list are those of any row.
use Rattle.std.specs.Prelude.{ℕ, zero, suc, ◌<◌, ◌≤◌, ◌≡◌, refl, Bool, true, false, ◌||◌, cond, length, get_or, T}
use Rattle.std.proofs.Math.Path.{sym}
use Rattle.std.proofs.Common.{ap, ap₂, subst, ◌∙◌, arith}
use Rattle.std.proofs.Math.Option.{Option, none, some}
use mathlib.Core.List.{List, [], ◌∷◌, ◌++◌, map}
use Rattle.std.proofs.lemmas.List.{length-map}
use Rattle.rules.specs.Lists.{any, keep, is_none, or_else, concat_map, has, up_from, NumberSet, nothing, members}
use Rattle.rules.specs.Tree.{Instruction, Function}
use Rattle.rules.specs.Graph.{block_at, is_marked, instructions_of, reachable}
use Rattle.rules.specs.Liveness.{across, before_all, process, lists_among, lists_of, lists, is_spilled}
use Rattle.lists.specs.Tests.{T-ext, or_right}
use Rattle.lists.specs.Maps.{map-map, map-concat_map, concat_map-same}
use Rattle.lists.specs.Members.{has→∈, ∈→has}
use Rattle.lists.specs.Sets.{Within}
use Rattle.fixpoint.specs.Finding.{∈-keep, keep-passes, ∈-up_from}
use Rattle.fixpoint.specs.Rule.{before_all-marked, marked-in-file}
use Rattle.fixpoint.specs.Least.{live-out-marked}
use Rattle.fixpoint.specs.Answer.{process-outs-live}
use Rattle.listing.specs.Crossings.{crossing, crossings_among, crossings, all_crossings, shown, listed}

module _ (f : Function) where
  abbrev n : ℕ
  n = length f.values

  -- a set put in order
  abbrev pub in_order : Option NumberSet → Option (List ℕ)
  in_order none = none
  in_order (some set) = some (members n set)

  chosen-order : (s : Bool) (set : NumberSet) → cond s (some (members n set)) none ≡ in_order (cond s (some set) none)
  chosen-order true set = refl
  chosen-order false set = refl

  among-in-order : (is : List Instruction) (out : NumberSet) → lists_among f is out ≡ map in_order (crossings_among f is out)
  among-in-order [] out = refl
  among-in-order (i ∷ is) out =
      ap₂ (λ (x : Option (List ℕ)) (xs : List (Option (List ℕ))). x ∷ xs)
      (chosen-order i.safepoint (across f i (before_all f is out))) (among-in-order is out)

  block-in-order : (b : ℕ) → lists_of f b ≡ map in_order (crossings f b)
  unfolding lists_of crossings
  block-in-order b = go (has b (reachable f))
    where
      is : List Instruction
      is = instructions_of (block_at f b)

      go : (r : Bool)
          → elim r as (λ _. List (Option (List ℕ))) [ true ↦ lists_among f is ((process f).outs b) | false ↦ map (λ _. none) is ]
          ≡ map in_order (elim r [ true ↦ crossings_among f is ((process f).outs b) | false ↦ map (λ _. none) is ])
      go true = among-in-order is ((process f).outs b)
      go false = sym (map-map in_order (λ _. none) is)

  below-in-order : (bs : List ℕ) → concat_map (lists_of f) bs ≡ map in_order (concat_map (crossings f) bs)
  below-in-order bs =
      concat_map-same (lists_of f) (λ b. map in_order (crossings f b)) block-in-order bs ∙ sym (map-concat_map in_order (crossings f) bs)

  -- THE LISTS are the sets in order,
  pub lists-in-order : lists f ≡ map in_order (all_crossings f)
  lists-in-order = below-in-order (up_from 0 (length f.blocks))

  -- and as many, of all blocks and of some
  pub length-of-blocks : (bs : List ℕ) → length (concat_map (lists_of f) bs) ≡ length (concat_map (crossings f) bs)
  length-of-blocks bs = ap length (below-in-order bs) ∙ length-map (concat_map (crossings f) bs) in_order

  pub length-lists : length (lists f) ≡ length (all_crossings f)
  length-lists = length-of-blocks (up_from 0 (length f.blocks))

  get_d-in-order : (xs : List (Option NumberSet)) (i : ℕ) → get_or (map in_order xs) i none ≡ in_order (get_or xs i none)
  get_d-in-order [] i = refl
  get_d-in-order (x ∷ xs) zero = refl
  get_d-in-order (x ∷ xs) (suc i) = get_d-in-order xs i

  -- by number
  pub list_at : (i : ℕ) → get_or (lists f) i none ≡ in_order (get_or (all_crossings f) i none)
  list_at i = ap (λ (xs : List (Option (List ℕ))). get_or xs i none) lists-in-order ∙ get_d-in-order (all_crossings f) i

  none-in-order : (x : Option NumberSet) → is_none (in_order x) ≡ is_none x
  none-in-order none = refl
  none-in-order (some _) = refl

  -- there is a list where there is a set
  pub list-none : (i : ℕ) → is_none (get_or (lists f) i none) ≡ is_none (get_or (all_crossings f) i none)
  list-none i = ap is_none (list_at i) ∙ none-in-order (get_or (all_crossings f) i none)

  -- WHAT IS LIVE ACROSS is in the file.
  abbrev Low : Option NumberSet → Type 0
  Low x = (v : ℕ) → T (or_else nothing x v) → v < n

  low-crossing :
      (i : Instruction) (is : List Instruction) (out : NumberSet) → Within out (is_marked f) → Low (crossing f i (before_all f is out))
  low-crossing i is out h v = go i.safepoint
    where
      live : NumberSet
      live = across f i (before_all f is out)

      go : (s : Bool) → T (or_else nothing (cond s (some live) none) v) → v < n
      go true t =
          marked-in-file f v (before_all-marked f (i ∷ is) out h v (or_right (has v (keep (is_marked f) i.arguments)) (live v) t))
      go false t = absurd t

  low-among :
      (is : List Instruction) (out : NumberSet) → Within out (is_marked f) → (j : ℕ) → Low (get_or (crossings_among f is out) j none)
  low-among [] out h j v t = absurd t
  low-among (i ∷ is) out h zero v t = low-crossing i is out h v t
  low-among (i ∷ is) out h (suc j) v t = low-among is out h j v t

  low-none : {A : Type 0} (is : List A) (j : ℕ) → Low (get_or (map (λ _. none) is) j none)
  low-none [] j v t = absurd t
  low-none (i ∷ is) zero v t = absurd t
  low-none (i ∷ is) (suc j) v t = low-none is j v t

  low-block : (b j : ℕ) → Low (get_or (crossings f b) j none)
  unfolding crossings
  low-block b j =
      go (has b (reachable f)) (λ m v t. live-out-marked f ((process-outs-live f (has→∈ (reachable f) m) v).0 t))
    where
      is : List Instruction
      is = instructions_of (block_at f b)

      go : (r : Bool) → (T r → Within ((process f).outs b) (is_marked f))
          → Low (get_or (elim r [ true ↦ crossings_among f is ((process f).outs b) | false ↦ map (λ _. none) is ]) j none)
      go true h = low-among is ((process f).outs b) (h tt) j
      go false h = low-none is j

  low-append :
      (xs ys : List (Option NumberSet)) → ((j : ℕ) → Low (get_or xs j none)) → ((j : ℕ) → Low (get_or ys j none))
      → (j : ℕ) → Low (get_or (xs ++ ys) j none)
  low-append [] ys h k j = k j
  low-append (x ∷ xs) ys h k zero = h 0
  low-append (x ∷ xs) ys h k (suc j) = low-append xs ys (λ i. h (suc i)) k j

  low-all : (bs : List ℕ) (j : ℕ) → Low (get_or (concat_map (crossings f) bs) j none)
  low-all [] j = λ v t. absurd t
  low-all (b ∷ bs) j = low-append (crossings f b) (concat_map (crossings f) bs) (low-block b) (low-all bs) j

  -- so its set in order has the same members
  same-members : (x : Option NumberSet) → Low x → (v : ℕ) → or_else nothing x v ≡ has v (or_else [] (in_order x))
  same-members none low v = refl
  same-members (some set) low v =
      T-ext (set v) (has v (members n set))
      (λ t. ∈→has (∈-keep set (∈-up_from 0 n v (omega arith) (omega (arith, low v t))) t))
      (λ t. keep-passes set (up_from 0 n) (has→∈ (members n set) t))

  -- ROWS of what is live across safepoints are the sets on their lists,
  pub shown-listed : shown (all_crossings f) ≡ listed f
  unfolding listed
  shown-listed = λ k i v. each i v k
    where
      each : (i v : ℕ) → shown (all_crossings f) i v ≡ has v (or_else [] (get_or (lists f) i none))
      each i v =
          same-members (get_or (all_crossings f) i none) (low-all (up_from 0 (length f.blocks)) i) v
          ∙ sym (ap (λ (x : Option (List ℕ)). has v (or_else [] x)) (list_at i))

  -- and a list is such a row's members in order.
  pub list-members : (i : ℕ) → is_none (get_or (lists f) i none) ≡ false → get_or (lists f) i none ≡ some (members n (listed f i))
  list-members i e =
      list_at i
      ∙ go (get_or (all_crossings f) i none) (sym (list-none i) ∙ e)
      ∙ ap (λ (set : ℕ → NumberSet). some (members n (set i))) shown-listed
    where
      go : (x : Option NumberSet) → is_none x ≡ false → in_order x ≡ some (members n (or_else nothing x))
      go none e = absurd (subst T e tt)
      go (some set) e = refl

  -- elsewhere the row is empty
  pub listed-none : (i : ℕ) → is_none (get_or (lists f) i none) ≡ true → listed f i ≡ nothing
  listed-none i e = sym (ap (λ (set : ℕ → NumberSet). set i) shown-listed) ∙ go (get_or (all_crossings f) i none) (sym (list-none i) ∙ e)
    where
      go : (x : Option NumberSet) → is_none x ≡ true → or_else nothing x ≡ nothing
      go none e = refl
      go (some set) e = absurd (subst T (sym e) tt)

  -- No list has a number that is no value of the file.
  pub listed-far : (i v : ℕ) → n ≤ v → listed f i v ≡ false
  listed-far i v l =
      T-ext (listed f i v) false
      (λ t.
      let low = low-all (up_from 0 (length f.blocks)) i v (subst (λ (set : ℕ → NumberSet). T (set i v)) (sym shown-listed) t) in
      absurd (omega (arith, low, l)))
      (λ t. absurd t)

-- SPILLED VALUES. The values of rows below n together
abbrev pub together : ℕ → (ℕ → NumberSet) → NumberSet
together n t v = any (λ i. t i v) (up_from 0 n)

any-behind : (q : ℕ → Bool) (a n : ℕ) → any q (up_from (suc a) n) ≡ any (λ i. q (suc i)) (up_from a n)
any-behind q a zero = refl
any-behind q a (suc n) = ap (λ b. q (suc a) || b) (any-behind q (suc a) n)

any-by-place : {A : Type 0} (p : A → Bool) (xs : List A) (d : A) → any p xs ≡ any (λ i. p (get_or xs i d)) (up_from 0 (length xs))
any-by-place p [] d = refl
any-by-place p (x ∷ xs) d =
    ap (λ b. p x || b) (any-by-place p xs d ∙ sym (any-behind (λ i. p (get_or (x ∷ xs) i d)) 0 (length xs)))

-- are the spilled ones.
pub together-spilled : (f : Function) → together (length (lists f)) (listed f) ≡ is_spilled f
unfolding listed is_spilled
together-spilled f = λ k v. sym (any-by-place (λ (l : Option (List ℕ)). has v (or_else [] l)) (lists f) none) k
