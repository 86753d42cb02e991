-- The laws of the linked lists: each, read from its first entry, is the definition's list of predecessors.
use Rattle.std.specs.Prelude.{ℕ, zero, suc, ◌+◌, ◌<◌, ◌≤◌, ◌≡◌, refl, ◌≢◌, Bool, true, false, length, get_or, set, T, eqb}
use Rattle.std.proofs.Common.{sym, ap₂, ◌∙◌, arith, add-one, length-set, length-append, get_or-set_same, get_or-set_other, eqb→eq}
use Rattle.std.proofs.Math.Path.{ap}
use mathlib.Core.List.{List, [], ◌∷◌, ◌++◌, map, reverse, reverse-cons, reverse-reverse, append_assoc, append-nil}
use Rattle.rules.specs.Lists.{concat_map, foldl, keep}
use Rattle.rules.specs.Tree.{Function}
use Rattle.rules.specs.Graph.{successors, reachable}
use Rattle.rules.specs.Liveness.{predecessors}
use Rattle.rules.specs.Refusals.{numbers_in_file}
use Rattle.lists.specs.Tests.{test-elim, if-elim, neqb→ne}
use Rattle.lists.specs.Members.{here, there}
use Rattle.lists.specs.Maps.{concat_map-append}
use Rattle.walks.specs.InFile.{successor-in-file}
use Rattle.graph.specs.Zeros.{zeros-at}
use Rattle.graph.specs.Links.{Links, links, link_edge, link_block, linked, list_from, list_at, reachable_edges, LentLinks, Inside, Linkable}

-- WHAT IS KEPT. There is room for m entries more; first entries are in use, and entries lead to entries before them.
pub record Chained (m : ℕ) (l : Links) : Type 0 where
  pub froms : l.used + m ≤ length l.from
  pub nexts : l.used + m ≤ length l.next
  pub starts : (b : ℕ) → get_or l.first b 0 ≤ l.used
  pub falls : (e : ℕ) → e < l.used → get_or l.next e 0 ≤ e

module _ (from next : List ℕ) (used : ℕ) (falls : (e : ℕ) → e < used → get_or next e 0 ≤ e) where
  -- any number of entries that is enough gives the whole list
  pub enough : (k j tag : ℕ) → tag ≤ k → tag ≤ j → tag ≤ used → list_from from next k tag ≡ list_from from next j tag
  enough zero zero tag a b c = refl
  enough zero (suc j) zero a b c = refl
  enough zero (suc j) (suc e) a b c = absurd (omega arith)
  enough (suc k) zero zero a b c = refl
  enough (suc k) zero (suc e) a b c = absurd (omega arith)
  enough (suc k) (suc j) zero a b c = refl
  enough (suc k) (suc j) (suc e) a b c =
      let l = falls e (omega arith) in
      ap (λ (xs : List ℕ). get_or from e 0 ∷ xs) (enough k j (get_or next e 0) (omega arith) (omega arith) (omega arith))

  -- an entry that is not in use changes no list
  unused : (p v k tag : ℕ) → tag ≤ used → list_from (set from used p) (set next used v) k tag ≡ list_from from next k tag
  unused p v zero tag c = refl
  unused p v (suc k) zero c = refl
  unused p v (suc k) (suc e) c =
      let l = falls e (omega arith) in
      rw (get_or-set_other from used e p 0 (λ z. omega arith), get_or-set_other next used e v 0 (λ z. omega arith))
      (ap (λ (xs : List ℕ). get_or from e 0 ∷ xs) (unused p v k (get_or next e 0) (omega arith)))

module _ (p t m : ℕ) (l : Links) (h : Chained (suc m) l) (inside : t < length l.first) where
  abbrev one : ℕ
  one = l.used + 1

  first-at : (b : ℕ) → b ≢ t → get_or (set l.first t one) b 0 ≡ get_or l.first b 0
  first-at b n = get_or-set_other l.first t b one 0 n

  pub edge-chained : Chained m (link_edge p l t)
  edge-chained =
      let a = h.froms in
      let c = h.nexts in
      record {
        froms = rw length-set (omega arith);
        nexts = rw length-set (omega arith);
        starts =
            λ b.
            test-elim (eqb b t)
            (λ same.
            let e : b ≡ t = eqb→eq b t same in
            rw (e, get_or-set_same l.first t one 0 inside) (omega arith))
            (λ other. rw (first-at b (neqb→ne b t other)) (omega (arith, h.starts b)));
        falls =
            λ e le.
            test-elim (eqb e l.used)
            (λ same.
            let z : e ≡ l.used = eqb→eq e l.used same in
            rw (z, get_or-set_same l.next l.used (get_or l.first t 0) 0 (omega arith)) (h.starts t))
            (λ other.
            let n : e ≢ l.used = neqb→ne e l.used other in
            rw (get_or-set_other l.next l.used e (get_or l.first t 0) 0 n) (h.falls e (omega arith)));
      }

  abbrev from' : List ℕ
  from' = set l.from l.used p

  abbrev next' : List ℕ
  next' = set l.next l.used (get_or l.first t 0)

  -- the edge stands in front of t's list,
  edge_here : list_at (link_edge p l t) t ≡ p ∷ list_at l t
  edge_here =
      let a = h.froms in
      let c = h.nexts in
      ap₂ (list_from from' next') (add-one l.used) (get_or-set_same l.first t one 0 inside ∙ add-one l.used)
      ∙ ap₂ (λ (x tag : ℕ). x ∷ list_from from' next' l.used tag) (get_or-set_same l.from l.used p 0 (omega arith))
      (get_or-set_same l.next l.used (get_or l.first t 0) 0 (omega arith))
      ∙ ap (λ (xs : List ℕ). p ∷ xs)
      (unused l.from l.next l.used h.falls p (get_or l.first t 0) l.used (get_or l.first t 0) (h.starts t))

  -- and other lists stay
  edge_other : (b : ℕ) → b ≢ t → list_at (link_edge p l t) b ≡ list_at l b
  edge_other b n =
      let s = h.starts b in
      ap (list_from from' next' one) (first-at b n)
      ∙ unused l.from l.next l.used h.falls p (get_or l.first t 0) one (get_or l.first b 0) s
      ∙ enough l.from l.next l.used h.falls one l.used (get_or l.first b 0) (omega arith) s s

  edge-list : (b : ℕ) → list_at (link_edge p l t) b ≡ map (λ _. p) (keep (eqb b) (t ∷ [])) ++ list_at l b
  edge-list b =
      if-elim (λ (xs : List ℕ). list_at (link_edge p l t) b ≡ map (λ _. p) xs ++ list_at l b) (eqb b t) (t ∷ []) []
      (λ same. let e : b ≡ t = eqb→eq b t same in rw e edge_here)
      (λ other. edge_other b (neqb→ne b t other))

-- one p more may stand in front of others or behind them
p-behind : (p : ℕ) (ts xs : List ℕ) → map (λ (_ : ℕ). p) ts ++ (p ∷ xs) ≡ p ∷ (map (λ _. p) ts ++ xs)
p-behind p [] xs = refl
p-behind p (t ∷ ts) xs = ap (λ (ys : List ℕ). p ∷ ys) (p-behind p ts xs)

-- the first edge may be taken first or last
keep-behind :
    (p b t : ℕ) (ts xs : List ℕ)
    → map (λ (_ : ℕ). p) (keep (eqb b) ts) ++ (map (λ (_ : ℕ). p) (keep (eqb b) (t ∷ [])) ++ xs)
    ≡ map (λ (_ : ℕ). p) (keep (eqb b) (t ∷ ts)) ++ xs
keep-behind p b t ts xs = go (eqb b t)
  where
    go : (o : Bool)
        → map (λ (_ : ℕ). p) (keep (eqb b) ts) ++ (map (λ (_ : ℕ). p) (elim o [ true ↦ t ∷ [] | false ↦ [] ]) ++ xs)
        ≡ map (λ (_ : ℕ). p) (elim o [ true ↦ t ∷ keep (eqb b) ts | false ↦ keep (eqb b) ts ]) ++ xs
    go true = p-behind p (keep (eqb b) ts) xs
    go false = refl

-- EDGES OF A BLOCK
module _ (p : ℕ) where
  pub edge-linkable : (t : ℕ) (ts : List ℕ) (l : Links) → Linkable (t ∷ ts) l → Linkable ts (link_edge p l t)
  edge-linkable t ts l h =
      let a = h.froms in
      let c = h.nexts in
      record {
        inside = λ u k. rw length-set (h.inside u (there k));
        froms = rw length-set (omega arith);
        nexts = rw length-set (omega arith);
      }

  pub edges-first : (ts : List ℕ) (l : Links) → length (foldl (link_edge p) l ts).first ≡ length l.first
  edges-first [] l = refl
  edges-first (t ∷ ts) l = edges-first ts (link_edge p l t) ∙ length-set l.first t (l.used + 1)

  pub edges-used : (ts : List ℕ) (l : Links) → (foldl (link_edge p) l ts).used ≡ l.used + length ts
  edges-used [] l = omega arith
  edges-used (t ∷ ts) l = omega (arith, edges-used ts (link_edge p l t))

  later : (t : ℕ) (ts : List ℕ) (l : Links) → Inside (t ∷ ts) l → Inside ts (link_edge p l t)
  later t ts l i u k = rw length-set (i u (there k))

  pub edges-chained : (ts : List ℕ) (m : ℕ) (l : Links) → Inside ts l → Chained (length ts + m) l → Chained m (foldl (link_edge p) l ts)
  edges-chained [] m l i h = let e : 0 + m ≡ m = omega arith in rw e at h
  edges-chained (t ∷ ts) m l i h =
      let e : suc (length ts) + m ≡ suc (length ts + m) = omega arith in
      edges-chained ts m (link_edge p l t) (later t ts l i) (edge-chained p t (length ts + m) l (rw e at h) (i t (here refl)))

  edges-list :
      (ts : List ℕ) (m : ℕ) (l : Links) → Inside ts l → Chained (length ts + m) l → (b : ℕ)
      → list_at (foldl (link_edge p) l ts) b ≡ map (λ _. p) (keep (eqb b) ts) ++ list_at l b
  edges-list [] m l i h b = refl
  edges-list (t ∷ ts) m l i h b =
      let e : suc (length ts) + m ≡ suc (length ts + m) = omega arith in
      let k : Chained (suc (length ts + m)) l = rw e at h in
      edges-list ts m (link_edge p l t) (later t ts l i) (edge-chained p t (length ts + m) l k (i t (here refl))) b
      ∙ ap (λ (xs : List ℕ). map (λ (_ : ℕ). p) (keep (eqb b) ts) ++ xs) (edge-list p t (length ts + m) l k (i t (here refl)) b)
      ∙ keep-behind p b t ts (list_at l b)

-- EDGES OF BLOCKS
module _ (f : Function) where
  abbrev into : ℕ → ℕ → List ℕ
  into b p = map (λ _. p) (keep (eqb b) (successors f p))

  pub blocks-chained :
      (qs : List ℕ) (l : Links) → ((q : ℕ) → Inside (successors f q) l) → Chained (length (concat_map (successors f) qs)) l
      → Chained 0 (foldl (link_block f) l qs)
  blocks-chained [] l i h = h
  blocks-chained (q ∷ qs) l i h =
      let rest = length (concat_map (successors f) qs) in
      let k : Chained (length (successors f q) + rest) l = rw (length-append (successors f q) (concat_map (successors f) qs)) at h in
      blocks-chained qs (link_block f l q) (λ x t m. rw (edges-first q (successors f q) l) (i x t m)) (edges-chained q (successors f q) rest l (i q) k)

  blocks-list :
      (qs : List ℕ) (l : Links) → ((q : ℕ) → Inside (successors f q) l) → Chained (length (concat_map (successors f) qs)) l → (b : ℕ)
      → list_at (foldl (link_block f) l qs) b ≡ concat_map (into b) (reverse qs) ++ list_at l b
  blocks-list [] l i h b = refl
  blocks-list (q ∷ qs) l i h b =
      let rest = length (concat_map (successors f) qs) in
      let k : Chained (length (successors f q) + rest) l = rw (length-append (successors f q) (concat_map (successors f) qs)) at h in
      blocks-list qs (link_block f l q) (λ x t m. rw (edges-first q (successors f q) l) (i x t m)) (edges-chained q (successors f q) rest l (i q) k) b
      ∙ ap (λ (xs : List ℕ). concat_map (into b) (reverse qs) ++ xs) (edges-list q (successors f q) rest l (i q) k b)
      ∙ sym (append_assoc (concat_map (into b) (reverse qs)) (into b q) (list_at l b))
      ∙ ap (λ (xs : List ℕ). xs ++ list_at l b)
      (sym (ap (concat_map (into b)) (reverse-cons q qs) ∙ concat_map-append (into b) (reverse qs) (q ∷ [])
      ∙ ap (λ (xs : List ℕ). concat_map (into b) (reverse qs) ++ xs) (append-nil (into b q))))

length-concat_map-reverse : (g : ℕ → List ℕ) (xs : List ℕ) → length (concat_map g (reverse xs)) ≡ length (concat_map g xs)
length-concat_map-reverse g [] = refl
length-concat_map-reverse g (x ∷ xs) =
    ap (λ (ys : List ℕ). length (concat_map g ys)) (reverse-cons x xs)
    ∙ ap length (concat_map-append g (reverse xs) (x ∷ []))
    ∙ omega (
      arith,
      length-append (concat_map g (reverse xs)) (g x ++ []),
      length-append (g x) (concat_map g xs),
      ap length (append-nil (g x)),
      length-concat_map-reverse g xs,
    )

-- THE LAW. Of tables lent as zeros, by a file whose numbers are in it,
module _ (f : Function) (in_file : T (numbers_in_file f)) (first from next : List ℕ) (h : LentLinks f (links first from next 0)) where
  abbrev lent : Links
  lent = links first from next 0

  pub successors-inside : (q : ℕ) → Inside (successors f q) lent
  successors-inside q t m = let l = successor-in-file f in_file q m in omega (arith, h.blocks)

  pub lent-chained : (m : ℕ) → m ≤ length (reachable_edges f) → Chained m lent
  lent-chained m l =
      record {
        froms = omega (arith, h.froms);
        nexts = omega (arith, h.nexts);
        starts = λ b. omega (arith, zeros-at h.first b);
        falls = λ e k. absurd (omega arith);
      }

  pub linked-chained : Chained 0 (linked f lent)
  unfolding linked
  linked-chained =
      blocks-chained f (reverse (reachable f)) lent successors-inside
      (lent-chained _ (omega (arith, length-concat_map-reverse (successors f) (reachable f))))

  -- the list of each block is its predecessors, once an edge, ascending by index.
  pub predecessors-linked : (b : ℕ) → list_at (linked f lent) b ≡ predecessors f b
  unfolding linked
  predecessors-linked b =
      blocks-list f (reverse (reachable f)) lent successors-inside
      (lent-chained _ (omega (arith, length-concat_map-reverse (successors f) (reachable f)))) b
      ∙ append-nil (concat_map (into f b) (reverse (reverse (reachable f))))
      ∙ ap (concat_map (into f b)) (reverse-reverse (reachable f))

-- A list is read entry by entry, from its first tag to the tag 0.
pub list-none : (from next : List ℕ) (k : ℕ) → list_from from next k 0 ≡ []
list-none from next zero = refl
list-none from next (suc k) = refl
