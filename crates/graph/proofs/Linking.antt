-- Linking the edges of a block, one after the other, and the blocks, from the highest index down.
use Prim.Native.Nat.{ℕ, suc, ◌+◌, ◌-◌, ◌<◌, ◌≤◌}
use mathlib.Core.Path.{◌≡◌, refl, sym, ap, ◌∙◌, subst}
use mathlib.Core.List.{List, [], ◌∷◌, ◌++◌, reverse, reverse-append, append-nil}
use native.Mathlib.Omega.{arith}
use Rattle.std.specs.Prelude.{Option, Some, None}
use lib.ListN.{length, get_or, take, length-append}
use lib.Seq.{take-suc, take-length}
use Rattle.rules.specs.Tree.{Function}
use Rattle.rules.specs.Lists.{concat_map, foldl}
use Rattle.rules.specs.Records.{record_count}
use Rattle.rules.specs.File.{named, function_in}
use Rattle.rules.specs.Graph.{successors, reachable}
use Rattle.lists.specs.Members.{here}
use Rattle.lists.specs.Maps.{concat_map-append}
use Rattle.walks.specs.InFile.{successor-in-file}
use Rattle.graph.specs.declared.edges.NextEdge.{NextEdge}
use Rattle.graph.specs.Between.{between}
use Rattle.graph.specs.NextEdge.{edge_from, targets_from, edge_from-targets, edge_from-behind}
use Rattle.graph.specs.Links.{Links, links, link_edge, link_block, linked, LentLinks, Walked, Linkable}
use Rattle.graph.specs.LinkLaws.{edge-linkable, edges-used}
use Rattle.graph.specs.ByTable.{block_listed, block-at-index}

-- EDGES. What is left to link, from the edge found on, leads to the end.
pub record Linking (s : List ℕ) (q p : ℕ) (end l : Links) (e : Option NextEdge) : Type 0 where
  pub linkable : Linkable (targets_from s q e) l
  pub inside : (x : NextEdge) → e ≡ Some x → x.behind ≤ q
  pub rest : foldl (link_edge p) l (targets_from s q e) ≡ end

module _ (s : List ℕ) (q p : ℕ) (k : q ≤ record_count s) where
  -- from a place on
  pub linking-from :
      (end l : Links) (from : ℕ) → from ≤ q → Linkable (named 7 (between s from q)) l
      → foldl (link_edge p) l (named 7 (between s from q)) ≡ end → (e : Option NextEdge) → e ≡ edge_from s from q → Linking s q p end l e
  linking-from end l from le h r e same =
      rw same
      (record {
        linkable = subst (λ (ts : List ℕ). Linkable ts l) (edge_from-targets s from q le k) h;
        inside = edge_from-behind s from q le k;
        rest = ap (foldl (link_edge p) l) (sym (edge_from-targets s from q le k)) ∙ r;
      })

  module _ (end l : Links) (e : Option NextEdge) (h : Linking s q p end l e) where
    -- none is left
    pub linking-done : e ≡ None → l ≡ end
    linking-done none =
        sym (ap (λ (x : Option NextEdge). foldl (link_edge p) l (targets_from s q x)) none) ∙ h.rest

    module _ (x : NextEdge) (is : e ≡ Some x) where
      abbrev others : List ℕ
      others = named 7 (between s x.behind q)

      taken : Linkable (x.target ∷ others) l
      taken = subst (λ (y : Option NextEdge). Linkable (targets_from s q y) l) is h.linkable

      -- the edge has room
      pub linking-room : (x.target < length l.first) × (l.used < length l.from) × (l.used < length l.next)
      linking-room =
          let a = taken.froms in
          let b = taken.nexts in
          (taken.inside x.target (here refl), omega arith, omega arith)

      pub linking-inside : x.behind ≤ q
      linking-inside = h.inside x is

      -- the next one is found behind it
      pub linking-more :
          (l' : Links) → l' ≡ link_edge p l x.target → (e' : Option NextEdge) → e' ≡ edge_from s x.behind q → Linking s q p end l' e'
      linking-more l' same =
          rw same
          (linking-from end (link_edge p l x.target) x.behind linking-inside (edge-linkable p x.target others l taken)
          (ap (λ (y : Option NextEdge). foldl (link_edge p) l (targets_from s q y)) (sym is) ∙ h.rest))

      pub linking-less :
          (e' : Option NextEdge) → e' ≡ edge_from s x.behind q → length (targets_from s q e') < length (targets_from s q e)
      linking-less e' same =
          rw (same, ← edge_from-targets s x.behind q linking-inside k)
          (subst (λ (y : Option NextEdge). length others < length (targets_from s q y)) (sym is) (omega arith))

-- BLOCKS. The first i of them by index are left to link.
pub record Listing (s : List ℕ) (lent l : Links) (i : ℕ) : Type 0 where
  pub first : length l.first ≡ length lent.first
  pub from : length l.from ≡ length lent.from
  pub next : length l.next ≡ length lent.next
  pub below : i ≤ length (reachable (function_in s))
  pub froms : l.used + length (concat_map (successors (function_in s)) (take i (reachable (function_in s)))) ≤ length lent.from
  pub nexts : l.used + length (concat_map (successors (function_in s)) (take i (reachable (function_in s)))) ≤ length lent.next
  pub rest : foldl (link_block (function_in s)) l (reverse (take i (reachable (function_in s)))) ≡ linked (function_in s) lent

module _ (s places order : List ℕ) (w : Walked s places order (length order)) where
  abbrev f : Function
  f = function_in s

  -- all are left at the start
  pub listing_start : (first from next : List ℕ) → LentLinks f (links first from next 0) → Listing s (links first from next 0) (links first from next 0) (length order)
  unfolding linked
  listing_start first from next h =
      let all : take (length order) (reachable f) ≡ reachable f = ap (λ (n : ℕ). take n (reachable f)) w.counted ∙ take-length (reachable f) in
      let room = ap (λ (xs : List ℕ). length (concat_map (successors f) xs)) all in
      record {
        first = refl;
        from = refl;
        next = refl;
        below = omega (arith, w.counted);
        froms = omega (arith, room, h.froms);
        nexts = omega (arith, room, h.nexts);
        rest = ap (λ (xs : List ℕ). foldl (link_block f) (links first from next 0) (reverse xs)) all;
      }

  module _ (lent l : Links) (h : LentLinks f lent) (i : ℕ) (g : Listing s lent l i) where
    -- none is left at the end
    listing-done : i ≡ 0 → l ≡ linked f lent
    listing-done none = sym (ap (λ (n : ℕ). foldl (link_block f) l (reverse (take n (reachable f)))) none) ∙ g.rest

    module _ (opened : 0 < i) where
      abbrev j : ℕ
      j = i - 1

      -- the block of index j
      abbrev b : ℕ
      b = get_or order j 0

      pub indexed_below : j < length order
      indexed_below = omega (arith, w.counted, g.below)

      pub block-in-file : b < length f.blocks
      block-in-file = block_listed w j indexed_below

      -- the blocks of lower indices, and it
      split : take i (reachable f) ≡ take j (reachable f) ++ (b ∷ [])
      split =
          let k = g.below in
          let is : i ≡ suc j = omega arith in
          ap (λ (n : ℕ). take n (reachable f)) is ∙ take-suc (reachable f) j 0 (omega arith)
          ∙ ap (λ (x : ℕ). take j (reachable f) ++ (x ∷ [])) (sym (block-at-index w j))

      edges-split :
          length (concat_map (successors f) (take i (reachable f)))
          ≡ length (concat_map (successors f) (take j (reachable f))) + length (successors f b)
      edges-split =
          ap (λ (xs : List ℕ). length (concat_map (successors f) xs)) split
          ∙ ap length (concat_map-append (successors f) (take j (reachable f)) (b ∷ []) ∙ ap (λ (xs : List ℕ). concat_map (successors f) (take j (reachable f)) ++ xs) (append-nil (successors f b)))
          ∙ length-append (concat_map (successors f) (take j (reachable f))) (successors f b)

      -- its edges have room
      pub block-linkable : Linkable (successors f b) l
      block-linkable =
          record {
            inside =
                λ t m.
                let n = successor-in-file f w.given.in_file b m in
                omega (arith, h.blocks, g.first);
            froms = omega (arith, edges-split, g.froms, g.from);
            nexts = omega (arith, edges-split, g.nexts, g.next);
          }

      -- when they are linked, the blocks below it are left
      pub listing-more :
          (l' : Links) → l' ≡ link_block f l b → length l'.first ≡ length l.first → length l'.from ≡ length l.from → length l'.next ≡ length l.next
          → Listing s lent l' j
      listing-more l' same x y z =
          let more : l'.used ≡ l.used + length (successors f b) = ap (λ (k : Links). k.used) same ∙ edges-used b (successors f b) l in
          let k = g.below in
          record {
            first = x ∙ g.first;
            from = y ∙ g.from;
            next = z ∙ g.next;
            below = omega arith;
            froms = omega (arith, edges-split, g.froms);
            nexts = omega (arith, edges-split, g.nexts);
            rest =
                ap (λ (k : Links). foldl (link_block f) k (reverse (take j (reachable f)))) same
                ∙ sym (ap (λ (xs : List ℕ). foldl (link_block f) l (reverse xs)) split
                ∙ ap (foldl (link_block f) l) (reverse-append (take j (reachable f)) (b ∷ [])))
                ∙ g.rest;
          }

    -- The lent tables have what the lists' have.
    pub linked_back :
        i ≡ 0 → (first from next : List ℕ) → first ≡ l.first → from ≡ l.from → next ≡ l.next
        → links first from next l.used ≡ linked (function_in s) lent
    linked_back none first from next a b c = rw (a, b, c) (listing-done none)
