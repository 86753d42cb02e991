-- The three ways of a turn as its code meets them: what each may read and write, and what it leaves.
use Prim.Native.Nat.{ℕ, ◌+◌, ◌-◌, ◌<◌, ◌≤◌}
use mathlib.Core.Path.{◌≡◌, sym, ap, ◌∙◌, subst}
use mathlib.Core.Logic.{◌≢◌}
use mathlib.Core.List.{List}
use native.Mathlib.Omega.{arith}
use Rattle.std.specs.Prelude.{Option, Some, None}
use lib.ListN.{length, get_or}
use lib.Dec.{not_T, eqb, eqb→eq}
use Rattle.rules.specs.File.{named, function_in}
use Rattle.lists.specs.Tests.{eq→eqb, chosen, left_out}
use Rattle.graph.specs.Between.{between}
use Rattle.graph.specs.Tails.{TailLast}
use Rattle.graph.specs.NextEdge.{Taken, edge_from}
use Rattle.graph.specs.Tables.{Tables, finish_top, enter_block, look_from, take_edge, turn_by, turn_on, Ready}
use Rattle.graph.specs.declared.edges.NextEdge.{NextEdge}
use Rattle.graph.proofs.Turning.{top-in-file, size, looks-in-block, tail-in-block, taken, target-in-file, enter-room}

-- what is known of the innermost block
pub record Top (s places : List ℕ) (t : Tables) : Type 0 where
  pub stack : t.depth ≤ length t.stack
  pub next : t.depth ≤ length t.next
  pub order : t.count < length t.order
  pub index : get_or t.stack (t.depth - 1) 0 < length t.index
  pub listed : get_or t.stack (t.depth - 1) 0 < length (function_in s).blocks
  pub looks : get_or t.next (t.depth - 1) 0 ≤ get_or places (get_or t.stack (t.depth - 1) 0 + 1) 0
  pub tail : TailLast s (get_or t.next (t.depth - 1) 0) (get_or places (get_or t.stack (t.depth - 1) 0 + 1) 0)

-- and of block u, to which an edge leads
pub record Target (s places : List ℕ) (t : Tables) (u : ℕ) : Type 0 where
  pub index : u < length t.index
  pub listed : u < length (function_in s).blocks
  pub room : get_or t.index u 0 ≡ 0 → (t.depth < length t.stack) × (t.depth < length t.next)

module _ (s places : List ℕ) (t : Tables) (r : Ready s places t) (opened : 0 < t.depth) where
  pub top-known : Top s places t
  top-known =
      let n = size s places t r opened in
      let inside = top-in-file s places t r opened in
      record {
        stack = omega (arith, r.room.stack);
        next = omega (arith, r.room.next);
        order = omega (arith, r.room.order);
        index = omega (arith, r.room.index);
        listed = inside;
        looks = looks-in-block s places t r opened;
        tail = tail-in-block s places t r opened;
      }

  -- where the next edge is found
  abbrev found : Option NextEdge
  found = edge_from s (get_or t.next (t.depth - 1) 0) (get_or places (get_or t.stack (t.depth - 1) 0 + 1) 0)

  pub target-known : (e : Option NextEdge) → e ≡ found → (x : NextEdge) → e ≡ Some x → Target s places t x.target
  target-known e same x is =
      let end = get_or places (get_or t.stack (t.depth - 1) 0 + 1) 0 in
      let h = subst (Taken s (get_or t.next (t.depth - 1) 0) end (named 7 (between s (get_or t.next (t.depth - 1) 0) end))) (sym same ∙ is) (taken s places t r opened) in
      let inside = target-in-file s places t r opened x.target x.behind h.0 h.1 h.2 in
      record {
        index = omega (arith, r.room.index);
        listed = inside;
        room =
            λ new.
            let l = enter-room s places t r opened x.target x.behind h.0 h.1 h.2 (eq→eqb new) in
            (omega (arith, r.room.stack), omega (arith, r.room.next));
      }

-- what a turn leaves, by what is found
module _ (s places : List ℕ) (t : Tables) (e : Option NextEdge)
    (same : e ≡ edge_from s (get_or t.next (t.depth - 1) 0) (get_or places (get_or t.stack (t.depth - 1) 0 + 1) 0)) where
  by-found : turn_on s places t ≡ turn_by places e t
  unfolding turn_on
  by-found = ap (λ (x : Option NextEdge). turn_by places x t) (sym same)

  -- no edge
  pub turn-finish : e ≡ None → turn_on s places t ≡ finish_top t
  turn-finish none = by-found ∙ ap (λ (x : Option NextEdge). turn_by places x t) none

  module _ (x : NextEdge) (is : e ≡ Some x) where
    -- an edge
    turn-take : turn_on s places t ≡ take_edge places x.target (look_from x.behind t)
    turn-take = by-found ∙ ap (λ (y : Option NextEdge). turn_by places y t) is

    -- to a block already entered
    pub turn-skip : get_or t.index x.target 0 ≢ 0 → turn_on s places t ≡ look_from x.behind t
    turn-skip entered =
        let tag = get_or t.index x.target 0 in
        let looked = look_from x.behind t in
        turn-take
        ∙ left_out (eqb tag 0) (enter_block places x.target looked) looked (not_T (eqb tag 0) (λ z. entered (eqb→eq tag 0 z)))

    -- to a new one
    pub turn-enter : get_or t.index x.target 0 ≡ 0 → turn_on s places t ≡ enter_block places x.target (look_from x.behind t)
    turn-enter new =
        let tag = get_or t.index x.target 0 in
        let looked = look_from x.behind t in
        turn-take ∙ chosen (eqb tag 0) (enter_block places x.target looked) looked (eq→eqb new)
