-- A turn keeps what holds between turns, and is a step of the machine.
use Prim.Native.Nat.{ℕ, suc, ◌+◌, ◌-◌, ◌<◌, ◌≤◌}
use mathlib.Core.Path.{◌≡◌, refl, sym, ◌∙◌, subst}
use mathlib.Core.Logic.{◌≢◌}
use mathlib.Core.HLevel.{¬_prop}
use mathlib.Core.Bool.{not}
use mathlib.Core.List.{List, [], ◌∷◌, reverse, Pairwise-reverse_aux}
use native.Mathlib.Omega.{arith}
use Rattle.std.specs.Prelude.{Option, Some, None}
use lib.ListN.{length, get_or, set, take, length-set, length-reverse}
use lib.Seq.{get_or-set_same, get_or-set_other, length-take-le}
use lib.Dec.{T, T_not, not_T, eqb, eqb→eq}
use Rattle.rules.specs.Tree.{Function}
use Rattle.rules.specs.Lists.{has}
use Rattle.rules.specs.File.{named, function_in}
use Rattle.lists.specs.Tests.{test-elim, if-elim, neqb→ne, chosen, left_out}
use Rattle.lists.specs.Members.{◌∈◌, here, has→∈, ∈-reverse_aux-left, ∈-reverse_aux-right}
use Rattle.lists.specs.Down.{down, length-down}
use Rattle.walks.specs.Line.{sound-nodup}
use Rattle.walks.specs.InFile.{path-in-file, successor-in-file}
use Rattle.walks.specs.Machine.{Frame, Machine, blocks_on, Stacked, Kept, Going, step, push, step-going, step_kept, stack-length-le}
use Rattle.graph.specs.Between.{between}
use Rattle.graph.specs.Tails.{TailLast, tail_last-later}
use Rattle.graph.specs.NextEdge.{Taken, edge_from, edge_from-taken}
use Rattle.graph.specs.declared.edges.NextEdge.{NextEdge}
use Rattle.graph.specs.Tables.{Tables, finish_top, enter_block, look_from, take_edge, turn_by, turn_on, frame_of, frame_at, stage_of, machine_of, Given, Room, Clear, Ready}
use Rattle.graph.specs.ByTable.{some, end-le, start-less, edges-all, block-tail}
use Rattle.graph.proofs.Tags.{Tagged, tagged-more, tagged-other}
use Rattle.graph.proofs.Steps.{stack_top, step-top, finish-step, skip_step, enter_step}

-- blocks open and blocks done are no more than there are
pub size-le :
    (s places : List ℕ) (t : Tables) → Given s places → t.count ≤ length t.order
    → Kept (function_in s) (machine_of s places t) → t.depth + t.count ≤ length (function_in s).blocks
unfolding machine_of
size-le s places t g c k =
    let all : length (down (frame_at s places t) t.depth) + length (reverse (take t.count t.order)) ≤ length (function_in s).blocks =
    stack-length-le (function_in s) g.in_file (some s places g) (machine_of s places t) k in
    omega (
      arith,
      length-down (frame_at s places t) t.depth,
      length-reverse (take t.count t.order),
      length-take-le t.count t.order c,
    )

-- THE INNERMOST BLOCK
module _ (s places : List ℕ) (t : Tables) (r : Ready s places t) (opened : 0 < t.depth) where
  abbrev f : Function
  f = function_in s

  abbrev top : ℕ
  top = t.depth - 1

  abbrev b : ℕ
  b = get_or t.stack top 0

  abbrev m : Machine
  m = machine_of s places t

  abbrev below : List Frame
  below = down (frame_at s places t) top

  -- the edges that it has left
  abbrev edges : List ℕ
  edges = named 7 (between s (get_or t.next top 0) (get_or places (b + 1) 0))

  -- an edge of block x is looked for from place p on
  abbrev Looks : ℕ → ℕ → Type 0
  Looks x p = (get_or places x 0 < p) × (p ≤ get_or places (x + 1) 0)

  deep : t.depth ≡ suc top
  deep = omega arith

  stacked : Stacked f (frame_at s places t top ∷ below)
  stacked =
      subst (Stacked f) (stack_top s places t.order t.index t.stack t.next t.depth top t.count deep) r.kept.stacked

  pub top-in-file : b < length f.blocks
  top-in-file = path-in-file f r.given.in_file (some s places r.given) stacked.0

  pub size : t.depth + t.count ≤ length f.blocks
  size = size-le s places t r.given r.counted r.kept

  -- it is in the line of the blocks done and the blocks open, behind those done
  on_stack : b ∈ blocks_on m.stack
  on_stack =
      subst (λ (frames : List Frame). b ∈ blocks_on frames)
      (sym (stack_top s places t.order t.index t.stack t.next t.depth top t.count deep)) (here refl)

  pub top-entered : get_or t.index b 0 ≢ 0
  unfolding machine_of
  top-entered =
      neqb→ne (get_or t.index b 0) 0
      (r.kept.sound.∈→entered (∈-reverse_aux-right (stage_of t).done on_stack))

  -- a block that is done is marked
  done-entered : (x : ℕ) → T (has x (take t.count t.order)) → get_or t.index x 0 ≢ 0
  unfolding machine_of
  done-entered x h =
      neqb→ne (get_or t.index x 0) 0
      (r.kept.sound.∈→entered (∈-reverse_aux-left (blocks_on m.stack) (∈-reverse_aux-left [] (has→∈ (take t.count t.order) h))))

  -- and not open
  top-not-done : T (not (has b (take t.count t.order)))
  unfolding machine_of
  top-not-done =
      not_T (has b (take t.count t.order))
      (λ h.
      ((Pairwise-reverse_aux (λ x y. ¬_prop) {l = (stage_of t).done} {acc = blocks_on m.stack}).0 (sound-nodup r.kept.sound)).2
      b ∣ ∈-reverse_aux-left [] (has→∈ (take t.count t.order) h) ∣₁ b ∣ on_stack ∣₁ refl)

  -- AFTER THE TURN. The machine has stepped, and the tables are as they should be.
  pub record Turned (t' : Tables) : Type 0 where
    pub ready : Ready s places t'
    pub stepped : machine_of s places t' ≡ step f m

  again :
      (t' : Tables) → machine_of s places t' ≡ step f m → Room (length f.blocks) t' → Clear t' → t'.count ≤ length t'.order
      → ((j : ℕ) → j < t'.depth → Looks (get_or t'.stack j 0) (get_or t'.next j 0))
      → Tagged t'.index (take t'.count t'.order) → Turned t'
  again t' e room clear counted within tagged =
      record {
        ready =
            record {
              given = r.given;
              room = room;
              clear = clear;
              counted = counted;
              within = within;
              tagged = tagged;
              going = subst (Going f) (sym e) (step-going f m r.going);
              kept = subst (Kept f) (sym e) (step_kept f m r.kept);
              tails = r.tails;
            };
        stepped = e;
      }

  -- a cleared place, and those above it
  cleared : (l : List ℕ) → top < length l → ((j : ℕ) → t.depth ≤ j → get_or l j 0 ≡ 0) → (j : ℕ) → top ≤ j → get_or (set l top 0) j 0 ≡ 0
  cleared l k h j le =
      test-elim (eqb j top)
      (λ same. let e : j ≡ top = eqb→eq j top same in rw e (get_or-set_same l top 0 0 k))
      (λ other. get_or-set_other l top j 0 0 (neqb→ne j top other) ∙ h j (omega (arith, neqb→ne j top other)))

  -- the top is done
  finish-turned : edges ≡ [] → Turned (finish_top t)
  finish-turned e =
      let n = size in
      let o = r.room.order in
      let i = r.room.index in
      let k = r.room.stack in
      let x = r.room.next in
      let l : t.count < length t.order = omega arith in
      let inside : b < length t.index = omega (arith, top-in-file) in
      again (finish_top t)
      (finish-step s places t.order t.index t.stack t.next t.depth top t.count deep l inside top-entered
      ∙ sym (step-top s places t.order t.index t.stack t.next t.depth top t.count deep f [] e))
      (record { order = rw length-set o; index = rw length-set i; stack = rw length-set k; next = rw length-set x })
      (record {
        order = λ j le. get_or-set_other t.order t.count j b 0 (λ z. omega arith) ∙ r.clear.order j (omega arith);
        stack = cleared t.stack (omega arith) r.clear.stack;
        next = cleared t.next (omega arith) r.clear.next;
      })
      (rw length-set (omega arith))
      (λ j le.
      rw (get_or-set_other t.next top j 0 0 (λ z. omega arith), get_or-set_other t.stack top j 0 0 (λ z. omega arith))
      (r.within j (omega arith)))
      (tagged-more t.order t.index t.count b l inside top-not-done r.tagged)

  -- AN EDGE to block u is taken, and the next is looked for from place p on
  module _ (u p : ℕ) (e : edges ≡ u ∷ named 7 (between s p (get_or places (b + 1) 0))) (l : p ≤ get_or places (b + 1) 0) (later : get_or t.next top 0 < p) where
    abbrev on_top : List Frame
    on_top = frame_of s places b p ∷ below

    top-next : top < length t.next
    top-next = let n = size in omega (arith, r.room.next)

    pub target-in-file : u < length f.blocks
    target-in-file = successor-in-file f r.given.in_file b (stacked.1 u (subst (λ (ts : List ℕ). u ∈ ts) (sym e) (here refl)))

    looks-within : (j : ℕ) → j < t.depth → Looks (get_or t.stack j 0) (get_or (set t.next top p) j 0)
    looks-within j le =
        test-elim (eqb j top)
        (λ same.
        let z : j ≡ top = eqb→eq j top same in
        let started = (r.within top (omega arith)).0 in
        rw (z, get_or-set_same t.next top p 0 top-next) (omega arith, l))
        (λ other. rw (get_or-set_other t.next top j p 0 (neqb→ne j top other)) (r.within j le))

    skip-turned : T (not (eqb (get_or t.index u 0) 0)) → Turned (look_from p t)
    skip-turned y =
        again (look_from p t)
        (skip_step s places t.order t.index t.stack t.next t.depth top t.count deep p top-next
        ∙ sym (step-top s places t.order t.index t.stack t.next t.depth top t.count deep f (u ∷ named 7 (between s p (get_or places (b + 1) 0))) e
        ∙ chosen (not (eqb (get_or t.index u 0) 0)) (record { stack = on_top; stage = stage_of t }) (push f u on_top (stage_of t)) y))
        (record { order = r.room.order; index = r.room.index; stack = r.room.stack; next = rw length-set r.room.next })
        (record {
          order = r.clear.order;
          stack = r.clear.stack;
          next = λ j le. get_or-set_other t.next top j p 0 (λ z. omega arith) ∙ r.clear.next j le;
        })
        r.counted
        looks-within
        r.tagged

    module _ (new : T (eqb (get_or t.index u 0) 0)) where
      unmarked : get_or t.index u 0 ≡ 0
      unmarked = eqb→eq (get_or t.index u 0) 0 new

      step-new : step f m ≡ push f u on_top (stage_of t)
      step-new =
          step-top s places t.order t.index t.stack t.next t.depth top t.count deep f (u ∷ named 7 (between s p (get_or places (b + 1) 0))) e
          ∙ left_out (not (eqb (get_or t.index u 0) 0)) (record { stack = on_top; stage = stage_of t }) (push f u on_top (stage_of t))
          (not_T (not (eqb (get_or t.index u 0) 0)) (λ h. T_not (eqb (get_or t.index u 0) 0) h new))

      -- there is room for one more
      pub enter-room : t.depth < length f.blocks
      enter-room =
          let all : length (push f u on_top (stage_of t)).stack + length (reverse (take t.count t.order)) ≤ length f.blocks =
          stack-length-le f r.given.in_file (some s places r.given) (push f u on_top (stage_of t))
          (subst (Kept f) step-new (step_kept f m r.kept)) in
          omega (arith, length-down (frame_at s places t) top)

      enters-within :
          (j : ℕ) → j < t.depth + 1
          → Looks (get_or (set t.stack t.depth u) j 0) (get_or (set (set t.next top p) t.depth (get_or places u 0 + 1)) j 0)
      enters-within j le =
          let d = t.depth in
          let first = get_or places u 0 + 1 in
          let n = enter-room in
          test-elim (eqb j d)
          (λ same.
          let z : j ≡ d = eqb→eq j d same in
          let long : d < length (set t.next top p) = rw length-set (omega (arith, r.room.next)) in
          rw (z, get_or-set_same (set t.next top p) d first 0 long, get_or-set_same t.stack d u 0 (omega (arith, r.room.stack)))
          (omega arith, start-less s places r.given u target-in-file))
          (λ other.
          let z : j ≢ d = neqb→ne j d other in
          rw (get_or-set_other (set t.next top p) d j first 0 z, get_or-set_other t.stack d j u 0 z) (looks-within j (omega arith)))

      enter-turned : Turned (enter_block places u (look_from p t))
      enter-turned =
          let n = enter-room in
          let first = get_or places u 0 + 1 in
          let inside : u < length t.index = omega (arith, target-in-file, r.room.index) in
          again (enter_block places u (look_from p t))
          (enter_step s places t.order t.index t.stack t.next t.depth top t.count deep p top-next f u
          (omega (arith, r.room.stack)) (omega (arith, r.room.next)) inside (edges-all s places r.given u target-in-file)
          ∙ sym step-new)
          (record { order = r.room.order; index = rw length-set r.room.index; stack = rw length-set r.room.stack; next = rw (length-set, length-set) r.room.next })
          (record {
            order = r.clear.order;
            stack = λ j le. get_or-set_other t.stack t.depth j u 0 (λ z. omega arith) ∙ r.clear.stack j (omega arith);
            next =
                λ j le.
                get_or-set_other (set t.next top p) t.depth j first 0 (λ z. omega arith)
                ∙ get_or-set_other t.next top j p 0 (λ z. omega arith) ∙ r.clear.next j (omega arith);
          })
          r.counted
          enters-within
          (tagged-other t.index (take t.count t.order) u 1
          (not_T (has u (take t.count t.order)) (λ h. done-entered u h unmarked)) r.tagged)

    take-turned : Turned (take_edge places u (look_from p t))
    take-turned =
        if-elim Turned (eqb (get_or t.index u 0) 0) (enter_block places u (look_from p t)) (look_from p t) enter-turned skip-turned

  -- what is found decides
  by_turned : (e : Option NextEdge) → Taken s (get_or t.next top 0) (get_or places (b + 1) 0) edges e → Turned (turn_by places e t)
  by_turned None h = finish-turned h
  by_turned (Some x) h = take-turned x.target x.behind h.0 h.1 h.2

  -- where the next edge is looked for
  pub looks-in-block : get_or t.next top 0 ≤ get_or places (b + 1) 0
  looks-in-block = (r.within top (omega arith)).1

  -- its tail is all that stands behind a record of it
  pub tail-in-block : TailLast s (get_or t.next top 0) (get_or places (b + 1) 0)
  tail-in-block =
      let started = (r.within top (omega arith)).0 in
      tail_last-later s (get_or places b 0 + 1) (get_or t.next top 0) (get_or places (b + 1) 0) (omega arith)
      (block-tail s places r.given b top-in-file r.tails)

  pub taken : Taken s (get_or t.next top 0) (get_or places (b + 1) 0) edges (edge_from s (get_or t.next top 0) (get_or places (b + 1) 0))
  taken =
      edge_from-taken s (get_or places (b + 1) 0) (get_or t.next top 0) looks-in-block (end-le s places r.given b top-in-file)

  -- A turn is a step, and leaves everything ready for the next.
  pub turned : Turned (turn_on s places t)
  unfolding turn_on
  turned = by_turned _ taken
