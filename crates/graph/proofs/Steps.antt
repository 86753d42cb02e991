-- What each of a turn's three ways does to the tables is a step of the machine.
use Prim.Native.Nat.{ℕ, suc, ◌+◌, ◌<◌}
use mathlib.Core.Path.{◌≡◌, refl, ap, ap₂, ◌∙◌}
use mathlib.Core.Logic.{◌≢◌}
use mathlib.Core.List.{List, ◌∷◌}
use native.Mathlib.Omega.{arith}
use native.Mathlib.Numerals.{add-one}
use lib.ListN.{length, get_or, set, length-set}
use lib.Seq.{get_or-set_same, get_or-set_other}
use Rattle.rules.specs.Lists.{NumberSet}
use Rattle.rules.specs.Tree.{Function}
use Rattle.rules.specs.File.{named}
use Rattle.rules.specs.Graph.{successors}
use Rattle.lists.specs.Down.{down, down-same}
use Rattle.walks.specs.Walks.{finishing}
use Rattle.walks.specs.Machine.{Frame, Machine, push, step, step_on, step_top}
use Rattle.graph.specs.Between.{between}
use Rattle.graph.specs.Tables.{Tables, tables, frame_of, frame_at, stage_of, machine_of}
use Rattle.graph.proofs.Marks.{done_more, mark_set, mark-kept}

machine-eq :
    {stack stack' : List Frame} {entered entered' : NumberSet} {done done' : List ℕ}
    → stack ≡ stack' → ((x : ℕ) → entered x ≡ entered' x) → done ≡ done'
    → ◌≡◌ {A = Machine} (record { stack = stack; stage = record { entered = entered; done = done } })
    (record { stack = stack'; stage = record { entered = entered'; done = done' } })
machine-eq p q r = λ i. record { stack = p i; stage = record { entered = λ x. q x i; done = r i } }

module _ (s places order index stack next : List ℕ) (depth top count : ℕ) (deep : depth ≡ suc top) where
  abbrev t : Tables
  t = tables order index stack next depth count

  abbrev b : ℕ
  b = get_or stack top 0

  abbrev below : List Frame
  below = down (frame_at s places t) top

  -- the innermost block is on top
  pub stack_top : (machine_of s places t).stack ≡ frame_at s places t top ∷ below
  unfolding machine_of
  stack_top = ap (down (frame_at s places t)) deep

  -- the machine steps by the edges that the innermost block has left
  pub step-top :
      (f : Function) (ts : List ℕ) → named 7 (between s (get_or next top 0) (get_or places (b + 1) 0)) ≡ ts
      → step f (machine_of s places t) ≡ step_top f b ts below (stage_of t)
  unfolding machine_of
  step-top f ts e =
      ap (λ (frames : List Frame). step_on f frames (stage_of t)) stack_top
      ∙ ap (λ (edges : List ℕ). step_top f b edges below (stage_of t)) e

  -- blocks below it stay as they are
  same-below :
      (stack' next' : List ℕ) → ((j : ℕ) → j < top → get_or stack' j 0 ≡ get_or stack j 0)
      → ((j : ℕ) → j < top → get_or next' j 0 ≡ get_or next j 0)
      → down (λ j. frame_of s places (get_or stack' j 0) (get_or next' j 0)) top ≡ below
  same-below stack' next' p q =
      down-same (λ j. frame_of s places (get_or stack' j 0) (get_or next' j 0)) (frame_at s places t) top
      (λ j l. ap₂ (frame_of s places) (p j l) (q j l))

  -- THE TOP IS DONE
  pub finish-step :
      count < length order → b < length index → get_or index b 0 ≢ 0
      → machine_of s places (tables (set order count b) (set index b (count + 1)) (set stack top 0) (set next top 0) top (count + 1))
      ≡ record { stack = below; stage = finishing b (stage_of t) }
  unfolding machine_of
  finish-step l k marked =
      machine-eq
      (same-below (set stack top 0) (set next top 0) (λ j m. get_or-set_other stack top j 0 0 (λ e. omega arith))
      (λ j m. get_or-set_other next top j 0 0 (λ e. omega arith)))
      (mark-kept index b (count + 1) k (λ e. omega arith) marked)
      (done_more order count b l)

  module _ (p : ℕ) (room : top < length next) where
    -- the top with its edges from place p on
    abbrev on_top : List Frame
    on_top = frame_of s places b p ∷ below

    top-looks : down (λ j. frame_of s places (get_or stack j 0) (get_or (set next top p) j 0)) (suc top) ≡ on_top
    top-looks =
        ap₂ (λ (q : ℕ) (rest : List Frame). frame_of s places b q ∷ rest) (get_or-set_same next top p 0 room)
        (same-below stack (set next top p) (λ j m. refl) (λ j m. get_or-set_other next top j p 0 (λ e. omega arith)))

    -- AN EDGE to a block already entered
    pub skip_step : machine_of s places (tables order index stack (set next top p) depth count) ≡ record { stack = on_top; stage = stage_of t }
    unfolding machine_of
    skip_step =
        ap (λ (frames : List Frame). record { stack = frames; stage = stage_of t })
        (ap (down (λ j. frame_of s places (get_or stack j 0) (get_or (set next top p) j 0))) deep ∙ top-looks)

    -- AN EDGE to a new block
    pub enter_step :
        (f : Function) (u : ℕ) → depth < length stack → depth < length next → u < length index
        → named 7 (between s (get_or places u 0 + 1) (get_or places (u + 1) 0)) ≡ successors f u
        → machine_of s places (tables order (set index u 1) (set stack depth u) (set (set next top p) depth (get_or places u 0 + 1)) (depth + 1) count)
        ≡ push f u on_top (stage_of t)
    unfolding machine_of
    enter_step f u ls ln lu e = machine-eq frames (mark_set index u 1 lu (λ z. omega arith)) refl
      where
        first : ℕ
        first = get_or places u 0 + 1

        before : ℕ → Frame
        before j = frame_of s places (get_or stack j 0) (get_or (set next top p) j 0)

        now' : ℕ → Frame
        now' j = frame_of s places (get_or (set stack depth u) j 0) (get_or (set (set next top p) depth first) j 0)

        new : now' depth ≡ record { block = u; edges = successors f u }
        new =
            ap₂ (frame_of s places) (get_or-set_same stack depth u 0 ls)
            (get_or-set_same (set next top p) depth first 0 (rw length-set ln))
            ∙ ap (λ (ts : List ℕ). record { block = u; edges = ts }) e

        under : (j : ℕ) → j < depth → now' j ≡ before j
        under j l =
            ap₂ (frame_of s places) (get_or-set_other stack depth j u 0 (λ z. omega arith))
            (get_or-set_other (set next top p) depth j first 0 (λ z. omega arith))

        frames : down now' (depth + 1) ≡ record { block = u; edges = successors f u } ∷ on_top
        frames =
            ap (down now') (add-one depth)
            ∙ ap₂ (λ (x : Frame) (xs : List Frame). x ∷ xs) new
            (down-same now' before depth under ∙ ap (down before) deep ∙ top-looks)
