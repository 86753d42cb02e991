-- The walk from its first turn to its last.
use Prim.Native.Nat.{ℕ, ◌+◌, ◌<◌}
use mathlib.Core.Path.{◌≡◌, sym, ap, ap₂, ◌∙◌, subst}
use mathlib.Core.Bool.{Bool, true, false, not, ◌||◌}
use mathlib.Core.List.{List, [], ◌∷◌, reverse-reverse}
use native.Mathlib.Omega.{arith}
use lib.ListN.{length, get_or, set, take, length-set}
use lib.Seq.{get_or-set_same, get_or-set_other, length-take-le, ext_get_or}
use lib.Dec.{T, eqb, eqb→eq}
use Rattle.rules.specs.Lists.{has, padded}
use Rattle.rules.specs.Tree.{Function}
use Rattle.rules.specs.File.{function_in}
use Rattle.rules.specs.Graph.{successors, reachable}
use Rattle.lists.specs.Tests.{test-elim}
use Rattle.lists.specs.Down.{down, length-down}
use Rattle.walks.specs.Machine.{Kept, Going, Found, begin, begin-going, begin-kept, going-found, left, step_less}
use Rattle.graph.specs.Zeros.{zeros-at, padded-ext}
use Rattle.graph.specs.Tables.{Tables, tables, enter_block, turn_on, frame_of, frame_at, stage_of, machine_of, tag_from, index_tag, index_table, index_table-at, length-index_table, Ready, Lent, Numbered}
use Rattle.graph.proofs.Marks.{mark_set}
use Rattle.graph.proofs.Tags.{tag-none}
use Rattle.graph.specs.ByTable.{some, start-less, edges-all}
use Rattle.graph.proofs.Turning.{turned}

-- tables are as long as they were
pub record Sized (lent t : Tables) : Type 0 where
  pub order : length t.order ≡ length lent.order
  pub index : length t.index ≡ length lent.index
  pub stack : length t.stack ≡ length lent.stack
  pub next : length t.next ≡ length lent.next

-- THE START: block 0 is entered
module _ (s places order index stack next : List ℕ) (h : Lent s places (tables order index stack next 0 0)) where
  abbrev f : Function
  f = function_in s

  abbrev first : ℕ
  first = get_or places 0 0 + 1

  abbrev start : Tables
  start = enter_block places 0 (tables order index stack next 0 0)

  pub zero-in-file : 0 < length f.blocks
  zero-in-file = some s places h.given

  stack-zero : get_or (set stack 0 0) 0 0 ≡ 0
  stack-zero = get_or-set_same stack 0 0 0 (omega (arith, zero-in-file, h.room.stack))

  next-zero : get_or (set next 0 first) 0 0 ≡ first
  next-zero = get_or-set_same next 0 first 0 (omega (arith, zero-in-file, h.room.next))

  start-machine : machine_of s places start ≡ begin f
  unfolding machine_of
  start-machine =
      λ i. record {
        stack = frame i ∷ [];
        stage = record { entered = λ x. entered x i; done = [] };
      }
    where
      frame : frame_of s places (get_or (set stack 0 0) 0 0) (get_or (set next 0 first) 0 0) ≡ record { block = 0; edges = successors f 0 }
      frame =
          ap₂ (frame_of s places) stack-zero next-zero
          ∙ ap (λ (ts : List ℕ). record { block = 0; edges = ts }) (edges-all s places h.given 0 zero-in-file)

      entered : (x : ℕ) → not (eqb (get_or (set index 0 1) x 0) 0) ≡ (eqb x 0 || false)
      entered x =
          mark_set index 0 1 (omega (arith, zero-in-file, h.room.index)) (λ z. omega arith) x
          ∙ ap (λ (v : ℕ). eqb x 0 || not (eqb v 0)) (zeros-at h.index x)

  pub start-ready : Ready s places start
  start-ready =
      record {
        given = h.given;
        room = record { order = h.room.order; index = rw length-set h.room.index; stack = rw length-set h.room.stack; next = rw length-set h.room.next };
        clear =
            record {
              order = λ i l. zeros-at h.order i;
              stack = λ j l. get_or-set_other stack 0 j 0 0 (λ z. omega arith) ∙ zeros-at h.stack j;
              next = λ j l. get_or-set_other next 0 j first 0 (λ z. omega arith) ∙ zeros-at h.next j;
            };
        counted = omega arith;
        within =
            λ j l.
            let z : j ≡ 0 = omega arith in
            rw (z, stack-zero, next-zero) (omega arith, start-less s places h.given 0 zero-in-file);
        tagged = λ b m. absurd m;
        going = subst (Going f) (sym start-machine) (begin-going f);
        kept = subst (Kept f) (sym start-machine) (begin-kept f);
        tails = h.tails;
      }

-- A TURN
module _ (s places : List ℕ) (t t' : Tables) (r : Ready s places t) (opened : 0 < t.depth) (e : t' ≡ turn_on s places t) where
  pub turn-ready : Ready s places t'
  turn-ready = rw e (turned s places t r opened).ready

  -- brings the end nearer
  pub turn-less : left (function_in s) (machine_of s places t') < left (function_in s) (machine_of s places t)
  unfolding machine_of
  turn-less =
      rw (e, (turned s places t r opened).stepped)
      (step_less (function_in s) (machine_of s places t) (omega (arith, length-down (frame_at s places t) t.depth)))

-- THE END: no block is open
module _ (s places : List ℕ) (lent t : Tables) (h : Lent s places lent) (r : Ready s places t) (z : Sized lent t) (closed : t.depth ≡ 0) where
  found : Found (function_in s) (stage_of t)
  unfolding machine_of
  found =
      going-found (function_in s) (stage_of t)
      (subst (λ (d : ℕ). Going (function_in s) (record { stack = down (frame_at s places t) d; stage = stage_of t })) closed r.going)

  all_done : take t.count t.order ≡ reachable (function_in s)
  all_done = sym (reverse-reverse (take t.count t.order)) ∙ found.done

  -- each block has its tag, or none
  tag_at : (b : ℕ) → get_or t.index b 0 ≡ index_tag (function_in s) b
  tag_at b =
      test-elim (has b (reachable (function_in s)))
      (λ m.
      r.tagged b (rw all_done m) ∙ ap (λ (xs : List ℕ). tag_from 0 xs b) all_done)
      (λ n.
      let unmarked : T (not (not (eqb (get_or t.index b 0) 0))) = subst (λ (o : Bool). T (not o)) (sym (found.entered b)) n in
      eqb→eq (get_or t.index b 0) 0 (twice (eqb (get_or t.index b 0) 0) unmarked) ∙ sym (tag-none 0 b (reachable (function_in s)) n))
    where
      twice : (o : Bool) → T (not (not o)) → T o
      twice true u = tt
      twice false u = u

  end-numbered : Numbered (function_in s) lent (tables t.order t.index t.stack t.next 0 t.count)
  end-numbered =
      record {
        count = sym (length-take-le t.count t.order r.counted) ∙ ap length all_done;
        order =
            padded-ext t.order (reachable (function_in s)) t.count all_done r.counted r.clear.order
            ∙ ap (λ (n : ℕ). padded n (reachable (function_in s))) z.order;
        index =
            ext_get_or 0 t.index (index_table (function_in s) (length lent.index))
            (z.index ∙ sym (length-index_table (function_in s) (length lent.index)))
            (λ b l. tag_at b ∙ sym (index_table-at (function_in s) (length lent.index) b (omega (arith, z.index))));
        stack =
            ext_get_or 0 t.stack lent.stack z.stack
            (λ j l. r.clear.stack j (omega arith) ∙ sym (zeros-at h.stack j));
        next =
            ext_get_or 0 t.next lent.next z.next
            (λ j l. r.clear.next j (omega arith) ∙ sym (zeros-at h.next j));
      }

  -- and the lent tables have what the walk's have
  pub handed_back :
      (order index stack next : List ℕ) → order ≡ t.order → index ≡ t.index → stack ≡ t.stack → next ≡ t.next
      → Numbered (function_in s) lent (tables order index stack next 0 t.count)
  handed_back order index stack next o i k n = rw (o, i, k, n) end-numbered
