-- The walk by an explicit stack, one step at a time, for code to follow. The stack has the blocks still open, innermost
-- first, each with its edges not yet taken. A step leaves the same walk to do, keeps the line sound, and brings the end
-- nearer. Where the numbers are in the file, the stack never has more blocks than the file.
use Rattle.std.specs.Prelude.{ℕ, zero, suc, ◌+◌, ◌*◌, ◌<◌, ◌≤◌, ◌≡◌, refl, true, false, not, List, [], ◌∷◌, map, reverse, length, T, ltb}
use Rattle.std.proofs.Common.{arith, ap, subst, T_not, ltb→lt, nltb→le}
use Rattle.std.proofs.Math.ListN.{length-reverse_aux}
use Rattle.std.proofs.lemmas.List.{length-map}
use Rattle.rules.specs.Lists.{has, NumberSet}
use Rattle.rules.specs.Tree.{Function}
use Rattle.rules.specs.Graph.{successors, reachable}
use Rattle.rules.specs.Refusals.{numbers_in_file}
use Rattle.rules.specs.Demand3.{PathTo, start, onward}
use Rattle.lists.specs.Tests.{test-elim, if-elim}
use Rattle.lists.specs.Sets.{insert, insert-there}
use Rattle.lists.specs.Members.{◌∈◌, here, there}
use Rattle.lists.specs.Lack.{lack, lack-insert, lack-mono, nodup-length-le}
use Rattle.walks.specs.Paths.{successors-outside}
use Rattle.walks.specs.Walks.{Stage, stage_of, untouched, entering, finishing}
use Rattle.walks.specs.Walks.{Walks, finished, skips, enters, walked, walked-walks}
use Rattle.walks.specs.Line.{line, Sound, untouched-sound, sound-nodup, entering-sound}
use Rattle.walks.specs.Reachable.{entered-reachable}
use Rattle.walks.specs.InFile.{path-in-file}

-- a block, and its edges not yet taken
pub record Frame : Type 0 where
  pub block : ℕ
  pub edges : List ℕ

-- the blocks open, innermost first, and how far the walk has come
pub record Machine : Type 0 where
  pub stack : List Frame
  pub stage : Stage

-- block b goes on top, with all its edges to take
abbrev pub push : Function → ℕ → List Frame → Stage → Machine
push f b below s = record { stack = record { block = b; edges = successors f b } ∷ below; stage = entering b s }

-- an edge to t is taken: past a block already entered, into another
abbrev pub follow : Function → ℕ → List Frame → Stage → Machine
follow f t stack s = elim (s.entered t) [ true ↦ record { stack = stack; stage = s } | false ↦ push f t stack s ]

-- the top, block b with these edges left, takes its next edge, or is finished where none is left
abbrev pub step_top : Function → ℕ → List ℕ → List Frame → Stage → Machine
step_top f b [] below s = record { stack = below; stage = finishing b s }
step_top f b (t ∷ ts) below s = follow f t (record { block = b; edges = ts } ∷ below) s

-- one step; an empty stack stays
abbrev pub step_on : Function → List Frame → Stage → Machine
step_on f [] s = record { stack = []; stage = s }
step_on f (top ∷ below) s = step_top f top.block top.edges below s

abbrev pub step : Function → Machine → Machine
step f m = step_on f m.stack m.stage

-- block 0 on the stack
abbrev pub begin : Function → Machine
begin f = push f 0 [] untouched

-- so many steps
abbrev pub run : Function → ℕ → Machine → Machine
run f zero m = m
run f (suc k) m = run f k (step f m)

-- what holds of either way to take an edge holds of taking it
follow-elim :
    (P : Machine → Type 0) (f : Function) (t : ℕ) (stack : List Frame) (s : Stage)
    → (T (s.entered t) → P (record { stack = stack; stage = s })) → (T (not (s.entered t)) → P (push f t stack s))
    → P (follow f t stack s)
follow-elim P f t stack s = if-elim P (s.entered t) (record { stack = stack; stage = s }) (push f t stack s)

-- THE SAME WALK. What is left to do, and where it ends: the top's edges are walked along, the top is finished, and the
-- blocks below it go on from there.
pub data Ends (f : Function) : List Frame → Stage → Stage → Type 0 where
  ended : {s : Stage} → Ends f [] s s
  unwinds :
      {b : ℕ} {ts : List ℕ} {below : List Frame} {s r end : Stage} → Walks f s ts r → Ends f below (finishing b r) end
      → Ends f (record { block = b; edges = ts } ∷ below) s end

-- the machine has the walk of the definition to do, or what is left of it
abbrev pub Going : Function → Machine → Type 0
Going f m = Ends f m.stack m.stage (stage_of (walked f))

-- At its beginning it has all of it to do.
pub begin-going : (f : Function) → Going f (begin f)
begin-going f = first (walked-walks f)
  where
    first : {end : Stage} → Walks f untouched (0 ∷ []) end → Ends f (begin f).stack (begin f).stage end
    first (skips y w) = absurd y
    first (enters n i finished) = unwinds i ended

-- a step leaves the same end, whichever it is
step_on-ends :
    (f : Function) {stack : List Frame} {s end : Stage} → Ends f stack s end
    → Ends f (step_on f stack s).stack (step_on f stack s).stage end
step_on-ends f ended = ended
step_on-ends f (unwinds finished e) = e
step_on-ends f {end = end} (unwinds {b = b} {below = below} (skips {s = s} {t = t} {ts = ts} y w) e) =
    follow-elim (λ m. Ends f m.stack m.stage end) f t (record { block = b; edges = ts } ∷ below) s
    (λ _. unwinds w e)
    (λ n. absurd (T_not (s.entered t) n y))
step_on-ends f {end = end} (unwinds {b = b} {below = below} (enters {s = s} {t = t} {ts = ts} n i w) e) =
    follow-elim (λ m. Ends f m.stack m.stage end) f t (record { block = b; edges = ts } ∷ below) s
    (λ y. absurd (T_not (s.entered t) n y))
    (λ _. unwinds i (unwinds w e))

-- After a step it has the rest to do.
pub step-going : (f : Function) (m : Machine) → Going f m → Going f (step f m)
step-going f m e = step_on-ends f e

-- a stage that has the answer: the reachable blocks by index, and the set of them
pub record Found (f : Function) (s : Stage) : Type 0 where
  pub done : reverse s.done ≡ reachable f
  pub entered : (b : ℕ) → s.entered b ≡ has b (reachable f)

-- the walk of the definition has it at its end
walked-found : (f : Function) → Found f (stage_of (walked f))
unfolding reachable
walked-found f = record { done = refl; entered = entered-reachable f }

-- With nothing left on its stack the machine has the answer.
pub going-found : (f : Function) (s : Stage) → Going f (record { stack = []; stage = s }) → Found f s
going-found f s e = subst (Found f) (at-end e) (walked-found f)
  where
    at-end : {end : Stage} → Ends f [] s end → end ≡ s
    at-end ended = refl

-- WHAT IS KEPT. The blocks on a stack
abbrev pub blocks_on : List Frame → List ℕ
blocks_on stack = map (λ frame. frame.block) stack

-- are a path from block 0, each with edges of its own.
abbrev pub Stacked : Function → List Frame → Type 0
Stacked f [] = Unit {0}
Stacked f (top ∷ below) =
    PathTo f top.block (blocks_on below) × ((t : ℕ) → t ∈ top.edges → t ∈ successors f top.block)
    × Stacked f below

-- The stack is a path, and the line of the blocks done and the blocks on the stack is sound.
pub record Kept (f : Function) (m : Machine) : Type 0 where
  pub stacked : Stacked f m.stack
  pub sound : Sound f m.stage.entered (line m.stage (blocks_on m.stack))

-- a new block that the path goes on to keeps that
push_kept :
    (f : Function) {b : ℕ} {stack : List Frame} {s : Stage} → PathTo f b (blocks_on stack) → T (not (s.entered b))
    → Kept f (record { stack = stack; stage = s }) → Kept f (push f b stack s)
push_kept f {s = s} p n h = record { stacked = (p, λ t m. m, h.stacked); sound = entering-sound p s n h.sound }

-- It is so at the beginning.
pub begin-kept : (f : Function) → Kept f (begin f)
begin-kept f = push_kept f start tt (record { stacked = tt; sound = untouched-sound })

-- so does a step of the top
step_top-kept :
    (f : Function) (b : ℕ) (ts : List ℕ) (below : List Frame) (s : Stage)
    → Kept f (record { stack = record { block = b; edges = ts } ∷ below; stage = s }) → Kept f (step_top f b ts below s)
step_top-kept f b [] below s h = record { stacked = h.stacked.2; sound = h.sound }
step_top-kept f b (t ∷ ts) below s h =
    follow-elim (Kept f) f t (record { block = b; edges = ts } ∷ below) s
    (λ _. rest)
    (λ n. push_kept f (onward h.stacked.0 (h.stacked.1 t (here refl))) n rest)
  where
    rest : Kept f (record { stack = record { block = b; edges = ts } ∷ below; stage = s })
    rest = record { stacked = (h.stacked.0, λ u m. h.stacked.1 u (there m), h.stacked.2); sound = h.sound }

-- A step keeps it.
pub step_kept : (f : Function) (m : Machine) → Kept f m → Kept f (step f m)
step_kept f m = on m.stack m.stage
  where
    on : (stack : List Frame) (s : Stage) → Kept f (record { stack = stack; stage = s }) → Kept f (step_on f stack s)
    on [] s h = h
    on (top ∷ below) s h = step_top-kept f top.block top.edges below s h

-- So the blocks on the stack and the blocks done are together no more than the blocks of the file.
pub stack-length-le :
    (f : Function) → T (numbers_in_file f) → 0 < length f.blocks → (m : Machine) → Kept f m
    → length m.stack + length m.stage.done ≤ length f.blocks
stack-length-le f in_file some m h =
    let blocks = blocks_on m.stack in
    let all : length (line m.stage blocks) ≤ length f.blocks =
    nodup-length-le (length f.blocks) (line m.stage blocks) (sound-nodup h.sound)
    (λ x k. path-in-file f in_file some (h.sound.reached (h.sound.∈→entered k)).path) in
    omega (arith, length-reverse_aux m.stage.done blocks, length-map m.stack (λ frame. frame.block))

-- NEARER THE END. What is left of the blocks on a stack: each block once, and each edge not yet taken twice.
pub pending : List Frame → ℕ
pending [] = 0
pending (top ∷ below) = suc (2 * length top.edges) + pending below

-- what is left of the blocks not entered: each edge twice
abbrev edge_weight : Function → ℕ → ℕ
edge_weight f b = 2 * length (successors f b)

abbrev untaken : Function → NumberSet → ℕ
untaken f s = lack (edge_weight f) (length f.blocks) s

-- what is left in all
pub left : Function → Machine → ℕ
left f m = pending m.stack + untaken f m.stage.entered

-- a new block's edges were not taken before: it is of the file, or has none
new-edges : (f : Function) (t : ℕ) (s : NumberSet) → T (not (s t)) → edge_weight f t + untaken f (insert t s) ≤ untaken f s
new-edges f t s n = test-elim (ltb t (length f.blocks)) inside outside
  where
    inside : T (ltb t (length f.blocks)) → edge_weight f t + untaken f (insert t s) ≤ untaken f s
    inside h = omega (arith, lack-insert (edge_weight f) (length f.blocks) s t (ltb→lt t (length f.blocks) h) n)

    outside : T (not (ltb t (length f.blocks))) → edge_weight f t + untaken f (insert t s) ≤ untaken f s
    outside h =
        let none : length (successors f t) ≡ 0 =
        ap length (successors-outside f t (nltb→le t (length f.blocks) h)) in
        omega (arith, lack-mono (edge_weight f) (length f.blocks) s (insert t s) (insert-there t s))

-- a step of the top leaves less
step_top-less :
    (f : Function) (b : ℕ) (ts : List ℕ) (below : List Frame) (s : Stage)
    → left f (step_top f b ts below s) < left f (record { stack = record { block = b; edges = ts } ∷ below; stage = s })
unfolding left pending
step_top-less f b [] below s = omega arith
step_top-less f b (t ∷ ts) below s =
    follow-elim
    (λ m. left f m < left f (record { stack = record { block = b; edges = t ∷ ts } ∷ below; stage = s }))
    f t (record { block = b; edges = ts } ∷ below) s
    (λ _. omega arith)
    (λ n. omega (arith, new-edges f t s.entered n))

-- A step leaves less, unless the stack is empty.
pub step_less : (f : Function) (m : Machine) → 0 < length m.stack → left f (step f m) < left f m
step_less f m = on m.stack m.stage
  where
    on :
        (stack : List Frame) (s : Stage) → 0 < length stack
        → left f (step_on f stack s) < left f (record { stack = stack; stage = s })
    on [] s h = absurd (omega arith)
    on (top ∷ below) s h = step_top-less f top.block top.edges below s

-- THE WHOLE. A machine at its end stays there,
run-ended :
    (f : Function) (k : ℕ) {s end : Stage} → Ends f [] s end
    → run f k (record { stack = []; stage = s }) ≡ record { stack = []; stage = end }
run-ended f zero ended = refl
run-ended f (suc k) e = run-ended f k e

-- and as many steps as are left, or more, come to it.
run_ends :
    (f : Function) (k : ℕ) (stack : List Frame) {s end : Stage} → Ends f stack s end
    → left f (record { stack = stack; stage = s }) ≤ k
    → run f k (record { stack = stack; stage = s }) ≡ record { stack = []; stage = end }
unfolding left pending
run_ends f zero [] e l = run-ended f zero e
run_ends f zero (top ∷ below) e l = absurd (omega arith)
run_ends f (suc k) [] e l = run-ended f (suc k) e
run_ends f (suc k) (top ∷ below) {s} e l =
    run_ends f k (step_on f (top ∷ below) s).stack (step_on-ends f e)
    (omega (arith, step_less f (record { stack = top ∷ below; stage = s }) (omega arith)))

-- The machine is the walk of the definition.
pub run-walked :
    (f : Function) (k : ℕ) → left f (begin f) ≤ k
    → run f k (begin f) ≡ record { stack = []; stage = stage_of (walked f) }
run-walked f k l = run_ends f k (begin f).stack (begin-going f) l
