-- Liveness: the rule through a block, the live sets as its least solution, the process that finds them with its visits
-- and pushes, the safepoints' lists, and which values are spilled.
use Rattle.std.specs.Prelude.{ℕ, zero, suc, ◌+◌, ◌*◌, true, false, cond, length, T, eqb}
use Rattle.std.proofs.Math.Option.{Option, none, some}
use mathlib.Core.List.{List, [], ◌∷◌, map, reverse, Memᴰ}
use Rattle.rules.specs.Lists.{any, keep, count, or_else, concat_map, foldl, zip_with, has, update, up_from, NumberSet, nothing, union, adding, removing, members, grew}
use Rattle.rules.specs.Tree.{Instruction, Function}
use Rattle.rules.specs.Graph.{block_at, is_marked, instructions_of, values_passed, successors, reachable}

-- THE RULE. Live across an instruction: after it, with the marked value edge arguments, without the results.
abbrev pub across : Function → Instruction → NumberSet → NumberSet
across f i after = removing i.results (adding (keep (is_marked f) (values_passed i)) after)

-- live before an instruction: across it, with the marked arguments
abbrev pub before : Function → Instruction → NumberSet → NumberSet
before f i after = adding (keep (is_marked f) i.arguments) (across f i after)

-- live before a list of instructions, the last one first
abbrev pub before_all : Function → List Instruction → NumberSet → NumberSet
before_all f [] out = out
before_all f (i ∷ is) out = before f i (before_all f is out)

-- live at the start of a block: before its instructions, without its parameters
abbrev pub through : Function → ℕ → NumberSet → NumberSet
through f b out = removing (block_at f b).parameters (before_all f (instructions_of (block_at f b)) out)

-- THE LEAST SOLUTION, of which document 01 asks for reachable blocks. A value is live out of a block if it is live into a successor; it is live into a block if the rule
-- gives it from values that are live out. Nothing else is live.
mutual
  pub data LiveOut (f : Function) : ℕ → ℕ → Type 0 where
    successor : {b t v : ℕ} → Memᴰ t (successors f b) → LiveIn f t v → LiveOut f b v

  pub data LiveIn (f : Function) : ℕ → ℕ → Type 0 where
    rule : {b v : ℕ} (out : NumberSet) → ((w : ℕ) → T (out w) → LiveOut f b w) → T (through f b out v) → LiveIn f b v

-- THE PROCESS. Rows are by block number, and a block stands for its index.
pub record State : Type 0 where
  pub ins : ℕ → NumberSet
  pub outs : ℕ → NumberSet
  pub stack : List ℕ  -- top first, with entries that no longer count
  pub pending : NumberSet  -- pushed since their last counted pop
  pub visited : List ℕ  -- the blocks visited so far, last first
  pub pushes : ℕ

abbrev pub push : State → ℕ → State
push s b =
    record {
      ins = s.ins;
      outs = s.outs;
      stack = b ∷ s.stack;
      pending = update b true s.pending;
      visited = s.visited;
      pushes = suc s.pushes;
    }

-- at first all indices are pushed, highest first
abbrev pub start : Function → State
start f =
    foldl push
    (record { ins = λ _. nothing; outs = λ _. nothing; stack = []; pending = nothing; visited = []; pushes = 0 })
    (reverse (reachable f))

-- the reachable predecessors of b, once an edge, ascending by index
abbrev pub predecessors : Function → ℕ → List ℕ
predecessors f b = concat_map (λ p. map (λ _. p) (keep (eqb b) (successors f p))) (reachable f)

-- what is live into some successor now
abbrev pub joined : Function → (ℕ → NumberSet) → ℕ → NumberSet
joined f ins b v = any (λ t. ins t v) (successors f b)

-- A visit of b, whose entry was popped off rest: what the rule gives now is added to live-out, then to live-in; if
-- live-in grew, each predecessor is pushed.
abbrev pub visit : Function → State → ℕ → List ℕ → State
visit f s b rest =
    let out = union (s.outs b) (joined f s.ins b) in
    let new = through f b out in
    let left : State =
    record {
      ins = update b (union (s.ins b) new) s.ins;
      outs = update b out s.outs;
      stack = rest;
      pending = update b false s.pending;
      visited = b ∷ s.visited;
      pushes = s.pushes;
    } in
    elim (grew (length f.values) (s.ins b) new) [ true ↦ foldl push left (predecessors f b) | false ↦ left ]

-- the stack from its topmost entry that counts
abbrev pub popped : NumberSet → List ℕ → List ℕ
popped pending [] = []
popped pending (b ∷ rest) = elim (pending b) [ true ↦ b ∷ rest | false ↦ popped pending rest ]

abbrev pub visit_top : Function → State → List ℕ → State
visit_top f s [] = s
visit_top f s (b ∷ rest) = visit f s b rest

-- one step: pop until an entry counts, and visit its block; nothing where none counts
abbrev pub step : Function → State → State
step f s = visit_top f s (popped s.pending s.stack)

-- a state after k more visits, or after all that remain
abbrev pub after : Function → ℕ → State → State
after f zero s = s
after f (suc k) s = step f (after f k s)

-- reachable blocks + marked values x edges out of reachable blocks: no process visits or pushes more
abbrev pub bound : Function → ℕ
bound f = length (reachable f) + count (λ x. x.marked) f.values * length (concat_map (successors f) (reachable f))

-- the process at its end: the live sets, visits and pushes
unfoldable pub process : Function → State
process f = after f (bound f) (start f)

-- THE LISTS. For each instruction, what is live across it if it is a safepoint, ascending.
abbrev pub lists_among : Function → List Instruction → NumberSet → List (Option (List ℕ))
lists_among f [] out = []
lists_among f (i ∷ is) out =
    cond i.safepoint (some (members (length f.values) (across f i (before_all f is out)))) none ∷ lists_among f is out

-- the lists of a block's instructions, none where it is not reachable
unfoldable pub lists_of : Function → ℕ → List (Option (List ℕ))
lists_of f b =
    let is = instructions_of (block_at f b) in
    elim (has b (reachable f)) [ true ↦ lists_among f is ((process f).outs b) | false ↦ map (λ _. none) is ]

-- a block's instructions, each with its list
abbrev pub listed_instructions : Function → ℕ → List (Instruction × Option (List ℕ))
listed_instructions f b = zip_with (λ i l. (i, l)) (instructions_of (block_at f b)) (lists_of f b)

-- the lists by instruction number
abbrev pub lists : Function → List (Option (List ℕ))
lists f = concat_map (lists_of f) (up_from 0 (length f.blocks))

-- a value on any list is spilled
unfoldable pub is_spilled : Function → NumberSet
is_spilled f v = any (λ l. has v (or_else [] l)) (lists f)
