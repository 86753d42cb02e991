-- The walk over lent tables: what one turn does to them, what machine they stand for, and what a caller is promised.
use Rattle.std.specs.Prelude.{ℕ, zero, suc, ◌+◌, ◌-◌, ◌<◌, ◌≤◌, ◌≡◌, refl, true, false, not, Option, Some, None, List, [], ◌∷◌, map, reverse, length, get_or, set, take, T, eqb}
use Rattle.std.proofs.Common.{ap, ◌∙◌, arith}
use Rattle.std.proofs.lemmas.List.{length-map}
use Rattle.rules.specs.Lists.{has, up_from, padded}
use Rattle.rules.specs.Tree.{Function}
use Rattle.rules.specs.Records.{records}
use Rattle.rules.specs.File.{ordered, named, function_in}
use Rattle.rules.specs.Graph.{reachable}
use Rattle.rules.specs.Refusals.{numbers_in_file}
use Rattle.lists.specs.Down.{down}
use Rattle.walks.specs.Walks.{Stage}
use Rattle.walks.specs.Machine.{Frame, Machine, Going, Kept}
use Rattle.graph.specs.Zeros.{Zeros}
use Rattle.graph.specs.Between.{between}
use Rattle.graph.specs.Tails.{TailsLast}
use Rattle.graph.specs.Blocks.{block_table}
use Rattle.graph.specs.declared.edges.NextEdge.{NextEdge}
use Rattle.graph.specs.NextEdge.{edge_from}

-- The blocks done, by index; for each block a tag, 0 before it is entered, and its index and one when it is done; the
-- blocks open, innermost last, and for each of them the place where its next edge is looked for. So many are open and
-- so many done.
pub record Tables : Type 0 where
  pub order : List ℕ
  pub index : List ℕ
  pub stack : List ℕ
  pub next : List ℕ
  pub depth : ℕ
  pub count : ℕ

abbrev pub tables : List ℕ → List ℕ → List ℕ → List ℕ → ℕ → ℕ → Tables
tables order index stack next depth count =
    record { order = order; index = index; stack = stack; next = next; depth = depth; count = count }

-- WHAT A TURN DOES. The innermost block gets the next index, and its place on the stack is cleared
abbrev pub finish_top : Tables → Tables
finish_top t =
    let top = t.depth - 1 in
    let b = get_or t.stack top 0 in
    tables (set t.order t.count b) (set t.index b (t.count + 1)) (set t.stack top 0) (set t.next top 0) top (t.count + 1)

-- block b goes on top, its edges looked for behind its record
abbrev pub enter_block : List ℕ → ℕ → Tables → Tables
enter_block places b t =
    tables t.order (set t.index b 1) (set t.stack t.depth b) (set t.next t.depth (get_or places b 0 + 1)) (t.depth + 1) t.count

-- the innermost block's next edge is looked for at place p
abbrev pub look_from : ℕ → Tables → Tables
look_from p t = tables t.order t.index t.stack (set t.next (t.depth - 1) p) t.depth t.count

-- an edge to block b is taken: a block already entered is skipped
abbrev pub take_edge : List ℕ → ℕ → Tables → Tables
take_edge places b t = elim (eqb (get_or t.index b 0) 0) [ true ↦ enter_block places b t | false ↦ t ]

-- by what is found: no edge, or one
abbrev pub turn_by : List ℕ → Option NextEdge → Tables → Tables
turn_by places None t = finish_top t
turn_by places (Some e) t = take_edge places e.target (look_from e.behind t)

-- one turn: the innermost block takes its next edge, or is done
unfoldable pub turn_on : List ℕ → List ℕ → Tables → Tables
turn_on s places t =
    let top = t.depth - 1 in
    turn_by places (edge_from s (get_or t.next top 0) (get_or places (get_or t.stack top 0 + 1) 0)) t

-- THE MACHINE. A block on the stack, and its edges from place p on
abbrev pub frame_of : List ℕ → List ℕ → ℕ → ℕ → Frame
frame_of s places b p = record { block = b; edges = named 7 (between s p (get_or places (b + 1) 0)) }

abbrev pub frame_at : List ℕ → List ℕ → Tables → ℕ → Frame
frame_at s places t j = frame_of s places (get_or t.stack j 0) (get_or t.next j 0)

-- how far the walk has come
abbrev pub stage_of : Tables → Stage
stage_of t = record { entered = λ x. not (eqb (get_or t.index x 0) 0); done = reverse (take t.count t.order) }

unfoldable pub machine_of : List ℕ → List ℕ → Tables → Machine
machine_of s places t = record { stack = down (frame_at s places t) t.depth; stage = stage_of t }

-- WHAT HOLDS BETWEEN TURNS. The file is in order, its numbers are in it, and the block table is its own.
pub record Given (s places : List ℕ) : Type 0 where
  pub in_order : T (ordered 0 (records s))
  pub in_file : T (numbers_in_file (function_in s))
  pub table : places ≡ padded (length places) (block_table s)

-- every table has a place for each of n blocks
pub record Room (n : ℕ) (t : Tables) : Type 0 where
  pub order : n ≤ length t.order
  pub index : n ≤ length t.index
  pub stack : n ≤ length t.stack
  pub next : n ≤ length t.next

-- what is not in use is 0
pub record Clear (t : Tables) : Type 0 where
  pub order : (i : ℕ) → t.count ≤ i → get_or t.order i 0 ≡ 0
  pub stack : (j : ℕ) → t.depth ≤ j → get_or t.stack j 0 ≡ 0
  pub next : (j : ℕ) → t.depth ≤ j → get_or t.next j 0 ≡ 0

-- one more than the place of b in a list whose first place is n, 0 where it has none
abbrev pub tag_from : ℕ → List ℕ → ℕ → ℕ
tag_from n [] b = 0
tag_from n (x ∷ xs) b = elim (eqb b x) [ true ↦ suc n | false ↦ tag_from (suc n) xs b ]

pub record Ready (s places : List ℕ) (t : Tables) : Type 0 where
  pub given : Given s places
  pub room : Room (length (function_in s).blocks) t
  pub clear : Clear t
  pub counted : t.count ≤ length t.order
  -- each block's next edge is looked for in the block, behind its record
  pub within : (j : ℕ) → j < t.depth → (get_or places (get_or t.stack j 0) 0 < get_or t.next j 0) × (get_or t.next j 0 ≤ get_or places (get_or t.stack j 0 + 1) 0)
  -- what is done has its tag
  pub tagged : (b : ℕ) → T (has b (take t.count t.order)) → get_or t.index b 0 ≡ tag_from 0 (take t.count t.order) b
  -- the machine has the rest of the walk to do
  pub going : Going (function_in s) (machine_of s places t)
  pub kept : Kept (function_in s) (machine_of s places t)
  -- a block's edges are found from its end
  pub tails : TailsLast s

-- THE PROMISE. What is lent: tables of zeros with a place for each block, of a file whose blocks' tails stand last,
pub record Lent (s places : List ℕ) (t : Tables) : Type 0 where
  pub given : Given s places
  pub room : Room (length (function_in s).blocks) t
  pub order : Zeros t.order
  pub index : Zeros t.index
  pub stack : Zeros t.stack
  pub next : Zeros t.next
  pub tails : TailsLast s

-- the index of block b and one, 0 where it is not reachable,
abbrev pub index_tag : Function → ℕ → ℕ
index_tag f b = tag_from 0 (reachable f) b

-- that of each of n blocks,
unfoldable pub index_table : Function → ℕ → List ℕ
index_table f n = map (index_tag f) (up_from 0 n)

-- read by number,
pub index_table-at : (f : Function) (n b : ℕ) → b < n → get_or (index_table f n) b 0 ≡ index_tag f b
unfolding index_table
index_table-at f n b l = let e : 0 + b ≡ b = omega arith in from n 0 b l ∙ ap (index_tag f) e
  where
    from : (n k b : ℕ) → b < n → get_or (map (index_tag f) (up_from k n)) b 0 ≡ index_tag f (k + b)
    from zero k b l = absurd (omega arith)
    from (suc n) k zero l = let e : k ≡ k + 0 = omega arith in ap (index_tag f) e
    from (suc n) k (suc b) l = let e : suc k + b ≡ k + suc b = omega arith in from n (suc k) b (omega arith) ∙ ap (index_tag f) e

pub length-index_table : (f : Function) (n : ℕ) → length (index_table f n) ≡ n
unfolding index_table
length-index_table f n = length-map (up_from 0 n) (index_tag f) ∙ from n 0
  where
    from : (n k : ℕ) → length (up_from k n) ≡ n
    from zero k = refl
    from (suc n) k = ap suc (from n (suc k))

-- and what is handed back: the reachable blocks by ascending index, each block's tag, and the stack as it was lent.
pub record Numbered (f : Function) (lent back : Tables) : Type 0 where
  pub count : back.count ≡ length (reachable f)
  pub order : back.order ≡ padded (length lent.order) (reachable f)
  pub index : back.index ≡ index_table f (length lent.index)
  pub stack : back.stack ≡ lent.stack
  pub next : back.next ≡ lent.next
