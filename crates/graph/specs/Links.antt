-- The lists of predecessors, linked through lent tables: what one edge does to them, what the whole is, how a list is
-- read, and what is lent.
use Rattle.std.specs.Prelude.{ℕ, zero, suc, ◌+◌, ◌<◌, ◌≤◌, ◌≡◌, List, [], ◌∷◌, reverse, length, get_or, set}
use Rattle.rules.specs.Lists.{concat_map, foldl, padded}
use Rattle.rules.specs.Tree.{Function}
use Rattle.rules.specs.File.{function_in}
use Rattle.rules.specs.Graph.{successors, reachable}
use Rattle.lists.specs.Members.{◌∈◌}
use Rattle.graph.specs.Zeros.{Zeros}
use Rattle.graph.specs.Tails.{TailsLast}
use Rattle.graph.specs.Tables.{Given}

-- For each block the tag of the first entry of its list; for each entry a predecessor, and the tag of the next entry. A
-- tag is 0 for none, and one more than the entry's place. So many entries are in use.
pub record Links : Type 0 where
  pub first : List ℕ
  pub from : List ℕ
  pub next : List ℕ
  pub used : ℕ

abbrev pub links : List ℕ → List ℕ → List ℕ → ℕ → Links
links first from next used = record { first = first; from = from; next = next; used = used }

-- an edge from block p to block t: one entry more, in front of t's others
abbrev pub link_edge : ℕ → Links → ℕ → Links
link_edge p l t =
    links (set l.first t (l.used + 1)) (set l.from l.used p) (set l.next l.used (get_or l.first t 0)) (l.used + 1)

-- the edges of block p
abbrev pub link_block : Function → Links → ℕ → Links
link_block f l p = foldl (link_edge p) l (successors f p)

-- the edges of all reachable blocks, the highest index first, so that every list ascends
unfoldable pub linked : Function → Links → Links
linked f l = foldl (link_block f) l (reverse (reachable f))

-- the list from an entry on, at most k entries of it
abbrev pub list_from : List ℕ → List ℕ → ℕ → ℕ → List ℕ
list_from from next zero tag = []
list_from from next (suc k) zero = []
list_from from next (suc k) (suc e) = get_or from e 0 ∷ list_from from next k (get_or next e 0)

-- the list of block b
abbrev pub list_at : Links → ℕ → List ℕ
list_at l b = list_from l.from l.next l.used (get_or l.first b 0)

-- edges out of reachable blocks
abbrev pub reachable_edges : Function → List ℕ
reachable_edges f = concat_map (successors f) (reachable f)

-- what is read: the file by its block table, the reachable blocks by index, and edges from a block's end
pub record Walked (s places order : List ℕ) (count : ℕ) : Type 0 where
  pub given : Given s places
  pub counted : count ≡ length (reachable (function_in s))
  pub listed : order ≡ padded (length order) (reachable (function_in s))
  pub tails : TailsLast s

-- what is lent: zeros, with a place for each block and for each edge
pub record LentLinks (f : Function) (l : Links) : Type 0 where
  pub blocks : length f.blocks ≤ length l.first
  pub froms : length (reachable_edges f) ≤ length l.from
  pub nexts : length (reachable_edges f) ≤ length l.next
  pub first : Zeros l.first
  pub from : Zeros l.from
  pub next : Zeros l.next

-- edges that all lead to blocks that have a list,
abbrev pub Inside : List ℕ → Links → Type 0
Inside ts l = (t : ℕ) → t ∈ ts → t < length l.first

-- and for which there is room
pub record Linkable (ts : List ℕ) (l : Links) : Type 0 where
  pub inside : Inside ts l
  pub froms : l.used + length ts ≤ length l.from
  pub nexts : l.used + length ts ≤ length l.next
