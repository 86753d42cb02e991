-- The tables that a walk and the linking of lists work on, which are lent and stay the same.
use Rattle.std.specs.Prelude.{ℕ, ◌≡◌, List, length}
use Rattle.std.specs.Borrow.{MutBor}
use Rattle.graph.specs.declared.walk.Walk.{Walk}
use Rattle.graph.specs.declared.predecessors.Lists.{Lists}
use Rattle.graph.specs.Tables.{Tables, tables}
use Rattle.graph.specs.Links.{Links, links}

-- a lent table is the same, and as long
abbrev pub SameTable : MutBor (List ℕ) → MutBor (List ℕ) → Type 0
SameTable old new = (new.ghost_name ≡ old.ghost_name) × (length new.now ≡ length old.now)

-- what a walk's tables hold
abbrev pub tables_of : Walk → Tables
tables_of w = tables w.order.now w.index.now w.stack.now w.next.now w.depth w.count

-- a walk goes on over its tables
pub record OnTables (old new : Walk) : Type 0 where
  pub order : SameTable old.order new.order
  pub index : SameTable old.index new.index
  pub stack : SameTable old.stack new.stack
  pub next : SameTable old.next new.next

-- what the tables of lists hold
abbrev pub links_of : Lists → Links
links_of l = links l.first.now l.from.now l.next.now l.used

-- the linking goes on over its tables
pub record OnLists (old new : Lists) : Type 0 where
  pub first : SameTable old.first new.first
  pub from : SameTable old.from new.from
  pub next : SameTable old.next new.next
