-- What each step of the process does to the tables and the worklist, and what state of the process they stand for.
use Rattle.std.specs.Prelude.{ℕ, ◌+◌, ◌<◌, ◌^◌, ◌≡◌, Bool, List, ◌∷◌, length}
use Rattle.rules.specs.Limits.{largest_blocks}
use Rattle.rules.specs.Lists.{any, foldl, update, NumberSet, union, grew}
use Rattle.rules.specs.Tree.{Function}
use Rattle.rules.specs.Liveness.{through, joined}
use Rattle.lists.specs.Members.{◌∈◌}
use Rattle.fixpoint.specs.Removal.{move_to_top}
use Rattle.fixpoint.specs.MoveToTop.{Compact}
use Rattle.rows.specs.Rows.{rows}
use Rattle.worklist.specs.Entries.{entries, Kept}
use Rattle.solving.specs.declared.Progress.{Progress}

-- THE SETS. Live-out of block b gets the live_in of each of these blocks.
abbrev pub joined_into : ℕ → (ℕ → NumberSet) → List ℕ → (ℕ → NumberSet) → ℕ → NumberSet
joined_into b ins ts outs = update b (union (outs b) (λ v. any (λ t. ins t v) ts)) outs

-- live_out of block b, with what is live into its successors now
abbrev pub out_now : Function → ℕ → (ℕ → NumberSet) → (ℕ → NumberSet) → NumberSet
out_now f b ins outs = union (outs b) (joined f ins b)

-- What the rule gives now was added to live_out and to live_in of block b, and it is told whether live_in grew.
pub record Added (f : Function) (b : ℕ) (ins outs ins' outs' : ℕ → NumberSet) (told : Bool) : Type 0 where
  -- first live_out gets what is live into the successors,
  pub live_out : outs' ≡ update b (out_now f b ins outs) outs
  -- then live_in what the rule gives from that
  pub live_in : ins' ≡ update b (union (ins b) (through f b (out_now f b ins outs))) ins
  pub grown : told ≡ grew (length f.values) (ins b) (through f b (out_now f b ins outs))

-- PUSHES. Entries when these blocks were pushed, the first of them first
abbrev pub push_all : List ℕ → List ℕ → List ℕ
push_all ps l = foldl (λ (r : List ℕ) (p : ℕ). move_to_top p r) l ps

-- These blocks can be pushed: the worklist has room for them, and so has the count.
pub record Pushable (ps : List ℕ) (at : Progress) : Type 0 where
  pub kept : Kept at.worklist
  pub below : (p : ℕ) → p ∈ ps → p < largest_blocks
  pub counted : at.pushes + length ps < 2 ^ 31

-- They were pushed, and nothing else was done.
pub record Pushed (ps : List ℕ) (at r : Progress) : Type 0 where
  pub left : entries r.worklist ≡ push_all ps (entries at.worklist)
  pub kept : Kept r.worklist
  pub visits : r.visits ≡ at.visits
  pub pushes : r.pushes ≡ at.pushes + length ps

-- Block b was on top of a progress, and is taken off.
pub record Popped (at : Progress) (b : ℕ) (r : Progress) : Type 0 where
  pub left : entries at.worklist ≡ b ∷ entries r.worklist
  pub visits : r.visits ≡ at.visits
  pub pushes : r.pushes ≡ at.pushes

-- THE STATE of the process that tables and worklist stand for.
pub record Stands (ins outs : List ℕ) (at : Progress) (c : Compact) : Type 0 where
  pub live_in : rows ins ≡ c.ins
  pub live_out : rows outs ≡ c.outs
  pub left : entries at.worklist ≡ c.entries  -- the blocks still to visit, top first
  pub kept : Kept at.worklist
  pub visits : at.visits ≡ length c.visited  -- the code counts what the definition lists
  pub pushes : at.pushes ≡ c.pushes
