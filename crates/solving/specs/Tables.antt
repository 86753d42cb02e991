-- What the process asks of the tables that it is lent, and how a caller shows it.
use Rattle.std.specs.Prelude.{ℕ, ◌+◌, ◌*◌, ◌<◌, ◌≤◌, ◌^◌, ◌≡◌, refl, not, List, [], ◌∷◌, reverse, length, get_or, T}
use Rattle.std.proofs.Common.{arith, sym, ap, subst, ◌∙◌}
use Rattle.rules.specs.Limits.{largest_values, largest_blocks, largest_edges, row_words, table_words}
use Rattle.rules.specs.Lists.{foldl}
use Rattle.rules.specs.Tree.{Function}
use Rattle.rules.specs.Records.{records}
use Rattle.rules.specs.File.{ordered, function_in}
use Rattle.rules.specs.Graph.{is_marked, successors, reachable}
use Rattle.rules.specs.Liveness.{predecessors}
use Rattle.rules.specs.Refusals.{too_many, all_edges, numbers_in_file}
use Rattle.lists.specs.Sets.{Within}
use Rattle.fixpoint.specs.Rule as rule
use Rattle.graph.specs.Zeros.{Zeros}
use Rattle.graph.specs.Links.{Links, links, link_block, linked, list_at, LentLinks}
use Rattle.graph.specs.LinkLaws.{edges-first, linked-chained, predecessors-linked}
use Rattle.graph.specs.LinkLaws as laws
use Rattle.graph.specs.Few.{values-few, blocks-few, edges_few}
use Rattle.rows.specs.Rows.{rows}
use Rattle.worklist.specs.Entries.{Kept}
use Rattle.solving.specs.declared.Progress.{Progress}
use Rattle.solving.specs.Chains.{chain, Chain, linked-chain, chain-linked}

-- a table has a row for each block of the file
abbrev pub HasRows : Function → List ℕ → Type 0
HasRows f t = row_words * length f.blocks ≤ length t

-- THE LIMITS: the largest counts, as refusal 3 leaves them.
pub record Few (f : Function) : Type 0 where
  pub values : length f.values ≤ largest_values
  pub blocks : length f.blocks ≤ largest_blocks
  pub edges : length (all_edges f) ≤ largest_edges

-- THE RULE by its tables: what each block uses and what it kills.
pub record Ruled (f : Function) (uses kills : List ℕ) : Type 0 where
  pub used : rows uses ≡ rule.uses f  -- what the rule gives from nothing
  pub killed : rows kills ≡ rule.kills f  -- what the block defines
  pub use-rows : HasRows f uses
  pub kill-rows : HasRows f kills
  pub few : Few f  -- a value has its bit, a block its place on the worklist

-- THE LISTS of predecessors: each block has one, and it is the definition's.
pub record Listed (f : Function) (first from next : List ℕ) : Type 0 where
  pub blocks : length f.blocks ≤ length first
  -- its entries stand in both tables and fall to the tag 0
  pub chains : (b : ℕ) → b < length f.blocks → Chain from next (get_or first b 0)
  -- they are its predecessors, once an edge, ascending by index
  pub lists : (b : ℕ) → b < length f.blocks → chain from next (get_or first b 0) ≡ predecessors f b

-- THE LIVE SETS so far: a row for each block, and marked values only.
pub record LiveTables (f : Function) (ins outs : List ℕ) : Type 0 where
  pub in_rows : HasRows f ins
  pub out-rows : HasRows f outs
  -- so the values of a row, counted, tell whether it grew
  pub ins-marked : (b : ℕ) → Within (rows ins b) (is_marked f)
  pub outs-marked : (b : ℕ) → Within (rows outs b) (is_marked f)

-- A VISIT of block b, which was on top, can be made: it is the file's, and both counts stay in the lower half of what 32 bits
-- hold, so that no sum overflows.
pub record Ready (f : Function) (b : ℕ) (at : Progress) : Type 0 where
  pub kept : Kept at.worklist  -- no block stands there twice, and each has its mark
  pub in-file : b < length f.blocks
  pub visits : at.visits < 2 ^ 31
  pub pushes : at.pushes + length (predecessors f b) < 2 ^ 31

-- THE WHOLE PROCESS: the live tables are zeros.
pub record Solvable (f : Function) (ins outs : List ℕ) : Type 0 where
  pub in_rows : HasRows f ins
  pub out-rows : HasRows f outs
  pub ins-zero : Zeros ins
  pub outs-zero : Zeros outs

-- WHAT A CALLER SHOWS. To link edges leaves a list for each block,
blocks-first : (f : Function) (qs : List ℕ) (l : Links) → length (foldl (link_block f) l qs).first ≡ length l.first
blocks-first f [] l = refl
blocks-first f (q ∷ qs) l = blocks-first f qs (link_block f l q) ∙ edges-first q (successors f q) l

-- and lists as `link_predecessors` of `graph` leaves them are those asked for.
pub linked-listed :
    (f : Function) → T (numbers_in_file f) → (first from next : List ℕ) → LentLinks f (links first from next 0)
    → (first' from' next' : List ℕ) (used : ℕ)
    → links first' from' next' used ≡ linked f (links first from next 0) → Listed f first' from' next'
unfolding linked
linked-listed f in_file first from next lent first' from' next' used same =
    let h = subst (λ (l : Links). laws.Chained 0 l) (sym same) (linked-chained f in_file first from next lent) in
    record {
      blocks =
          omega (
            arith,
            ap (λ (l : Links). length l.first) same,
            blocks-first f (reverse (reachable f)) (links first from next 0),
            lent.blocks,
          );
      chains = λ b _. linked-chain first' from' next' used 0 h b;
      lists =
          λ b _.
          chain-linked first' from' next' used 0 h b ∙ ap (λ (l : Links). list_at l b) same
          ∙ predecessors-linked f in_file first from next lent b;
    }

-- The largest counts hold of a file that refusals 3 and 4 let pass,
pub few-counts : (s : List ℕ) → T (not (too_many s)) → T (ordered 0 (records s)) → Few (function_in s)
few-counts s few in_order = record { values = values-few s few; blocks = blocks-few s few; edges = edges_few s few in_order }

-- and a live table of the asked length has a row for each of its blocks.
pub table-rows-enough : (f : Function) → Few f → (t : List ℕ) → table_words ≤ length t → HasRows f t
table-rows-enough f few t l = omega (arith, few.blocks)
