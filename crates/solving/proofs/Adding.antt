-- What the rule gives now, by the tables, and that live_in grew if and only if it has more values than before.
use Prim.Native.Nat.{ℕ, ◌+◌, ◌<◌, ◌≤◌}
use native.Mathlib.Omega.{arith}
use mathlib.Core.Path.{◌≡◌, sym, ap, ap₂, subst, ◌∙◌}
use mathlib.Core.List.{List}
use lib.ListN.{length, get_or}
use lib.Dec.{not_T, ltb}
use Rattle.rules.specs.Limits.{largest_values}
use Rattle.rules.specs.Lists.{update, NumberSet, union, members, grew}
use Rattle.rules.specs.Tree.{Function}
use Rattle.rules.specs.File.{named, function_in}
use Rattle.rules.specs.Graph.{is_marked}
use Rattle.rules.specs.Liveness.{through, joined}
use Rattle.lists.specs.Members.{◌∈◌}
use Rattle.lists.specs.Sets.{Within}
use Rattle.lists.specs.Tests.{is_false, or_elim}
use Rattle.walks.specs.InFile.{successor-in-file}
use Rattle.fixpoint.specs.Finding.{update_here}
use Rattle.fixpoint.specs.Growth.{grew-members}
use Rattle.fixpoint.specs.Rule.{through-split, through-marked, joined-within, marked-in-file}
use Rattle.graph.specs.Between.{between}
use Rattle.graph.specs.Tables.{Given}
use Rattle.graph.specs.ByTable.{edges-all}
use Rattle.rows.specs.Rows.{rows, by_rule, size, size-members}
use Rattle.solving.specs.Progress.{joined_into, out_now, Added}
use Rattle.solving.specs.Tables.{Ruled, LiveTables}

-- HOW MANY. Marked values are the file's, so a set of them is counted whole.
marked-size : (f : Function) (s : NumberSet) → length f.values ≤ largest_values → Within s (is_marked f) → size s ≡ length (members (length f.values) s)
marked-size f s few h =
    size-members (length f.values) s few
    (λ v l. is_false (s v) (not_T (s v) (λ t. let k = marked-in-file f v (h v t) in omega arith)))

-- So a set of marked values grew if and only if its row has more values.
size-grew :
    (f : Function) (old new : NumberSet) → length f.values ≤ largest_values → Within old (is_marked f) → Within new (is_marked f)
    → ltb (size old) (size (union old new)) ≡ grew (length f.values) old new
size-grew f old new few h k =
    ap₂ ltb (marked-size f old few h) (marked-size f (union old new) few (λ v. or_elim (old v) (new v) (h v) (k v)))
    ∙ sym (grew-members (length f.values) old new)

-- A BLOCK of the file, by its table
module _ (s places : List ℕ) (g : Given s places) (b : ℕ) (l : b < length (function_in s).blocks) where
  abbrev f : Function
  f = function_in s

  -- the targets of the block's edges, as they stand
  abbrev targets : List ℕ
  targets = named 7 (between s (get_or places b 0 + 1) (get_or places (b + 1) 0))

  -- they are blocks of the file
  pub target-in-file : (t : ℕ) → t ∈ targets → t < length f.blocks
  target-in-file t m = successor-in-file f g.in_file b (subst (λ (ts : List ℕ). t ∈ ts) (edges-all s places g b l) m)

  module _ (uses' kills' ins outs : List ℕ) (r : Ruled f uses' kills') (live : LiveTables f ins outs) where
    -- live_out, with what is live into the successors now
    abbrev out : NumberSet
    out = out_now f b (rows ins) (rows outs)

    -- what the rule gives from it
    abbrev new : NumberSet
    new = through f b out

    -- both have marked values only
    out-marked : Within out (is_marked f)
    out-marked v =
        or_elim (rows outs b v) (joined f (rows ins) b v) (live.outs-marked b v)
        (joined-within f (rows ins) (is_marked f) live.ins-marked b v)

    -- The tables when the targets' live_in was joined and the block passed.
    module _ (outs' ins' : List ℕ)
        (joined' : rows outs' ≡ joined_into b (rows ins) targets (rows outs))
        (passed : rows ins' ≡ update b (union (rows ins b) (by_rule (rows uses' b) (rows kills' b) (rows outs' b))) (rows ins)) where
      -- live_out is as the definition has it, in the whole table
      live-out-now : rows outs' ≡ update b out (rows outs)
      live-out-now = joined' ∙ ap (λ (ts : List ℕ). joined_into b (rows ins) ts (rows outs)) (edges-all s places g b l)

      -- and in the block's row
      out-here : rows outs' b ≡ out
      out-here = ap (λ (t : ℕ → NumberSet). t b) live-out-now ∙ update_here b out (rows outs)

      -- the tables give what the rule does
      by-tables : by_rule (rows uses' b) (rows kills' b) (rows outs' b) ≡ new
      by-tables =
          (λ i. by_rule (r.used i b) (r.killed i b) (out-here i)) ∙ (λ i v. sym (through-split f b out v) i)

      -- so live_in is as the definition has it, in the whole table
      live-in-now : rows ins' ≡ update b (union (rows ins b) new) (rows ins)
      live-in-now = passed ∙ ap (λ (n : NumberSet). update b (union (rows ins b) n) (rows ins)) by-tables

      -- and in the block's row
      in-here : rows ins' b ≡ union (rows ins b) new
      in-here = ap (λ (t : ℕ → NumberSet). t b) live-in-now ∙ update_here b (union (rows ins b) new) (rows ins)

      -- and the numbers of its values before and after tell whether it grew.
      pub added :
          (before after : ℕ) → before ≡ size (rows ins b) → after ≡ size (rows ins' b)
          → Added f b (rows ins) (rows outs) (rows ins') (rows outs') (ltb before after)
      added before after m n =
          record {
            live_out = live-out-now;
            live_in = live-in-now;
            grown =
                ap₂ ltb m (n ∙ ap size in-here)
                ∙ size-grew f (rows ins b) new r.few.values (live.ins-marked b) (through-marked f b out out-marked);
          }
