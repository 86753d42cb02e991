-- The whole process: after every visit the tables and the worklist stand for the state after as many steps, and when no
-- block is left, for the answer.
use Prim.Native.Nat.{ℕ, suc, ◌+◌, ◌-◌, ◌*◌, ◌<◌, ◌≤◌, ◌^◌}
use native.Mathlib.Omega.{arith}
use mathlib.Core.Path.{◌≡◌, refl, sym, ap, subst, ◌∙◌}
use mathlib.Core.Bool.{Bool, true, false, true≢false}
use mathlib.Core.List.{List, [], ◌∷◌}
use lib.ListN.{length, take}
use lib.Seq.{take-append_seam}
use Rattle.rules.specs.Limits.{largest_values, largest_blocks, largest_edges}
use Rattle.rules.specs.Lists.{empty, foldl, nothing, update, union, grew}
use Rattle.rules.specs.Tree.{Function}
use Rattle.rules.specs.File.{function_in}
use Rattle.rules.specs.Graph.{is_marked, reachable}
use Rattle.rules.specs.Liveness.{start, after, through, joined, predecessors, bound, process}
use Rattle.lists.specs.Members.{◌∈◌, here}
use Rattle.lists.specs.Sets.{Within}
use Rattle.walks.specs.InFile.{reachable-in-file, length-reachable-le}
use Rattle.walks.specs.Reachable.{reachable-nodup}
use Rattle.fixpoint.specs.Resumable.{start-resumable, after-resumable}
use Rattle.fixpoint.specs.MoveToTop.{Compact, compact, push_top, start_top, visit_of, visit_entry, step_top, after_top, compact-after, compact-start}
use Rattle.fixpoint.specs.TopAnswer.{top-visits-le, top-visits-lt, top-pushes-le, top-reachable, top-final}
use Rattle.graph.specs.Zeros.{Zeros}
use lib.Seq.{take-length}
use Rattle.graph.specs.ByTable.{some}
use Rattle.graph.specs.Links.{Walked}
use Rattle.rows.specs.Rows.{rows, rows-zeros}
use Rattle.worklist.specs.Entries.{entries, Stacked, Kept}
use Rattle.worklist.specs.declared.Worklist.{Worklist}
use Rattle.solving.specs.declared.Progress.{Progress}
use Rattle.solving.specs.Progress.{Popped, Stands}
use Rattle.solving.specs.Tables.{LiveTables, Ready, Ruled, Solvable}
use Rattle.solving.specs.Bounds.{bound-le, predecessors-le}
use Rattle.solving.proofs.Visiting.{pushes_all}

-- ONE STEP visits one block,
visit-visited : (f : Function) (c : Compact) (b : ℕ) (rest : List ℕ) → length (visit_of f c b rest).visited ≡ suc (length c.visited)
visit-visited f c b rest = go (grew (length f.values) (c.ins b) new)
  where
    new : ℕ → Bool
    new = through f b (union (c.outs b) (joined f c.ins b))

    left : Compact
    left =
        record {
          ins = update b (union (c.ins b) new) c.ins;
          outs = update b (union (c.outs b) (joined f c.ins b)) c.outs;
          entries = rest;
          visited = b ∷ c.visited;
          pushes = c.pushes;
        }

    go : (g : Bool) → length (elim g as (λ _. Compact) [ true ↦ foldl push_top left (predecessors f b) | false ↦ left ]).visited ≡ suc (length c.visited)
    go true = ap (λ (d : Compact). length d.visited) (pushes_all (predecessors f b) left)
    go false = refl

-- where one is left.
step-visited : (f : Function) (c : Compact) → empty c.entries ≡ false → length (step_top f c).visited ≡ suc (length c.visited)
step-visited f c more = go c.entries more
  where
    go : (l : List ℕ) → empty l ≡ false → length (visit_entry f c l).visited ≡ suc (length c.visited)
    go [] e = absurd (true≢false e)
    go (b ∷ rest) e = visit-visited f c b rest

-- THE FILE and its tables, as they are lent
module _ {s places order : List ℕ} (w : Walked s places order (length order)) {uses kills : List ℕ} (ruled : Ruled (function_in s) uses kills)
    {ins₀ outs₀ : List ℕ} (h : Solvable (function_in s) ins₀ outs₀) where
  abbrev f : Function
  f = function_in s

  -- there is a block,
  some_block : 0 < length f.blocks
  some_block = some s places w.given

  -- the reachable ones are in the file,
  in-file : {b : ℕ} → b ∈ reachable f → b < length f.blocks
  in-file = reachable-in-file f w.given.in_file some_block

  -- and have a place on the worklist
  in-worklist : {b : ℕ} → b ∈ reachable f → b < largest_blocks
  in-worklist m = let l = in-file m in omega (arith, ruled.few.blocks)

  -- the bound is a number that the counts have room for
  bound-fits : bound f ≤ largest_blocks + largest_values * largest_edges
  bound-fits = bound-le f w.given.in_file some_block ruled.few

  -- THE START. The blocks by index are the reachable ones,
  blocks-listed : order ≡ reachable f
  blocks-listed =
      sym (take-length order) ∙ (λ i. take (w.counted i) (w.listed i)) ∙ take-append_seam (reachable f) _

  -- can be pushed,
  pub start-requires : Stacked order
  start-requires =
      subst Stacked (sym blocks-listed) (record { once = reachable-nodup f; below = λ b m. in-worklist m })

  -- and are counted;
  pub count_fits : length order < 2 ^ 32
  count_fits = omega (arith, w.counted, length-reachable-le f w.given.in_file some_block, ruled.few.blocks)

  -- zeros are empty sets
  zero-rows : {t : List ℕ} → Zeros t → rows t ≡ (λ _. nothing)
  zero-rows {t} z = ap rows z ∙ rows-zeros (length t)

  -- so at first they and the tables of zeros stand for the start of the process.
  pub start-stands :
      (list : Worklist) → entries list ≡ order → Kept list
      → Stands ins₀ outs₀ (record { worklist = list; visits = 0; pushes = length order }) (start_top f)
  start-stands list e kept =
      record {
        live_in = zero-rows h.ins-zero;
        live_out = zero-rows h.outs-zero;
        left = e ∙ blocks-listed;
        kept = kept;
        visits = refl;
        pushes = w.counted;
      }

  -- AFTER SOME VISITS the tables and the worklist stand for the state after as many steps.
  module _ (ins outs : List ℕ) (at : Progress) (stands : Stands ins outs at (after_top f at.visits (start_top f))) where
    -- so many
    abbrev k : ℕ
    k = at.visits

    -- that state
    abbrev state : Compact
    state = after_top f k (start_top f)

    -- it is document 01's, without the entries that no longer count,
    state-is : compact (after f k (start f)) ≡ state
    state-is = compact-after f k (start f) ∙ ap (after_top f k) (compact-start f)

    -- so its sets lie inside the marked values;
    pub live-tables : length ins ≡ length ins₀ → length outs ≡ length outs₀ → LiveTables f ins outs
    live-tables i o =
        let resumable = after-resumable f k (start f) (start-resumable f) in
        record {
          in_rows = omega (arith, h.in_rows);
          out-rows = omega (arith, h.out-rows);
          ins-marked =
              λ b.
              subst (λ (t : ℕ → ℕ → Bool). Within (t b) (is_marked f))
              (ap (λ (c : Compact). c.ins) state-is ∙ sym stands.live_in) (resumable.ins-marked b);
          outs-marked =
              λ b.
              subst (λ (t : ℕ → ℕ → Bool). Within (t b) (is_marked f))
              (ap (λ (c : Compact). c.outs) state-is ∙ sym stands.live_out) (resumable.outs-marked b);
        }

    -- and all that are left to visit are reachable.
    reached : {b : ℕ} → b ∈ entries at.worklist → b ∈ reachable f
    reached {b} m = top-reachable f k (subst (λ (l : List ℕ). b ∈ l) stands.left m)

    -- Where none is left, this is the answer;
    pub solved :
        entries at.worklist ≡ []
        → (rows ins ≡ (process f).ins) × (rows outs ≡ (process f).outs) × (at.visits ≡ length (process f).visited) × (at.pushes ≡ (process f).pushes)
    solved none =
        let final : state ≡ compact (process f) = top-final f k (sym stands.left ∙ none) in (
          stands.live_in ∙ ap (λ (c : Compact). c.ins) final,
          stands.live_out ∙ ap (λ (c : Compact). c.outs) final,
          stands.visits ∙ ap (λ (c : Compact). length c.visited) final,
          stands.pushes ∙ ap (λ (c : Compact). c.pushes) final,
        )

    -- where a block is on top and taken off,
    module _ (b : ℕ) (r : Progress) (popped : Popped at b r) where
      on-top : state.entries ≡ b ∷ entries r.worklist
      on-top = sym stands.left ∙ popped.left

      top-reached : b ∈ reachable f
      top-reached = reached (subst (λ (l : List ℕ). b ∈ l) (sym popped.left) (here refl))

      -- a visit of it can be made,
      pub ready : Kept r.worklist → Ready f b r
      ready kept =
          record {
            kept = kept;
            in-file = in-file top-reached;
            visits = omega (arith, popped.visits, stands.visits, top-visits-le f k, bound-fits);
            pushes =
                omega (
                  arith,
                  popped.pushes,
                  stands.pushes,
                  top-pushes-le f k,
                  bound-fits,
                  predecessors-le f w.given.in_file some_block ruled.few top-reached,
                );
          }

      -- for visits are fewer than the bound,
      visits-lt : at.visits < bound f
      visits-lt = omega (arith, stands.visits, top-visits-lt f k on-top)

      module _ (ins' outs' : List ℕ) (r' : Progress) (stands' : Stands ins' outs' r' (step_top f state)) where
        -- and it is one visit more,
        one_more : r'.visits ≡ suc k
        one_more = stands'.visits ∙ step-visited f state (ap empty on-top) ∙ ap suc (sym stands.visits)

        -- of which fewer are left,
        pub solving-less : bound f - r'.visits < bound f - at.visits
        solving-less = omega (arith, one_more, visits-lt)

        -- and one step more.
        pub solving-more : Stands ins' outs' r' (after_top f r'.visits (start_top f))
        solving-more = subst (λ (n : ℕ). Stands ins' outs' r' (after_top f n (start_top f))) (sym one_more) stands'
