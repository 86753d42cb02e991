-- A visit: the tables and the worklist behind it stand for the next state of the process.
use Prim.Native.Nat.{ℕ, suc, ◌+◌, ◌<◌}
use native.Mathlib.Omega.{arith}
use mathlib.Core.Path.{◌≡◌, refl, sym, ap, subst, ◌∙◌}
use mathlib.Core.Bool.{Bool, true, false}
use mathlib.Core.List.{List, [], ◌∷◌}
use lib.ListN.{length, get_or}
use lib.Dec.{T}
use Rattle.rules.specs.Lists.{foldl, update, union}
use Rattle.rules.specs.Tree.{Function}
use Rattle.rules.specs.Liveness.{through, predecessors}
use Rattle.rules.specs.Refusals.{numbers_in_file}
use Rattle.walks.specs.InFile.{reachable-in-file}
use Rattle.fixpoint.specs.Edges.{predecessor-reachable}
use Rattle.fixpoint.specs.MoveToTop.{Compact, push_top, visit_entry, step_top}
use Rattle.rows.specs.Rows.{rows}
use Rattle.worklist.specs.Entries.{entries}
use Rattle.solving.specs.declared.Progress.{Progress}
use Rattle.solving.specs.Chains.{chain, Chain}
use Rattle.solving.specs.Progress.{out_now, Added, push_all, Pushable, Pushed, Popped, Stands}
use Rattle.solving.specs.Tables.{Few, Listed, Ready}

-- pushes of the process change its entries and its count alone
pub pushes_all :
    (ps : List ℕ) (c : Compact)
    → foldl push_top c ps
    ≡ record { ins = c.ins; outs = c.outs; entries = push_all ps c.entries; visited = c.visited; pushes = c.pushes + length ps }
pushes_all [] c =
    let e : c.pushes ≡ c.pushes + 0 = omega arith in
    λ i. record { ins = c.ins; outs = c.outs; entries = c.entries; visited = c.visited; pushes = e i }
pushes_all (p ∷ ps) c =
    let e : suc c.pushes + length ps ≡ c.pushes + suc (length ps) = omega arith in
    pushes_all ps (push_top c p)
    ∙ (λ i. record { ins = c.ins; outs = c.outs; entries = push_all ps (push_top c p).entries; visited = c.visited; pushes = e i })

-- A BLOCK of the file was popped.
module _ (f : Function) (b : ℕ) (r : Progress) (ready : Ready f b r) where
  -- the progress when it is visited and nothing pushed
  abbrev left : Progress
  left = record { worklist = r.worklist; visits = r.visits + 1; pushes = r.pushes }

  -- Its predecessors can be pushed.
  pub predecessors-pushable :
      T (numbers_in_file f) → Few f → (first from next : List ℕ) → Listed f first from next
      → (b < length first) × Chain from next (get_or first b 0) × Pushable (chain from next (get_or first b 0)) left
  predecessors-pushable in_file few first from next h =
      let l = ready.in-file in (
        omega (arith, h.blocks),
        h.chains b l,
        subst (λ (ps : List ℕ). Pushable ps left) (sym (h.lists b l))
            (record {
              kept = ready.kept;
              below =
                  λ p m.
                  let k = reachable-in-file f in_file (omega arith) (predecessor-reachable f b m) in
                  omega (arith, few.blocks);
              counted = ready.pushes;
            }),
      )

  -- To its rows was added what the rule gives now, in tables that stood for a state when it was on top.
  module _ (ins outs ins' outs' : List ℕ) (told : Bool) (added : Added f b (rows ins) (rows outs) (rows ins') (rows outs') told)
      (at : Progress) (c : Compact) (popped : Popped at b r) (stands : Stands ins outs at c) where
    -- the state before, as the tables have it
    abbrev before : Compact
    before = record { ins = rows ins; outs = rows outs; entries = entries at.worklist; visited = c.visited; pushes = at.pushes }

    -- it is that state
    before-is : before ≡ c
    before-is =
        λ i.
        record {
          ins = stands.live_in i;
          outs = stands.live_out i;
          entries = stands.left i;
          visited = c.visited;
          pushes = stands.pushes i;
        }

    -- the state when its block is visited and nothing pushed
    abbrev visited : Compact
    visited =
        record {
          ins = update b (union (rows ins b) (through f b (out_now f b (rows ins) (rows outs)))) (rows ins);
          outs = update b (out_now f b (rows ins) (rows outs)) (rows outs);
          entries = entries r.worklist;
          visited = b ∷ c.visited;
          pushes = at.pushes;
        }

    -- a step from there, by whether live_in grew
    abbrev next : Bool → Compact
    next grown = elim grown [ true ↦ foldl push_top visited (predecessors f b) | false ↦ visited ]

    -- it is what was told
    stepped : step_top f c ≡ next told
    stepped =
        sym (ap (step_top f) before-is)
        ∙ ap (visit_entry f before) popped.left
        ∙ ap next (sym added.grown)

    -- one visit more
    visits : r.visits + 1 ≡ suc (length c.visited)
    visits = omega (arith, stands.visits, popped.visits)

    -- Where it did not grow, this is all;
    pub stands-idle : told ≡ false → Stands ins' outs' left (step_top f c)
    stands-idle same =
        subst (Stands ins' outs' left) (sym (stepped ∙ ap next same))
        (record {
          live_in = added.live_in;
          live_out = added.live_out;
          left = refl;
          kept = ready.kept;
          visits = visits;
          pushes = popped.pushes;
        })

    -- where it did, each predecessor is pushed.
    pub stands-grown :
        told ≡ true → (ps : List ℕ) → ps ≡ predecessors f b → (r' : Progress) → Pushed ps left r' → Stands ins' outs' r' (step_top f c)
    stands-grown more ps list r' pushed =
        subst (Stands ins' outs' r') (sym (stepped ∙ ap next more ∙ ap (foldl push_top visited) (sym list) ∙ pushes_all ps visited))
        (record {
          live_in = added.live_in;
          live_out = added.live_out;
          left = pushed.left;
          kept = pushed.kept;
          visits = pushed.visits ∙ visits;
          pushes = omega (arith, pushed.pushes, popped.pushes);
        })
