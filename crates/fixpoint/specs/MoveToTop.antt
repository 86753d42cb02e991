-- MOVE TO TOP. Document 01's stack keeps entries that no longer count. Here is the process over a stack in which every
-- entry counts and stands once: pushing moves a block to the top. It gives the same sets, visits and pushes, step by
-- step, from every state; and its stack never holds more than the reachable blocks.
use Rattle.std.specs.Prelude.{ℕ, zero, suc, ◌+◌, ◌≡◌, refl, Bool, true, false, length}
use Rattle.std.proofs.Common.{arith, sym, ◌∙◌}
use Rattle.std.proofs.Math.Path.{ap}
use mathlib.Core.List.{List, [], ◌∷◌, Nodup}
use Rattle.rules.specs.Lists.{foldl, has, update, NumberSet, nothing, union, grew}
use Rattle.rules.specs.Tree.{Function}
use Rattle.rules.specs.Graph.{is_marked, reachable}
use Rattle.rules.specs.Liveness.{through, State, push, start, predecessors, joined, visit, popped, visit_top, step}
use Rattle.rules.specs.Liveness.{after, bound, process}
use Rattle.lists.specs.Sets.{Within}
use Rattle.lists.specs.Members.{◌∈◌, has→∈}
use Rattle.walks.specs.Reachable.{reachable-nodup}
use Rattle.fixpoint.specs.Removal.{move_to_top}
use Rattle.fixpoint.specs.Counting.{counting, counting-on, counting-all}
use Rattle.fixpoint.specs.Counting.{counting-none, counting-some}
use Rattle.fixpoint.specs.Steps.{start_first}
use Rattle.fixpoint.specs.Resumable.{Resumable}

-- THE PROCESS over such a stack
pub record Compact : Type 0 where
  pub ins : ℕ → NumberSet
  pub outs : ℕ → NumberSet
  pub entries : List ℕ  -- top first, no block twice
  pub visited : List ℕ
  pub pushes : ℕ

-- pushing moves a block to the top
abbrev pub push_top : Compact → ℕ → Compact
push_top c b =
    record {
      ins = c.ins;
      outs = c.outs;
      entries = move_to_top b c.entries;
      visited = c.visited;
      pushes = suc c.pushes;
    }

-- at first every reachable block is there, by ascending index from the top
abbrev pub start_top : Function → Compact
start_top f =
    record {
      ins = λ _. nothing;
      outs = λ _. nothing;
      entries = reachable f;
      visited = [];
      pushes = length (reachable f);
    }

-- a visit of b, whose entry was popped off rest
abbrev pub visit_of : Function → Compact → ℕ → List ℕ → Compact
visit_of f c b rest =
    let out = union (c.outs b) (joined f c.ins b) in
    let new = through f b out in
    let left : Compact =
    record {
      ins = update b (union (c.ins b) new) c.ins;
      outs = update b out c.outs;
      entries = rest;
      visited = b ∷ c.visited;
      pushes = c.pushes;
    } in
    elim (grew (length f.values) (c.ins b) new) [ true ↦ foldl push_top left (predecessors f b) | false ↦ left ]

-- a visit of the entry on top, nothing where there is none
abbrev pub visit_entry : Function → Compact → List ℕ → Compact
visit_entry f c [] = c
visit_entry f c (b ∷ rest) = visit_of f c b rest

-- one step: pop an entry and visit its block
abbrev pub step_top : Function → Compact → Compact
step_top f c = visit_entry f c c.entries

-- a state after k more visits, or after all that remain
abbrev pub after_top : Function → ℕ → Compact → Compact
after_top f zero c = c
after_top f (suc k) c = step_top f (after_top f k c)

-- FROM ONE TO THE OTHER. A state without the entries that no longer count
abbrev pub compact : State → Compact
compact s =
    record {
      ins = s.ins;
      outs = s.outs;
      entries = counting s.pending s.stack;
      visited = s.visited;
      pushes = s.pushes;
    }

-- a state whose stack is these entries, all of them pending
abbrev pub expand : Compact → State
expand c =
    record {
      ins = c.ins;
      outs = c.outs;
      stack = c.entries;
      pending = λ x. has x c.entries;
      visited = c.visited;
      pushes = c.pushes;
    }

-- a compact state from its parts
compact-ext :
    {c d : Compact} → c.ins ≡ d.ins → c.outs ≡ d.outs → c.entries ≡ d.entries → c.visited ≡ d.visited
    → c.pushes ≡ d.pushes → c ≡ d
compact-ext p q r t u = λ i. record { ins = p i; outs = q i; entries = r i; visited = t i; pushes = u i }

-- to push and make compact is to make compact and push
compact-push : (s : State) (b : ℕ) → compact (push s b) ≡ push_top (compact s) b
compact-push s b = compact-ext refl refl (counting-on s.pending b s.stack) refl refl

-- so for pushes one after the other
compact-pushes : (s : State) (ps : List ℕ) → compact (foldl push s ps) ≡ foldl push_top (compact s) ps
compact-pushes s [] = refl
compact-pushes s (p ∷ ps) = compact-pushes (push s p) ps ∙ ap (λ c. foldl push_top c ps) (compact-push s p)

-- and for a visit
compact-visit :
    (f : Function) (s : State) (b : ℕ) (rest : List ℕ)
    → compact (visit f s b rest) ≡ visit_of f (compact s) b (counting (update b false s.pending) rest)
compact-visit f s b rest = go (grew (length f.values) (s.ins b) new)
  where
    out : NumberSet
    out = union (s.outs b) (joined f s.ins b)

    new : NumberSet
    new = through f b out

    left : State
    left =
        record {
          ins = update b (union (s.ins b) new) s.ins;
          outs = update b out s.outs;
          stack = rest;
          pending = update b false s.pending;
          visited = b ∷ s.visited;
          pushes = s.pushes;
        }

    go :
        (g : Bool)
        → compact (elim g [ true ↦ foldl push left (predecessors f b) | false ↦ left ])
        ≡ elim g [ true ↦ foldl push_top (compact left) (predecessors f b) | false ↦ compact left ]
    go true = compact-pushes left (predecessors f b)
    go false = refl

-- entries without repetitions are what counts of the state that they stand for
pub compact-expand : (c : Compact) → Nodup c.entries → compact (expand c) ≡ c
compact-expand c once = compact-ext refl refl (counting-all c.entries once) refl refl

module _ (f : Function) where
  -- STEP BY STEP THE SAME, from every state: a step and then compact is compact and then a step.
  pub compact-step : (s : State) → compact (step f s) ≡ step_top f (compact s)
  compact-step s = go (popped s.pending s.stack) refl
    where
      go :
          (l : List ℕ) → popped s.pending s.stack ≡ l → compact (visit_top f s l) ≡ step_top f (compact s)
      go [] e = sym (ap (visit_entry f (compact s)) (counting-none s.pending s.stack e))
      go (b ∷ rest) e =
          compact-visit f s b rest ∙ sym (ap (visit_entry f (compact s)) (counting-some s.pending s.stack e))

  -- So after any number of steps.
  pub compact-after : (k : ℕ) (s : State) → compact (after f k s) ≡ after_top f k (compact s)
  compact-after zero s = refl
  compact-after (suc k) s = compact-step (after f k s) ∙ ap (step_top f) (compact-after k s)

  -- Both start alike,
  pub compact-start : compact (start f) ≡ start_top f
  compact-start =
      ap compact (start_first f)
      ∙ compact-ext refl refl (counting-all (reachable f) (reachable-nodup f)) refl refl

  -- so this is THE SAME ANSWER: the same sets, visits and pushes.
  pub process-compact : compact (process f) ≡ after_top f (bound f) (start_top f)
  unfolding process
  process-compact =
      compact-after (bound f) (start f) ∙ ap (after_top f (bound f)) compact-start

  -- where no entry is left, steps change nothing
  pub after_top-idle : (k : ℕ) (c : Compact) → c.entries ≡ [] → after_top f k c ≡ c
  after_top-idle zero c e = refl
  after_top-idle (suc k) c e = ap (step_top f) (after_top-idle k c e) ∙ ap (visit_entry f c) e

  -- CUTS. k steps and then j are j + k.
  pub after_top-add : (j k : ℕ) (c : Compact) → after_top f (j + k) c ≡ after_top f j (after_top f k c)
  after_top-add zero k c = let none : 0 + k ≡ k = omega arith in ap (λ n. after_top f n c) none
  after_top-add (suc j) k c =
      let more : suc j + k ≡ suc (j + k) = omega arith in
      ap (λ n. after_top f n c) more ∙ ap (step_top f) (after_top-add j k c)

  -- RESUMING from entries without repetitions, wherever they came from:
  module _ (c : Compact) (once : Nodup c.entries) where
    -- it is what document 01's process does from there;
    pub after_top-after : (k : ℕ) → after_top f k c ≡ compact (after f k (expand c))
    after_top-after k = ap (after_top f k) (sym (compact-expand c once)) ∙ sym (compact-after k (expand c))

    -- and where the entries are reachable, and the sets lie inside the marked values:
    module _
        (ins-marked : (b : ℕ) → Within (c.ins b) (is_marked f))
        (outs-marked : (b : ℕ) → Within (c.outs b) (is_marked f))
        (entries-reachable : (b : ℕ) → b ∈ c.entries → b ∈ reachable f) where
      -- such a state may be resumed,
      pub expand-resumable : Resumable f (expand c)
      expand-resumable =
          record {
            ins-marked = ins-marked;
            outs-marked = outs-marked;
            pending-reachable = λ b t. entries-reachable b (has→∈ c.entries t);
            pending-stacked = λ b t. has→∈ c.entries t;
          }
