-- ENDING. Each marked value that is not yet live into a block is worth the edges into that block. This potential falls
-- by at least what a visit pushes. With one more for each pending block it bounds the visits still to come, from every
-- state from which the process may be resumed.
use Rattle.std.specs.Prelude.{ℕ, zero, suc, ◌+◌, ◌*◌, ◌≤◌, ◌≡◌, refl, false, not, ◌&&◌, List, [], ◌∷◌, length, T}
use Rattle.std.proofs.Common.{arith, mul-le-mul_left, sym, subst, ⊎_elim, T_not}
use Rattle.std.proofs.Math.Dec.{not_T}
use Rattle.rules.specs.Lists.{count, update, up_from, NumberSet, grew}
use Rattle.rules.specs.Tree.{Function}
use Rattle.rules.specs.Graph.{is_marked, reachable}
use Rattle.rules.specs.Liveness.{through, State, predecessors, popped, step, after}
use Rattle.lists.specs.Tests.{if-elim, and_intro, and_left, and_right, or_left, or_right}
use Rattle.lists.specs.Sets.{Within}
use Rattle.lists.specs.Members.{◌∈◌}
use Rattle.walks.specs.Reachable.{reachable-nodup}
use Rattle.fixpoint.specs.Sums.{sum, sum_drop, count-mono, count-drop, count-adding}
use Rattle.fixpoint.specs.Finding.{update-elim, update_here}
use Rattle.fixpoint.specs.Growth.{grew-elim}
use Rattle.fixpoint.specs.Steps.{new_out, new_in, grows, pushed, after_visit, popped-counts, step-elim, after-counts}
use Rattle.fixpoint.specs.Steps.{Idle}
use Rattle.fixpoint.specs.Resumable.{Resumable, still-pending, through-new_out-marked, after-resumable}
use Rattle.fixpoint.specs.Resumable.{idle-nothing}

-- how many marked values a set lacks
abbrev pub lacking : Function → NumberSet → ℕ
lacking f live = count (λ v. is_marked f v && not (live v)) (up_from 0 (length f.values))

-- what is still to be pushed at most: for each reachable block, edges in × marked values not yet live in
abbrev pub potential : Function → State → ℕ
potential f s = sum (λ b. length (predecessors f b) * lacking f (s.ins b)) (reachable f)

-- how many blocks are pending
abbrev pub waiting : Function → State → ℕ
waiting f s = count s.pending (reachable f)

-- what is still to be visited at most
abbrev pub work : Function → State → ℕ
work f s = waiting f s + potential f s

module _ (f : Function) where
  -- what a larger set lacks, a smaller one lacks
  lacks-mono : (s t : NumberSet) → Within s t → (v : ℕ) → T (is_marked f v && not (t v)) → T (is_marked f v && not (s v))
  lacks-mono s t h v l =
      and_intro (is_marked f v) (not (s v)) (and_left (is_marked f v) (not (t v)) l)
      (not_T (s v) (λ k. T_not (t v) (and_right (is_marked f v) (not (t v)) l) (h v k)))

  -- a larger set lacks no more,
  lacking-mono : (s t : NumberSet) → Within s t → lacking f t ≤ lacking f s
  lacking-mono s t h = count-mono _ _ (up_from 0 (length f.values)) (λ v _. lacks-mono s t h v)

  -- and less, if it has a marked value that is new.
  lacking-grew :
      (s new t : NumberSet) → Within s t → Within new t → Within new (is_marked f) → T (grew (length f.values) s new)
      → lacking f t + 1 ≤ lacking f s
  lacking-grew s new t old added marked g =
      let r = grew-elim (length f.values) s new g in
      let v = r.0 in
      count-drop _ _ (lacks-mono s t old) r.1
      (not_T (is_marked f v && not (t v)) (λ l. T_not (t v) (and_right (is_marked f v) (not (t v)) l) (added v r.2)))
      (and_intro (is_marked f v) (not (s v)) (marked v r.2) r.3)

  module _ (s : State) (b : ℕ) (rest : List ℕ) where
    -- a visit takes nothing out of a live-in set
    ins-grow : (x : ℕ) → Within (s.ins x) ((after_visit f s b rest).ins x)
    ins-grow x v =
        update-elim (λ (r : NumberSet). T (s.ins x v) → T (r v)) b (new_in f s b) s.ins x
        (λ e t. or_left (s.ins b v) (through f b (new_out f s b) v) (subst (λ y. T (s.ins y v)) e t))
        (λ _ t. t)

    -- One block less is pending, and what is pushed more.
    pub visit-waiting :
        b ∈ reachable f → T (s.pending b) → waiting f (after_visit f s b rest) + 1 ≤ waiting f s + length (pushed f s b)
    visit-waiting m t =
        let left = update b false s.pending in
        let gone : T (not (left b)) = subst (λ y. T (not y)) (sym (update_here b false s.pending)) tt in
        let fewer : count left (reachable f) + 1 ≤ waiting f s =
        count-drop left s.pending (λ x k. (still-pending s.pending b x k).1) m gone t in
        omega (arith, count-adding (pushed f s b) left (reachable f) (reachable-nodup f))

  module _ (s : State) (h : Resumable f s) (b : ℕ) (rest : List ℕ) where
    -- at the block visited the potential falls by what is pushed
    visit-falls :
        length (predecessors f b) * lacking f (new_in f s b) + length (pushed f s b)
        ≤ length (predecessors f b) * lacking f (s.ins b)
    visit-falls =
        let into = length (predecessors f b) in
        let new = through f b (new_out f s b) in
        let old : Within (s.ins b) (new_in f s b) = λ v. or_left (s.ins b v) (new v) in
        if-elim (λ (l : List ℕ). into * lacking f (new_in f s b) + length l ≤ into * lacking f (s.ins b)) (grows f s b)
        (predecessors f b) []
        (λ g.
        let less : lacking f (new_in f s b) + 1 ≤ lacking f (s.ins b) =
        lacking-grew (s.ins b) new (new_in f s b) old (λ v. or_right (s.ins b v) (new v))
        (through-new_out-marked f s h b) g in
        omega (arith, mul-le-mul_left into less))
        (λ _. omega (arith, mul-le-mul_left into (lacking-mono (s.ins b) (new_in f s b) old)))

    -- The potential falls by what a visit pushes, or more.
    pub visit-potential : b ∈ reachable f → potential f (after_visit f s b rest) + length (pushed f s b) ≤ potential f s
    visit-potential m =
        let into : ℕ → ℕ = λ x. length (predecessors f x) in
        let next : ℕ → NumberSet = (after_visit f s b rest).ins in
        sum_drop (λ x. into x * lacking f (next x)) (λ x. into x * lacking f (s.ins x)) (length (pushed f s b))
        (λ x. mul-le-mul_left (into x) (lacking-mono (s.ins x) (next x) (ins-grow s b rest x)))
        m
        (subst (λ (r : NumberSet). into b * lacking f r + length (pushed f s b) ≤ into b * lacking f (s.ins b))
        (sym (update_here b (new_in f s b) s.ins))
        visit-falls)

  module _ (s : State) (h : Resumable f s) where
    -- A step that visits leaves less work.
    pub busy-work :
        (b : ℕ) (rest : List ℕ) → popped s.pending s.stack ≡ b ∷ rest
        → work f (after_visit f s b rest) + 1 ≤ work f s
    busy-work b rest e =
        let t : T (s.pending b) = popped-counts s.pending s.stack e in
        let m : b ∈ reachable f = h.pending-reachable b t in
        omega (arith, visit-potential s h b rest m, visit-waiting s b rest m t)

    -- THE POTENTIAL FALLS by what a step pushes: the pushes and the potential together never rise.
    pub step-potential : (step f s).pushes + potential f (step f s) ≤ s.pushes + potential f s
    step-potential =
        step-elim f (λ t. t.pushes + potential f t ≤ s.pushes + potential f s) s (λ _. omega arith)
        (λ b rest e.
        let m : b ∈ reachable f = h.pending-reachable b (popped-counts s.pending s.stack e) in
        omega (arith, visit-potential s h b rest m))

    -- Nor do the visits and the work that is left.
    pub step-work : length (step f s).visited + work f (step f s) ≤ length s.visited + work f s
    step-work =
        step-elim f (λ t. length t.visited + work f t ≤ length s.visited + work f s) s (λ _. omega arith)
        (λ b rest e. omega (arith, busy-work b rest e))

  -- From every such state, whatever the number of steps:
  module _ (s : State) (h : Resumable f s) where
    -- pushes are at most those so far and the potential,
    pub after-pushes : (k : ℕ) → (after f k s).pushes + potential f (after f k s) ≤ s.pushes + potential f s
    after-pushes zero = omega arith
    after-pushes (suc k) = omega (arith, after-pushes k, step-potential (after f k s) (after-resumable f k s h))

    -- and visits are at most those so far and the work.
    pub after-visits : (k : ℕ) → length (after f k s).visited + work f (after f k s) ≤ length s.visited + work f s
    after-visits zero = omega arith
    after-visits (suc k) = omega (arith, after-visits k, step-work (after f k s) (after-resumable f k s h))

    -- THE PROCESS ENDS: after as many steps as there is work, no entry counts.
    pub after-ends : (k : ℕ) → work f s ≤ k → Idle (after f k s)
    after-ends k l =
        ⊎_elim (λ e. e) (λ n. go n (popped (after f k s).pending (after f k s).stack) refl) (after-counts f k s)
      where
        go :
            length (after f k s).visited ≡ k + length s.visited → (l : List ℕ)
            → popped (after f k s).pending (after f k s).stack ≡ l → l ≡ []
        go n [] e = refl
        go n (b ∷ rest) e =
            absurd (omega (arith, after-visits k, busy-work (after f k s) (after-resumable f k s h) b rest e))

    -- So nothing is pending.
    pub after-nothing-pending : (k : ℕ) → work f s ≤ k → (b : ℕ) → T (not ((after f k s).pending b))
    after-nothing-pending k l = idle-nothing f (after f k s) (after-resumable f k s h) (after-ends k l)
