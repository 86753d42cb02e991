-- Where a block is entered: what holds behind its parameters; and nothing is asked where block 0 is entered first.
use Rattle.std.specs.Prelude.{ℕ, ◌<◌, ◌≡◌, not, [], length, T}
use Rattle.std.proofs.Common.{subst, ⊎_elim, T_not}
use mathlib.Core.List.Memᴰ
use Rattle.rules.specs.Lists.{has, concat_map, NumberSet}
use Rattle.rules.specs.Tree.{Function}
use Rattle.rules.specs.Graph.{block_at, is_marked, instructions_of, reachable}
use Rattle.rules.specs.Liveness.{before_all, process, is_spilled}
use Rattle.rules.specs.Rewriting.{slot_number}
use Rattle.rules.specs.Demand3.{start, defined_in, Dominated}
use Rattle.lists.specs.Tests.{and_intro}
use Rattle.lists.specs.Members.{◌∈◌, not-∈-nil, ∈→has}
use Rattle.walks.specs.Reachable.{path→reachable}
use Rattle.walks.specs.InFile.{path-in-file}
use Rattle.fixpoint.specs.Answer.{process-through-outs}
use Rattle.simulation.specs.Ghost.{word, Ghost, nothing_known, defining}
use Rattle.agreement.specs.Accepted.{Accepted}
use Rattle.sharing.specs.LiveDominated.{ins-dominated}
use Rattle.agreement.specs.Changing.{defining-own, defining-slot}
use Rattle.agreement.specs.Points.{Entered, defined_before}

-- what is live behind the parameters of block t
abbrev pub live_first : Function → ℕ → NumberSet
live_first f t = before_all f (instructions_of (block_at f t)) ((process f).outs t)

module _ (f : Function) (pointer t : ℕ) (γ : Ghost) (entered : Entered f pointer t γ) where
  pub entered-reachable : t ∈ reachable f
  entered-reachable = path→reachable f entered.path

  pub entered-inside : Accepted f → t < length f.blocks
  entered-inside accepted = path-in-file f accepted.in-file accepted.some_block entered.path

  -- what is live behind the parameters and none of them is live where the block is entered
  live-entering : (v : ℕ) → T (live_first f t v) → T (not (has v (block_at f t).parameters)) → T ((process f).ins t v)
  live-entering v l h =
      subst (λ (s : NumberSet). T (s v)) (process-through-outs f entered-reachable)
      (and_intro (not (has v (block_at f t).parameters)) (live_first f t v) h l)

  -- an unmarked value that is defined has its word,
  pub entering-unmarked : (v : ℕ) → v < length f.values → v ∈ defined_before f entered.passed t [] → T (not (is_marked f v))
      → (defining (block_at f t).parameters γ).words v ≡ word v
  entering-unmarked v l m u =
      let ps = (block_at f t).parameters in
      defining-own ps γ v
      (λ h.
      entered.point.unmarked v l
      (⊎_elim (λ k. k)
      (λ k.
      ⊎_elim (λ p. absurd (T_not (has v ps) h (∈→has p))) (λ z. absurd (not-∈-nil z))
      (Memᴰ.append_cases ps k))
      (Memᴰ.append_cases (concat_map (defined_in f) entered.passed) m)) u)

  -- so has a live one that is not spilled,
  pub entering-unspilled : (v : ℕ) → T (live_first f t v) → T (not (is_spilled f v)) → (defining (block_at f t).parameters γ).words v ≡ word v
  entering-unspilled v l u =
      defining-own (block_at f t).parameters γ v (λ h. entered.point.unspilled v (live-entering v l h) u)

  -- and a spilled one, but for parameters, is held.
  pub entering-held : (v : ℕ) → T (live_first f t v) → T (is_spilled f v) → T (not (has v (block_at f t).parameters))
      → (defining (block_at f t).parameters γ).slots (slot_number f pointer v) ≡ word v
  entering-held v l s h =
      defining-slot (block_at f t).parameters γ (slot_number f pointer v) v (entered.point.held v (live-entering v l h) s) h

-- nothing is live where block 0 is entered first
pub starts : (f : Function) (pointer : ℕ) → Dominated f → Entered f pointer 0 nothing_known
starts f pointer dominated =
    record {
      passed = [];
      path = start;
      point =
          record {
            unmarked = λ v l m u. absurd (not-∈-nil m);
            unspilled = λ v l u. absurd (not-∈-nil (ins-dominated dominated start l));
            held = λ v l s. absurd (not-∈-nil (ins-dominated dominated start l));
          };
    }
