-- Which values are spilled: marked ones, and among them all that are live across a reachable safepoint.
use Rattle.std.specs.Prelude.{ℕ, ◌<◌, ◌≡◌, length, T}
use Rattle.std.proofs.Common.{arith, ap}
use Rattle.std.proofs.Math.Option.{Option, none}
use mathlib.Core.List.{List, [], ◌∷◌, map}
use Rattle.rules.specs.Lists.{has, or_else, zip_with, members, NumberSet}
use Rattle.rules.specs.Tree.{Instruction, Function}
use Rattle.rules.specs.Graph.{block_at, is_marked, instructions_of, values_passed, reachable}
use Rattle.rules.specs.Liveness.{across, before_all, process, lists_among, lists_of, listed_instructions, is_spilled}
use Rattle.lists.specs.Tests.{chosen}
use Rattle.lists.specs.Sets.{Within}
use Rattle.lists.specs.Members.{◌∈◌, here, there, not-∈-nil, ∈-elim, ∈→has, ∈-concat_map}
use Rattle.fixpoint.specs.Finding.{any-intro, ∈-keep, ∈-up_from}
use Rattle.fixpoint.specs.Rule.{adding-marked, removing-within, before_all-marked, marked-in-file}
use Rattle.fixpoint.specs.Answer.{process-resumable}

module _ (f : Function) where
  -- what is live is marked, and so one of the file's values
  pub live-marked : (b : ℕ) (is : List Instruction) → Within (before_all f is ((process f).outs b)) (is_marked f)
  live-marked b is = before_all-marked f is ((process f).outs b) ((process-resumable f).outs-marked b)

  -- what is live across an instruction too
  across-within : (i : Instruction) (after : NumberSet) → Within after (is_marked f) → Within (across f i after) (is_marked f)
  across-within i after h =
      removing-within i.results _ (is_marked f) (adding-marked f (values_passed i) after h)

  -- the lists of a reachable block
  pub lists-reachable : (b : ℕ) → b ∈ reachable f → lists_of f b ≡ lists_among f (instructions_of (block_at f b)) ((process f).outs b)
  unfolding lists_of
  lists-reachable b m =
      chosen (has b (reachable f)) (lists_among f (instructions_of (block_at f b)) ((process f).outs b))
      (map (λ _. none) (instructions_of (block_at f b))) (∈→has m)

  -- what is live across an instruction and a value of the file is on its list
  pub across-listed : (i : Instruction) (after : NumberSet) → Within after (is_marked f) → (v : ℕ) → T (across f i after v)
      → v ∈ members (length f.values) (across f i after)
  across-listed i after h v t =
      let inside : v < length f.values = marked-in-file f v (across-within i after h v t) in
      ∈-keep (across f i after) (∈-up_from 0 (length f.values) v (omega arith) (omega (arith, inside))) t

  -- a listed value is spilled
  pub listed-spilled : (b : ℕ) → b < length f.blocks → (x : Instruction × Option (List ℕ)) → x ∈ listed_instructions f b
      → (v : ℕ) → v ∈ or_else [] x.1 → T (is_spilled f v)
  unfolding is_spilled
  listed-spilled b inside x m v k =
      any-intro (λ (l : Option (List ℕ)). has v (or_else [] l))
      (∈-concat_map (lists_of f) (∈-up_from 0 (length f.blocks) b (omega arith) (omega (arith, inside)))
      (second (instructions_of (block_at f b)) (lists_of f b) m))
      (∈→has k)
    where
      second : (is : List Instruction) (ls : List (Option (List ℕ))) → x ∈ zip_with (λ i l. (i, l)) is ls → x.1 ∈ ls
      second [] ls m = absurd (not-∈-nil m)
      second (i ∷ is) [] m = absurd (not-∈-nil m)
      second (i ∷ is) (l ∷ ls) m = ∈-elim (λ e. here (ap (λ (y : Instruction × Option (List ℕ)). y.1) e)) (λ n. there (second is ls n)) m
