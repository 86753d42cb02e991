-- What is asked of slots holds where every use is dominated by its definition.
use Rattle.std.specs.Prelude.{ℕ, List, [], ◌∷◌, T}
use Rattle.std.proofs.Common.{subst}
use Rattle.std.proofs.Math.Option.{Option, none, some}
use Rattle.rules.specs.Lists.{zip_with, NumberSet}
use Rattle.rules.specs.Tree.{Instruction, Function}
use Rattle.rules.specs.Graph.{block_at, instructions_of, reachable}
use Rattle.rules.specs.Liveness.{process, lists_among}
use Rattle.rules.specs.Plan.{Made, InstructionPlan, BlockPlan, planned}
use Rattle.rules.specs.Refusals.{numbers_in_file, defined_once}
use Rattle.rules.specs.Demand3.{Dominated}
use Rattle.lists.specs.Pairs.{Each, Paired, each_weaken, each-paired, paired-left}
use Rattle.sharing.specs.Spilled.{listed_instructions-reachable}
use Rattle.sharing.specs.Sharing.{behind-instruction, behind-parameters, live-slots-differ}
use Rattle.sharing.specs.Stored as sharing
use Rattle.agreement.specs.Changing.{Stored}
use Rattle.agreement.specs.Points.{SlotsApart}

module _ (f : Function) where
  stored : (v : ℕ) (m : Made) → sharing.Stored f v m → Stored f v m
  stored v none e = subst T e tt
  stored v (some _) e = tt

  -- results are stored, beside the lists too
  abbrev BesideLists : Instruction × Option (List ℕ) → InstructionPlan → Type 0
  BesideLists x n = Each (Stored f) x.0.results n.results

  results-stored : (out : NumberSet) (is : List Instruction) (ns : List InstructionPlan) → Each (sharing.ResultsStored f) is ns
      → Each BesideLists (zip_with (λ i l. (i, l)) is (lists_among f is out)) ns
  results-stored out [] [] r = tt
  results-stored out [] (_ ∷ _) r = absurd r
  results-stored out (_ ∷ _) [] r = absurd r
  results-stored out (i ∷ is) (n ∷ ns) r =
      (each_weaken (sharing.Stored f) (Stored f) stored i.results n.results r.0, results-stored out is ns r.1)

  pub slots_apart : (pointer : ℕ) → T (defined_once f) → T (numbers_in_file f) → Dominated f → SlotsApart f pointer
  slots_apart pointer once in-file dominated =
      record {
        results-apart =
            λ b m earlier i later split v k t u live s other.
            live-slots-differ f pointer once in-file dominated (behind-instruction m earlier i later split) k t other s live;
        parameters-apart =
            λ b m v k t u live s other. live-slots-differ f pointer once in-file dominated (behind-parameters m) k t other s live;
        parameters-stored = λ b n m. each_weaken (sharing.Stored f) (Stored f) stored (block_at f b).parameters n.parameters (stored_at b n m).0;
        results-stored =
            λ b n m.
            rw (listed_instructions-reachable f (paired-left (reachable f) (planned f pointer).0 m))
            (results-stored ((process f).outs b) (instructions_of (block_at f b)) n.instructions (stored_at b n m).1);
      }
    where
      stored_at : (b : ℕ) (n : BlockPlan) → Paired b n (reachable f) (planned f pointer).0 → sharing.BlockStored f b n
      stored_at b n m =
          each-paired (sharing.BlockStored f) (reachable f) (planned f pointer).0 (sharing.definitions-stored f pointer once in-file dominated) m
