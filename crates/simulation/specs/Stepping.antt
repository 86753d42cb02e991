-- One step of both machines: references move, results are set, and nothing has arrived yet. The ghost's step keeps the
-- agreement over it.
use Rattle.std.specs.Prelude.{ℕ, Bool, true, false, List, map}
use Rattle.std.proofs.Math.Option.{none}
use Rattle.rules.specs.Lists.{has, nothing}
use Rattle.rules.specs.Tree.{Edge, MapEntry, Instruction, Function}
use Rattle.rules.specs.Graph.{is_marked}
use Rattle.rules.specs.TwoRuns.{World, Mover, Machine, define, set_arrived, moved}
use Rattle.rules.specs.Demand3.{every_instruction}
use Rattle.simulation.specs.Ghost.{Ghost, moving, stepping}
use Rattle.simulation.specs.Related.{replaced}
use Rattle.simulation.specs.Agreement.{Against, Agrees, against, arrived-agrees, moved-means, defining-agrees}

-- an instruction by its parts
abbrev pub made : Bool → Bool → ℕ → List ℕ → List ℕ → List Edge → List ℕ → List MapEntry → Instruction
made safepoint terminator tag arguments results edges contexts entries =
    record {
      safepoint = safepoint;
      terminator = terminator;
      tag = tag;
      arguments = arguments;
      results = results;
      edges = edges;
      contexts = contexts;
      entries = entries;
    }

-- no returned or exception words
abbrev pub none-given : ℕ → ℕ
none-given _ = 0

module _ (f g : Function) (world : World) (mover : Mover) where
  -- in the original the marked values move, in the rewritten function only listed slots do
  abbrev move_o : ℕ → Instruction → Machine → Machine
  move_o = moved f every_instruction (is_marked f) world mover

  abbrev move_r : ℕ → Instruction → Machine → Machine
  move_r = moved g every_instruction nothing world mover

  moved-agrees : (k : ℕ) (i : Instruction) (xs : List ℕ) (es : List Edge) (ms : List MapEntry) (mo m : Machine) (γ : Ghost)
      → Agrees (against mo none-given none-given) γ m
      → Agrees (against (move_o k i mo) none-given none-given)
      (moving (is_marked f) (replaced i xs es ms) γ) (move_r k (replaced i xs es ms) m)
  moved-agrees k i xs es ms mo m γ a = go i.safepoint
    where
      o : Against
      o = against mo none-given none-given

      at-safepoint : Bool → Instruction
      at-safepoint b =
          made b i.terminator i.tag i.arguments i.results i.edges i.contexts i.entries

      go : (b : Bool)
          → Agrees (against (move_o k (at-safepoint b) mo) none-given none-given)
          (moving (is_marked f) (replaced (at-safepoint b) xs es ms) γ) (move_r k (replaced (at-safepoint b) xs es ms) m)
      go true =
          record {
            words = λ x. moved-means (is_marked f) (mover k) o (γ.words x) false (m.words x) (a.words x);
            slots = λ s. moved-means (is_marked f) (mover k) o (γ.slots s) (has s (map (λ e. e.slot) ms)) (m.slots s) (a.slots s);
          }
      go false = a

  -- behind a step: nothing has arrived yet
  abbrev pub original_behind : ℕ → Instruction → (ℕ → ℕ) → Machine → Machine
  original_behind k i given mo = set_arrived none (define i.results given (move_o k i mo))

  abbrev pub rewritten_behind : ℕ → Instruction → (ℕ → ℕ) → Machine → Machine
  rewritten_behind k j given m = set_arrived none (define j.results given (move_r k j m))

  pub stepped-agrees : (k : ℕ) (i : Instruction) (xs : List ℕ) (es : List Edge) (ms : List MapEntry) (given : ℕ → ℕ)
      (mo m : Machine) (γ : Ghost) (r x : ℕ → ℕ)
      → Agrees (against mo none-given none-given) γ m
      → Agrees (against (original_behind k i given mo) r x) (stepping (is_marked f) (replaced i xs es ms) γ)
      (rewritten_behind k (replaced i xs es ms) given m)
  stepped-agrees k i xs es ms given mo m γ r x a =
      let j = replaced i xs es ms in
      arrived-agrees (define i.results given (move_r k j m)) none
      (defining-agrees given 0 i.results (move_o k i mo) (move_r k j m) none-given none-given r x
      (moving (is_marked f) j γ) (moved-agrees k i xs es ms mo m γ a))
