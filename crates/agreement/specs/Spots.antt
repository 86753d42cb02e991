-- An instruction on a path from block 0: what is live and what is defined around it, and what holds behind it, whatever its
-- arguments, edges and map entries have become.
use Rattle.std.specs.Prelude.{ℕ, ◌<◌, ◌≡◌, refl, Bool, not, cond, List, [], ◌∷◌, ◌++◌, map, length, T}
use Rattle.std.proofs.Common.{sym, ap, subst, ◌∙◌, ⊎_elim, T_not}
use Rattle.std.proofs.Math.Option.{Option, none, some}
use mathlib.Core.List.Memᴰ
use Rattle.rules.specs.Lists.{has, members, concat_map, NumberSet}
use Rattle.rules.specs.Tree.{Edge, MapEntry, Instruction, Function}
use Rattle.rules.specs.Graph.{block_at, is_marked, instructions_of, values_among, values_passed, successors, reachable}
use Rattle.rules.specs.Liveness.{across, before, before_all, process, is_spilled}
use Rattle.rules.specs.Rewriting.{slot_number}
use Rattle.rules.specs.Demand3.{PathTo, onward, results_of, defined_in, Dominated}
use Rattle.lists.specs.Tests.{test-elim}
use Rattle.lists.specs.Members.{◌∈◌, here, ∈→has, ∈-concat_map}
use Rattle.walks.specs.Reachable.{path→reachable}
use Rattle.walks.specs.InFile.{path-in-file}
use Rattle.fixpoint.specs.Finding.{any-intro}
use Rattle.fixpoint.specs.Rule.{marked-in-file}
use Rattle.fixpoint.specs.Answer.{process-resumable, process-outs-joined}
use Rattle.simulation.specs.Ghost.{word, Ghost, moving, stepping}
use Rattle.simulation.specs.Related.{replaced}
use Rattle.agreement.specs.Accepted.{Accepted, edge-results, edge-last, edge-successor, argument-in-file, passed-in-file}
use Rattle.sharing.specs.Spilled.{spilled-marked, across-spilled}
use Rattle.agreement.specs.Spilled.{live-marked}
use Rattle.agreement.specs.Changing.{defining-own, defining-slot, moving-unmarked, moving-still, moving-slot}
use Rattle.agreement.specs.Operands.{OwnWords}
use Rattle.agreement.specs.Points.{Point, Entered, defined_before, defined-past, behind_it, after-behind, passed-behind}
use Rattle.agreement.specs.Points.{behind-across, across-before, argument-before}

-- the block that it stands in and those passed before, and the instructions around it
pub record Spot (f : Function) : Type 0 where
  pub block : ℕ
  pub passed : List ℕ
  pub path : PathTo f block passed
  pub earlier : List Instruction
  pub at : Instruction
  pub later : List Instruction
  pub split : instructions_of (block_at f block) ≡ earlier ++ (at ∷ later)

module _ (f : Function) (spot : Spot f) where
  -- what is live behind it, and before it
  abbrev pub live_after : NumberSet
  live_after = before_all f spot.later ((process f).outs spot.block)

  abbrev pub live_before : NumberSet
  live_before = before f spot.at live_after

  -- its list
  abbrev pub list_here : Option (List ℕ)
  list_here = cond spot.at.safepoint (some (members (length f.values) (across f spot.at live_after))) none

  -- what is defined before it, and behind it
  abbrev pub defined_here : List ℕ
  defined_here = defined_before f spot.passed spot.block spot.earlier

  abbrev pub defined_behind : List ℕ
  defined_behind = defined_before f spot.passed spot.block (spot.earlier ++ (spot.at ∷ []))

  -- it stands in its block, which is reachable and in the file
  pub spot-stands : spot.at ∈ instructions_of (block_at f spot.block)
  spot-stands = subst (◌∈◌ spot.at) (sym spot.split) (Memᴰ.append_right spot.earlier (here refl))

  pub spot-reachable : spot.block ∈ reachable f
  spot-reachable = path→reachable f spot.path

  -- what is live before it is marked
  pub before-marked : (v : ℕ) → T (live_before v) → T (is_marked f v)
  before-marked = live-marked f spot.block (spot.at ∷ spot.later)

  pub spot-inside : Accepted f → spot.block < length f.blocks
  spot-inside accepted = path-in-file f accepted.in-file accepted.some_block spot.path

-- an argument that is not spilled has its word there
pub arguments-own : (f : Function) (pointer : ℕ) → Accepted f → Dominated f → (spot : Spot f) (γ : Ghost)
    → Point f pointer (defined_here f spot) (live_before f spot) γ → OwnWords f γ spot.at.arguments
arguments-own f pointer accepted dominated spot γ point v m other =
    test-elim (is_marked f v)
    (λ t. point.unspilled v (argument-before f spot.at (live_after f spot) v m t) other)
    (λ t.
    point.unmarked v (argument-in-file f accepted spot.block (spot-inside f spot accepted) spot.at (spot-stands f spot) v m)
    (dominated.before spot.path spot.earlier spot.at spot.later spot.split v (Memᴰ.append_left spot.at.contexts m)) t)

-- BEHIND IT, before its results are stored
pub record Behind (f : Function) (pointer : ℕ) (spot : Spot f) (γ : Ghost) : Type 0 where
  -- an unmarked value that is defined has its word
  pub unmarked : (v : ℕ) → v < length f.values → v ∈ defined_behind f spot → T (not (is_marked f v)) → γ.words v ≡ word v
  -- so has one that is live or passed and not spilled
  pub unspilled : (v : ℕ) → T (behind_it f spot.at (live_after f spot) v) → T (not (is_spilled f v)) → γ.words v ≡ word v
  -- and a spilled one, but for results, is held
  pub held : (v : ℕ) → T (behind_it f spot.at (live_after f spot) v) → T (is_spilled f v) → T (not (has v spot.at.results))
      → γ.slots (slot_number f pointer v) ≡ word v

module _ (f : Function) (pointer : ℕ) (accepted : Accepted f) (spot : Spot f) (xs : List ℕ) (es : List Edge) (ms : List MapEntry)
    (γ : Ghost) (point : Point f pointer (defined_here f spot) (live_before f spot) γ) where
  -- the instruction as it was replaced
  abbrev j : Instruction
  j = replaced spot.at xs es ms

  -- the ghost over the move
  abbrev moved : Ghost
  moved = moving (is_marked f) j γ

  -- A step leads there, if over a safepoint each value that is live across it and spilled is listed.
  pub stepped-behind : ((v : ℕ) → T (across f spot.at (live_after f spot) v) → T spot.at.safepoint → T (is_spilled f v)
      → T (has (slot_number f pointer v) (map (λ e. e.slot) ms)))
      → Behind f pointer spot (stepping (is_marked f) j γ)
  stepped-behind listed =
      let i = spot.at in
      let after = live_after f spot in
      record {
        unmarked = λ v l m t.
            defining-own i.results moved v
            (λ h.
            moving-unmarked (is_marked f) j γ v v
            (point.unmarked v l
            (⊎_elim (λ k. k) (λ k. absurd (T_not (has v i.results) h (∈→has k)))
            (defined-past f spot.passed spot.block spot.earlier i v m)) t) t);
        unspilled = λ v l t.
            defining-own i.results moved v
            (λ h.
            let across-it = behind-across f i after v l h in
            test-elim i.safepoint
            (λ s.
            absurd (T_not (is_spilled f v) t
            (across-spilled f v (spot-reachable f spot) spot.earlier i spot.later spot.split s
            across-it)))
            (λ s.
            ap (λ (δ : Ghost). δ.words v) (moving-still (is_marked f) j γ s) ∙ point.unspilled v (across-before f i after v across-it) t));
        held = λ v l t h.
            let across-it = behind-across f i after v l h in
            defining-slot i.results moved (slot_number f pointer v) v
            (moving-slot (is_marked f) j γ (slot_number f pointer v) v (point.held v (across-before f i after v across-it) t)
            (spilled-marked f v t) (λ s. listed v across-it s t)) h;
      }

-- OUT OF THE BLOCK by one of its edges
module _ (f : Function) (accepted : Accepted f) (spot : Spot f) (e : Edge) (k : e ∈ spot.at.edges) where
  -- the instruction has no results, and is the last one
  pub no-results : (v : ℕ) → T (not (has v spot.at.results))
  no-results v =
      subst (λ vs. T (not (has v vs)))
      (sym (edge-results f accepted spot.block (spot-inside f spot accepted) spot.at (spot-stands f spot) e k).1) tt

  last-here : spot.later ≡ []
  last-here = edge-last f accepted spot.block (spot-inside f spot accepted) spot.earlier spot.at spot.later spot.split e k

  -- what the edge passes, the instruction passes
  pub passed_here : (v : ℕ) → v ∈ values_among e.arguments → v ∈ values_passed spot.at
  passed_here v m = ∈-concat_map (λ (e : Edge). values_among e.arguments) k m

  -- a value that it passes is one of the file
  pub passed-inside : (v : ℕ) → v ∈ values_among e.arguments → v < length f.values
  passed-inside v m =
      passed-in-file f accepted spot.block (spot-inside f spot accepted) spot.at (spot-stands f spot) v (passed_here v m)

  -- the edge leads to a successor of the block
  successor-here : e.target ∈ successors f spot.block
  successor-here = edge-successor f accepted spot.block (spot-inside f spot accepted) spot.at (spot-stands f spot) e k

  -- what is live into the target is live behind the instruction
  target-live : (v : ℕ) → T ((process f).ins e.target v) → T (behind_it f spot.at (live_after f spot) v)
  target-live v t =
      let b = spot.block in
      let out : T ((process f).outs b v) =
      subst (λ (s : ℕ → Bool). T (s v)) (sym (process-outs-joined f (spot-reachable f spot)))
      (any-intro (λ u. (process f).ins u v) successor-here t) in
      after-behind f spot.at (live_after f spot) v (subst (λ is. T (before_all f is ((process f).outs b) v)) (sym last-here) out)

  -- what is defined where the block is left
  defined-left : (v : ℕ) → v ∈ concat_map (defined_in f) (spot.block ∷ spot.passed) → v ∈ defined_behind f spot
  defined-left v m =
      let whole : instructions_of (block_at f spot.block) ≡ spot.earlier ++ (spot.at ∷ []) =
      spot.split ∙ ap (λ is. spot.earlier ++ (spot.at ∷ is)) last-here in
      ⊎_elim
      (λ d.
      Memᴰ.append_right (concat_map (defined_in f) spot.passed)
      (subst (λ is. v ∈ ((block_at f spot.block).parameters ++ results_of is)) whole d))
      (λ d. Memᴰ.append_left ((block_at f spot.block).parameters ++ results_of (spot.earlier ++ (spot.at ∷ []))) d)
      (Memᴰ.append_cases (defined_in f spot.block) m)

  module _ (pointer : ℕ) (γ : Ghost) (behind : Behind f pointer spot γ) where
    -- a value that the edge passes unspilled has its word
    pub passed-own : Dominated f → OwnWords f γ (values_among e.arguments)
    passed-own dominated v m other =
        test-elim (is_marked f v)
        (λ t. behind.unspilled v (passed-behind f spot.at (live_after f spot) v (passed_here v m) t) other)
        (λ t.
        behind.unmarked v (passed-inside v m)
        (dominated.after spot.path spot.earlier spot.at spot.later spot.split v (passed_here v m)) t)

    -- and the target is entered well by every ghost that knows as much of slots and of the file's values
    pub entered_by : (γ' : Ghost) → ((x : ℕ) → x < length f.values → γ'.words x ≡ γ.words x) → γ'.slots ≡ γ.slots
        → Entered f pointer e.target γ'
    entered_by γ' words slots =
        record {
          passed = spot.block ∷ spot.passed;
          path = onward spot.path successor-here;
          point =
              record {
                unmarked = λ v l m t. words v l ∙ behind.unmarked v l (defined-left v m) t;
                unspilled = λ v l t.
                    words v (marked-in-file f v ((process-resumable f).ins-marked e.target v l)) ∙ behind.unspilled v (target-live v l) t;
                held = λ v l t. ap (λ (h : ℕ → _). h (slot_number f pointer v)) slots ∙ behind.held v (target-live v l) t (no-results v);
              };
        }
