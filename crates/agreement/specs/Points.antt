-- What holds at every point of a path through the rewritten function, and what is asked of slots for it to hold.
use Rattle.std.specs.Prelude.{ℕ, ◌<◌, ◌≡◌, ◌⊎◌, ◌≢◌, not, List, [], ◌∷◌, ◌++◌, length, T}
use Rattle.std.proofs.Common.{ap, subst, ◌∙◌, inl, inr, ⊎_elim}
use mathlib.Core.List.Memᴰ
use Rattle.rules.specs.Lists.{keep, has, concat_map, NumberSet, adding}
use Rattle.rules.specs.Tree.{Instruction, Function}
use Rattle.rules.specs.Graph.{block_at, is_marked, instructions_of, values_passed, reachable}
use Rattle.rules.specs.Liveness.{across, before, before_all, process, is_spilled, listed_instructions}
use Rattle.rules.specs.Plan.{BlockPlan, planned}
use Rattle.rules.specs.Rewriting.{slot_number}
use Rattle.rules.specs.Demand3.{PathTo, results_of, defined_in}
use Rattle.lists.specs.Tests.{and_intro, or_left, or_right}
use Rattle.lists.specs.Members.{◌∈◌, not-∈-nil, ∈→has}
use Rattle.lists.specs.Maps.{concat_map-append}
use Rattle.fixpoint.specs.Finding.{∈-keep}
use Rattle.fixpoint.specs.Rule.{marked-in-file}
use Rattle.simulation.specs.Ghost.{word, Ghost}
use Rattle.simulation.specs.Related.{Each, Paired}
use Rattle.agreement.specs.Changing.{Stored}

-- WHAT IS ASKED OF SLOTS. Where a spilled value is defined, no other spilled value that is live just behind has its slot; and
-- each spilled definition of a reachable block is stored.
pub record SlotsApart (f : Function) (pointer : ℕ) : Type 0 where
  pub results-apart : (b : ℕ) → b ∈ reachable f
      → (earlier : List Instruction) (i : Instruction) (later : List Instruction) → instructions_of (block_at f b) ≡ earlier ++ (i ∷ later)
      → (v : ℕ) → v ∈ i.results → T (is_spilled f v)
      → (u : ℕ) → T (before_all f later ((process f).outs b) u) → T (is_spilled f u) → u ≢ v → slot_number f pointer u ≢ slot_number f pointer v
  pub parameters-apart : (b : ℕ) → b ∈ reachable f
      → (v : ℕ) → v ∈ (block_at f b).parameters → T (is_spilled f v)
      → (u : ℕ) → T (before_all f (instructions_of (block_at f b)) ((process f).outs b) u) → T (is_spilled f u) → u ≢ v
      → slot_number f pointer u ≢ slot_number f pointer v
  pub parameters-stored : (b : ℕ) (n : BlockPlan) → Paired b n (reachable f) (planned f pointer).0
      → Each (Stored f) (block_at f b).parameters n.parameters
  pub results-stored : (b : ℕ) (n : BlockPlan) → Paired b n (reachable f) (planned f pointer).0
      → Each (λ x m. Each (Stored f) x.0.results m.results) (listed_instructions f b) n.instructions

-- POINTS, by the values defined on the way there and those live there
module _ (f : Function) (pointer : ℕ) where
  pub record Point (defined : List ℕ) (live : NumberSet) (γ : Ghost) : Type 0 where
    -- an unmarked value that is defined has its word
    pub unmarked : (v : ℕ) → v < length f.values → v ∈ defined → T (not (is_marked f v)) → γ.words v ≡ word v
    -- so has a live one that is not spilled
    pub unspilled : (v : ℕ) → T (live v) → T (not (is_spilled f v)) → γ.words v ≡ word v
    -- and a live one that is spilled is held by its slot
    pub held : (v : ℕ) → T (live v) → T (is_spilled f v) → γ.slots (slot_number f pointer v) ≡ word v

  -- where a block is entered, on some path: before its parameters get their words
  pub record Entered (t : ℕ) (γ : Ghost) : Type 0 where
    pub passed : List ℕ
    pub path : PathTo f t passed
    pub point : Point (concat_map (defined_in f) passed) ((process f).ins t) γ

  -- a point holds of a ghost that knows as much of slots and of the file's values
  pub point-kept : {defined : List ℕ} {live : NumberSet} {γ γ' : Ghost} → ((v : ℕ) → T (live v) → T (is_marked f v))
      → ((x : ℕ) → x < length f.values → γ'.words x ≡ γ.words x) → γ'.slots ≡ γ.slots
      → Point defined live γ → Point defined live γ'
  point-kept {γ = γ} {γ' = γ'} marked words slots p =
      record {
        unmarked = λ v l m u. words v l ∙ p.unmarked v l m u;
        unspilled = λ v l u. words v (marked-in-file f v (marked v l)) ∙ p.unspilled v l u;
        held = λ v l s. ap (λ (h : ℕ → _). h (slot_number f pointer v)) slots ∙ p.held v l s;
      }

-- DEFINED ON THE WAY
module _ (f : Function) where
  -- the values defined on a path into block t, past these of its instructions
  abbrev pub defined_before : List ℕ → ℕ → List Instruction → List ℕ
  defined_before passed t earlier = concat_map (defined_in f) passed ++ ((block_at f t).parameters ++ results_of earlier)

  -- a value that is defined past one more instruction was defined before it, or by it
  pub defined-past : (passed : List ℕ) (t : ℕ) (earlier : List Instruction) (i : Instruction) (v : ℕ)
      → v ∈ defined_before passed t (earlier ++ (i ∷ [])) → (v ∈ defined_before passed t earlier) ⊎ (v ∈ i.results)
  defined-past passed t earlier i v m =
      ⊎_elim (λ k. inl (Memᴰ.append_left ((block_at f t).parameters ++ results_of earlier) k))
      (λ k.
      ⊎_elim (λ p. inl (Memᴰ.append_right (concat_map (defined_in f) passed) (Memᴰ.append_left (results_of earlier) p)))
      (λ r.
      ⊎_elim (λ e. inl (Memᴰ.append_right (concat_map (defined_in f) passed) (Memᴰ.append_right (block_at f t).parameters e)))
      (λ e. ⊎_elim inr (λ n. absurd (not-∈-nil n)) (Memᴰ.append_cases i.results e))
      (Memᴰ.append_cases (results_of earlier)
      (subst (◌∈◌ v) (concat_map-append (λ (i : Instruction). i.results) earlier (i ∷ [])) r)))
      (Memᴰ.append_cases (block_at f t).parameters k))
      (Memᴰ.append_cases (concat_map (defined_in f) passed) m)

-- LIVE AROUND AN INSTRUCTION
module _ (f : Function) (i : Instruction) (after : NumberSet) where
  -- behind it, with what its edges pass
  abbrev pub behind_it : NumberSet
  behind_it = adding (keep (is_marked f) (values_passed i)) after

  -- what is live behind it, and what is passed
  pub after-behind : (v : ℕ) → T (after v) → T (behind_it v)
  after-behind v t = or_right (has v (keep (is_marked f) (values_passed i))) (after v) t

  pub passed-behind : (v : ℕ) → v ∈ values_passed i → T (is_marked f v) → T (behind_it v)
  passed-behind v m t = or_left (has v (keep (is_marked f) (values_passed i))) (after v) (∈→has (∈-keep (is_marked f) m t))

  -- is live across it, but for its results
  pub behind-across : (v : ℕ) → T (behind_it v) → T (not (has v i.results)) → T (across f i after v)
  behind-across v t n = and_intro (not (has v i.results)) (behind_it v) n t

  -- and so before it, as its arguments are
  pub across-before : (v : ℕ) → T (across f i after v) → T (before f i after v)
  across-before v t = or_right (has v (keep (is_marked f) i.arguments)) (across f i after v) t

  pub argument-before : (v : ℕ) → v ∈ i.arguments → T (is_marked f v) → T (before f i after v)
  argument-before v m t = or_left (has v (keep (is_marked f) i.arguments)) (across f i after v) (∈→has (∈-keep (is_marked f) m t))
