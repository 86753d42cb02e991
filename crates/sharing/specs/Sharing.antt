-- SHARED SLOTS: two spilled values that are live at one point have different slots, if every use is dominated by its
-- definition. So a store, which stands just behind a definition, overwrites no value that is live there.
use Rattle.std.specs.Prelude.{ℕ, ◌≡◌, refl, ◌≢◌, List, [], ◌∷◌, ◌++◌, T}
use Rattle.std.proofs.Common.{sym, ap, subst, ◌∙◌, append_assoc}
use mathlib.Core.List.Memᴰ
use Rattle.rules.specs.Lists.{or_else, concat_map, NumberSet}
use Rattle.rules.specs.Tree.{Instruction, Function}
use Rattle.rules.specs.Graph.{block_at, size_of, instructions_of, reachable}
use Rattle.rules.specs.Liveness.{across, before_all, process, is_spilled}
use Rattle.rules.specs.Slots.{StackSlots, no_slots}
use Rattle.rules.specs.Plan.{planned}
use Rattle.rules.specs.Rewriting.{slot_number}
use Rattle.rules.specs.Refusals.{numbers_in_file, defined_once}
use Rattle.rules.specs.Demand3.{results_of, Dominated}
use Rattle.lists.specs.Members.{◌∈◌, here, ∈-concat_map}
use Rattle.sharing.specs.SlotSteps.{SlotStep, freed, gives, replayed, block_steps}
use Rattle.sharing.specs.Holding.{held-slots-differ}
use Rattle.sharing.specs.Replaying.{planned-slots}
use Rattle.sharing.specs.Spilled.{across-before, across-spilled}
use Rattle.sharing.specs.Points.{point_steps, point_steps-lead, live-given}
use Rattle.sharing.specs.Turns.{Turn, turn-of, turn-reachable}
use Rattle.sharing.specs.Held.{freed-once, defined-unfreed, live-unfreed, parameter-given, result-given}

-- A cut just behind the definitions of one instruction, or of the parameters, of a reachable block: the block, the values
-- defined there, and what is live behind them.
pub data Cut (f : Function) : ℕ → List ℕ → NumberSet → Type 0 where
  behind-instruction :
      {b : ℕ} → b ∈ reachable f → (earlier : List Instruction) (i : Instruction) (later : List Instruction)
      → instructions_of (block_at f b) ≡ earlier ++ (i ∷ later)
      → Cut f b i.results (before_all f later ((process f).outs b))
  behind-parameters :
      {b : ℕ} → b ∈ reachable f
      → Cut f b (block_at f b).parameters (before_all f (instructions_of (block_at f b)) ((process f).outs b))

module _ (f : Function) (pointer : ℕ) (once : T (defined_once f)) (in-file : T (numbers_in_file f)) (dominated : Dominated f) where
  -- When planning comes to a point of a block,
  module _ {b : ℕ} (at : Turn f b) (earlier later : List Instruction) (split : instructions_of (block_at f b) ≡ earlier ++ later) where
    abbrev steps : List SlotStep
    steps = point_steps f at.planned b later

    -- two values that have been given slots and are not freed have different ones in the end;
    differ-at :
        {u v : ℕ} → u ≢ v → gives u ∈ steps → gives v ∈ steps → freed u steps ≡ 0 → freed v steps ≡ 0
        → slot_number f pointer u ≢ slot_number f pointer v
    differ-at {u} {v} other given-u given-v unfreed-u unfreed-v same =
        let lead = point_steps-lead f at.planned at.behind at.turn (turn-reachable at) earlier later split in
        let slots : (planned f pointer).1.slots ≡ replayed (size_of f) (steps ++ lead.0) no_slots =
        planned-slots f pointer ∙ ap (λ ss. replayed (size_of f) ss no_slots) lead.1 in
        held-slots-differ (size_of f) steps lead.0 (freed-once f once in-file at earlier later split) other
        given-u given-v unfreed-u unfreed-v
        (subst (λ (p : StackSlots). or_else 0 (p.slot_of u) ≡ or_else 0 (p.slot_of v)) slots same)

    -- and what is live has been given one and is not freed.
    live-holds :
        (u : ℕ) → T (is_spilled f u) → T (before_all f later ((process f).outs b) u) → (gives u ∈ steps) × (freed u steps ≡ 0)
    live-holds u spilled live = (
      Memᴰ.append_right (concat_map (block_steps f) at.planned) (live-given f u spilled (turn-reachable at) later live),
      live-unfreed f once in-file at earlier later split dominated u live,
    )

    -- So is a value defined before the point in its block not yet freed, and it differs from what is live.
    defined-differ :
        {u v : ℕ} → v ∈ (block_at f b).parameters ++ results_of earlier → gives v ∈ steps → u ≢ v
        → T (is_spilled f u) → T (before_all f later ((process f).outs b) u) → slot_number f pointer u ≢ slot_number f pointer v
    defined-differ {u} defined given other spilled live =
        let held = live-holds u spilled live in
        differ-at other held.0 given held.1 (defined-unfreed f once in-file at earlier later split defined)

  -- THE LAW, of definitions: what is live just behind a value's definition has another slot.
  pub live-slots-differ :
      {b : ℕ} {vs : List ℕ} {live : NumberSet} → Cut f b vs live → {u v : ℕ} → v ∈ vs → T (is_spilled f v) → u ≢ v
      → T (is_spilled f u) → T (live u) → slot_number f pointer u ≢ slot_number f pointer v
  live-slots-differ (behind-instruction {b} m earlier i later split) {u} {v} defined spilled other =
      let at = turn-of f m in
      defined-differ at (earlier ++ (i ∷ [])) later (split ∙ sym (append_assoc earlier (i ∷ []) later))
      (Memᴰ.append_right (block_at f b).parameters (∈-concat_map (λ j. j.results) (Memᴰ.append_right earlier (here refl)) defined))
      (result-given f once in-file dominated at earlier i later split v spilled defined) other
  live-slots-differ (behind-parameters {b} m) {u} {v} defined spilled other =
      let at = turn-of f m in
      defined-differ at [] (instructions_of (block_at f b)) refl (Memᴰ.append_left [] defined)
      (parameter-given f once in-file dominated at v spilled defined) other

  -- Of points: two that are live at one have different slots.
  pub live-together-differ :
      {b : ℕ} → b ∈ reachable f → (earlier later : List Instruction) → instructions_of (block_at f b) ≡ earlier ++ later
      → {u v : ℕ} → u ≢ v → T (is_spilled f u) → T (is_spilled f v)
      → T (before_all f later ((process f).outs b) u) → T (before_all f later ((process f).outs b) v)
      → slot_number f pointer u ≢ slot_number f pointer v
  live-together-differ m earlier later split {u} {v} other spilled-u spilled-v live-u live-v =
      let at = turn-of f m in
      let held-u = live-holds at earlier later split u spilled-u live-u in
      let held-v = live-holds at earlier later split v spilled-v live-v in
      differ-at at earlier later split other held-u.0 held-v.0 held-u.1 held-v.1

  -- Of safepoints: two that are on one's list have different slots.
  pub listed-slots-differ :
      {b : ℕ} → b ∈ reachable f → (earlier : List Instruction) (i : Instruction) (later : List Instruction)
      → instructions_of (block_at f b) ≡ earlier ++ (i ∷ later) → T i.safepoint → {u v : ℕ} → u ≢ v
      → T (across f i (before_all f later ((process f).outs b)) u) → T (across f i (before_all f later ((process f).outs b)) v)
      → slot_number f pointer u ≢ slot_number f pointer v
  listed-slots-differ {b} m earlier i later split s {u} {v} other live-u live-v =
      let behind = before_all f later ((process f).outs b) in
      live-together-differ m earlier (i ∷ later) split other
      (across-spilled f u m earlier i later split s live-u) (across-spilled f v m earlier i later split s live-v)
      (across-before f i behind u live-u) (across-before f i behind v live-v)
