-- The slots after one step more.
use Rattle.std.specs.Prelude.{ℕ, suc, ◌<◌, ◌≡◌, List, [], ◌∷◌, ◌++◌, length, get_or, take}
use Rattle.std.proofs.Common.{ap, ◌∙◌, take-suc}
use Rattle.rules.specs.Tree.{Function}
use Rattle.rules.specs.Graph.{size_of}
use Rattle.rules.specs.Slots.{no_slots}
use Rattle.lists.specs.Maps.{map-append}
use Rattle.sharing.specs.SlotSteps.{SlotStep, taken, replayed, replayed-append}
use Rattle.planning.specs.Standing.{step_of, noted, slots_by}

-- one step more is replayed
noted-next : (steps : List ℕ) (i : ℕ) → i < length steps → noted steps (suc i) ≡ noted steps i ++ (step_of (get_or steps i 0) ∷ [])
unfolding noted
noted-next steps i l = rw (take-suc steps i 0 l) (map-append step_of (take i steps) (get_or steps i 0 ∷ []))

pub slots_next :
    (f : Function) (steps : List ℕ) (i : ℕ) → i < length steps
    → slots_by f steps (suc i) ≡ taken (size_of f) (step_of (get_or steps i 0)) (slots_by f steps i)
unfolding slots_by
slots_next f steps i l =
    ap (λ (ss : List SlotStep). replayed (size_of f) ss no_slots) (noted-next steps i l)
    ∙ replayed-append (size_of f) (noted steps i) (step_of (get_or steps i 0) ∷ []) no_slots
