-- Laws of the table of holders: every step keeps its length, and reaches only entries that it has.
use Rattle.std.specs.Prelude.{ℕ, zero, suc, ◌/◌, ◌%◌, ◌≤◌, ◌<◌, ◌≡◌, refl, true, false, cond, List, length, get_or, eqb}
use Rattle.std.proofs.Common.{◌∙◌, arith, length-set}
use Rattle.rules.specs.File.{function_in}
use Rattle.rules.specs.Graph.{size_of}
use Rattle.holders.specs.declared.Holder.{Holder}
use Rattle.holders.specs.declared.Change.{Change}
use Rattle.holders.specs.declared.Change.TheVariants as change
use Rattle.holders.specs.Table.{nobody, taken_by, given_back, changed, Reaches, change_of, change_at, holders_after, Replayable}

-- a step keeps the table's length,
pub length-changed : (c : Change) (table : List Holder) → length (changed c table) ≡ length table
length-changed (change.Takes at owner size) table = length-set table at (taken_by (get_or table at nobody) owner size)
length-changed (change.Gives at owner size) table = length-set table at (given_back (get_or table at nobody))
length-changed (change.Nothing owner size) table = refl

-- and so do all
pub length-after : (s steps places : List ℕ) (i : ℕ) (table : List Holder) → length (holders_after s steps places i table) ≡ length table
length-after s steps places zero table = refl
length-after s steps places (suc i) table =
    length-changed (change_at s steps places i) (holders_after s steps places i table) ∙ length-after s steps places i table

-- a place that is not none names an entry
pub place-reaches : (step place size : ℕ) (table : List Holder) → place ≤ length table → Reaches (change_of step place size) table
place-reaches step zero size table within = tt
place-reaches step (suc slot) size table within =
    elim (eqb (step % 2) 0) as (λ b. Reaches (cond b (change.Takes slot (step / 2) size) (change.Gives slot (step / 2) size)) table) [ true ↦ omega arith | false ↦ omega arith ]

-- STEP i reaches an entry of the table before it.
pub step-reaches :
    (s steps places : List ℕ) (count : ℕ) (table : List Holder) → Replayable s steps places count table → (i : ℕ) → i < count
    → Reaches (change_at s steps places i) (holders_after s steps places i table)
step-reaches s steps places count table h i less =
    place-reaches (get_or steps i 0) (get_or places i 0) (size_of (function_in s) (get_or steps i 0 / 2)) (holders_after s steps places i table) (rw (length-after s steps places i table) (h.reached i less))
