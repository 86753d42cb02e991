-- Who has a slot, by the table of holders: a value that holds a slot was given it, and a step that gives or frees a slot
-- leaves it held or not.
use Prim.Native.Nat.{ℕ, zero, suc, ◌/◌, ◌%◌, ◌<◌, ◌≤◌}
use Rattle.std.specs.Prelude.{◌≡◌, true, false, length, get_or, set, replicate, eqb}
use Rattle.std.proofs.Math.Path.{refl, ap, subst}
use Rattle.std.proofs.Common.{sym, ◌∙◌, arith, get_or-set_same, get_or-set_other, eqb→eq}
use Rattle.std.proofs.Math.Option.{Option, none, some, none-ne-some}
use mathlib.Core.List.{List, [], ◌∷◌}
use Rattle.std.proofs.Math.Dec.{T}
use Rattle.rules.specs.Limits.{largest_values}
use Rattle.rules.specs.Lists.{update}
use Rattle.rules.specs.Slots.{StackSlots, no_slots, slot_from, give_slot, free_slot}
use Rattle.lists.specs.Tests.{test-elim, neqb→ne}
use Rattle.lists.specs.Members.{◌∈◌, here}
use Rattle.fixpoint.specs.Finding.{update_here, update-elim}
use Rattle.sharing.specs.SlotSteps.{free_own}
use Rattle.demand3.specs.SlotTables.{SlotsGood}
use Rattle.rows.specs.Rows.{row_values}
use Rattle.numbering.specs.Beside.{tag}
use Rattle.holders.specs.declared.Holder.{Holder}
use Rattle.holders.specs.Table.{nobody, taken_by, given_back, changed, change_of}
use Rattle.stackslots.specs.Tables.{new_slot, slots_after, placed}
use Rattle.stackslots.specs.HolderSteps.{slot_given, changed-even, changed-odd, made-low, holders_by, holders-long, holders-kept, size_at, slots-given, place-given, place-freed}

-- a slot that is held is its owner's
abbrev pub Owned : List Holder → StackSlots → Type 0
Owned table p = (k : ℕ) → T (get_or table k nobody).held → p.slot_of (get_or table k nobody).owner ≡ some k

-- a value without a slot takes one
owned-taken :
    (table : List Holder) (slot : ℕ) (h : Holder) (slot_of : ℕ → Option ℕ) (v : ℕ) → slot < length table → h.owner ≡ v → slot_of v ≡ none
    → ((k : ℕ) → T (get_or table k nobody).held → slot_of (get_or table k nobody).owner ≡ some k)
    → (k : ℕ) → T (get_or (set table slot h) k nobody).held → update v (some slot) slot_of (get_or (set table slot h) k nobody).owner ≡ some k
owned-taken table slot h slot_of v inside own without old k held =
    test-elim (eqb k slot)
    (λ same.
    let here : get_or (set table slot h) k nobody ≡ h = ap (λ j. get_or (set table slot h) j nobody) (eqb→eq k slot same) ∙ get_or-set_same table slot h nobody inside in
    ap (λ (e : Holder). update v (some slot) slot_of e.owner) here
    ∙ ap (update v (some slot) slot_of) own
    ∙ update_here v (some slot) slot_of
    ∙ ap some (sym (eqb→eq k slot same)))
    (λ other.
    let there = get_or-set_other table slot k h nobody (neqb→ne k slot other) in
    let e = get_or table k nobody in
    let was : slot_of e.owner ≡ some k = old k (subst (λ (x : Holder). T x.held) there held) in
    ap (λ (x : Holder). update v (some slot) slot_of x.owner) there
    ∙ update-elim (λ (o : Option ℕ). o ≡ some k) v (some slot) slot_of e.owner
    (λ is. absurd (none-ne-some k (sym without ∙ ap slot_of (sym is) ∙ was))) (λ _. was))

-- a slot that is given back is nobody's
owned-given-back :
    (table : List Holder) (slot : ℕ) (p : StackSlots) → slot < length table → Owned table p → Owned (set table slot (given_back (get_or table slot nobody))) p
owned-given-back table slot p inside old k held =
    let h = given_back (get_or table slot nobody) in
    test-elim (eqb k slot)
    (λ same.
    let here : get_or (set table slot h) k nobody ≡ h = ap (λ j. get_or (set table slot h) j nobody) (eqb→eq k slot same) ∙ get_or-set_same table slot h nobody inside in
    absurd (subst (λ (x : Holder). T x.held) here held))
    (λ other.
    let there = get_or-set_other table slot k h nobody (neqb→ne k slot other) in
    ap (λ (x : Holder). p.slot_of x.owner) there ∙ old k (subst (λ (x : Holder). T x.held) there held))

module _ (table : List Holder) (long : length table ≡ row_values) (step size : ℕ) (p : StackSlots) (good : SlotsGood row_values p) (h : Owned table p) where
  abbrev v : ℕ
  v = step / 2

  owned-given :
      eqb (step % 2) 0 ≡ true → SlotsGood row_values (give_slot v size p) → Owned (changed (change_of step (tag (slot_given v size p)) size) table) (give_slot v size p)
  unfolding give_slot
  owned-given even good' = go (p.slot_of v) refl (p.free size) refl good'
    where
      -- the slot that it takes, with the slots told by a table
      takes : (slot : ℕ) (q : StackSlots) → q.slot_of ≡ update v (some slot) p.slot_of → p.slot_of v ≡ none → slot < row_values
          → Owned (changed (change_of step (tag (new_slot none (q.slot_of v))) size) table) q
      takes slot q is e low =
          let now : q.slot_of v ≡ some slot = ap (λ (g : ℕ → Option ℕ). g v) is ∙ update_here v (some slot) p.slot_of in
          subst (λ (o : Option ℕ). Owned (changed (change_of step (tag o) size) table) q) (sym now)
          (subst (λ (t : List Holder). Owned t q) (sym (changed-even step slot size table even))
          (subst
          (λ (g : ℕ → Option ℕ). (k : ℕ) → T (get_or (set table slot (taken_by (get_or table slot nobody) v size)) k nobody).held → g (get_or (set table slot (taken_by (get_or table slot nobody) v size)) k nobody).owner ≡ some k)
          (sym is)
          (owned-taken table slot (taken_by (get_or table slot nobody) v size) p.slot_of v (omega (arith, low, long)) refl e h)))

      go : (o : Option ℕ) → p.slot_of v ≡ o → (free : List ℕ) → p.free size ≡ free → SlotsGood row_values (slot_from v size o free p)
          → Owned (changed (change_of step (tag (new_slot o ((slot_from v size o free p).slot_of v))) size) table) (slot_from v size o free p)
      go (some slot) e free d g = h
      go none e (slot ∷ rest) d g =
          takes slot (slot_from v size none (slot ∷ rest) p) refl e (made-low good slot (good.freed size slot (subst (λ (l : List ℕ). slot ∈ l) (sym d) (here refl))))
      go none e [] d g =
          let slot = length p.made in
          takes slot (slot_from v size none [] p) refl e (made-low g slot (g.given v slot (update_here v (some slot) p.slot_of)))

  owned-freed : eqb (step % 2) 0 ≡ false → Owned (changed (change_of step (tag (p.slot_of v)) size) table) (free_own size (p.slot_of v) p)
  unfolding free_slot
  owned-freed odd = go (p.slot_of v) refl
    where
      go : (o : Option ℕ) → p.slot_of v ≡ o → Owned (changed (change_of step (tag o) size) table) (free_own size o p)
      go none e = h
      go (some slot) e =
          subst (λ (t : List Holder). Owned t (free_slot slot size p)) (sym (changed-odd step slot size table odd))
          (owned-given-back table slot p (omega (arith, made-low good slot (good.given v slot e), long)) h)

-- before the first step no slot is held
blank-owned : (n : ℕ) → Owned (replicate n nobody) no_slots
blank-owned n k held = absurd (subst (λ (x : Holder). T x.held) (blank n k) held)
  where
    blank : (n k : ℕ) → get_or (replicate n nobody) k nobody ≡ nobody
    blank zero k = refl
    blank (suc n) zero = refl
    blank (suc n) (suc k) = blank n k

-- a slot that is newly had is had
given-now : (before now : Option ℕ) (slot : ℕ) → new_slot before now ≡ some slot → now ≡ some slot
given-now none now slot e = e
given-now (some _) now slot e = absurd (none-ne-some slot e)

-- ALL STEPS, where each one's place is the slot that it is about.
module _ (s steps places : List ℕ) (count : ℕ) (in_steps : count ≤ length steps)
    (found : (i : ℕ) → i < count → get_or places i 0 ≡ tag (placed s steps i)) (good : (i : ℕ) → i ≤ count → SlotsGood row_values (slots_after s steps i)) where
  abbrev holders : ℕ → List Holder
  holders = holders_by s steps places count in_steps found good

  -- THE LAW: a slot that is held is the one that its owner was given.
  pub holders-owned : (i : ℕ) → i ≤ count → Owned (holders i) (slots_after s steps i)
  holders-owned = holders-kept s steps places count in_steps found good Owned owned-given owned-freed (blank-owned largest_values)

  module _ (i : ℕ) (le : suc i ≤ count) where
    abbrev step : ℕ
    step = get_or steps i 0

    abbrev was : StackSlots
    was = slots_after s steps i

    -- A step that gives its value a slot leaves it held, by that value,
    pub holders-given : eqb (step % 2) 0 ≡ true → (slot : ℕ) → slot_given (step / 2) (size_at s steps i) was ≡ some slot
        → ((get_or (holders (suc i)) slot nobody).owner ≡ step / 2) × ((get_or (holders (suc i)) slot nobody).held ≡ true)
    holders-given even slot new =
        let size = size_at s steps i in
        let place : get_or places i 0 ≡ suc slot = place-given s steps places count in_steps found good i le even ∙ ap tag new in
        let h = taken_by (get_or (holders i) slot nobody) (step / 2) size in
        let has : (slots_after s steps (suc i)).slot_of (step / 2) ≡ some slot =
        ap (λ (p : StackSlots). p.slot_of (step / 2)) (slots-given s steps places count in_steps found good i le even)
        ∙ given-now (was.slot_of (step / 2)) ((give_slot (step / 2) size was).slot_of (step / 2)) slot new in
        let low = made-low (good (suc i) le) slot ((good (suc i) le).given (step / 2) slot has) in
        let e : get_or (holders (suc i)) slot nobody ≡ h =
        ap (λ k. get_or (changed (change_of step k size) (holders i)) slot nobody) place
        ∙ ap (λ (t : List Holder). get_or t slot nobody) (changed-even step slot size (holders i) even)
        ∙ get_or-set_same (holders i) slot h nobody (omega (arith, low, holders-long s steps places count in_steps found good i)) in
        (ap (λ (x : Holder). x.owner) e, ap (λ (x : Holder). x.held) e)

    -- and one that frees a slot leaves it held by nobody.
    pub holders-freed : eqb (step % 2) 0 ≡ false → (slot : ℕ) → was.slot_of (step / 2) ≡ some slot → (get_or (holders (suc i)) slot nobody).held ≡ false
    holders-freed odd slot has =
        let size = size_at s steps i in
        let place : get_or places i 0 ≡ suc slot = place-freed s steps places count in_steps found good i le odd ∙ ap tag has in
        let h = given_back (get_or (holders i) slot nobody) in
        let low = made-low (good i (omega (arith, le))) slot ((good i (omega (arith, le))).given (step / 2) slot has) in
        let e : get_or (holders (suc i)) slot nobody ≡ h =
        ap (λ k. get_or (changed (change_of step k size) (holders i)) slot nobody) place
        ∙ ap (λ (t : List Holder). get_or t slot nobody) (changed-odd step slot size (holders i) odd)
        ∙ get_or-set_same (holders i) slot h nobody (omega (arith, low, holders-long s steps places count in_steps found good i)) in
        ap (λ (x : Holder). x.held) e
