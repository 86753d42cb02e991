-- The slots of a plan: their sizes are ones that a slot can have, every value's slot is made, and there are no more slots than
-- values.
use Rattle.std.specs.Prelude.{ℕ, suc, ◌+◌, ◌≤◌, ◌<◌, ◌≡◌, not, T}
use Rattle.std.proofs.Common.{arith, sym, ⊎_elim, length-append}
use Rattle.std.proofs.Math.Path.{refl, subst}
use Rattle.std.proofs.Math.Option.{Option, none, some, some-injective, none-ne-some}
use mathlib.Core.List.Memᴰ
use mathlib.Core.List.{List, [], ◌∷◌, ◌++◌}
use Rattle.std.proofs.Math.ListN.{length}
use Rattle.rules.specs.Lists.{has, is_none, update, NumberSet}
use Rattle.rules.specs.Tree.{Value, Function}
use Rattle.rules.specs.Records.{slot_sizes}
use Rattle.rules.specs.Graph.{block_at, size_of}
use Rattle.rules.specs.Liveness.{is_spilled}
use Rattle.rules.specs.Slots.{StackSlots, no_slots, slot_from, give_slot, free_slot}
use Rattle.rules.specs.Plan.{Plan}
use Rattle.lists.specs.Lack.{lack, one, lack-drop, lack-one-le}
use Rattle.lists.specs.Members.{◌∈◌, here, there, not-∈-nil, ∈-elim}
use Rattle.fixpoint.specs.Finding.{update-elim, update_here}
use Rattle.agreement.specs.Growing.{StepsKeep}

-- a size that a value can have
abbrev pub ValueSize : ℕ → Type 0
ValueSize size = (1 ≤ size) × (size ≤ 64)

module _ (count : ℕ) where
  -- the values that have a slot
  abbrev slotted : StackSlots → NumberSet
  slotted t v = not (is_none (t.slot_of v))

  -- slots as planning makes them
  pub record SlotsGood (t : StackSlots) : Type 0 where
    -- sizes are a slot's
    pub sizes : (k : ℕ) → k ∈ t.made → T (has k slot_sizes)
    -- a value's slot is made, and so is a free one
    pub given : (v s : ℕ) → t.slot_of v ≡ some s → s < length t.made
    pub freed : (size s : ℕ) → s ∈ t.free size → s < length t.made
    -- each slot was made for a value that had none
    pub few : length t.made + lack one count (slotted t) ≤ count

  -- before any is made
  pub none-good : SlotsGood no_slots
  none-good =
      record {
        sizes = λ k m. absurd (not-∈-nil m);
        given = λ v s e. absurd (none-ne-some s e);
        freed = λ size s m. absurd (not-∈-nil m);
        few = omega (arith, lack-one-le count (slotted no_slots));
      }

  -- a value that gets a slot is slotted, and so is what was
  slotted-more : (v s : ℕ) (t : StackSlots) → t.slot_of v ≡ none → v < count
      → lack one count (λ u. not (is_none (update v (some s) t.slot_of u))) + 1 ≤ lack one count (slotted t)
  slotted-more v s t e l =
      lack-drop one count (slotted t) (λ u. not (is_none (update v (some s) t.slot_of u))) v
      (λ u h. update-elim (λ (o : Option ℕ). T (not (is_none o))) v (some s) t.slot_of u (λ _. tt) (λ _. h)) l
      (subst (λ (o : Option ℕ). T (not (not (is_none o)))) (sym e) tt)
      (subst (λ (o : Option ℕ). T (not (is_none o))) (sym (update_here v (some s) t.slot_of)) tt)

  -- a changed table's slots are the new one and old ones
  given-update : (v s : ℕ) (t : StackSlots) (limit : ℕ) → s < limit → ((u r : ℕ) → t.slot_of u ≡ some r → r < limit)
      → (u r : ℕ) → update v (some s) t.slot_of u ≡ some r → r < limit
  given-update v s t limit l old u r =
      update-elim (λ (o : Option ℕ). o ≡ some r → r < limit) v (some s) t.slot_of u
      (λ _ e. subst (λ x. x < limit) (some-injective s r e) l) (λ _ e. old u r e)

  -- a value that gets a slot leaves them so
  slot-from-good : (v size : ℕ) (t : StackSlots) → T (has size slot_sizes) → v < count → SlotsGood t
      → (o : Option ℕ) → t.slot_of v ≡ o → (rest : List ℕ) → t.free size ≡ rest → SlotsGood (slot_from v size o rest t)
  slot-from-good v size t fits l good (some s) e rest d = good
  slot-from-good v size t fits l good none e (s ∷ rest) d =
      let made = good.freed size s (subst (◌∈◌ s) (sym d) (here refl)) in
      record {
        sizes = good.sizes;
        given = given-update v s t (length t.made) made good.given;
        freed = λ k r.
            update-elim (λ (fs : List ℕ). r ∈ fs → r < length t.made) size rest t.free k
            (λ _ m. good.freed size r (subst (◌∈◌ r) (sym d) (there m))) (λ _ m. good.freed k r m);
        few = omega (arith, good.few, slotted-more v s t e l);
      }
  slot-from-good v size t fits l good none e [] d =
      let long : length (t.made ++ (size ∷ [])) ≡ suc (length t.made) =
      let grown = length-append t.made (size ∷ []) in omega (arith, grown) in
      record {
        sizes = λ k m.
            ⊎_elim (good.sizes k) (λ n. subst (λ x. T (has x slot_sizes)) (sym (Memᴰ.eq_of_singleton n)) fits)
            (Memᴰ.append_cases t.made m);
        given = given-update v (length t.made) t (length (t.made ++ (size ∷ []))) (omega (arith, long))
            (λ u r q. let old = good.given u r q in omega (arith, old, long));
        freed = λ k r m. let old = good.freed k r m in omega (arith, old, long);
        few = omega (arith, good.few, slotted-more v (length t.made) t e l, long);
      }

  -- giving one keeps it
  pub give-good : (v size : ℕ) (t : StackSlots) → T (has size slot_sizes) → v < count → SlotsGood t → SlotsGood (give_slot v size t)
  unfolding give_slot
  give-good v size t fits l good = slot-from-good v size t fits l good (t.slot_of v) refl (t.free size) refl

  -- and so does freeing one
  pub free-good : (v slot size : ℕ) (t : StackSlots) → t.slot_of v ≡ some slot → SlotsGood t → SlotsGood (free_slot slot size t)
  unfolding free_slot
  free-good v slot size t e good =
      record {
        sizes = good.sizes;
        given = good.given;
        freed = λ k r.
            update-elim (λ (fs : List ℕ). r ∈ fs → r < length t.made) size (slot ∷ t.free size) t.free k
            (λ _ m. ∈-elim (λ q. subst (λ x. x < length t.made) (sym q) (good.given v slot e)) (good.freed size r) m)
            (λ _ m. good.freed k r m);
        few = good.few;
      }

-- A PLAN is good: its values have sizes that values can have, and its slots are good.
pub record PlanGood (count : ℕ) (p : Plan) : Type 0 where
  pub values : (x : Value) → x ∈ p.values → ValueSize x.size
  pub slots : SlotsGood count p.slots

-- Every step of planning keeps it, where spilled values have a slot's size.
pub steps-keep-good : (f : Function) (pointer : ℕ) → ValueSize pointer
    → ((v : ℕ) → T (is_spilled f v) → T (has (size_of f v) slot_sizes) × (v < length f.values) × ValueSize (size_of f v))
    → ((b v : ℕ) → v ∈ (block_at f b).parameters → ValueSize (size_of f v))
    → StepsKeep f pointer ValueSize (λ v. T (has (size_of f v) slot_sizes) × (v < length f.values)) (PlanGood (length f.values))
steps-keep-good f pointer fine spilled parameters =
    record {
      value = λ size fits p good.
          record {
            values = λ x m.
                ⊎_elim (good.values x)
                (λ n. subst (λ (y : Value). ValueSize y.size) (sym (Memᴰ.eq_of_singleton n)) fits) (Memᴰ.append_cases p.values m);
            slots = good.slots;
          };
      block = λ p good. record { values = good.values; slots = good.slots };
      slot = λ v fits p good.
          record { values = good.values; slots = give-good (length f.values) v (size_of f v) p.slots fits.0 fits.1 good.slots };
      free = λ v slot p e good.
          record { values = good.values; slots = free-good (length f.values) v slot (size_of f v) p.slots e good.slots };
      pointer-fine = fine;
      spilled-fine = λ v t. (spilled v t).2;
      spilled-given = λ v t. ((spilled v t).0, (spilled v t).1);
      parameter-fine = parameters;
    }
