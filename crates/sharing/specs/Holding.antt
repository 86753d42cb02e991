-- Two values that hold slots at one time have different slots for good. A value holds its slot from the step that gives it
-- to the step that frees it. For this it is enough that no value is freed twice; it does not matter which values are asked for
-- when.
use Rattle.std.specs.Prelude.{ℕ, ◌+◌, ◌≤◌, ◌<◌, ◌≡◌, ◌⊎◌, ◌≢◌, eqb}
use Rattle.std.proofs.Common.{arith, ◌∙◌, length-append}
use Rattle.std.proofs.Math.Path.{refl, sym, ap, subst}
use Rattle.std.proofs.Math.Logic.{inl, inr, ⊎_elim}
use Rattle.std.proofs.Math.Option.{Option, none, some, some-injective, none-ne-some}
use mathlib.Core.List.Pairwise
use mathlib.Core.List.{List, [], ◌∷◌, ◌++◌, Nodup, Nodup-cons}
use Rattle.std.proofs.Math.ListN.{length}
use Rattle.rules.specs.Lists.{update, or_else}
use Rattle.rules.specs.Records.{bit}
use Rattle.rules.specs.Slots.{StackSlots, no_slots, slot_from, give_slot, free_slot}
use Rattle.lists.specs.Tests.{neqb→ne, eq→eqb, is_true}
use Rattle.lists.specs.Counts.{count-more}
use Rattle.lists.specs.Members.{◌∈◌, here, there, find, not-∈-nil, ∈-elim}
use Rattle.fixpoint.specs.Finding.{update-elim, update_here}
use Rattle.sharing.specs.SlotSteps.{SlotStep, gives, frees, free_own, taken, replayed, replayed-append, is_free_of, freed}

-- value u has slot s
abbrev pub HasSlot : StackSlots → ℕ → ℕ → Type 0
HasSlot p u s = p.slot_of u ≡ some s

-- What is kept of the slots. Open are the values that have not been freed: of those that have slots no two have the same,
-- and none has one that is free. Each free slot stands on one list, once.
pub record Holding (Open : ℕ → Type 0) (p : StackSlots) : Type 0 where
  pub held-apart : {u w s : ℕ} → Open u → Open w → HasSlot p u s → HasSlot p w s → u ≡ w
  pub held-made : {u s : ℕ} → Open u → HasSlot p u s → s < length p.made
  pub free-made : {c s : ℕ} → s ∈ p.free c → s < length p.made
  pub free-unheld : {c u s : ℕ} → Open u → HasSlot p u s → s ∈ p.free c → ⊥
  pub free-once : (c : ℕ) → Nodup (p.free c)
  pub free-of-one-size : {c d s : ℕ} → s ∈ p.free c → s ∈ p.free d → c ≡ d

-- fewer values are open
pub holding-fewer :
    {Open Open' : ℕ → Type 0} {p : StackSlots} → ((u : ℕ) → Open' u → Open u) → Holding Open p → Holding Open' p
holding-fewer less h =
    record {
      held-apart = λ {u} {w} a b. h.held-apart (less u a) (less w b);
      held-made = λ {u} a. h.held-made (less u a);
      free-made = h.free-made;
      free-unheld = λ {c} {u} a. h.free-unheld (less u a);
      free-once = h.free-once;
      free-of-one-size = h.free-of-one-size;
    }

-- at first there are no slots
pub no_slots-holding : {Open : ℕ → Type 0} → Holding Open no_slots
no_slots-holding =
    record {
      held-apart = λ a b e. absurd (none-ne-some _ e);
      held-made = λ a e. absurd (none-ne-some _ e);
      free-made = λ m. absurd (not-∈-nil m);
      free-unheld = λ a e. absurd (none-ne-some _ e);
      free-once = λ c. Pairwise.nil;
      free-of-one-size = λ m. absurd (not-∈-nil m);
    }

module _ {Open : ℕ → Type 0} {p : StackSlots} (h : Holding Open p) (v : ℕ) where
  -- A SLOT IS GIVEN to v, which no open value has,
  module _ (x : ℕ) (fresh : (u : ℕ) → Open u → HasSlot p u x → ⊥) where
    abbrev now : ℕ → Option ℕ
    now = update v (some x) p.slot_of

    -- a slot of then is that one or one of before
    now-has : {u s : ℕ} → now u ≡ some s → ((u ≡ v) × (x ≡ s)) ⊎ HasSlot p u s
    now-has {u} {s} =
        update-elim (λ o. o ≡ some s → ((u ≡ v) × (x ≡ s)) ⊎ HasSlot p u s) v (some x) p.slot_of u
        (λ e q. inl (e, some-injective x s q)) (λ _. inr)

    now_apart : {u w s : ℕ} → Open u → Open w → now u ≡ some s → now w ≡ some s → u ≡ w
    now_apart {u} {w} {s} a b q r =
        ⊎_elim
        (λ (e : (u ≡ v) × (x ≡ s)).
        ⊎_elim (λ (d : (w ≡ v) × (x ≡ s)). e.0 ∙ sym d.0) (λ k. absurd (fresh w b (k ∙ ap some (sym e.1)))) (now-has r))
        (λ j.
        ⊎_elim (λ (d : (w ≡ v) × (x ≡ s)). absurd (fresh u a (j ∙ ap some (sym d.1)))) (h.held-apart a b j) (now-has r))
        (now-has q)

  -- a new one;
  holding-new : (size : ℕ) → Holding Open (slot_from v size none [] p)
  holding-new size =
      record {
        held-apart = now_apart (length p.made) fresh;
        held-made =
            λ {u} {s} a q.
            ⊎_elim (λ (e : (u ≡ v) × (length p.made ≡ s)). omega (arith, longer, e.1))
            (λ k. omega (arith, longer, h.held-made a k)) (now-has (length p.made) fresh q);
        free-made = λ m. omega (arith, longer, h.free-made m);
        free-unheld =
            λ {c} {u} {s} a q m.
            ⊎_elim (λ (e : (u ≡ v) × (length p.made ≡ s)). omega (arith, e.1, h.free-made m))
            (λ k. h.free-unheld a k m) (now-has (length p.made) fresh q);
        free-once = h.free-once;
        free-of-one-size = h.free-of-one-size;
      }
    where
      fresh : (u : ℕ) → Open u → HasSlot p u (length p.made) → ⊥
      fresh u a q = omega (arith, h.held-made a q)

      longer : length (p.made ++ (size ∷ [])) ≡ length p.made + 1
      longer = length-append p.made (size ∷ [])

  -- or the one last freed.
  holding-reused :
      (size x : ℕ) (rest : List ℕ) → p.free size ≡ x ∷ rest → Holding Open (slot_from v size none (x ∷ rest) p)
  holding-reused size x rest top =
      record {
        held-apart = now_apart x fresh;
        held-made =
            λ {u} {s} a q.
            ⊎_elim (λ (e : (u ≡ v) × (x ≡ s)). subst (λ t. t < length p.made) e.1 (h.free-made first))
            (h.held-made a) (now-has x fresh q);
        free-made = λ {c} m. h.free-made (was c m);
        free-unheld =
            λ {c} {u} {s} a q m.
            ⊎_elim (λ (e : (u ≡ v) × (x ≡ s)). gone c (subst (λ t. t ∈ less c) (sym e.1) m)) (λ k. h.free-unheld a k (was c m))
            (now-has x fresh q);
        free-once =
            λ c. update-elim (λ l. Nodup l) size rest p.free c (λ _. (Nodup-cons.0 once).1) (λ _. h.free-once c);
        free-of-one-size = λ {c} {d} m k. h.free-of-one-size (was c m) (was d k);
      }
    where
      less : ℕ → List ℕ
      less = update size rest p.free

      first : x ∈ p.free size
      first = subst (λ l. x ∈ l) (sym top) (here refl)

      once : Nodup (x ∷ rest)
      once = subst Nodup top (h.free-once size)

      fresh : (u : ℕ) → Open u → HasSlot p u x → ⊥
      fresh u a q = h.free-unheld a q first

      was : (c : ℕ) {s : ℕ} → s ∈ less c → s ∈ p.free c
      was c {s} =
          update-elim (λ l. s ∈ l → s ∈ p.free c) size rest p.free c
          (λ e m. subst (λ k. s ∈ p.free k) (sym e) (subst (λ l. s ∈ l) (sym top) (there m))) (λ _ m. m)

      gone : (c : ℕ) → x ∈ less c → ⊥
      gone c =
          update-elim (λ l. x ∈ l → ⊥) size rest p.free c (λ _ m. (Nodup-cons.0 once).0 ∣ m ∣₁)
          (λ n m. neqb→ne c size n (h.free-of-one-size m first))

  pub give-holding : (size : ℕ) → Holding Open (give_slot v size p)
  unfolding give_slot
  give-holding size = go (p.slot_of v) (p.free size) refl
    where
      go : (o : Option ℕ) (l : List ℕ) → p.free size ≡ l → Holding Open (slot_from v size o l p)
      go (some s) l e = h
      go none [] e = holding-new size
      go none (x ∷ rest) e = holding-reused size x rest e

  -- ITS SLOT IS FREED, and v is no longer open.
  abbrev But : ℕ → Type 0
  But u = Open u × (u ≢ v)

  holding-freed : (size s : ℕ) → Open v → HasSlot p v s → Holding But (free_slot s size p)
  unfolding free_slot
  holding-freed size s unfreed has =
      record {
        held-apart = λ a b. h.held-apart a.0 b.0;
        held-made = λ a. h.held-made a.0;
        free-made =
            λ {c} {s = t} m.
            ⊎_elim (λ (e : (c ≡ size) × (t ≡ s)). subst (λ k. k < length p.made) (sym e.1) (h.held-made unfreed has))
            (λ k. h.free-made k) (cases c m);
        free-unheld =
            λ {c} {u} {s = t} a q m.
            ⊎_elim (λ (e : (c ≡ size) × (t ≡ s)). a.1 (h.held-apart a.0 unfreed q (has ∙ ap some (sym e.1))))
            (h.free-unheld a.0 q) (cases c m);
        free-once =
            λ c.
            update-elim (λ l. Nodup l) size (s ∷ p.free size) p.free c
            (λ _. Nodup-cons.1 (λ m. h.free-unheld unfreed has (find m), h.free-once size)) (λ _. h.free-once c);
        free-of-one-size =
            λ {c} {d} {s = t} m k.
            ⊎_elim
            (λ (e : (c ≡ size) × (t ≡ s)).
            ⊎_elim (λ (g : (d ≡ size) × (t ≡ s)). e.0 ∙ sym g.0)
            (λ j. absurd (h.free-unheld unfreed (has ∙ ap some (sym e.1)) j)) (cases d k))
            (λ i.
            ⊎_elim (λ (g : (d ≡ size) × (t ≡ s)). absurd (h.free-unheld unfreed (has ∙ ap some (sym g.1)) i))
            (h.free-of-one-size i) (cases d k))
            (cases c m);
      }
    where
      cases : (c : ℕ) {t : ℕ} → t ∈ update size (s ∷ p.free size) p.free c → ((c ≡ size) × (t ≡ s)) ⊎ (t ∈ p.free c)
      cases c {t} =
          update-elim (λ l. t ∈ l → ((c ≡ size) × (t ≡ s)) ⊎ (t ∈ p.free c)) size (s ∷ p.free size) p.free c
          (λ e. ∈-elim (λ q. inl (e, q)) (λ m. inr (subst (λ k. t ∈ p.free k) (sym e) m))) (λ _. inr)

  pub free-holding : (size : ℕ) → Open v → Holding But (free_own size (p.slot_of v) p)
  free-holding size unfreed = go (p.slot_of v) refl
    where
      go : (o : Option ℕ) → p.slot_of v ≡ o → Holding But (free_own size o p)
      go none e = holding-fewer (λ u a. a.0) h
      go (some s) e = holding-freed size s unfreed e

module _ (size : ℕ → ℕ) where
  -- A SLOT IS KEPT: a value's slot does not change once it has one,
  taken-keeps : (t : SlotStep) (p : StackSlots) {u s : ℕ} → HasSlot p u s → HasSlot (taken size t p) u s
  unfolding give_slot free_slot
  taken-keeps (gives v) p {u} {s} has = go (p.slot_of v) (p.free (size v)) refl
    where
      kept : (x : ℕ) → p.slot_of v ≡ none → update v (some x) p.slot_of u ≡ some s
      kept x none_yet =
          update-elim (λ o. o ≡ some s) v (some x) p.slot_of u
          (λ e. absurd (none-ne-some s (sym none_yet ∙ ap p.slot_of (sym e) ∙ has))) (λ _. has)

      go : (o : Option ℕ) (l : List ℕ) → p.slot_of v ≡ o → HasSlot (slot_from v (size v) o l p) u s
      go (some _) l e = has
      go none [] e = kept (length p.made) e
      go none (x ∷ rest) e = kept x e
  taken-keeps (frees v) p {u} {s} has = go (p.slot_of v)
    where
      go : (o : Option ℕ) → HasSlot (free_own (size v) o p) u s
      go none = has
      go (some _) = has

  pub replayed-keeps : (ss : List SlotStep) (p : StackSlots) {u s : ℕ} → HasSlot p u s → HasSlot (replayed size ss p) u s
  replayed-keeps [] p has = has
  replayed-keeps (t ∷ ss) p has = replayed-keeps ss (taken size t p) (taken-keeps t p has)

  -- and it has one behind the step that gives it.
  give-has : (u : ℕ) (p : StackSlots) → (s : ℕ) × HasSlot (give_slot u (size u) p) u s
  unfolding give_slot
  give-has u p = go (p.slot_of u) (p.free (size u)) refl
    where
      go : (o : Option ℕ) (l : List ℕ) → p.slot_of u ≡ o → (s : ℕ) × HasSlot (slot_from u (size u) o l p) u s
      go (some s) l e = (s, e)
      go none [] e = (length p.made, update_here u (some (length p.made)) p.slot_of)
      go none (x ∷ rest) e = (x, update_here u (some x) p.slot_of)

  has-behind : (u : ℕ) {ss : List SlotStep} (p : StackSlots) → gives u ∈ ss → (s : ℕ) × HasSlot (replayed size ss p) u s
  has-behind u p (here {x = t} {xs = ss} e) =
      let given = give-has u p in
      subst (λ x. (s : ℕ) × HasSlot (replayed size ss (taken size x p)) u s) e
      (given.0, replayed-keeps ss (give_slot u (size u) p) given.1)
  has-behind u p (there {x = t} m) = has-behind u (taken size t p) m

  pub replayed-has : {ss : List SlotStep} {u : ℕ} (p : StackSlots) → gives u ∈ ss → (s : ℕ) × HasSlot (replayed size ss p) u s
  replayed-has {u = u} p m = has-behind u p m

  -- Slots stay apart, as long as only open values are freed, each at most once.
  pub replayed-holding :
      {Open : ℕ → Type 0} (ss : List SlotStep) {p : StackSlots} → ((v : ℕ) → freed v ss ≤ 1)
      → ((v : ℕ) → 1 ≤ freed v ss → Open v) → Holding Open p
      → Holding (λ u. Open u × (freed u ss ≡ 0)) (replayed size ss p)
  replayed-holding [] once opened h = holding-fewer (λ u a. a.0) h
  replayed-holding (gives v ∷ ss) once opened h = replayed-holding ss once opened (give-holding h v (size v))
  replayed-holding {Open} (frees v ∷ ss) once opened h =
      let more : (u : ℕ) → freed u (frees v ∷ ss) ≡ bit (eqb u v) + freed u ss =
      λ u. count-more (is_free_of u) (frees v) ss in
      let itself : (u : ℕ) → u ≡ v → bit (eqb u v) ≡ 1 = λ u e. ap bit (is_true (eqb u v) (eq→eqb e)) in
      holding-fewer (λ u a. ((a.0, λ e. omega (arith, a.1, more u, itself u e)), omega (arith, a.1, more u)))
      (replayed-holding {Open = λ u. Open u × (u ≢ v)} ss (λ u. omega (arith, once u, more u))
      (λ u l. (opened u (omega (arith, l, more u)), λ e. omega (arith, l, once u, more u, itself u e)))
      (free-holding h v (size v) (opened v (omega (arith, more v, itself v refl)))))

  -- THE LAW. If at one time both have been given slots, neither has been freed, and no value has been freed twice, then
  -- their slots are different, however planning goes on.
  pub held-slots-differ :
      (ss rest : List SlotStep) → ((v : ℕ) → freed v ss ≤ 1) → {u v : ℕ} → u ≢ v → gives u ∈ ss → gives v ∈ ss
      → freed u ss ≡ 0 → freed v ss ≡ 0
      → or_else 0 ((replayed size (ss ++ rest) no_slots).slot_of u) ≢ or_else 0 ((replayed size (ss ++ rest) no_slots).slot_of v)
  held-slots-differ ss rest once {u} {v} other given-u given-v unfreed-u unfreed-v same =
      let has-u = replayed-has no_slots given-u in
      let has-v = replayed-has no_slots given-v in
      let held : Holding (λ w. Unit {0} × (freed w ss ≡ 0)) (replayed size ss no_slots) =
      replayed-holding {Open = λ _. Unit} ss once (λ w l. tt) no_slots-holding in
      let in-the-end : (w s : ℕ) → HasSlot (replayed size ss no_slots) w s
      → or_else 0 ((replayed size (ss ++ rest) no_slots).slot_of w) ≡ s =
      λ w s has.
      ap (λ (p : StackSlots). or_else 0 (p.slot_of w)) (replayed-append size ss rest no_slots)
      ∙ ap (or_else 0) (replayed-keeps rest (replayed size ss no_slots) has) in
      let equal : has-u.0 ≡ has-v.0 =
      sym (in-the-end u has-u.0 has-u.1) ∙ same ∙ in-the-end v has-v.0 has-v.1 in
      other (held.held-apart (tt, unfreed-u) (tt, unfreed-v) has-u.1 (has-v.1 ∙ ap some (sym equal)))
