-- What a ghost knows behind stores, over a move, and where values get new words.
use Rattle.std.specs.Prelude.{ℕ, ◌<◌, ◌≡◌, refl, ◌≢◌, Bool, true, false, not, cond, List, [], ◌∷◌, map, length, T, eqb}
use Rattle.std.proofs.Common.{arith, sym, ap, ap₂, subst, ◌∙◌, T_not, eqb→eq}
use Rattle.std.proofs.Math.Option.{none, some}
use Rattle.std.proofs.Math.Dec.{not_T}
use Rattle.rules.specs.Lists.{has, update, concat_zip, NumberSet}
use Rattle.rules.specs.Tree.{MapEntry, Instruction, Item, slot_address, store, Function}
use Rattle.rules.specs.Liveness.{is_spilled}
use Rattle.rules.specs.Plan.{Made}
use Rattle.rules.specs.Rewriting.{store_items}
use Rattle.lists.specs.Tests.{test-elim, if-elim, left_out, neqb→ne, or_elim}
use Rattle.lists.specs.Members.{◌∈◌, here, there}
use Rattle.fixpoint.specs.Finding.{update_here, update-there}
use Rattle.simulation.specs.Ghost.{Meaning, unknown, address, word, Ghost, stored_through, past, still_after, defining}
use Rattle.simulation.specs.Ghost.{same, over_move, moving}
use Rattle.simulation.specs.Related.{Each}
use Rattle.agreement.specs.Entries.{past_all, ReadsAll}
use Rattle.agreement.specs.Plans.{New, Defined}
use Rattle.agreement.specs.Keeping.{ne→neqb, setting-here, setting-there}

-- NEW WORDS
chosen-word : {A : Type 0} (c : Bool) (x y : A) → T c → cond c x y ≡ x
chosen-word true x y t = refl
chosen-word false x y t = absurd t

other_word : {A : Type 0} (c : Bool) (x y : A) → T (not c) → cond c x y ≡ y
other_word true x y t = absurd t
other_word false x y t = refl

-- the word of a value that is not among those that get new ones
still-word : (vs : List ℕ) (v : ℕ) → T (not (has v vs)) → still_after vs (word v) ≡ word v
still-word vs v h = other_word (has v vs) unknown (word v) h

module _ (vs : List ℕ) (γ : Ghost) where
  -- a value that gets a new word has it
  pub defining-new : (x : ℕ) → T (has x vs) → (defining vs γ).words x ≡ word x
  defining-new x h = chosen-word (has x vs) (word x) (still_after vs (γ.words x)) h

  -- and what is known of others stays known of words and slots
  pub defining-word : (x v : ℕ) → γ.words x ≡ word v → T (not (has x vs)) → T (not (has v vs)) → (defining vs γ).words x ≡ word v
  defining-word x v e h k =
      other_word (has x vs) (word x) (still_after vs (γ.words x)) h ∙ ap (still_after vs) e ∙ still-word vs v k

  pub defining-slot : (s v : ℕ) → γ.slots s ≡ word v → T (not (has v vs)) → (defining vs γ).slots s ≡ word v
  defining-slot s v e k = ap (still_after vs) e ∙ still-word vs v k

  -- of a value itself either way
  pub defining-own : (v : ℕ) → (T (not (has v vs)) → γ.words v ≡ word v) → (defining vs γ).words v ≡ word v
  defining-own v e = test-elim (has v vs) (defining-new v) (λ h. defining-word v v (e h) h h)

-- MOVES
module _ (marked : NumberSet) (j : Instruction) (γ : Ghost) where
  -- what moves with its value, or stays with it, is known
  moved-with : (moves : Bool) (v : ℕ) → T (same (marked v) moves) → over_move marked moves (word v) ≡ word v
  moved-with moves v t = chosen-word (same (marked v) moves) (word v) unknown t

  unmarked-same : (m : Bool) → T (not m) → T (same m false)
  unmarked-same true t = absurd t
  unmarked-same false t = tt

  marked-same : (m c : Bool) → T m → T c → T (same m c)
  marked-same true c t h = h
  marked-same false c t h = absurd t

  -- an unmarked value's word stays known
  pub moving-unmarked : (x v : ℕ) → γ.words x ≡ word v → T (not (marked v)) → (moving marked j γ).words x ≡ word v
  moving-unmarked x v e h =
      if-elim (λ (δ : Ghost). δ.words x ≡ word v) j.safepoint _ γ
      (λ _. ap (over_move marked false) e ∙ moved-with false v (unmarked-same (marked v) h)) (λ _. e)

  -- nothing moves where no safepoint is
  pub moving-still : T (not j.safepoint) → moving marked j γ ≡ γ
  moving-still h = left_out j.safepoint _ γ h

  -- a slot that is listed moves with its value
  pub moving-slot : (s v : ℕ) → γ.slots s ≡ word v → T (marked v) → (T j.safepoint → T (has s (map (λ e. e.slot) j.entries)))
      → (moving marked j γ).slots s ≡ word v
  moving-slot s v e h listed =
      let moves = has s (map (λ (e : MapEntry). e.slot) j.entries) in
      if-elim (λ (δ : Ghost). δ.slots s ≡ word v) j.safepoint _ γ
      (λ t. ap (over_move marked moves) e ∙ moved-with moves v (marked-same (marked v) moves h (listed t))) (λ _. e)

-- STORES of definitions
module _ (f : Function) where
  -- a definition is stored where it is spilled
  abbrev pub Stored : ℕ → Made → Type 0
  Stored v none = T (not (is_spilled f v))
  Stored v (some _) = Unit

  module _ (size slot : ℕ → ℕ) (live : NumberSet) where
    -- each spilled value that is live is held by its slot, but for these
    abbrev pub HeldBut : List ℕ → Ghost → Type 0
    HeldBut vs γ = (u : ℕ) → T (live u) → T (is_spilled f u) → T (not (has u vs)) → γ.slots (slot u) ≡ word u

    -- a spilled value among these has a slot that no other spilled value which is live has
    abbrev pub OwnSlots : List ℕ → Type 0
    OwnSlots vs = (v : ℕ) → v ∈ vs → T (is_spilled f v) → (u : ℕ) → T (live u) → T (is_spilled f u) → u ≢ v → slot u ≢ slot v

    -- the items that store these
    abbrev stores : List ℕ → List Made → List Item
    stores vs ns = concat_zip (store_items size slot) vs ns

    -- what stores leave: they read what they may, no value of the file gets another word, and all is held
    abbrev pub LeftStored : List ℕ → List Made → Ghost → Type 0
    LeftStored vs ns γ =
        ReadsAll (stores vs ns) γ
        × ((x : ℕ) → x < length f.values → (past_all (stores vs ns) γ).words x ≡ γ.words x)
        × ((u : ℕ) → T (live u) → T (is_spilled f u) → (past_all (stores vs ns) γ).slots (slot u) ≡ word u)

    -- behind one of them
    abbrev stored_one : ℕ → ℕ → Ghost → Ghost
    stored_one v a γ = past (store v a) (past (slot_address a (slot v)) γ)

    store_words : (v a : ℕ) (γ : Ghost) → New f a → (x : ℕ) → x < length f.values → (stored_one v a γ).words x ≡ γ.words x
    store_words v a γ new x h = setting-there a (address (slot v)) γ x (λ e. absurd (omega (arith, e, h, new)))

    store-slots : (v a : ℕ) (γ : Ghost) → New f a → v < length f.values → γ.words v ≡ word v
        → (stored_one v a γ).slots ≡ update (slot v) (word v) γ.slots
    store-slots v a γ new h e =
        ap₂ (λ m w. stored_through m w γ.slots) (setting-here a (address (slot v)) γ) (store_words v a γ new v h ∙ e)

    -- a value that is none of the later ones is the first, or none of all
    but_first : (v : ℕ) (vs : List ℕ) (u : ℕ) → T (not (has u vs)) → T (not (eqb u v)) → T (not (has u (v ∷ vs)))
    but_first v vs u h k = not_T (has u (v ∷ vs)) (λ t. or_elim (eqb u v) (has u vs) (T_not (eqb u v) k) (T_not (has u vs) h) t)

    -- Stores of definitions that have their words leave all held, if no store takes the slot of a value that is live.
    pub stores-left : (limit : ℕ) (vs : List ℕ) (ns : List Made) (γ : Ghost) → Each (Defined f limit) vs ns → Each Stored vs ns
        → ((v : ℕ) → v ∈ vs → (v < length f.values) × (γ.words v ≡ word v)) → OwnSlots vs → HeldBut vs γ → LeftStored vs ns γ
    stores-left limit [] ns γ d s known own held = (tt, λ x h. refl, λ u l t. held u l t tt)
    stores-left limit (v ∷ vs) [] γ d s known own held = absurd d
    stores-left limit (v ∷ vs) (none ∷ ns) γ d s known own held =
        stores-left limit vs ns γ d.1 s.1 (λ w m. known w (there m)) (λ w m. own w (there m))
        (λ u l t n.
        held u l t (but_first v vs u n (not_T (eqb u v) (λ e. T_not (is_spilled f v) s.0 (subst (λ w. T (is_spilled f w)) (eqb→eq u v e) t)))))
    stores-left limit (v ∷ vs) (some a ∷ ns) γ d s known own held =
        let first = known v (here refl) in
        let new = d.0.1 in
        let slots = store-slots v a γ new first.0 first.1 in
        let γ' = stored_one v a γ in
        let held' : HeldBut vs γ' =
        λ u l t n.
        test-elim (eqb u v)
        (λ e.
        subst (λ w. γ'.slots (slot w) ≡ word w) (sym (eqb→eq u v e)) (ap (λ (h : ℕ → Meaning). h (slot v)) slots ∙ update_here (slot v) (word v) γ.slots))
        (λ e.
        ap (λ (h : ℕ → Meaning). h (slot u)) slots
        ∙ update-there (slot v) (word v) γ.slots (slot u) (ne→neqb (own v (here refl) d.0.0 u l t (neqb→ne u v e)))
        ∙ held u l t (but_first v vs u n e)) in
        let rest =
        stores-left limit vs ns γ' d.1 s.1
        (λ w m. let k = known w (there m) in (k.0, store_words v a γ new w k.0 ∙ k.1)) (λ w m. own w (there m)) held' in (
          (tt, tt, (tt, ((v, store_words v a γ new v first.0 ∙ first.1), (slot v, setting-here a (address (slot v)) γ)), rest.0)),
          λ x h. rest.1 x h ∙ store_words v a γ new x h,
          rest.2,
        )
