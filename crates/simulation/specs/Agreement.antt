-- Two machines agree through a ghost: each word and each slot of the rewritten run is what the ghost says. Every step of
-- the ghost keeps the agreement over the machines' step that it stands for. A word that is surely known is one that the
-- original has set: so it does not matter what words and slots hold at first.
use Rattle.std.specs.Prelude.{ℕ, suc, ◌≡◌, refl, ◌⊎◌, Bool, true, false, not, ◌&&◌, ◌||◌, cond, List, [], ◌∷◌, map, T, eqb}
use Rattle.std.proofs.Common.{sym, ap, ap₂, subst, ◌∙◌, inl, inr}
use Rattle.std.proofs.Math.Option.{Option}
use Rattle.rules.specs.Lists.{has, update, NumberSet}
use Rattle.rules.specs.Tree.{Item, instruction, slot_address, store, load, jump}
use Rattle.rules.specs.TwoRuns.{Machine, define_from, define, store_at, set_arrived}
use Rattle.lists.specs.Tests.{T-cond}
use Rattle.lists.specs.Sets.{insert-here, insert-there}
use Rattle.simulation.specs.Ghost.{Meaning, unknown, address, word, returned, exception}
use Rattle.simulation.specs.Ghost.{Ghost, nothing_known, setting, loaded_through, stored_through, past, still_after}
use Rattle.simulation.specs.Ghost.{defining, same, over_move}

-- the original's words and which of them are set, and those that its last instruction returned and threw
pub record Against : Type 0 where
  pub words : ℕ → ℕ
  pub defined : NumberSet
  pub returned : ℕ → ℕ
  pub exception : ℕ → ℕ

-- a word is what its meaning says
abbrev pub Means : Against → Meaning → ℕ → Type 0
Means o unknown w = Unit
Means o (address s) w = w ≡ s
Means o (word v) w = T (o.defined v) × (o.words v ≡ w)
Means o (returned k) w = o.returned k ≡ w
Means o (exception k) w = o.exception k ≡ w

pub record Agrees (o : Against) (γ : Ghost) (m : Machine) : Type 0 where
  pub words : (x : ℕ) → Means o (γ.words x) (m.words x)
  pub slots : (s : ℕ) → Means o (γ.slots s) (m.slots s)

-- a value gets a word
abbrev pub assigned : ℕ → ℕ → Machine → Machine
assigned x w m =
    record { words = update x w m.words; defined = update x true m.defined; slots = m.slots; arrived = m.arrived }

-- nothing is known at first
pub agrees-nothing : (o : Against) (m : Machine) → Agrees o nothing_known m
agrees-nothing o m = record { words = λ _. tt; slots = λ _. tt }

-- what arrived is of no account
pub arrived-agrees : {o : Against} {γ : Ghost} (m : Machine) (ws : Option (List ℕ)) → Agrees o γ m → Agrees o γ (set_arrived ws m)
arrived-agrees m ws a = record { words = a.words; slots = a.slots }

module _ (o : Against) where
  -- a choice between two meanings goes with the choice between two words
  cond-means : (b : Bool) (m n : Meaning) (w u : ℕ) → Means o m w → Means o n u → Means o (cond b m n) (cond b w u)
  cond-means true m n w u h k = h
  cond-means false m n w u h k = k

  -- a choice between two meanings of one word
  one-means : (b : Bool) (m n : Meaning) (w : ℕ) → (T b → Means o m w) → (T (not b) → Means o n w) → Means o (cond b m n) w
  one-means true m n w h k = h tt
  one-means false m n w h k = k tt

  -- ADDED ITEMS
  pub setting-agrees : (x : ℕ) (m : Meaning) (w : ℕ) {γ : Ghost} {mem : Machine}
      → Means o m w → Agrees o γ mem
      → Agrees o (setting x m γ) (assigned x w mem)
  setting-agrees x m w {γ} {mem} h a =
      record { words = λ y. cond-means (eqb y x) m (γ.words y) w (mem.words y) h (a.words y); slots = a.slots }

  loaded-means : (m : Meaning) (w : ℕ) (known : ℕ → Meaning) (slots : ℕ → ℕ)
      → Means o m w → ((s : ℕ) → Means o (known s) (slots s)) → Means o (loaded_through m known) (slots w)
  loaded-means unknown w known slots h k = tt
  loaded-means (address s) w known slots h k = subst (λ t. Means o (known s) (slots t)) (sym h) (k s)
  loaded-means (word _) w known slots h k = tt
  loaded-means (returned _) w known slots h k = tt
  loaded-means (exception _) w known slots h k = tt

  stored-means : (m n : Meaning) (w u : ℕ) (known : ℕ → Meaning) (slots : ℕ → ℕ)
      → Means o m w → Means o n u → ((s : ℕ) → Means o (known s) (slots s)) → (s : ℕ)
      → Means o (stored_through m n known s) (update w u slots s)
  stored-means unknown n w u known slots h k all s = tt
  stored-means (address t) n w u known slots h k all s =
      subst (λ r. Means o (update t n known s) (update r u slots s)) (sym h) (cond-means (eqb s t) n (known s) u (slots s) k (all s))
  stored-means (word _) n w u known slots h k all s = tt
  stored-means (returned _) n w u known slots h k all s = tt
  stored-means (exception _) n w u known slots h k all s = tt

-- the machine behind an added item
abbrev pub ran : Item → Machine → Machine
ran (instruction _) m = m
ran (slot_address r slot) m = define (r ∷ []) (λ _. slot) m
ran (store v a) m = store_at (m.words a) (m.words v) m
ran (load r a _) m = define (r ∷ []) (λ _. m.slots (m.words a)) m
ran (jump _) m = m

pub ran-arrived : (x : Item) (m : Machine) → (ran x m).arrived ≡ m.arrived
ran-arrived (instruction _) m = refl
ran-arrived (slot_address _ _) m = refl
ran-arrived (store _ _) m = refl
ran-arrived (load _ _ _) m = refl
ran-arrived (jump _) m = refl

pub added-agrees : (o : Against) (x : Item) {γ : Ghost} {m : Machine} → Agrees o γ m → Agrees o (past x γ) (ran x m)
added-agrees o (instruction _) a = a
added-agrees o (slot_address r slot) a = setting-agrees o r (address slot) slot refl a
added-agrees o (store x y) {γ} {m} a =
    record {
      words = a.words;
      slots = stored-means o (γ.words y) (γ.words x) (m.words y) (m.words x) γ.slots m.slots (a.words y) (a.words x) a.slots;
    }
added-agrees o (load r y _) {γ} {m} a =
    setting-agrees o r (loaded_through (γ.words y) γ.slots) (m.slots (m.words y))
    (loaded-means o (γ.words y) (m.words y) γ.slots m.slots (a.words y) a.slots) a
added-agrees o (jump _) a = a

-- A MOVE
module _ (marked : NumberSet) (move : ℕ → ℕ) where
  -- the original's words after a move of the marked values that are defined
  abbrev pub moved_against : Against → Against
  moved_against o =
      record {
        words = λ v. cond (marked v && o.defined v) (move (o.words v)) (o.words v);
        defined = o.defined;
        returned = o.returned;
        exception = o.exception;
      }

  both-move : (a d moves : Bool) {u w : ℕ}
      → T (same a moves) → T d → u ≡ w → cond (a && d) (move u) u ≡ cond moves (move w) w
  both-move true true true t h e = ap move e
  both-move true true false t h e = absurd t
  both-move true false moves t h e = absurd h
  both-move false d true t h e = absurd t
  both-move false d false t h e = e

  pub moved-means : (o : Against) (m : Meaning) (moves : Bool) (w : ℕ)
      → Means o m w → Means (moved_against o) (over_move marked moves m) (cond moves (move w) w)
  moved-means o unknown moves w h = tt
  moved-means o (address s) true w h = tt
  moved-means o (address s) false w h = h
  moved-means o (word v) moves w h =
      one-means (moved_against o) (same (marked v) moves) (word v) unknown (cond moves (move w) w)
      (λ t. (h.0, both-move (marked v) (o.defined v) moves t h.0 h.1)) (λ _. tt)
  moved-means o (returned _) moves w h = tt
  moved-means o (exception _) moves w h = tt

-- DEFINITIONS
-- what the original has: its words, and what its last instruction returned and threw
abbrev pub against : Machine → (ℕ → ℕ) → (ℕ → ℕ) → Against
against m r e = record { words = m.words; defined = m.defined; returned = r; exception = e }

not-or : (a b : Bool) → T (not (a || b)) → T (not a) × T (not b)
not-or true b h = absurd h
not-or false b h = (tt, h)

cond_no : {A : Type 0} (b : Bool) (x y : A) → T (not b) → cond b x y ≡ y
cond_no true x y h = absurd h
cond_no false x y h = refl

-- a value is set in the first machine, and has the same word in both
abbrev pub Same : Machine → Machine → ℕ → Type 0
Same m n x = T (m.defined x) × (m.words x ≡ n.words x)

module _ (given : ℕ → ℕ) where
  define-slots : (k : ℕ) (vs : List ℕ) (m : Machine) → (define_from k vs given m).slots ≡ m.slots
  define-slots k [] m = refl
  define-slots k (v ∷ vs) m = define-slots (suc k) vs (assigned v (given k) m)

  define-other : (k : ℕ) (vs : List ℕ) (m : Machine) (x : ℕ) → T (not (has x vs)) → (define_from k vs given m).words x ≡ m.words x
  define-other k [] m x h = refl
  define-other k (v ∷ vs) m x h =
      let parts = not-or (eqb x v) (has x vs) h in
      define-other (suc k) vs (assigned v (given k) m) x parts.1
      ∙ cond_no (eqb x v) (given k) (m.words x) parts.0

  -- what is set stays set
  define-keeps : (k : ℕ) (vs : List ℕ) (m : Machine) (x : ℕ) → T (m.defined x) → T ((define_from k vs given m).defined x)
  define-keeps k [] m x h = h
  define-keeps k (v ∷ vs) m x h =
      define-keeps (suc k) vs (assigned v (given k) m) x (T-cond (eqb x v) true (m.defined x) (λ _. tt) (λ _. h))

  -- a value that is defined has the same word in both runs
  define-same : (k : ℕ) (vs : List ℕ) (m n : Machine) (x : ℕ)
      → T (has x vs) ⊎ Same m n x → Same (define_from k vs given m) (define_from k vs given n) x
  define-same k [] m n x (inl h) = absurd h
  define-same k [] m n x (inr e) = e
  define-same k (v ∷ vs) m n x h = define-same (suc k) vs (assigned v (given k) m) (assigned v (given k) n) x (go (eqb x v) h)
    where
      go : (b : Bool) → T (b || has x vs) ⊎ Same m n x
          → T (has x vs) ⊎ (T (cond b true (m.defined x)) × (cond b (given k) (m.words x) ≡ cond b (given k) (n.words x)))
      go true h = inr (tt, refl)
      go false (inl t) = inl t
      go false (inr e) = inr e

  -- so what arrives at parameters is the same in both, be they distinct or not
  pub arrive_same : (vs : List ℕ) (m n : Machine) → map (define vs given m).words vs ≡ map (define vs given n).words vs
  arrive_same vs m n = go vs (λ x h. (define-same 0 vs m n x (inl h)).1)
    where
      go : (us : List ℕ) → ((x : ℕ) → T (has x us) → (define vs given m).words x ≡ (define vs given n).words x)
          → map (define vs given m).words us ≡ map (define vs given n).words us
      go [] h = refl
      go (u ∷ us) h =
          ap₂ (λ w ws. w ∷ ws) (h u (insert-here u (λ x. has x us) refl)) (go us (λ x t. h x (insert-there u (λ x. has x us) x t)))

  still-means : (k : ℕ) (vs : List ℕ) (mo : Machine) (r e r' e' : ℕ → ℕ) (m : Meaning) (w : ℕ)
      → Means (against mo r e) m w → Means (against (define_from k vs given mo) r' e') (still_after vs m) w
  still-means k vs mo r e r' e' unknown w h = tt
  still-means k vs mo r e r' e' (address s) w h = h
  still-means k vs mo r e r' e' (word v) w h =
      one-means (against (define_from k vs given mo) r' e') (has v vs) unknown (word v) w (λ _. tt)
      (λ t. (define-keeps k vs mo v h.0, define-other k vs mo v t ∙ h.1))
  still-means k vs mo r e r' e' (returned _) w h = tt
  still-means k vs mo r e r' e' (exception _) w h = tt

  pub defining-agrees : (k : ℕ) (vs : List ℕ) (mo m : Machine) (r e r' e' : ℕ → ℕ) (γ : Ghost)
      → Agrees (against mo r e) γ m → Agrees (against (define_from k vs given mo) r' e') (defining vs γ) (define_from k vs given m)
  defining-agrees k vs mo m r e r' e' γ a =
      record {
        words = λ x. one-means o' (has x vs) (word x) (still_after vs (γ.words x)) (after.words x)
            (λ t. define-same k vs mo m x (inl t))
            (λ t. subst (λ w. Means o' (still_after vs (γ.words x)) w) (sym (define-other k vs m x t))
            (still-means k vs mo r e r' e' (γ.words x) (m.words x) (a.words x)));
        slots = λ s. subst (λ (slots : ℕ → ℕ). Means o' (still_after vs (γ.slots s)) (slots s)) (sym (define-slots k vs m))
            (still-means k vs mo r e r' e' (γ.slots s) (m.slots s) (a.slots s));
      }
    where
      o' : Against
      o' = against (define_from k vs given mo) r' e'

      after : Machine
      after = define_from k vs given m
