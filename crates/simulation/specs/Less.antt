-- A ghost that knows less: where another knows something, it knows the same or nothing. Every step keeps the order, so
-- what is surely known at a block's entry may be written down once for all paths that lead there.
use Rattle.std.specs.Prelude.{ℕ, ◌≡◌, refl, ◌⊎◌, Bool, true, false, ◌&&◌, cond, List, [], ◌∷◌, map, T, eqb}
use Rattle.std.proofs.Common.{sym, ap, subst, ◌∙◌, inl, inr, eqb→eq}
use Rattle.rules.specs.Lists.{has, NumberSet}
use Rattle.rules.specs.Tree.{Instruction, Item, instruction, slot_address, store, load, jump}
use Rattle.rules.specs.declared.EdgeArgument.{EdgeArgument}
use Rattle.rules.specs.declared.EdgeArgument.TheVariants as passes
use Rattle.lists.specs.Tests.{T_and}
use Rattle.simulation.specs.Ghost.{Meaning, unknown, address, word, returned, exception, Ghost, setting}
use Rattle.simulation.specs.Ghost.{loaded_through, stored_through, past, still_after, defining, over_move, stepping}
use Rattle.simulation.specs.Ghost.{passing, jumping, binding}
use Rattle.simulation.specs.Related.{IsWord, IsAddress}

abbrev pub Less : Meaning → Meaning → Type 0
Less m n = (m ≡ unknown) ⊎ (m ≡ n)

pub record Below (κ γ : Ghost) : Type 0 where
  pub words : (x : ℕ) → Less (κ.words x) (γ.words x)
  pub slots : (s : ℕ) → Less (κ.slots s) (γ.slots s)

-- what is known is known alike above
abbrev pub is_known : Meaning → Bool
is_known unknown = false
is_known (address _) = true
is_known (word _) = true
is_known (returned _) = true
is_known (exception _) = true

pub less-known : {m n : Meaning} (k : Meaning) → Less m n → m ≡ k → T (is_known k) → n ≡ k
less-known k (inl u) e t = absurd (subst (λ x. T (is_known x)) (sym e ∙ u) t)
less-known k (inr s) e t = sym s ∙ e

-- TESTS of meanings
abbrev pub is_word : Meaning → Bool
is_word unknown = false
is_word (address _) = false
is_word (word _) = true
is_word (returned _) = false
is_word (exception _) = false

abbrev pub is_address : Meaning → Bool
is_address unknown = false
is_address (address _) = true
is_address (word _) = false
is_address (returned _) = false
is_address (exception _) = false

a_word : (m : Meaning) → T (is_word m) → IsWord m
a_word unknown t = absurd t
a_word (address _) t = absurd t
a_word (word v) t = (v, refl)
a_word (returned _) t = absurd t
a_word (exception _) t = absurd t

an-address : (m : Meaning) → T (is_address m) → IsAddress m
an-address unknown t = absurd t
an-address (address s) t = (s, refl)
an-address (word _) t = absurd t
an-address (returned _) t = absurd t
an-address (exception _) t = absurd t

pub less-word : (m n : Meaning) → Less m n → T (is_word m) → IsWord n
less-word m n l t = let w = a_word m t in (w.0, less-known (word w.0) l w.1 tt)

pub less-address : (m n : Meaning) → Less m n → T (is_address m) → IsAddress n
less-address m n l t = let w = an-address m t in (w.0, less-known (address w.0) l w.1 tt)

-- meanings are equal where their kinds and numbers are
abbrev kind : Meaning → ℕ
kind unknown = 0
kind (address _) = 1
kind (word _) = 2
kind (returned _) = 3
kind (exception _) = 4

abbrev number : Meaning → ℕ
number unknown = 0
number (address s) = s
number (word v) = v
number (returned k) = k
number (exception k) = k

abbrev of_kind : ℕ → ℕ → Meaning
of_kind k n = cond (eqb k 1) (address n) (cond (eqb k 2) (word n) (cond (eqb k 3) (returned n) (cond (eqb k 4) (exception n) unknown)))

of-kind : (m : Meaning) → of_kind (kind m) (number m) ≡ m
of-kind unknown = refl
of-kind (address s) = refl
of-kind (word v) = refl
of-kind (returned k) = refl
of-kind (exception k) = refl

abbrev pub alike : Meaning → Meaning → Bool
alike m n = eqb (kind m) (kind n) && eqb (number m) (number n)

pub alike_same : (m n : Meaning) → T (alike m n) → m ≡ n
alike_same m n t =
    let both = T_and (eqb (kind m) (kind n)) (eqb (number m) (number n)) t in
    sym (of-kind m)
    ∙ ap (λ k. of_kind k (number m)) (eqb→eq (kind m) (kind n) both.0)
    ∙ ap (of_kind (kind n)) (eqb→eq (number m) (number n) both.1)
    ∙ of-kind n

-- EVERY STEP KEEPS THE ORDER
less-ap : (h : Meaning → Meaning) → h unknown ≡ unknown → {m n : Meaning} → Less m n → Less (h m) (h n)
less-ap h e (inl u) = inl (ap h u ∙ e)
less-ap h e (inr s) = inr (ap h s)

less-cond : (b : Bool) {m n m' n' : Meaning} → Less m n → Less m' n' → Less (cond b m m') (cond b n n')
less-cond true l k = l
less-cond false l k = k

below-setting : (x : ℕ) {m n : Meaning} {κ γ : Ghost} → Less m n → Below κ γ → Below (setting x m κ) (setting x n γ)
below-setting x l b = record { words = λ y. less-cond (eqb y x) l (b.words y); slots = b.slots }

pub less-loaded : (m n : Meaning) (s t : ℕ → Meaning) → Less m n → ((k : ℕ) → Less (s k) (t k))
    → Less (loaded_through m s) (loaded_through n t)
less-loaded m n s t (inl u) l = inl (ap (λ k. loaded_through k s) u)
less-loaded m n s t (inr e) l = subst (λ k. Less (loaded_through m s) (loaded_through k t)) e (go m)
  where
    go : (k : Meaning) → Less (loaded_through k s) (loaded_through k t)
    go unknown = inr refl
    go (address a) = l a
    go (word _) = inr refl
    go (returned _) = inr refl
    go (exception _) = inr refl

less-stored : (m n : Meaning) (v w : Meaning) (s t : ℕ → Meaning) → Less m n → Less v w → ((k : ℕ) → Less (s k) (t k))
    → (k : ℕ) → Less (stored_through m v s k) (stored_through n w t k)
less-stored m n v w s t (inl u) d l k = inl (ap (λ a. stored_through a v s k) u)
less-stored m n v w s t (inr e) d l k = subst (λ a. Less (stored_through m v s k) (stored_through a w t k)) e (go m)
  where
    go : (a : Meaning) → Less (stored_through a v s k) (stored_through a w t k)
    go unknown = inr refl
    go (address a) = less-cond (eqb k a) d (l k)
    go (word _) = inr refl
    go (returned _) = inr refl
    go (exception _) = inr refl

pub below-past : (x : Item) {κ γ : Ghost} → Below κ γ → Below (past x κ) (past x γ)
below-past (instruction _) b = b
below-past (slot_address r slot) b = below-setting r (inr refl) b
below-past (store x a) {κ} {γ} b =
    record {
      words = b.words;
      slots = less-stored (κ.words a) (γ.words a) (κ.words x) (γ.words x) κ.slots γ.slots (b.words a) (b.words x) b.slots;
    }
below-past (load r a _) {κ} {γ} b = below-setting r (less-loaded (κ.words a) (γ.words a) κ.slots γ.slots (b.words a) b.slots) b
below-past (jump _) b = b

pub below-defining : (vs : List ℕ) {κ γ : Ghost} → Below κ γ → Below (defining vs κ) (defining vs γ)
below-defining vs b =
    record {
      words = λ x. less-cond (has x vs) (inr refl) (less-ap (still_after vs) refl (b.words x));
      slots = λ s. less-ap (still_after vs) refl (b.slots s);
    }

pub below-stepping : (marked : NumberSet) (j : Instruction) {κ γ : Ghost} → Below κ γ → Below (stepping marked j κ) (stepping marked j γ)
below-stepping marked j {κ} {γ} b = below-defining j.results (go j.safepoint)
  where
    over : Ghost → Ghost
    over δ =
        record {
          words = λ x. over_move marked false (δ.words x);
          slots = λ s. over_move marked (has s (map (λ e. e.slot) j.entries)) (δ.slots s);
        }

    go : (c : Bool) → Below (elim c [ true ↦ over κ | false ↦ κ ]) (elim c [ true ↦ over γ | false ↦ γ ])
    go true =
        record {
          words = λ x. less-ap (over_move marked false) refl (b.words x);
          slots = λ s. less-ap (over_move marked (has s (map (λ e. e.slot) j.entries))) refl (b.slots s);
        }
    go false = b

-- an edge argument's meaning
pub less-passing : {κ γ : Ghost} → Below κ γ → (x : EdgeArgument) → Less (passing κ x) (passing γ x)
less-passing b (passes.Value x) = b.words x
less-passing b (passes.Returned _) = inr refl
less-passing b (passes.Exception _) = inr refl

pub less-jumping : {κ γ : Ghost} → Below κ γ → (x : EdgeArgument) → Less (jumping κ x) (jumping γ x)
less-jumping b (passes.Value x) = b.words x
less-jumping b (passes.Returned _) = inr refl
less-jumping b (passes.Exception _) = inr refl

pub below-binding : (ps : List ℕ) (xs : List EdgeArgument) (κ' γ' : Ghost) {κ γ : Ghost} → Below κ' γ' → Below κ γ
    → Below (binding ps (map (passing κ') xs) κ) (binding ps (map (passing γ') xs) γ)
below-binding [] xs κ' γ' k b = b
below-binding (p ∷ ps) [] κ' γ' k b = below-binding ps [] κ' γ' k (below-setting p (inr refl) b)
below-binding (p ∷ ps) (x ∷ xs) κ' γ' k b = below-binding ps xs κ' γ' k (below-setting p (less-passing k x) b)
