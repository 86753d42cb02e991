-- What a ghost knows behind loads: each loaded value has its word, and nothing else has changed.
use Rattle.std.specs.Prelude.{ℕ, suc, ◌≤◌, ◌<◌, ◌≡◌, refl, ◌≢◌, not, List, [], ◌∷◌, T, eqb}
use Rattle.std.proofs.Common.{arith, sym, ap, subst, ◌∙◌, eqb→eq}
use Rattle.std.proofs.Math.Dec.{not_T}
use Rattle.rules.specs.Tree.{slot_address, load}
use Rattle.lists.specs.Members.{◌∈◌, here, there, not-∈-nil, ∈-elim}
use Rattle.fixpoint.specs.Finding.{update_here, update-there}
use Rattle.simulation.specs.Ghost.{Meaning, address, word, Ghost, setting, loaded_through, past}
use Rattle.agreement.specs.Entries.{past_all, ReadsAll}
use Rattle.agreement.specs.Plans.{Ascending}
use Rattle.agreement.specs.Items.{loads_of}

-- numbers that differ fail the test
pub ne→neqb : {m n : ℕ} → m ≢ n → T (not (eqb m n))
ne→neqb {m} {n} h = not_T (eqb m n) (λ t. h (eqb→eq m n t))

-- SETTING
pub setting-here : (x : ℕ) (m : Meaning) (γ : Ghost) → (setting x m γ).words x ≡ m
setting-here x m γ = update_here x m γ.words

pub setting-there : (x : ℕ) (m : Meaning) (γ : Ghost) (y : ℕ) → y ≢ x → (setting x m γ).words y ≡ γ.words y
setting-there x m γ y h = update-there x m γ.words y (ne→neqb h)

-- LOADS
-- x is none of the values that these loads set
abbrev pub Off : ℕ → List (ℕ × ℕ) → Type 0
Off x ls = (l : ℕ × ℕ) → l ∈ ls → (x ≢ l.1) × (x ≢ suc l.1)

-- addresses that ascend from lo on are not below it
pub ascending-above : (lo hi : ℕ) (ls : List (ℕ × ℕ)) → Ascending lo hi ls → (l : ℕ × ℕ) → l ∈ ls → lo ≤ l.1
ascending-above lo hi [] a l m = absurd (not-∈-nil m)
ascending-above lo hi (k ∷ ls) a l m =
    ∈-elim (λ e. subst (λ (x : ℕ × ℕ). lo ≤ x.1) (sym e) a.0)
    (λ n. omega (arith, a.0, ascending-above (suc (suc k.1)) hi ls a.1 l n)) m

pub below-off : (lo hi : ℕ) (ls : List (ℕ × ℕ)) → Ascending lo hi ls → (x : ℕ) → x < lo → Off x ls
below-off lo hi ls a x h l m =
    let above = ascending-above lo hi ls a l m in
    (λ e. absurd (omega (arith, above, e)), λ e. absurd (omega (arith, above, e)))

module _ (size slot : ℕ → ℕ) where
  -- one load: its address, and then what the slot held
  abbrev loaded-one : ℕ × ℕ → Ghost → Ghost
  loaded-one l γ = past (load (suc l.1) l.1 (size l.0)) (past (slot_address l.1 (slot l.0)) γ)

  address-known : (l : ℕ × ℕ) (γ : Ghost) → (past (slot_address l.1 (slot l.0)) γ).words l.1 ≡ address (slot l.0)
  address-known l γ = setting-here l.1 (address (slot l.0)) γ

  load-known : (l : ℕ × ℕ) (γ : Ghost) → γ.slots (slot l.0) ≡ word l.0 → (loaded-one l γ).words (suc l.1) ≡ word l.0
  load-known l γ held =
      let first = past (slot_address l.1 (slot l.0)) γ in
      setting-here (suc l.1) (loaded_through (first.words l.1) first.slots) first
      ∙ ap (λ m. loaded_through m γ.slots) (address-known l γ) ∙ held

  load-other : (l : ℕ × ℕ) (γ : Ghost) (x : ℕ) → x ≢ l.1 → x ≢ suc l.1 → (loaded-one l γ).words x ≡ γ.words x
  load-other l γ x h k =
      let first = past (slot_address l.1 (slot l.0)) γ in
      setting-there (suc l.1) (loaded_through (first.words l.1) first.slots) first x k
      ∙ setting-there l.1 (address (slot l.0)) γ x h

  -- Loads change no slot, and no word but their own.
  pub loads-slots : (ls : List (ℕ × ℕ)) (γ : Ghost) → (past_all (loads_of size slot ls) γ).slots ≡ γ.slots
  loads-slots [] γ = refl
  loads-slots (l ∷ ls) γ = loads-slots ls (loaded-one l γ)

  pub loads-other : (ls : List (ℕ × ℕ)) (γ : Ghost) (x : ℕ) → Off x ls → (past_all (loads_of size slot ls) γ).words x ≡ γ.words x
  loads-other [] γ x off = refl
  loads-other (l ∷ ls) γ x off =
      loads-other ls (loaded-one l γ) x (λ k m. off k (there m))
      ∙ load-other l γ x (off l (here refl)).0 (off l (here refl)).1

  -- Where each slot holds its value, they read what they may,
  pub loads-read : (ls : List (ℕ × ℕ)) (γ : Ghost) → ((l : ℕ × ℕ) → l ∈ ls → γ.slots (slot l.0) ≡ word l.0)
      → ReadsAll (loads_of size slot ls) γ
  loads-read [] γ held = tt
  loads-read (l ∷ ls) γ held = (
    tt,
    tt,
    (
      tt,
      (
        (slot l.0, address-known l γ),
        (l.0, ap (λ m. loaded_through m γ.slots) (address-known l γ) ∙ held l (here refl)),
      ),
      loads-read ls (loaded-one l γ) (λ k m. held k (there m)),
    ),
  )

  -- and each loaded value has its word behind them all.
  pub loads-known : (lo hi : ℕ) (ls : List (ℕ × ℕ)) (γ : Ghost) → Ascending lo hi ls
      → ((l : ℕ × ℕ) → l ∈ ls → γ.slots (slot l.0) ≡ word l.0)
      → (l : ℕ × ℕ) → l ∈ ls → (past_all (loads_of size slot ls) γ).words (suc l.1) ≡ word l.0
  loads-known lo hi [] γ a held l m = absurd (not-∈-nil m)
  loads-known lo hi (k ∷ ls) γ a held l m =
      ∈-elim
      (λ e.
      subst (λ (x : ℕ × ℕ). (past_all (loads_of size slot ls) (loaded-one k γ)).words (suc x.1) ≡ word x.0) (sym e)
      (loads-other ls (loaded-one k γ) (suc k.1) (below-off (suc (suc k.1)) hi ls a.1 (suc k.1) (omega arith))
      ∙ load-known k γ (held k (here refl))))
      (λ n. loads-known (suc (suc k.1)) hi ls (loaded-one k γ) a.1 (λ j p. held j (there p)) l n) m
