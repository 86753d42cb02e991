-- What a loop over the places of a file writes: at each place some records, one place after the other.
use Rattle.std.specs.Prelude.{ℕ, zero, suc, ◌+◌, ◌-◌, ◌≤◌, ◌<◌, ◌≡◌, List, [], ◌∷◌, ◌++◌, length, take, drop}
use Rattle.std.proofs.Math.Path.{refl}
use Rattle.std.proofs.Common.{sym, ap, ap₂, ◌∙◌, append-nil, length-append}
use native.Mathlib.Omega.{arith}
use Rattle.rules.specs.Lists.{concat_map, up_from}
use Rattle.rules.specs.declared.Record.{Record}
use Rattle.lists.specs.Maps.{concat_map-append}
use Rattle.writing.specs.Wrote.{room, Wrote, wrote_none, wrote_then, wrote_as}

-- the records of the places from p on and before q
unfoldable pub from_to : (ℕ → List Record) → ℕ → ℕ → List Record
from_to g p q = concat_map g (up_from p (q - p))

up_from-add : (p n m : ℕ) → up_from p (n + m) ≡ up_from p n ++ up_from (p + n) m
up_from-add p zero m =
    let none : 0 + m ≡ m = omega arith in
    let same : p + 0 ≡ p = omega arith in
    rw (none, same) refl
up_from-add p (suc n) m =
    let more : suc n + m ≡ suc (n + m) = omega arith in
    let next : p + suc n ≡ suc p + n = omega arith in
    rw (more, next) (ap (λ (t : List ℕ). p ∷ t) (up_from-add (suc p) n m))

module _ (g : ℕ → List Record) (p : ℕ) where
  -- none between a place and itself
  pub from_to-none : from_to g p p ≡ []
  unfolding from_to
  from_to-none =
      let none : p - p ≡ 0 = omega arith in
      rw none refl

  -- those before a place between, and those from it on
  pub from_to-split : (i q : ℕ) → p ≤ i → i ≤ q → from_to g p q ≡ from_to g p i ++ from_to g i q
  unfolding from_to
  from_to-split i q l m =
      let sum : q - p ≡ (i - p) + (q - i) = omega arith in
      let at : p + (i - p) ≡ i = omega arith in
      rw (sum, up_from-add p (i - p) (q - i), at) (concat_map-append g (up_from p (i - p)) (up_from i (q - i)))

-- the first place, and those behind it
pub from_to-more : (g : ℕ → List Record) (p q : ℕ) → p < q → from_to g p q ≡ g p ++ from_to g (suc p) q
unfolding from_to
from_to-more g p q l =
    let more : q - p ≡ suc (q - suc p) = omega arith in
    rw more refl

run-same :
    (g h : ℕ → List Record) (n p : ℕ) → ((i : ℕ) → p ≤ i → i < p + n → g i ≡ h i) → concat_map g (up_from p n) ≡ concat_map h (up_from p n)
run-same g h zero p e = refl
run-same g h (suc n) p e =
    ap₂ (λ (a b : List Record). a ++ b) (e p (omega arith) (omega arith)) (run-same g h n (suc p) (λ i l m. e i (omega arith) (omega arith)))

-- what agrees at each place writes the same
pub from_to-same : (g h : ℕ → List Record) (p q : ℕ) → ((i : ℕ) → p ≤ i → i < q → g i ≡ h i) → from_to g p q ≡ from_to h p q
unfolding from_to
from_to-same g h p q e = run-same g h (q - p) p (λ i l m. e i l (omega arith))

module _ (g : ℕ → List Record) (p i : ℕ) (l : p ≤ i) where
  -- one place more
  pub from_to-next : from_to g p (i + 1) ≡ from_to g p i ++ g i
  from_to-next =
      let next : i + 1 ≡ suc i = omega arith in
      from_to-split g p i (i + 1) l (omega arith)
      ∙ ap (λ (t : List Record). from_to g p i ++ t) (from_to-more g i (i + 1) (omega arith) ∙ rw (next, from_to-none g (suc i)) (append-nil (g i)))

  -- there is room for the records of a place before the end
  pub turn-room :
      {e : List ℕ} {at : ℕ} {x : List ℕ} (q : ℕ) → i < q → room (from_to g p q) ≤ length e → Wrote e (from_to g p i) at x
      → at + room (g i) ≤ length x
  turn-room q m h w =
      omega (
        arith,
        h,
        w.count,
        w.long,
        ap length (from_to-split g p i q l (omega arith)),
        length-append (from_to g p i) (from_to g i q),
        ap length (from_to-more g i q m),
        length-append (g i) (from_to g (suc i) q),
      )

  -- A TURN: the records of place i at the front of what is left.
  pub wrote-turn :
      {e : List ℕ} {at : ℕ} {x : List ℕ} {q : ℕ} {y : List ℕ} (rs : List Record) → rs ≡ g i → Wrote e (from_to g p i) at x → at ≤ length x
      → Wrote (take (length x - at) (drop at x)) rs q y
      → Wrote e (from_to g p (i + 1)) (at + q) (take at x ++ (y ++ drop (length x - at) (drop at x)))
  wrote-turn rs same w m v =
      wrote_as (from_to g p i ++ rs) (from_to g p (i + 1)) (ap (λ (t : List Record). from_to g p i ++ t) same ∙ sym from_to-next) (wrote_then w m v)

-- the start of a loop
pub wrote-start : (g : ℕ → List Record) (p : ℕ) (e : List ℕ) → Wrote e (from_to g p p) 0 e
wrote-start g p e = wrote_as [] (from_to g p p) (sym (from_to-none g p)) (wrote_none e)

-- PLACES AT WHICH NOTHING IS WRITTEN may be passed over: from one to another there is nothing,
nothing_written : (p q : ℕ) → from_to (λ _. []) p q ≡ []
unfolding from_to
nothing_written p q = go (up_from p (q - p))
  where
    go : (is : List ℕ) → concat_map {B = Record} (λ _. []) is ≡ []
    go [] = refl
    go (i ∷ is) = go is

module _ (g : ℕ → List Record) (p m q : ℕ) (l : p ≤ m) (u : m ≤ q) where
  -- so those before a place,
  pub passed-before : ((i : ℕ) → p ≤ i → i < m → g i ≡ []) → from_to g p q ≡ from_to g m q
  passed-before none =
      from_to-split g p m q l u ∙ ap (λ (t : List Record). t ++ from_to g m q) (from_to-same g (λ _. []) p m none ∙ nothing_written p m)

  -- and those from it on
  pub passed-behind : ((i : ℕ) → m ≤ i → i < q → g i ≡ []) → from_to g p q ≡ from_to g p m
  passed-behind none =
      from_to-split g p m q l u
      ∙ ap (λ (t : List Record). from_to g p m ++ t) (from_to-same g (λ _. []) m q none ∙ nothing_written m q)
      ∙ append-nil (from_to g p m)
