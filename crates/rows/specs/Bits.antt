-- The bits of a number, lowest first, and what the operations on words do to them.
use Rattle.std.specs.Prelude.{ℕ, zero, suc, ◌+◌, ◌-◌, ◌/◌, ◌%◌, ◌^◌, ◌<◌, min, max, ◌≡◌, refl, ◌≢◌, Bool, true, false, not, ◌&&◌, ◌||◌, eqb}
use Rattle.std.proofs.Common.{arith, pow-suc, mul_comm, sym, ap, ◌∙◌, eqb-true}
use Rattle.std.proofs.Math.Nat.{div-div-eq-div-mul}
use Rattle.std.proofs.Math.Bool.{and_self, and-true}
use Rattle.std.specs.Int.Bits.{bit_and, bit_or, and_step, or_step}
use Rattle.std.proofs.lemmas.Nat.{and_mask}
use Rattle.std.proofs.Math.Pow.{pow-lt}
use Rattle.std.specs.Int.Count.{count_trailing_zeros, under}
use Rattle.std.proofs.Math.Dec.{eqb-zero-suc, eqb-suc-zero, eqb-suc-suc}
use Rattle.std.proofs.lemmas.Bool.{eqb-false}
use Rattle.rules.specs.Lists.{NumberSet}
use Rattle.rules.specs.Records.{bit}
use Rattle.rules.specs.Services.{bits_from}

-- bit i of a number
unfoldable pub bit_at : ℕ → ℕ → Bool
bit_at x zero = eqb (x % 2) 1
bit_at x (suc i) = bit_at (x / 2) i

-- to prove something of a remainder by two, prove it of 0 and of 1
parity-elim : (P : ℕ → Type 0) → P 0 → P 1 → (x : ℕ) → P (x % 2)
parity-elim P even odd x = go (x % 2) (let h : x % 2 < 2 = omega arith in h)
  where
    go : (r : ℕ) → r < 2 → P r
    go zero h = even
    go (suc zero) h = odd
    go (suc (suc r)) h = absurd (omega arith)

-- and of two remainders
parity-elim₂ : (P : ℕ → ℕ → Type 0) → P 0 0 → P 0 1 → P 1 0 → P 1 1 → (x y : ℕ) → P (x % 2) (y % 2)
parity-elim₂ P a b c d x y = parity-elim (λ r. P r (y % 2)) (parity-elim (P 0) a b y) (parity-elim (P 1) c d y) x

-- THE OPERATIONS, bit by bit
pub bit-or : (i x y : ℕ) → bit_at (bit_or x y) i ≡ bit_at x i || bit_at y i
unfolding bit_at
bit-or zero x y =
    let e : bit_or x y % 2 ≡ max (x % 2) (y % 2) = omega (arith, or_step x y) in
    rw e (parity-elim₂ (λ r q. eqb (max r q) 1 ≡ eqb r 1 || eqb q 1) refl refl refl refl x y)
bit-or (suc i) x y =
    let e : bit_or x y / 2 ≡ bit_or (x / 2) (y / 2) = omega (arith, or_step x y) in
    rw e (bit-or i (x / 2) (y / 2))

pub bit-and : (i x y : ℕ) → bit_at (bit_and x y) i ≡ bit_at x i && bit_at y i
unfolding bit_at
bit-and zero x y =
    let e : bit_and x y % 2 ≡ min (x % 2) (y % 2) = omega (arith, and_step x y) in
    rw e (parity-elim₂ (λ r q. eqb (min r q) 1 ≡ eqb r 1 && eqb q 1) refl refl refl refl x y)
bit-and (suc i) x y =
    let e : bit_and x y / 2 ≡ bit_and (x / 2) (y / 2) = omega (arith, and_step x y) in
    rw e (bit-and i (x / 2) (y / 2))

-- the complement of a number of k bits
pub bit_not : (k i x : ℕ) → i < k → x < 2 ^ k → bit_at (2 ^ k - 1 - x) i ≡ not (bit_at x i)
unfolding bit_at
bit_not zero i x l h = absurd (omega arith)
bit_not (suc k) zero x l h =
    let e : (2 ^ suc k - 1 - x) % 2 ≡ 1 - x % 2 = omega (arith, pow-suc 2 k) in
    rw e (parity-elim (λ r. eqb (1 - r) 1 ≡ not (eqb r 1)) refl refl x)
bit_not (suc k) (suc i) x l h =
    let e : (2 ^ suc k - 1 - x) / 2 ≡ 2 ^ k - 1 - x / 2 = omega (arith, pow-suc 2 k) in
    rw e (bit_not k i (x / 2) (omega arith) (omega (arith, pow-suc 2 k)))

-- zero has no bit,
pub bit-zero : (i : ℕ) → bit_at 0 i ≡ false
unfolding bit_at
bit-zero zero = refl
bit-zero (suc i) = bit-zero i

-- and a power of two has one
bit-power : (i k : ℕ) → bit_at (2 ^ k) i ≡ eqb i k
unfolding bit_at
bit-power zero zero = refl
bit-power (suc i) zero = bit-zero i ∙ sym (eqb-suc-zero i)
bit-power zero (suc k) =
    let e : 2 ^ suc k % 2 ≡ 0 = omega (arith, pow-suc 2 k) in
    rw e (sym (eqb-zero-suc k))
bit-power (suc i) (suc k) =
    let e : 2 ^ suc k / 2 ≡ 2 ^ k = omega (arith, pow-suc 2 k) in
    rw e (bit-power i k ∙ sym (eqb-suc-suc i k))

-- ONE BIT. The word that has only the bit of v puts that bit into a word, and its complement takes it out.
pub bit-inserted :
    (v x only : ℕ) → only ≡ 2 ^ (v % 64) → (i : ℕ)
    → bit_at (bit_or x only) i ≡ (eqb i (v % 64) || false) || bit_at x i
bit-inserted v x only e i =
    bit-or i x only
    ∙ ap (λ b. bit_at x i || b) (ap (λ w. bit_at w i) e ∙ bit-power i (v % 64))
    ∙ either (bit_at x i) (eqb i (v % 64))
  where
    either : (a b : Bool) → a || b ≡ (b || false) || a
    either true true = refl
    either true false = refl
    either false true = refl
    either false false = refl

pub bit-removed :
    (v x only : ℕ) → only ≡ 2 ^ (v % 64) → (i : ℕ) → i < 64
    → bit_at (bit_and x (2 ^ 64 - 1 - only)) i ≡ not (eqb i (v % 64) || false) && bit_at x i
bit-removed v x only e i l =
    let fits : only < 2 ^ 64 = rw e (pow-lt {i = v % 64} {j = 64} (omega arith)) in
    bit-and i x (2 ^ 64 - 1 - only)
    ∙ ap (λ b. bit_at x i && b) (bit_not 64 i only l fits ∙ ap (λ w. not (bit_at w i)) e ∙ ap not (bit-power i (v % 64)))
    ∙ both (bit_at x i) (eqb i (v % 64))
  where
    both : (a b : Bool) → a && not b ≡ not (b || false) && a
    both true true = refl
    both true false = refl
    both false true = refl
    both false false = refl

-- a bit is what a shift brings to the lowest place
bit_shifted : (i x : ℕ) → bit_at x i ≡ eqb (x / 2 ^ i % 2) 1
unfolding bit_at
bit_shifted zero x = let e : x / 2 ^ 0 ≡ x = omega arith in rw e
bit_shifted (suc i) x =
    let e : x / 2 ^ suc i ≡ x / 2 / 2 ^ i =
    ap (λ z. x / z) (pow-suc 2 i ∙ mul_comm (2 ^ i) 2) ∙ sym (div-div-eq-div-mul x 2 (2 ^ i)) in
    rw e (bit_shifted i (x / 2))

-- and so is each above it
pub bit-above : (a i x : ℕ) → bit_at (x / 2 ^ a) i ≡ bit_at x (a + i)
unfolding bit_at
bit-above zero i x = let e : x / 2 ^ 0 ≡ x = omega arith in let f : 0 + i ≡ i = omega arith in ap (λ z. bit_at z i) e ∙ ap (bit_at x) (sym f)
bit-above (suc a) i x =
    let e : x / 2 ^ suc a ≡ x / 2 / 2 ^ a =
    ap (λ z. x / z) (pow-suc 2 a ∙ mul_comm (2 ^ a) 2) ∙ sym (div-div-eq-div-mul x 2 (2 ^ a)) in
    let f : suc a + i ≡ suc (a + i) = omega arith in
    ap (λ z. bit_at z i) e ∙ bit-above a i (x / 2) ∙ ap (bit_at x) (sym f)

pub bit-tested : (i x : ℕ) → eqb (bit_and (x / 2 ^ i) 1) 1 ≡ bit_at x i
bit-tested i x = ap (λ z. eqb z 1) (and_mask (x / 2 ^ i) 1) ∙ sym (bit_shifted i x)

-- A NUMBER of k bits is the sum of its bits.
pub bits_from-bits :
    (k a x : ℕ) (s : NumberSet) → x < 2 ^ k → ((i : ℕ) → i < k → s (a + i) ≡ bit_at x i) → bits_from s a k ≡ x
unfolding bit_at
bits_from-bits zero a x s l h = omega arith
bits_from-bits (suc k) a x s l h =
    let first : a + 0 ≡ a = omega arith in
    let low : bit (s a) ≡ x % 2 =
    ap (λ z. bit (s z)) (sym first) ∙ ap bit (h 0 (omega arith)) ∙ parity-elim (λ r. bit (eqb r 1) ≡ r) refl refl x in
    let rest : bits_from s (suc a) k ≡ x / 2 =
    bits_from-bits k (suc a) (x / 2) s (omega (arith, pow-suc 2 k))
    (λ i m. let next : suc a + i ≡ a + suc i = omega arith in ap s next ∙ h (suc i) (omega arith)) in
    omega arith

-- THE LOWEST ONE: no bit below it is set,
pub trailing-clear : (k x i : ℕ) → i < count_trailing_zeros k x → bit_at x i ≡ false
unfolding count_trailing_zeros bit_at
trailing-clear zero x i l = absurd (omega arith)
trailing-clear (suc k) x zero l =
    parity-elim (λ r. zero < under r (count_trailing_zeros k (x / 2)) → eqb r 1 ≡ false) (λ _. refl) (λ h. absurd (omega arith)) x l
trailing-clear (suc k) x (suc i) l =
    trailing-clear k (x / 2) i
    (parity-elim (λ r. suc i < under r (count_trailing_zeros k (x / 2)) → i < count_trailing_zeros k (x / 2)) (λ h. omega arith) (λ h. absurd (omega arith)) x l)

-- a number's bit at the place of its lowest one, by the place in its half
lowest_set : (x n : ℕ) → (x % 2 ≡ 0 → bit_at (x / 2) n ≡ true) → bit_at x (under (x % 2) n) ≡ true
unfolding bit_at
lowest_set x n later = go (x % 2) refl (let h : x % 2 < 2 = omega arith in h)
  where
    go : (r : ℕ) → x % 2 ≡ r → r < 2 → bit_at x (under r n) ≡ true
    go zero e h = later e
    go (suc zero) e h = rw e
    go (suc (suc r)) e h = absurd (omega arith)

-- and it is, if it stands among the first k
pub trailing-set : (k x : ℕ) → count_trailing_zeros k x < k → bit_at x (count_trailing_zeros k x) ≡ true
unfolding count_trailing_zeros
trailing-set zero x l = absurd (omega arith)
trailing-set (suc k) x l =
    lowest_set x (count_trailing_zeros k (x / 2)) (λ e. trailing-set k (x / 2) (let m : suc (count_trailing_zeros k (x / 2)) < suc k = rw e at l in omega arith))

-- WITHOUT ITS LOWEST ONE: what is one less than a number has the same bits above that one, and not it.
less_one :
    (k x : ℕ) → bit_at x k ≡ true → ((i : ℕ) → i < k → bit_at x i ≡ false) → (i : ℕ)
    → bit_at x i && bit_at (x - 1) i ≡ bit_at x i && not (eqb i k)
unfolding bit_at
less_one zero x here below zero =
    let odd : x % 2 ≡ 1 = eqb-true (x % 2) 1 here in
    let even : (x - 1) % 2 ≡ 0 = omega arith in
    rw (odd, even) refl
less_one zero x here below (suc i) =
    let odd : x % 2 ≡ 1 = eqb-true (x % 2) 1 here in
    let half : (x - 1) / 2 ≡ x / 2 = omega arith in
    rw (half, eqb-suc-zero i) (and_self (bit_at (x / 2) i) ∙ sym (and-true (bit_at (x / 2) i)))
less_one (suc k) x here below zero = rw (below 0 (omega arith)) refl
less_one (suc k) x here below (suc i) =
    let even : x % 2 ≢ 1 = eqb-false (x % 2) 1 (below 0 (omega arith)) in
    let half : (x - 1) / 2 ≡ x / 2 - 1 = omega arith in
    rw (half, eqb-suc-suc i k) (less_one k (x / 2) here (λ j l. below (suc j) (omega arith)) i)

pub lowest-removed :
    (k x : ℕ) → bit_at x k ≡ true → ((i : ℕ) → i < k → bit_at x i ≡ false) → (i : ℕ)
    → bit_at (bit_and x (x - 1)) i ≡ bit_at x i && not (eqb i k)
lowest-removed k x here below i = bit-and i x (x - 1) ∙ less_one k x here below i
