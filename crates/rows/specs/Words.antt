-- The ones of a word from the lowest on: what is left of it when those before one are taken out.
use Rattle.std.specs.Prelude.{ℕ, zero, suc, ◌<◌, ◌≤◌, ◌≡◌, refl, true, false, not, ◌&&◌, eqb, ltb}
use Rattle.std.proofs.Common.{arith, sym, ◌∙◌, true≢false, ltb→lt, nltb→le, eq-eqb, ne_eqb}
use Rattle.std.proofs.Math.Bool.{and-true, and-false}
use Rattle.lists.specs.Tests.{test-elim}
use Rattle.rows.specs.Bits.{bit_at, bit-zero}

-- the word from bit k on, which is one unless it is behind the last
pub record Left (word k left : ℕ) : Type 0 where
  pub same : (i : ℕ) → k ≤ i → bit_at left i ≡ bit_at word i
  pub below : (i : ℕ) → i < k → bit_at left i ≡ false
  pub here : k < 64 → bit_at left k ≡ true

-- at first it is the word, from its lowest one on
pub left-whole : (word k : ℕ) → ((i : ℕ) → i < k → bit_at word i ≡ false) → (k < 64 → bit_at word k ≡ true) → Left word k word
left-whole word k clear set = record { same = λ i l. refl; below = clear; here = set }

module _ (word k left : ℕ) (h : Left word k left) (l : k < 64) where
  -- there is a one to take out
  pub left-some : 0 < left
  left-some = go left (h.here l)
    where
      go : (x : ℕ) → bit_at x k ≡ true → 0 < x
      go zero e = absurd (true≢false (sym e ∙ bit-zero k))
      go (suc x) e = omega arith

  -- ITS LOWEST ONE TAKEN OUT: then it is the word from the next one on, n,
  module _ (less n : ℕ) (taken : (k : ℕ) → bit_at left k ≡ true → ((i : ℕ) → i < k → bit_at left i ≡ false) → (i : ℕ) → bit_at less i ≡ bit_at left i && not (eqb i k)) (clear : (i : ℕ) → i < n → bit_at less i ≡ false) (set : n < 64 → bit_at less n ≡ true) where
    bits : (i : ℕ) → bit_at less i ≡ bit_at left i && not (eqb i k)
    bits i = taken k (h.here l) h.below i

    above : (i : ℕ) → k < i → bit_at less i ≡ bit_at word i
    above i m = bits i ∙ rw (ne_eqb i k (λ q. omega arith)) (and-true (bit_at left i)) ∙ h.same i (omega arith)

    before : (i : ℕ) → i < k → bit_at less i ≡ false
    before i m = bits i ∙ rw (h.below i m) refl

    gone : bit_at less k ≡ false
    gone = bits k ∙ rw (eq-eqb k k refl) (and-false (bit_at left k))

    -- which is further,
    pub left-further : k < n
    left-further =
        test-elim (ltb k n) (ltb→lt k n)
        (λ f.
        let m : n ≤ k = nltb→le k n f in
        absurd (true≢false (sym (set (omega arith)) ∙ test-elim (ltb n k) (λ g. before n (ltb→lt n k g))
        (λ g. let e : n ≡ k = omega (arith, nltb→le n k g) in rw e gone))))

    pub left-next : Left word n less
    left-next = record { same = λ i m. above i (omega (arith, left-further)); below = clear; here = set }

    -- and the word has none between
    pub left_passed : (i : ℕ) → k < i → i < n → bit_at word i ≡ false
    left_passed i m f = sym (above i m) ∙ clear i f
