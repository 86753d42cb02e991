-- A row written word by word, and one word of it changed at a bit.
use Prim.Native.Nat.{ℕ, ◌+◌, ◌-◌, ◌*◌, ◌/◌, ◌%◌, ◌^◌, ◌<◌, ◌≤◌}
use native.Mathlib.Omega.{arith}
use mathlib.Core.Path.{◌≡◌, refl, sym, ap, ap₂, subst, ◌∙◌}
use mathlib.Core.Logic.{◌≢◌}
use mathlib.Core.Bool.{Bool, true, false, not, ◌&&◌, ◌||◌, or-false, cond}
use mathlib.Core.List.{List, [], ◌∷◌}
use lib.Bits.{bit_and, bit_or}
use lib.ListN.{length, get_or, set, length-set}
use lib.Seq.{get_or-set_same, get_or-set_other}
use lib.Dec.{eqb, eqb→eq}
use borrow.Author.Count.{below_more}
use borrow.Author.Tests.{ne_eqb}
use Rattle.rules.specs.Limits.{row_words}
use Rattle.rules.specs.Lists.{update, NumberSet, adding}
use Rattle.lists.specs.Tests.{test-elim, T-ext, eq→eqb, neqb→ne}
use Rattle.rows.specs.Bits.{bit_at, bit-and, bit-or, bit_not, bit-zero, bit-inserted}
use Rattle.rows.specs.Rows.{row_values, rows, HasRow, rows-bit, rows-far, rows_ext, rows-changed}
use Rattle.rows.specs.Written.{Written}

-- THE LOOP over a row: at first no word is written,
pub written_none : (post : ℕ → ℕ → ℕ → Type 0) (row : ℕ) (d : List ℕ) → Written post row 0 d d
written_none post row d = record { long = refl; made = λ k l. absurd (omega arith); below = λ i l. refl; above = λ i l. refl }

-- then one more, by a call that got it as it was
pub written_more :
    (post : ℕ → ℕ → ℕ → Type 0) (row k : ℕ) (d e : List ℕ) (x : ℕ) → Written post row k d e → row_words * row + k < length e
    → post (get_or e (row_words * row + k) 0) k x → Written post row (k + 1) d (set e (row_words * row + k) x)
written_more post row k d e x h room made =
    record {
      long = length-set e at x ∙ h.long;
      made =
          below_more (λ j. post (get_or d (row_words * row + j) 0) j (get_or (set e at x) (row_words * row + j) 0)) k
          (λ j l. subst (λ (w : ℕ). post (get_or d (row_words * row + j) 0) j w) (sym (get_or-set_other e at (row_words * row + j) x 0 (λ q. omega arith))) (h.made j l))
          (subst (λ (w : ℕ). post (get_or d at 0) k w) (sym (get_or-set_same e at x 0 room)) (subst (λ (w : ℕ). post w k x) (h.above at (omega arith)) made));
      below = λ i l. get_or-set_other e at i x 0 (λ q. omega arith) ∙ h.below i l;
      above = λ i l. get_or-set_other e at i x 0 (λ q. omega arith) ∙ h.above i (omega arith);
    }
  where
    at : ℕ
    at = row_words * row + k

-- In the end the row is a set that has no value beyond it, if each call made a word of that set.
pub rows-written :
    (post : ℕ → ℕ → ℕ → Type 0) (row : ℕ) (d e : List ℕ) (s : NumberSet) → Written post row row_words d e
    → ((k x y : ℕ) → k < row_words → post x k y → ((i : ℕ) → i < 64 → bit_at x i ≡ rows d row (64 * k + i)) → (i : ℕ) → i < 64 → bit_at y i ≡ s (64 * k + i))
    → ((v : ℕ) → row_values ≤ v → s v ≡ false) → rows e ≡ update row s (rows d)
rows-written post row d e s h word beyond =
    rows-changed d e row s h.below h.above
    (rows_ext e row s (λ k i l m. word k _ _ l (h.made k l) (λ j o. sym (rows-bit d row k j l o)) i m) beyond)

-- A word without the bits of another has those of the one set that are not of the other,
pub word-minus :
    (y x z i : ℕ) (p q : Bool) → y ≡ bit_and x (2 ^ 64 - 1 - z) → z < 2 ^ 64 → i < 64 → bit_at x i ≡ p → bit_at z i ≡ q
    → bit_at y i ≡ p && not q
word-minus y x z i p q e fits l has lacks =
    ap (λ w. bit_at w i) e ∙ bit-and i x _ ∙ ap₂ (λ a b. a && b) has (bit_not 64 i z l fits ∙ ap not lacks)

-- and one with those of another has those of both.
pub word-union :
    (y x z i : ℕ) (p q : Bool) → y ≡ bit_or x z → bit_at x i ≡ p → bit_at z i ≡ q → bit_at y i ≡ p || q
word-union y x z i p q e has gets = ap (λ w. bit_at w i) e ∙ bit-or i x z ∙ ap₂ (λ a b. a || b) has gets

-- ONE BIT of a word is changed: what the change makes of the bit of v, it makes of v in the row's set.
module _ (change : Bool → Bool → Bool) (kept : (b : Bool) → change false b ≡ b) where
  pub rows-set :
      (t : List ℕ) (row v x : ℕ) → HasRow t row → v < row_values
      → ((i : ℕ) → i < 64 → bit_at x i ≡ change (eqb i (v % 64)) (bit_at (get_or t (row_words * row + v / 64) 0) i))
      → rows (set t (row_words * row + v / 64) x) ≡ update row (λ w. change (eqb w v) (rows t row w)) (rows t)
  rows-set t row v x room inside bits =
      rows-changed t e row s (λ i l. get_or-set_other t at i x 0 (λ q. omega arith))
      (λ i l. get_or-set_other t at i x 0 (λ q. omega arith))
      (rows_ext e row s word (λ w l. rw (ne_eqb w v (λ q. omega arith)) (kept (rows t row w) ∙ rows-far t row w l)))
    where
      at : ℕ
      at = row_words * row + v / 64

      e : List ℕ
      e = set t at x

      s : NumberSet
      s w = change (eqb w v) (rows t row w)

      -- the bits of the value's word, and of another
      same : (i : ℕ) → i < 64 → bit_at (get_or e at 0) i ≡ s (64 * (v / 64) + i)
      same i m =
          let number : eqb (64 * (v / 64) + i) v ≡ eqb i (v % 64) =
          T-ext (eqb (64 * (v / 64) + i) v) (eqb i (v % 64))
          (λ h. let q : 64 * (v / 64) + i ≡ v = eqb→eq (64 * (v / 64) + i) v h in eq→eqb {m = i} {n = v % 64} (omega arith))
          (λ h. let q : i ≡ v % 64 = eqb→eq i (v % 64) h in eq→eqb {m = 64 * (v / 64) + i} {n = v} (omega arith)) in
          ap (λ w. bit_at w i) (get_or-set_same t at x 0 (omega arith))
          ∙ bits i m
          ∙ rw (number, rows-bit t row (v / 64) i (omega arith) m)

      other : (k i : ℕ) → k < row_words → i < 64 → k ≢ v / 64 → bit_at (get_or e (row_words * row + k) 0) i ≡ s (64 * k + i)
      other k i l m ne =
          ap (λ w. bit_at w i) (get_or-set_other t at (row_words * row + k) x 0 (λ q. ne (omega arith)))
          ∙ sym (rw (ne_eqb (64 * k + i) v (λ q. ne (omega arith))) (kept (rows t row (64 * k + i)) ∙ rows-bit t row k i l m))

      word : (k i : ℕ) → k < row_words → i < 64 → bit_at (get_or e (row_words * row + k) 0) i ≡ s (64 * k + i)
      word k i l m =
          test-elim (eqb k (v / 64)) (λ h. let q : k ≡ v / 64 = eqb→eq k (v / 64) h in rw q (same i m))
          (λ h. other k i l m (neqb→ne k (v / 64) h))

-- A value is put into a row if that is wanted: the word at its place gets its bit or none.
pub rows-set-if :
    (wanted : Bool) (t : List ℕ) (row v only : ℕ) → HasRow t row → (wanted ≡ true → v < row_values) → only ≡ cond wanted (2 ^ (v % 64)) 0
    → rows (set t (row_words * row + v / 64 % row_words) (bit_or (get_or t (row_words * row + v / 64 % row_words) 0) only))
    ≡ update row (adding (cond wanted (v ∷ []) []) (rows t row)) (rows t)
rows-set-if true t row v only room inside e =
    let low = inside refl in
    let same : v / 64 % row_words ≡ v / 64 = omega arith in
    rw same (rows-set (λ q b. (q || false) || b) (λ b. refl) t row v _ room low (λ i _. bit-inserted v _ only e i))
rows-set-if false t row v only room inside e =
    let first = 64 * (v / 64 % row_words) in
    let word : first / 64 ≡ v / 64 % row_words = omega arith in
    let word-of-first = rows-set (λ _ b. b) (λ b. refl) t row first (bit_or (get_or t (row_words * row + first / 64) 0) only) room (omega arith)
    (λ i _. bit-or i _ only ∙ ap (λ b. bit_at (get_or t (row_words * row + first / 64) 0) i || b) (ap (λ w. bit_at w i) e ∙ bit-zero i) ∙ or-false _) in
    subst (λ (k : ℕ). rows (set t (row_words * row + k) (bit_or (get_or t (row_words * row + k) 0) only)) ≡ update row (rows t row) (rows t)) word word-of-first
