-- The words of a row taken together: a bit of what they make is set exactly where it is in one of them.
use Prim.Native.Nat.{ℕ, zero, suc, ◌+◌, ◌*◌, ◌/◌, ◌%◌, ◌^◌, ◌<◌}
use native.Mathlib.Omega.{arith}
use mathlib.Core.Path.{◌≡◌, refl, sym, ap, ap₂, ◌∙◌}
use mathlib.Core.Bool.{Bool, true, false, ◌||◌, or-false}
use mathlib.Core.List.{List, [], ◌∷◌}
use lib.Bits.{bit_or}
use lib.ListN.{length, get_or, take, drop, length-drop}
use lib.Dec.{T, eqb, eqb→eq}
use Rattle.std.specs.List.{fold}
use Rattle.std.proofs.Common.{get_or-take, get_or-drop, length-take-le, true≢false}
use Rattle.rules.specs.Lists.{any, nothing}
use Rattle.rules.specs.Limits.{row_words}
use Rattle.lists.specs.Tests.{T-ext, eq→eqb}
use Rattle.rows.specs.Bits.{bit_at, bit-or, bit-zero, bits_from-bits}
use Rattle.rows.specs.Rows.{rows, size, size_none, none-size, rows-bit, HasRow}

bit-together : (i : ℕ) (ws : List ℕ) (x : ℕ) → bit_at (fold bit_or x ws) i ≡ bit_at x i || any (λ w. bit_at w i) ws
bit-together i [] x = sym (or-false (bit_at x i))
bit-together i (w ∷ ws) x =
    bit-together i ws (bit_or x w) ∙ ap (λ b. b || any (λ w. bit_at w i) ws) (bit-or i x w)
    ∙ regrouped (bit_at x i) (bit_at w i) (any (λ w. bit_at w i) ws)
  where
    regrouped : (a b c : Bool) → (a || b) || c ≡ a || (b || c)
    regrouped true b c = refl
    regrouped false b c = refl

-- no member passes the test exactly where none does at any place
none-at : (p : ℕ → Bool) (ws : List ℕ) → any p ws ≡ false → (j : ℕ) → j < length ws → p (get_or ws j 0) ≡ false
none-at p [] e j l = absurd (omega arith)
none-at p (w ∷ ws) e zero l = left (p w) (any p ws) e
  where
    left : (a b : Bool) → a || b ≡ false → a ≡ false
    left true b q = q
    left false b q = refl
none-at p (w ∷ ws) e (suc j) l = none-at p ws (right (p w) (any p ws) e) j (omega arith)
  where
    right : (a b : Bool) → a || b ≡ false → b ≡ false
    right true b q = absurd (true≢false q)
    right false b q = q

none-everywhere : (p : ℕ → Bool) (ws : List ℕ) → ((j : ℕ) → j < length ws → p (get_or ws j 0) ≡ false) → any p ws ≡ false
none-everywhere p [] h = refl
none-everywhere p (w ∷ ws) h = ap₂ (λ a b. a || b) (h 0 (omega arith)) (none-everywhere p ws (λ j l. h (suc j) (omega arith)))

-- So a row is empty exactly where its words taken together are zero.
pub together-empty :
    (t : List ℕ) (row all : ℕ) → HasRow t row → all < 2 ^ 64
    → all ≡ fold bit_or 0 (take row_words (drop (row_words * row) t)) → eqb all 0 ≡ eqb (size (rows t row)) 0
together-empty t row all room fits e = T-ext (eqb all 0) (eqb (size (rows t row)) 0) there back
  where
    words : List ℕ
    words = take row_words (drop (row_words * row) t)

    long : length words ≡ row_words
    long = length-take-le row_words (drop (row_words * row) t) (omega (arith, length-drop (row_words * row) t))

    word-at : (j : ℕ) → j < row_words → get_or words j 0 ≡ get_or t (row_words * row + j) 0
    word-at j l = get_or-take row_words (drop (row_words * row) t) j 0 l ∙ get_or-drop (row_words * row) t j 0

    bits : (i : ℕ) → bit_at all i ≡ any (λ w. bit_at w i) words
    bits i = ap (λ w. bit_at w i) e ∙ bit-together i words 0 ∙ ap (λ b. b || any (λ w. bit_at w i) words) (bit-zero i)

    there : T (eqb all 0) → T (eqb (size (rows t row)) 0)
    there h =
        let zeros : all ≡ 0 = eqb→eq all 0 h in
        eq→eqb {m = size (rows t row)} {n = 0}
        (none-size (rows t row)
        (λ v l.
        let whole : 64 * (v / 64) + v % 64 ≡ v = omega arith in
        let k : v / 64 < row_words = omega arith in
        let clear = sym (bits (v % 64)) ∙ ap (λ w. bit_at w (v % 64)) zeros ∙ bit-zero (v % 64) in
        ap (rows t row) (sym whole) ∙ rows-bit t row (v / 64) (v % 64) k (omega arith)
        ∙ ap (λ w. bit_at w (v % 64)) (sym (word-at (v / 64) k))
        ∙ none-at (λ w. bit_at w (v % 64)) words clear (v / 64) (omega (arith, long))))

    back : T (eqb (size (rows t row)) 0) → T (eqb all 0)
    back h =
        let none = size_none (rows t row) (eqb→eq (size (rows t row)) 0 h) in
        let clear = λ (i : ℕ) (l : i < 64).
        none-everywhere (λ w. bit_at w i) words
        (λ j m.
        let k : j < row_words = omega (arith, long) in
        ap (λ w. bit_at w i) (word-at j k) ∙ sym (rows-bit t row j i k l) ∙ none (64 * j + i) (omega arith)) in
        eq→eqb {m = all} {n = 0}
        (sym (bits_from-bits 64 0 all nothing fits (λ i l. sym (bits i ∙ clear i l)))
        ∙ bits_from-bits 64 0 0 nothing (omega arith) (λ i _. sym (bit-zero i)))
