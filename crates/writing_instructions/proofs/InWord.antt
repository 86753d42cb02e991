-- The loop over the ones of a word: below the next one, v, every entry is put.
use Prim.Native.Nat.{ℕ, ◌+◌, ◌-◌, ◌<◌, ◌≤◌, min}
use native.Mathlib.Omega.{arith}
use mathlib.Core.Path.{◌≡◌, sym, ap, ◌∙◌}
use mathlib.Core.Bool.{true, false, not, ◌&&◌}
use mathlib.Core.List.{List, [], ◌∷◌}
use lib.ListN.{length}
use lib.Dec.{eqb}
use Rattle.rules.specs.declared.Record.{Record}
use Rattle.rows.specs.Bits.{bit_at}
use Rattle.rows.specs.Words.{Left, left-further, left-next, left_passed}
use Rattle.writing.specs.Places.{from_to}
use Rattle.writing.specs.Put.{Fits, Put, put_as, put_start, put_turn, fits_as, turn_fits}
use Rattle.writing.specs.declared.put.Output.{Output}
use Rattle.writing_instructions.specs.Entries.{entry_of, entry_at, entry_listed, entries-passed, in_word}

module _ (size slot : ℕ → ℕ) (word base end : ℕ) where
  -- what is put below v
  abbrev pub written_below : ℕ → List Record
  written_below v = from_to (entry_at size slot (in_word word base)) base (min v end)

  -- at first nothing, if the word has no value below
  pub word-start :
      (a : Output) → a.at ≤ length a.bytes.now → (k : ℕ) → base ≤ end → ((i : ℕ) → i < k → bit_at word i ≡ false) → Put a (written_below (base + k)) a
  word-start a room k l clear =
      put_as (entries-passed size slot (in_word word base) base base (min (base + k) end) (omega arith) (omega arith) (λ u m n. clear (u - base) (omega arith)))
      (put_start (entry_at size slot (in_word word base)) base a room)

  module _ (v left : ℕ) (l : base ≤ v) (m : v < end) (far : end ≤ base + 64) (h : Left word (v - base) left) {a b : Output}
      (fits : Fits a (from_to (entry_at size slot (in_word word base)) base end)) (w : Put a (written_below v) b) where
    below : Put a (from_to (entry_at size slot (in_word word base)) base v) b
    below = let here : min v end ≡ v = omega arith in put_as (ap (from_to (entry_at size slot (in_word word base)) base) here) w

    listed : entry_of size slot v ∷ [] ≡ entry_at size slot (in_word word base) v
    listed = sym (entry_listed size slot (in_word word base) v (sym (h.same (v - base) (omega arith)) ∙ h.here (omega arith)))

    -- there is room for the entry of v,
    pub word_fits : Fits b (entry_of size slot v ∷ [])
    word_fits = fits_as b (sym listed) (turn_fits (entry_at size slot (in_word word base)) base v end l m fits below)

    -- and behind it every entry below n is put, if the word has no value between
    pub word-turn :
        (n : ℕ) {c : Output} → v < n → ((i : ℕ) → v - base < i → base + i < n → bit_at word i ≡ false)
        → Put b (entry_of size slot v ∷ []) c → Put a (written_below n) c
    word-turn n next none one =
        put_as (entries-passed size slot (in_word word base) base (v + 1) (min n end) (omega arith) (omega arith) (λ u f g. none (u - base) (omega arith) (omega arith)))
        (put_turn (entry_at size slot (in_word word base)) base v end l m fits below (entry_of size slot v ∷ []) listed one)

-- THE NEXT ONE is further, the rest of the word is left from it on, and the word has none between
pub word_next :
    (word base v left less n : ℕ) → base ≤ v → v < base + 64 → Left word (v - base) left
    → ((k : ℕ) → bit_at left k ≡ true → ((i : ℕ) → i < k → bit_at left i ≡ false) → (i : ℕ) → bit_at less i ≡ bit_at left i && not (eqb i k))
    → ((i : ℕ) → i < n → bit_at less i ≡ false) → (n < 64 → bit_at less n ≡ true)
    → (v < base + n) × Left word (base + n - base) less × ((i : ℕ) → v - base < i → base + i < base + n → bit_at word i ≡ false)
word_next word base v left less n l m h taken clear set =
    let inside : v - base < 64 = omega arith in
    let further = left-further word (v - base) left h inside less n taken clear set in
    let back : base + n - base ≡ n = omega arith in (
      omega arith,
      rw back (left-next word (v - base) left h inside less n taken clear set),
      λ i f g. left_passed word (v - base) left h inside less n taken clear set i f (omega arith),
    )
