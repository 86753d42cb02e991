-- The loop over the words of a list: the entries of the values of the words before word k are put.
use Prim.Native.Nat.{ℕ, ◌+◌, ◌*◌, ◌<◌, ◌≤◌, min}
use native.Mathlib.Omega.{arith}
use mathlib.Core.Path.{◌≡◌, sym, ap, ◌∙◌}
use mathlib.Core.List.{List, ◌++◌}
use lib.ListN.{length}
use Rattle.rules.specs.Lists.{NumberSet}
use Rattle.rules.specs.declared.Record.{Record}
use Rattle.rows.specs.Bits.{bit_at}
use Rattle.writing.specs.Places.{from_to, from_to-split}
use Rattle.writing.specs.Put.{Fits, Put, put_as, put_start, put_then, fits_as, first_fits, next_fits}
use Rattle.writing.specs.declared.put.Output.{Output}
use Rattle.writing_instructions.specs.Entries.{entry_at, entries_below, entries-in-word, in_word}

module _ (size slot : ℕ → ℕ) (set : NumberSet) (values : ℕ) where
  -- what is put before word k
  abbrev pub before_word : ℕ → List Record
  before_word k = entries_below size slot set (min (64 * k) values)

  pub words-start : (a : Output) → a.at ≤ length a.bytes.now → Put a (before_word 0) a
  words-start a l =
      let none : 0 ≡ min (64 * 0) values = omega arith in
      put_as (ap (entries_below size slot set) none) (put_start (entry_at size slot set) 0 a l)

  module _ (k word end : ℕ) (l : 64 * k < values) (is : end ≡ min values (64 * k + 64)) (bits : (i : ℕ) → i < 64 → bit_at word i ≡ set (64 * k + i)) {a b : Output}
      (w : Put a (before_word k) b) (fits : Fits a (entries_below size slot set values)) where
    -- what word k adds
    abbrev of_word : List Record
    of_word = from_to (entry_at size slot (in_word word (64 * k))) (64 * k) end

    below : Put a (entries_below size slot set (64 * k)) b
    below = let here : min (64 * k) values ≡ 64 * k = omega arith in put_as (ap (entries_below size slot set) here) w

    more : entries_below size slot set (64 * k) ++ of_word ≡ entries_below size slot set end
    more =
        ap (λ (t : List Record). entries_below size slot set (64 * k) ++ t) (entries-in-word size slot set word (64 * k) end bits (omega arith))
        ∙ sym (from_to-split (entry_at size slot set) 0 (64 * k) end (omega arith) (omega arith))

    fit : Fits a (entries_below size slot set (64 * k) ++ of_word)
    fit =
        fits_as a (sym more)
        (first_fits a (entries_below size slot set end) (from_to (entry_at size slot set) end values)
        (fits_as a (from_to-split (entry_at size slot set) 0 end values (omega arith) (omega arith)) fits))

    -- it fits behind what is put,
    pub words_fit : Fits b of_word
    words_fit = next_fits below of_word fit

    -- and then what is before the next word is put
    pub words-turn : {c : Output} → Put b of_word c → Put a (before_word (k + 1)) c
    words-turn v =
        let next : end ≡ min (64 * (k + 1)) values = omega arith in
        put_as (more ∙ ap (entries_below size slot set) next) (put_then below fit v)
