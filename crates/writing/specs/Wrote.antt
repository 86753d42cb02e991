-- What a writer does to the output that it is lent: it fills the front with records, and what lies behind stays. Writers one
-- after the other: each is lent what the last left unwritten.
use Rattle.std.specs.Prelude.{ℕ, ◌+◌, ◌-◌, ◌*◌, ◌≤◌, ◌≡◌, refl, List, [], ◌∷◌, ◌++◌, length, take, drop}
use Rattle.std.proofs.Common.{sym, ap, ◌∙◌, append_assoc, append-nil, arith, length-append, length-drop, drop_of_length-le, take_at, drop_at, drop-drop, take_all}
use Rattle.rules.specs.Limits.{record_bytes}
use Rattle.rules.specs.Lists.{concat_map}
use Rattle.rules.specs.Records.{bytes_of_record, bytes}
use Rattle.rules.specs.declared.Record.{Record}
use Rattle.lists.specs.Maps.{concat_map-append}

-- the bytes that records take
abbrev pub room : List Record → ℕ
room rs = record_bytes * length rs

-- x is e with its front replaced by records, which take r bytes
pub record Wrote (e : List ℕ) (rs : List Record) (r : ℕ) (x : List ℕ) : Type 0 where
  pub count : r ≡ room rs
  pub long : length x ≡ length e
  pub front : x ≡ bytes rs ++ drop (room rs) e

pub length-bytes : (rs : List Record) → length (bytes rs) ≡ room rs
unfolding bytes
length-bytes [] = refl
length-bytes (r ∷ rs) = omega (arith, length-append (bytes_of_record r) (concat_map bytes_of_record rs), length-bytes rs)

bytes-append : (a b : List Record) → bytes (a ++ b) ≡ bytes a ++ bytes b
unfolding bytes
bytes-append a b = concat_map-append bytes_of_record a b

-- nothing written
pub wrote_none : (e : List ℕ) → Wrote e [] 0 e
unfolding bytes
wrote_none e = record { count = refl; long = refl; front = refl }

-- one record at the front
pub wrote_one : (e x : List ℕ) (r : Record) → record_bytes ≤ length e → x ≡ bytes_of_record r ++ drop record_bytes e → Wrote e (r ∷ []) record_bytes x
unfolding bytes
wrote_one e x r l h =
    record {
      count = refl;
      long = ap length h ∙ omega (arith, length-append (bytes_of_record r) (drop record_bytes e), length-drop record_bytes e);
      front = h ∙ ap (λ (t : List ℕ). t ++ drop record_bytes e) (sym (append-nil (bytes_of_record r)));
    }

-- the same records by another name
pub wrote_as : {e x : List ℕ} {r : ℕ} (a b : List Record) → a ≡ b → Wrote e a r x → Wrote e b r x
wrote_as a b q h = rw q at h

-- the length of the rest that is lent on
pub length_rest : (x : List ℕ) (r : ℕ) → length (take (length x - r) (drop r x)) ≡ length x - r
length_rest x r = ap length (take_all (length x - r) (drop r x) (omega (arith, length-drop r x))) ∙ length-drop r x

-- the rest that is lent has room for records that fit behind what is written
pub lent-room : (x : List ℕ) (at : ℕ) (rs ts : List Record) → rs ≡ ts → at + room ts ≤ length x → room rs ≤ length (take (length x - at) (drop at x))
lent-room x at rs ts e h = omega (arith, h, ap length e, length_rest x at)

-- FILL THE FRONT, LEND THE REST: a second writer is lent what the first left.
module _ {e : List ℕ} {b : List Record} {r : ℕ} {x : List ℕ} {c : List Record} {q : ℕ} {y : List ℕ} (h : Wrote e b r x) (l : r ≤ length x) (g : Wrote (take (length x - r) (drop r x)) c q y) where
  front-is : length (bytes b) ≡ r
  front-is = length-bytes b ∙ sym h.count

  kept : take r x ≡ bytes b
  kept = ap (λ (z : List ℕ). take r z) h.front ∙ take_at (bytes b) (drop (room b) e) r front-is

  rest : drop r x ≡ drop (room b) e
  rest = ap (λ (z : List ℕ). drop r z) h.front ∙ drop_at (bytes b) (drop (room b) e) r front-is

  whole : take (length x - r) (drop r x) ≡ drop r x
  whole = take_all (length x - r) (drop r x) (omega (arith, length-drop r x))

  nothing : drop (length x - r) (drop r x) ≡ []
  nothing = drop_of_length-le (drop r x) {i = length x - r} (omega (arith, length-drop r x))

  left : y ≡ bytes c ++ drop (room b + room c) e
  left =
      g.front ∙ ap (λ (z : List ℕ). bytes c ++ drop (room c) z) (whole ∙ rest)
      ∙ ap (λ (z : List ℕ). bytes c ++ z) (drop-drop (room c) (room b) e)

  pub wrote_then : Wrote e (b ++ c) (r + q) (take r x ++ (y ++ drop (length x - r) (drop r x)))
  wrote_then =
      let both : room (b ++ c) ≡ room b + room c = omega (arith, length-append b c) in
      record {
        count = omega (arith, length-append b c, h.count, g.count);
        long = simp (kept, nothing, append-nil, length-append) (omega (arith, length-bytes b, h.long, h.count, g.long, ap length whole, length-drop r x));
        front = rw (kept, nothing, append-nil, left, both, bytes-append) (sym (append_assoc (bytes b) (bytes c) (drop (room b + room c) e)));
      }

-- ROOM FOR TWO WRITERS, one behind the other: for the first,
pub first_fits : (b c : List Record) (e : List ℕ) → room (b ++ c) ≤ length e → room b ≤ length e
first_fits b c e h = omega (arith, h, length-append b c)

module _ {e : List ℕ} {b : List Record} {r : ℕ} {x : List ℕ} (w : Wrote e b r x) (c : List Record) (h : room (b ++ c) ≤ length e) where
  -- which writes no more than it is lent,
  pub written-le : r ≤ length x
  written-le = omega (arith, h, length-append b c, w.count, w.long)

  -- for the second in what is left,
  pub next_fits : room c ≤ length (take (length x - r) (drop r x))
  next_fits = omega (arith, h, length-append b c, w.count, w.long, length_rest x r)

  -- and for both together
  pub both-le : {q : ℕ} {u y : List ℕ} → Wrote u c q y → r + q ≤ length e
  both-le v = omega (arith, h, length-append b c, w.count, v.count)
