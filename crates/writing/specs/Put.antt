-- What a writer does to the output: records stand behind what was written before, and what lies behind them stays. Writers one
-- after the other, and loops over the places of a file.
use Rattle.std.specs.Prelude.{ℕ, suc, ◌+◌, ◌-◌, ◌<◌, ◌≤◌, ◌≡◌, refl, List, [], ◌∷◌, ◌++◌, length, take, drop}
use Rattle.std.proofs.Common.{sym, ap, ◌∙◌, append_assoc, append-nil, arith, length-append, length-take, length-drop, drop_of_length-le, take_at, drop_at, drop-drop, take_all, take-append-drop}
use Rattle.rules.specs.Limits.{record_bytes}
use Rattle.rules.specs.Records.{bytes_of_record, bytes}
use Rattle.rules.specs.declared.Record.{Record}
use Rattle.lists.specs.Maps.{concat_map-append}
use Rattle.writing.specs.Wrote.{room, Wrote, length-bytes}
use Rattle.writing.specs.Places.{from_to, from_to-none, from_to-split, from_to-more, from_to-next}
use Rattle.writing.specs.declared.put.Output.{Output}

-- there is room for records behind what is written
abbrev pub Fits : Output → List Record → Type 0
Fits a rs = a.at + room rs ≤ length a.bytes.now

-- b is a with records behind what was written
pub record Put (a : Output) (rs : List Record) (b : Output) : Type 0 where
  pub same : b.bytes.ghost_name ≡ a.bytes.ghost_name
  pub count : b.at ≡ a.at + room rs
  pub long : length b.bytes.now ≡ length a.bytes.now
  pub written : b.bytes.now ≡ take a.at a.bytes.now ++ (bytes rs ++ drop (a.at + room rs) a.bytes.now)

-- nothing put
pub put_none : (a : Output) → a.at ≤ length a.bytes.now → Put a [] a
unfolding bytes
put_none a l =
    let same : a.at + room [] ≡ a.at = omega arith in
    record { same = refl; count = omega arith; long = refl; written = rw same (sym (take-append-drop a.at a.bytes.now)) }

-- the front of the unwritten rest replaced
rest-replaced :
    (x : List ℕ) (at n : ℕ) (y z : List ℕ) → y ≡ z ++ drop n (take (length x - at) (drop at x))
    → take at x ++ (y ++ drop (length x - at) (drop at x)) ≡ take at x ++ (z ++ drop (at + n) x)
rest-replaced x at n y z front =
    let rest : take (length x - at) (drop at x) ≡ drop at x = take_all (length x - at) (drop at x) (omega (arith, length-drop at x)) in
    let none : drop (length x - at) (drop at x) ≡ [] = drop_of_length-le (drop at x) {i = length x - at} (omega (arith, length-drop at x)) in
    rw (none, append-nil y, front, rest, drop-drop n at x) refl

one : (r : Record) → bytes (r ∷ []) ≡ bytes_of_record r
unfolding bytes
one r = append-nil (bytes_of_record r)

-- one record: the front of the unwritten rest
pub put_one :
    (a b : Output) (r : Record) (y : List ℕ) → Fits a (r ∷ []) → b.bytes.ghost_name ≡ a.bytes.ghost_name → b.at ≡ a.at + record_bytes
    → b.bytes.now ≡ take a.at a.bytes.now ++ (y ++ drop (length a.bytes.now - a.at) (drop a.at a.bytes.now))
    → y ≡ bytes_of_record r ++ drop record_bytes (take (length a.bytes.now - a.at) (drop a.at a.bytes.now))
    → Put a (r ∷ []) b
put_one a b r y fits same count is front =
    let x = a.bytes.now in
    let all : b.bytes.now ≡ take a.at x ++ (bytes (r ∷ []) ++ drop (a.at + record_bytes) x) =
    is ∙ rest-replaced x a.at record_bytes y (bytes_of_record r) front ∙ ap (λ (t : List ℕ). take a.at x ++ (t ++ drop (a.at + record_bytes) x)) (sym (one r)) in
    record {
      same = same;
      count = count;
      long =
          ap length all
          ∙ omega (
            arith,
            fits,
            length-append (take a.at x) (bytes (r ∷ []) ++ drop (a.at + record_bytes) x),
            length-append (bytes (r ∷ [])) (drop (a.at + record_bytes) x),
            length-bytes (r ∷ []),
            length-take a.at x,
            length-drop (a.at + record_bytes) x,
          );
      written = all;
    }

-- THE UNWRITTEN REST LENT ON: there is room in it,
pub rest_fits : (a : Output) (rs : List Record) → Fits a rs → room rs ≤ length (take (length a.bytes.now - a.at) (drop a.at a.bytes.now))
rest_fits a rs h =
    omega (arith, h, length-take (length a.bytes.now - a.at) (drop a.at a.bytes.now), length-drop a.at a.bytes.now)

-- and what fills its front stands behind what was written.
pub put_rest :
    (a b : Output) (rs : List Record) (n : ℕ) (y : List ℕ) → Fits a rs → b.bytes.ghost_name ≡ a.bytes.ghost_name → b.at ≡ a.at + n
    → b.bytes.now ≡ take a.at a.bytes.now ++ (y ++ drop (length a.bytes.now - a.at) (drop a.at a.bytes.now))
    → Wrote (take (length a.bytes.now - a.at) (drop a.at a.bytes.now)) rs n y → Put a rs b
put_rest a b rs n y fits same count is w =
    let x = a.bytes.now in
    let all : b.bytes.now ≡ take a.at x ++ (bytes rs ++ drop (a.at + room rs) x) = is ∙ rest-replaced x a.at (room rs) y (bytes rs) w.front in
    record {
      same = same;
      count = omega (arith, count, w.count);
      long =
          ap length all
          ∙ omega (
            arith,
            fits,
            length-append (take a.at x) (bytes rs ++ drop (a.at + room rs) x),
            length-append (bytes rs) (drop (a.at + room rs) x),
            length-bytes rs,
            length-take a.at x,
            length-drop (a.at + room rs) x,
          );
      written = all;
    }

-- WHAT IS PUT, BY THE REST: it stands at the front of what was unwritten,
pub rest_wrote : {a b : Output} {rs : List Record} → a.at ≤ length a.bytes.now → Put a rs b → Wrote (drop a.at a.bytes.now) rs (room rs) (drop a.at b.bytes.now)
rest_wrote {a} {b} {rs} l w =
    let x = a.bytes.now in
    record {
      count = refl;
      long = omega (arith, length-drop a.at b.bytes.now, length-drop a.at x, w.long);
      front =
          ap (drop a.at) w.written ∙ drop_at (take a.at x) (bytes rs ++ drop (a.at + room rs) x) a.at (omega (arith, l, length-take a.at x))
          ∙ ap (λ (t : List ℕ). bytes rs ++ t) (sym (drop-drop (room rs) a.at x));
    }

-- what was written before it stays,
pub front_stays : {a b : Output} {rs : List Record} → a.at ≤ length a.bytes.now → Put a rs b → take a.at b.bytes.now ≡ take a.at a.bytes.now
front_stays {a} {b} {rs} l w =
    let x = a.bytes.now in
    ap (take a.at) w.written ∙ take_at (take a.at x) (bytes rs ++ drop (a.at + room rs) x) a.at (omega (arith, l, length-take a.at x))

-- and what stands so is put
pub wrote_put :
    (a b : Output) {rs : List Record} {n : ℕ} {y : List ℕ} → a.at ≤ length a.bytes.now → b.bytes.ghost_name ≡ a.bytes.ghost_name → b.at ≡ a.at + n
    → b.bytes.now ≡ take a.at a.bytes.now ++ y → Wrote (drop a.at a.bytes.now) rs n y → Put a rs b
wrote_put a b {rs} {n} {y} l same count is w =
    let x = a.bytes.now in
    record {
      same = same;
      count = omega (arith, count, w.count);
      long = ap length is ∙ omega (arith, l, length-append (take a.at x) y, w.long, length-take a.at x, length-drop a.at x);
      written = is ∙ ap (λ (t : List ℕ). take a.at x ++ t) (w.front ∙ ap (λ (t : List ℕ). bytes rs ++ t) (drop-drop (room rs) a.at x));
    }

-- the same records by another name
pub put_as : {a b : Output} {rs ts : List Record} → rs ≡ ts → Put a rs b → Put a ts b
put_as e h = rw e at h

pub fits_as : (a : Output) {rs ts : List Record} → rs ≡ ts → Fits a rs → Fits a ts
fits_as a e h = rw e at h

-- ROOM FOR TWO WRITERS, one behind the other: for the first,
pub first_fits : (a : Output) (rs ts : List Record) → Fits a (rs ++ ts) → Fits a rs
first_fits a rs ts h = omega (arith, h, length-append rs ts)

module _ {a b : Output} {rs : List Record} (w : Put a rs b) where
  -- for the second behind it,
  pub next_fits : (ts : List Record) → Fits a (rs ++ ts) → Fits b ts
  next_fits ts h = omega (arith, h, length-append rs ts, w.count, w.long)

  -- and what both put
  module _ {c : Output} {ts : List Record} (fits : Fits a (rs ++ ts)) (v : Put b ts c) where
    abbrev x : List ℕ
    x = a.bytes.now

    abbrev front : List ℕ
    front = take a.at x ++ bytes rs

    before : length front ≡ b.at
    before =
        omega (arith, fits, length-append rs ts, length-append (take a.at x) (bytes rs), length-take a.at x, length-bytes rs, w.count)

    first : b.bytes.now ≡ front ++ drop b.at x
    first = w.written ∙ sym (append_assoc (take a.at x) (bytes rs) (drop (a.at + room rs) x)) ∙ ap (λ (n : ℕ). front ++ drop n x) (sym w.count)

    kept : take b.at b.bytes.now ≡ front
    kept = ap (take b.at) first ∙ take_at front (drop b.at x) b.at before

    behind : drop (b.at + room ts) b.bytes.now ≡ drop (a.at + room (rs ++ ts)) x
    behind =
        let sum : a.at + room (rs ++ ts) ≡ b.at + room ts = omega (arith, length-append rs ts, w.count) in
        sym (drop-drop (room ts) b.at b.bytes.now)
        ∙ ap (λ (t : List ℕ). drop (room ts) t) (ap (drop b.at) first ∙ drop_at front (drop b.at x) b.at before)
        ∙ drop-drop (room ts) b.at x ∙ ap (λ (n : ℕ). drop n x) (sym sum)

    pub put_then : Put a (rs ++ ts) c
    unfolding bytes
    put_then =
        record {
          same = v.same ∙ w.same;
          count = omega (arith, w.count, v.count, length-append rs ts);
          long = v.long ∙ w.long;
          written =
              v.written ∙ rw (kept, behind) refl
              ∙ append_assoc (take a.at x) (bytes rs) (bytes ts ++ drop (a.at + room (rs ++ ts)) x)
              ∙ ap (λ (t : List ℕ). take a.at x ++ t)
              (sym (append_assoc (bytes rs) (bytes ts) (drop (a.at + room (rs ++ ts)) x))
              ∙ ap (λ (t : List ℕ). t ++ drop (a.at + room (rs ++ ts)) x) (sym (concat_map-append bytes_of_record rs ts)));
        }

-- WHAT IS PUT INTO AN OUTPUT that nothing is written of yet fills its front.
pub put_front : {a b : Output} {rs : List Record} {x : List ℕ} → a.at ≡ 0 → Put a rs b → x ≡ b.bytes.now → Wrote a.bytes.now rs b.at x
put_front {a} {b} {rs} none w is =
    let sum : a.at + room rs ≡ room rs = omega arith in
    record { count = omega (arith, w.count); long = ap length is ∙ w.long; front = is ∙ w.written ∙ rw (sum, none) refl }

pub fits_front : (a : Output) (rs : List Record) → a.at ≡ 0 → room rs ≤ length a.bytes.now → Fits a rs
fits_front a rs none h = omega (arith, none, h)

module _ (g : ℕ → List Record) (p i q : ℕ) (l : p ≤ i) (m : i < q) {a b : Output} (fits : Fits a (from_to g p q)) (w : Put a (from_to g p i) b) where
  fits-split : Fits a (from_to g p i ++ (g i ++ from_to g (suc i) q))
  fits-split = rw (from_to-split g p i q l (omega arith), from_to-more g i q m) at fits

  -- A TURN of a loop over places: there is room for the records of place i,
  pub turn_fits : Fits b (g i)
  turn_fits = first_fits b (g i) (from_to g (suc i) q) (next_fits w (g i ++ from_to g (suc i) q) fits-split)

  -- and with them those up to the next place are put
  pub put_turn : {c : Output} (rs : List Record) → rs ≡ g i → Put b rs c → Put a (from_to g p (i + 1)) c
  put_turn rs same v =
      let both : Fits a (from_to g p i ++ rs) =
      omega (arith, fits-split, ap length same, length-append (from_to g p i) rs, length-append (from_to g p i) (g i ++ from_to g (suc i) q), length-append (g i) (from_to g (suc i) q)) in
      put_as (ap (λ (t : List Record). from_to g p i ++ t) same ∙ sym (from_to-next g p i l)) (put_then w both v)

-- the start of such a loop
pub put_start : (g : ℕ → List Record) (p : ℕ) (a : Output) → a.at ≤ length a.bytes.now → Put a (from_to g p p) a
put_start g p a l = put_as (sym (from_to-none g p)) (put_none a l)
