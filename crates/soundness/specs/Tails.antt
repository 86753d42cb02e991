-- In a sound file each block's edges, edge arguments and contexts stand behind the rest of the block: they are its
-- terminator's, behind which no instruction stands.
use Rattle.std.specs.Prelude.{ℕ, zero, suc, ◌+◌, ◌<◌, ◌≤◌, ◌≡◌, Bool, not, ◌&&◌, ◌||◌, List, [], ◌∷◌, get_or, T, eqb, leb}
use Rattle.std.proofs.Common.{sym, subst, arith, add-one, T_not, eqb→eq, leb→le, le→leb}
use Rattle.rules.specs.Lists.{all, has}
use Rattle.rules.specs.Records.{is_safepoint, is_terminator, encode, kind, record_at, record_count, records}
use Rattle.rules.specs.File.{followers, follows, ordered, function_in}
use Rattle.rules.specs.Refusals.{sound}
use Rattle.rules.specs.declared.Record.{Record}
use Rattle.lists.specs.Tests.{and_intro, and_left, and_right, T_and, or-then, or_elim, differ, passes_at}
use Rattle.records.specs.Places.{rest, rest_more, rest_all}
use Rattle.records.specs.InOrder.{chain, ordered-chain}
use Rattle.records.specs.Leading.{chain-behind}
use Rattle.graph.specs.Tails.{TailsLast}
use Rattle.soundness.specs.Standing.{only, ends_there, has_there, may_stand, flags_behind, standing, behind-other}
use Rattle.soundness.specs.Soundness.{sound-by-records}
use Rattle.soundness.specs.Fitting.{fitting}

-- the kinds of an input, and the start of the file
abbrev kinds : List ℕ
kinds = 0 ∷ 1 ∷ 2 ∷ 3 ∷ 4 ∷ 5 ∷ 6 ∷ 7 ∷ 8 ∷ 9 ∷ []

-- of a block's tail
abbrev in_tail : ℕ → Bool
in_tail k = leb 7 k

-- ORDER, by computation over the table. What may follow one of them is one of them,
follower-known : (p k : ℕ) → T (has p kinds) → T (follows p k) → T (has k kinds)
unfolding follows followers
follower-known p k m =
    passes_at (λ j. has j kinds) (get_or followers p []) (passes_at (λ i. all (λ j. has j kinds) (get_or followers i [])) kinds tt p m) k

-- an edge argument follows only what is of a tail,
argument-follows : (p : ℕ) → T (has p kinds) → T (follows p 8) → T (in_tail p)
unfolding follows followers
argument-follows p m = or-then (follows p 8) (in_tail p) (passes_at (λ i. not (follows i 8) || in_tail i) kinds tt p m)

-- and what is of a tail is followed by such, a block or an instruction.
tail-follows : (p k : ℕ) → T (has p kinds) → T (in_tail p) → T (follows p k) → T (eqb k 2 || (eqb k 4 || in_tail k))
unfolding follows followers
tail-follows p k m tail =
    let good : ℕ → Bool = λ j. eqb j 2 || (eqb j 4 || in_tail j) in
    passes_at good (get_or followers p [])
    (or-then (in_tail p) (all good (get_or followers p [])) (passes_at (λ i. not (in_tail i) || all good (get_or followers i [])) kinds tt p m) tail) k

-- a record of a tail is an edge, an edge argument or a context
tail-kinds : (k : ℕ) → T (has k kinds) → T (in_tail k) → T (eqb k 7 || (eqb k 8 || eqb k 9))
tail-kinds k m = or-then (in_tail k) (eqb k 7 || (eqb k 8 || eqb k 9)) (passes_at (λ j. not (in_tail j) || (eqb j 7 || (eqb j 8 || eqb j 9))) kinds tt k m)

-- WHAT MAY STAND. An edge and a context stand in a terminator, and so does an edge argument, which stands behind an edge.
tail-terminates :
    (flags : ℕ) (r : Record) → T (may_stand flags (encode r)) → T (has (kind r) kinds) → T (in_tail (kind r))
    → (T (eqb (kind r) 8) → T (is_terminator flags)) → T (is_terminator flags)
unfolding may_stand
tail-terminates flags r h m tail argument =
    let k = kind r in
    let w = encode r in
    let t = is_terminator flags in
    let edge = t && not (eqb w.second 0) in
    let context = is_safepoint flags && t in
    let five = only 5 (not t) w in
    let seven = only 7 edge w in
    let eight = only 8 (context || eqb w.second 0) w in
    let nine = only 9 context w in
    let held = T_and ((five && seven) && eight) nine (and_right (ends_there flags w) (has_there flags w) h) in
    or_elim (eqb k 7) (eqb k 8 || eqb k 9)
    (λ y. and_left t (not (eqb w.second 0)) (or-then (eqb k 7) edge (and_right five seven (and_left (five && seven) eight held.0)) y))
    (or_elim (eqb k 8) (eqb k 9) argument (λ y. and_right (is_safepoint flags) t (or-then (eqb k 9) context held.1 y)))
    (tail-kinds k m tail)

-- no instruction stands behind a terminator
not-instruction : (flags : ℕ) (r : Record) → T (may_stand flags (encode r)) → T (is_terminator flags) → T (eqb (kind r) 4) → ⊥
unfolding may_stand
not-instruction flags r h t y =
    let w = encode r in
    T_not (is_terminator flags)
    (or-then (eqb (kind r) 4) (not (is_terminator flags))
    (and_right (only 2 (is_terminator flags) w) (only 4 (not (is_terminator flags)) w) (and_left (ends_there flags w) (has_there flags w) h)) y) t

-- READ ON BEHIND THE RECORD AT PLACE i: its kind is an input's, and if it is of a tail, then of a terminator's.
record Behind (s : List ℕ) (i : ℕ) : Type 0 where
  flags : ℕ
  known : T (has (kind (record_at s i)) kinds)
  ended : T (in_tail (kind (record_at s i))) → T (is_terminator flags)
  stands : T (standing flags (rest s (suc i)))

module _ (s : List ℕ) (h : T (ordered 0 (records s))) (t : T (standing 2 (records s))) where
  -- what is known of a place, from what is known of the one before,
  one_on :
      (p flags i : ℕ) → i < record_count s → T (has p kinds) → (T (in_tail p) → T (is_terminator flags))
      → T (chain p (rest s i)) → T (standing flags (rest s i)) → Behind s i
  one_on p flags i l m ended c st =
      let r = record_at s i in
      let k = kind r in
      let f = follows p k in
      let follow = and_left f (chain k (rest s (suc i))) (subst (λ rs. T (chain p rs)) (rest_more s i l) c) in
      let stand = T_and (may_stand flags (encode r)) (standing (flags_behind flags (encode r)) (rest s (suc i))) (subst (λ rs. T (standing flags rs)) (rest_more s i l) st) in
      let known = follower-known p k m follow in
      record {
        flags = flags_behind flags (encode r);
        known = known;
        ended =
            λ tail.
            subst (λ j. T (is_terminator j))
            (sym (behind-other flags r (and_intro (not (eqb k 2)) (not (eqb k 4)) (differ in_tail k 2 tail tt) (differ in_tail k 4 tail tt))))
            (tail-terminates flags r stand.0 known tail
            (λ y. ended (argument-follows p m (subst (λ j. T (follows p j)) (eqb→eq k 8 y) follow))));
        stands = stand.1;
      }

  -- and so of every place
  behind : (i : ℕ) → i < record_count s → Behind s i
  behind zero l =
      one_on 0 2 0 l tt (λ tail. absurd tail) (subst (λ rs. T (chain 0 rs)) (sym (rest_all s)) (ordered-chain 0 (records s) h))
      (subst (λ rs. T (standing 2 rs)) (sym (rest_all s)) t)
  behind (suc i) l =
      let b = behind i (omega arith) in
      one_on (kind (record_at s i)) b.flags (suc i) l b.known b.ended (chain-behind s h i (omega arith)) b.stands

  -- Where each record may stand, tails stand last.
  pub standing-tails : TailsLast s
  standing-tails i l tail other =
      let p = kind (record_at s i) in
      let next : i + 1 ≡ suc i = add-one i in
      let less : suc i < record_count s = omega arith in
      let r = record_at s (suc i) in
      let k = kind r in
      let b = behind i (omega arith) in
      let tails = le→leb 7 p tail in
      let follow = and_left (follows p k) (chain k (rest s (suc (suc i)))) (subst (λ rs. T (chain p rs)) (rest_more s (suc i) less) (chain-behind s h i (omega arith))) in
      let stand = and_left (may_stand b.flags (encode r)) (standing (flags_behind b.flags (encode r)) (rest s (suc (suc i)))) (subst (λ rs. T (standing b.flags rs)) (rest_more s (suc i) less) b.stands) in
      subst (λ j. 7 ≤ kind (record_at s j)) (sym next)
      (or_elim (eqb k 2) (eqb k 4 || in_tail k) (λ y. absurd (other (subst (λ j. kind (record_at s j) ≡ 2) (sym next) (eqb→eq k 2 y))))
      (or_elim (eqb k 4) (in_tail k) (λ y. absurd (not-instruction b.flags r stand (b.ended tails) y)) (leb→le 7 k))
      (tail-follows p k b.known tails follow))

-- THE LAW. In a sound file in order tails stand last.
pub sound-tails : (s : List ℕ) → T (ordered 0 (records s)) → T (sound (function_in s)) → TailsLast s
sound-tails s h is_sound =
    standing-tails s h
    (and_left (standing 2 (records s)) (fitting (function_in s) (records s)) (subst T (sym (sound-by-records (records s) h)) is_sound))
