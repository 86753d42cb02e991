-- Which record may stand where, kind by kind, and the reading of a file from a place on, one record more.
use Prim.Native.Nat.{ℕ, ◌+◌, ◌<◌}
use mathlib.Core.Path.{◌≡◌, sym, ap, ◌∙◌}
use mathlib.Core.Bool.{Bool, true, false, not, ◌&&◌, ◌||◌, and-true}
use mathlib.Core.List.{List}
use lib.Dec.{eqb, ltb, ltb→lt, nltb→le}
use borrow.Author.Tests.{lt-ltb, le-ltb, le-leb, lt-leb}
use Rattle.rules.specs.Records.{is_terminator, words, encode, record_at, record_count}
use Rattle.rules.specs.declared.Words.{Words}
use Rattle.lists.specs.Tests.{test-elim}
use Rattle.records.specs.Places.{rest, rest-next}
use Rattle.soundness.specs.Standing.{safepoint_flags, may_stand, flags_behind, standing}

-- no terminator: the flags are below 2
pub not-terminator : (flags : ℕ) → ltb flags 2 ≡ not (is_terminator flags)
not-terminator flags =
    test-elim (ltb flags 2)
    (λ y. let l = ltb→lt flags 2 y in lt-ltb flags 2 l ∙ sym (ap not (lt-leb 2 flags l)))
    (λ n. let l = nltb→le flags 2 n in le-ltb flags 2 l ∙ sym (ap not (le-leb 2 flags l)))

module _ (flags : ℕ) (w : Words) where
  -- the words with another kind
  abbrev with_kind : ℕ → Words
  with_kind k = words k w.second w.third w.fourth

  abbrev ends : Bool
  ends = is_terminator flags

  pub stand-parameter : w.kind ≡ 3 → may_stand flags w ≡ true
  unfolding may_stand
  stand-parameter e = ap (λ k. may_stand flags (with_kind k)) e

  pub stand-use : w.kind ≡ 6 → may_stand flags w ≡ true
  unfolding may_stand
  stand-use e = ap (λ k. may_stand flags (with_kind k)) e

  pub stand-block : w.kind ≡ 2 → may_stand flags w ≡ ends
  unfolding may_stand
  stand-block e = ap (λ k. may_stand flags (with_kind k)) e ∙ and-true (ends && true) ∙ and-true ends

  pub stand-instruction : w.kind ≡ 4 → may_stand flags w ≡ not ends
  unfolding may_stand
  stand-instruction e = ap (λ k. may_stand flags (with_kind k)) e ∙ and-true (not ends)

  pub stand-result : w.kind ≡ 5 → may_stand flags w ≡ not ends
  unfolding may_stand
  stand-result e = ap (λ k. may_stand flags (with_kind k)) e ∙ and-true (not ends && true && true) ∙ and-true (not ends && true) ∙ and-true (not ends)

  pub stand-edge : w.kind ≡ 7 → may_stand flags w ≡ (ends && not (eqb w.second 0))
  unfolding may_stand
  stand-edge e =
      let led = ends && not (eqb w.second 0) in
      ap (λ k. may_stand flags (with_kind k)) e ∙ and-true (led && true) ∙ and-true led

  pub stand-argument : w.kind ≡ 8 → may_stand flags w ≡ (safepoint_flags flags || eqb w.second 0)
  unfolding may_stand
  stand-argument e = ap (λ k. may_stand flags (with_kind k)) e ∙ and-true (safepoint_flags flags || eqb w.second 0)

  pub stand-context : w.kind ≡ 9 → may_stand flags w ≡ safepoint_flags flags
  unfolding may_stand
  stand-context e = ap (λ k. may_stand flags (with_kind k)) e

  -- a record of any other kind
  pub stand-other : eqb w.kind 2 ≡ false → eqb w.kind 4 ≡ false → eqb w.kind 5 ≡ false → eqb w.kind 7 ≡ false
      → eqb w.kind 8 ≡ false → eqb w.kind 9 ≡ false → may_stand flags w ≡ true
  unfolding may_stand
  stand-other e₂ e₄ e₅ e₇ e₈ e₉ = simp (e₂, e₄, e₅, e₇, e₈, e₉)

-- the file from a place on
pub standing-next : (s : List ℕ) (flags i : ℕ) → i < record_count s
    → standing flags (rest s i) ≡ (may_stand flags (encode (record_at s i)) && standing (flags_behind flags (encode (record_at s i))) (rest s (i + 1)))
standing-next s flags i h = ap (standing flags) (rest-next s i h)
