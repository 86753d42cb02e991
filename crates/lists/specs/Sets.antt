-- Sets of numbers: one within another, and one with a number more.
use Rattle.std.specs.Prelude.{ℕ, ◌≡◌, ◌||◌, T, eqb}
use Rattle.std.proofs.Common.{eqb→eq}
use Rattle.rules.specs.Lists.{NumberSet}
use Rattle.lists.specs.Tests.{or_elim, or_left, or_right, eq→eqb}

-- the second set has what the first has.
abbrev pub Within : NumberSet → NumberSet → Type 0
Within s t = (x : ℕ) → T (s x) → T (t x)

-- a set with one number more
abbrev pub insert : ℕ → NumberSet → NumberSet
insert b s x = eqb x b || s x

-- its members are that number and those of the set
pub insert-elim : {C : Type 0} (b : ℕ) (s : NumberSet) (x : ℕ) → (x ≡ b → C) → (T (s x) → C) → T (insert b s x) → C
insert-elim b s x f g = or_elim (eqb x b) (s x) (λ e. f (eqb→eq x b e)) g

pub insert-here : (b : ℕ) (s : NumberSet) {x : ℕ} → x ≡ b → T (insert b s x)
insert-here b s {x} e = or_left (eqb x b) (s x) (eq→eqb e)

pub insert-there : (b : ℕ) (s : NumberSet) → Within s (insert b s)
insert-there b s x h = or_right (eqb x b) (s x) h
