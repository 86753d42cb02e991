-- Sentences of tests alone, proved by one test that is computed: it goes through both answers of each.
use Rattle.std.specs.Prelude.{◌≡◌, refl, Bool, true, false, not, ◌&&◌, T}
use Rattle.lists.specs.Tests.{and_left, and_right}

-- two tests agree
unfoldable pub agree : Bool → Bool → Bool
agree true b = b
agree false b = not b

pub agree_same : (a b : Bool) → T (agree a b) → a ≡ b
unfolding agree
agree_same true true h = refl
agree_same true false h = absurd h
agree_same false true h = absurd h
agree_same false false h = refl

-- a sentence holds of both answers
unfoldable pub every : (Bool → Bool) → Bool
every p = p true && p false

pub every-at : (p : Bool → Bool) → T (every p) → (b : Bool) → T (p b)
unfolding every
every-at p h true = and_left (p true) (p false) h
every-at p h false = and_right (p true) (p false) h
