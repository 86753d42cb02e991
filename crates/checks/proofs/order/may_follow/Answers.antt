-- `checks::order::may_follow` meets its contract.
use Prim.Native.Nat.{ℕ, ◌/◌, ◌%◌, ◌^◌}
use mathlib.Core.Bool.{Bool}
use mathlib.Core.Path.{ap, ◌∙◌}
use lib.ListN.{get_or}
use lib.Dec.{T, eqb}
use Rattle.checks.specs.Order.{follower_bits}
use Rattle.rules.specs.Lists.{all, up_from}
use Rattle.rules.specs.File.{follows, followers}
use Rattle.lists.specs.Truths.{agree, agree_same}
use Rattle.checks.proofs.Table.{all-below}
use borrow.Author.Rules.{rules}
use Rattle.checks.proofs.order.may_follow.Goals as goal

-- bit k of row p is right
right : ℕ → ℕ → Bool
right p k = agree (eqb (get_or follower_bits p 0 / 2 ^ k % 2) 1) (follows p k)

pub returns : goal.returns
unfolding right follower_bits agree follows followers
returns c =
    let p = c.args.p in
    let k = c.args.k in
    let row : T (all (right p) (up_from 0 16)) = all-below (λ i. all (right i) (up_from 0 16)) 16 tt p (search rules) in
    ap (λ r. eqb (r / 2 ^ k % 2) 1) c.followers_of.ensures
    ∙ agree_same (eqb (get_or follower_bits p 0 / 2 ^ k % 2) 1) (follows p k) (all-below (right p) 16 row k (search rules))
