-- A set of numbers that grew. Nothing here is about functions or live sets.
use Rattle.std.specs.Prelude.{ℕ, ◌+◌, ◌≤◌, ◌<◌, ◌≡◌, not, ◌&&◌, length, T, ltb}
use Rattle.std.proofs.Common.{arith, T_not, ltb→lt, lt→ltb}
use Rattle.rules.specs.Lists.{count, up_from, NumberSet, union, members, grew}
use Rattle.lists.specs.Tests.{test-elim, T-ext, and_intro, and_left, and_right, or_elim, or_left, or_right}
use Rattle.lists.specs.Members.{◌∈◌}
use Rattle.fixpoint.specs.Sums.{length-keep, count-mono, count-drop}
use Rattle.fixpoint.specs.Finding.{any-intro, any-elim, ∈-up_from, up_from-below}

-- A set grew by a number that shows it,
pub grew-elim : (n : ℕ) (old new : NumberSet) → T (grew n old new) → (v : ℕ) × (v ∈ up_from 0 n) × T (new v) × T (not (old v))
grew-elim n old new g =
    let r = any-elim (λ v. new v && not (old v)) (up_from 0 n) g in
    (r.0, r.1, and_left (new r.0) (not (old r.0)) r.2, and_right (new r.0) (not (old r.0)) r.2)

-- and where it did not grow, it had all that is new.
pub not-grew : (n : ℕ) (old new : NumberSet) → T (not (grew n old new)) → (v : ℕ) → v < n → T (new v) → T (old v)
not-grew n old new g v l t =
    test-elim (old v) (λ h. h)
    (λ h.
    let in-range : v ∈ up_from 0 n = ∈-up_from 0 n v (omega arith) (omega arith) in
    let shown : T (new v && not (old v)) = and_intro (new v) (not (old v)) t h in
    absurd (T_not (grew n old new) g (any-intro (λ w. new w && not (old w)) in-range shown)))

-- So a set grew if and only if it has more members with what is new than without.
pub grew-members :
    (n : ℕ) (old new : NumberSet) → grew n old new ≡ ltb (length (members n old)) (length (members n (union old new)))
grew-members n old new =
    T-ext (grew n old new) (ltb (length (members n old)) (length (members n both)))
    (λ g.
    let r = grew-elim n old new g in
    let more : count old (up_from 0 n) + 1 ≤ count both (up_from 0 n) =
    count-drop old both (λ v. or_left (old v) (new v)) r.1 r.3 (or_right (old r.0) (new r.0) r.2) in
    lt→ltb (length (members n old)) (length (members n both))
    (omega (arith, length-keep old (up_from 0 n), length-keep both (up_from 0 n))))
    (λ less. test-elim (grew n old new) (λ g. g) (λ g. absurd (none less g)))
  where
    both : NumberSet
    both = union old new

    none : T (ltb (length (members n old)) (length (members n both))) → T (not (grew n old new)) → ⊥
    none less g =
        let same : count both (up_from 0 n) ≤ count old (up_from 0 n) =
        count-mono both old (up_from 0 n)
        (λ v m. or_elim (old v) (new v) (λ t. t) (not-grew n old new g v (omega (arith, up_from-below 0 n m)))) in
        omega (
          arith,
          ltb→lt (length (members n old)) (length (members n both)) less,
          length-keep old (up_from 0 n),
          length-keep both (up_from 0 n),
        )
