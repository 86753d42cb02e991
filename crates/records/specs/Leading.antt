-- The records of a kind at the front of a list. In a file in order a function's values, a block's parameters and an edge's
-- arguments stand so: directly behind what they belong to, with none of their kind further on.
use Rattle.std.specs.Prelude.{ℕ, zero, suc, ◌+◌, ◌<◌, ◌≡◌, refl, Bool, true, false, not, ◌&&◌, ◌||◌, List, [], ◌∷◌, get_or, T, eqb}
use Rattle.std.proofs.Common.{sym, ap, subst, ◌∙◌, arith, add-one, T_not, eqb→eq}
use Rattle.rules.specs.Lists.{all, has}
use Rattle.rules.specs.Records.{encode, kind, record_at, record_count, records}
use Rattle.rules.specs.declared.Words.{Words}
use Rattle.rules.specs.File.{followers, follows, ordered, cut, of_kind}
use Rattle.rules.specs.declared.Record.{Record}
use Rattle.lists.specs.Tests.{test-elim, and_left, and_right, or-then, or_elim, T_and, differ, chosen, left_out, passes_at}
use Rattle.records.specs.Kinds.{Kinds, of_kind-none}
use Rattle.records.specs.Places.{rest, rest_more, rest_all}
use Rattle.records.specs.InOrder.{chain, ordered-chain, cut_keeps, kept_by, chain-good}
use Rattle.records.specs.Parts.{BlockBody, in_body}

-- the words of the records of kind k at the front
abbrev pub leading : ℕ → List Record → List Words
leading k [] = []
leading k (r ∷ rs) = elim (eqb (kind r) k) [ true ↦ encode r ∷ leading k rs | false ↦ [] ]

-- they stand in front of each record that opens a part, if they open none themselves
pub leading-cut : (opens : ℕ → Bool) (k : ℕ) → T (not (opens k)) → (rs : List Record) → leading k (cut opens rs).front ≡ leading k rs
leading-cut opens k n =
    cut_keeps opens (λ rs c. leading k c.front ≡ leading k rs) refl
    (λ r rs c o e. sym (left_out (eqb (kind r) k) (encode r ∷ leading k rs) [] (differ opens (kind r) k o n)))
    (λ r rs c o e. ap (λ t. elim (eqb (kind r) k) [ true ↦ encode r ∷ t | false ↦ [] ]) e)

-- ORDER, by computation over the table. Behind a kind of `inside` an allowed one is k, or one of `outside`; behind one of
-- `outside` an allowed one is of `outside`, where k is not.
unfoldable pub leads_by : ℕ → List ℕ → List ℕ → (ℕ → Bool) → Bool
unfolding followers
leads_by k inside outside allowed =
    all (λ i. all (λ j. not (allowed j) || (eqb j k || has j outside)) (get_or followers i [])) inside
    && (has k inside && kept_by outside allowed (λ j. not (eqb j k)))

-- so in a chain of allowed kinds that starts behind one of `inside` all records of kind k are leading
pub leading-all : (k : ℕ) (inside outside : List ℕ) (allowed : ℕ → Bool) → T (leads_by k inside outside allowed)
    → (p : ℕ) (rs : List Record) → T (has p inside) → T (chain p rs) → Kinds allowed rs → of_kind k rs ≡ leading k rs
unfolding follows followers leads_by
leading-all k inside outside allowed t p [] m c a = refl
leading-all k inside outside allowed t p (r ∷ rs) m c a =
    let j = kind r in
    let among : ℕ → Bool = λ i. all (λ x. not (allowed x) || (eqb x k || has x outside)) (get_or followers i []) in
    let good = kept_by outside allowed (λ x. not (eqb x k)) in
    let t₂ = T_and (has k inside) good (and_right (all among inside) (has k inside && good) t) in
    let c₂ = T_and (has j (get_or followers p [])) (chain j rs) c in
    let a₂ = T_and (allowed j) (all (λ x. allowed (kind x)) rs) a in
    let one : T (eqb j k || has j outside) =
    or-then (allowed j) (eqb j k || has j outside)
    (passes_at (λ x. not (allowed x) || (eqb x k || has x outside)) (get_or followers p [])
    (passes_at among inside (and_left (all among inside) (has k inside && good) t) p m) j c₂.0) a₂.0 in
    test-elim (eqb j k)
    (λ y.
    chosen (eqb j k) (encode r ∷ of_kind k rs) (of_kind k rs) y
    ∙ ap (λ ws. encode r ∷ ws) (leading-all k inside outside allowed t j rs (rw (eqb→eq j k y) t₂.0) c₂.1 a₂.1)
    ∙ sym (chosen (eqb j k) (encode r ∷ leading k rs) [] y))
    (λ n.
    left_out (eqb j k) (encode r ∷ of_kind k rs) (of_kind k rs) n
    ∙ of_kind-none k rs
    (chain-good outside allowed (λ x. not (eqb x k)) t₂.1 j rs
    (or_elim (eqb j k) (has j outside) (λ y. absurd (T_not (eqb j k) n y)) (λ o. o) one) c₂.1 a₂.1)
    ∙ sym (left_out (eqb j k) (encode r ∷ leading k rs) [] n))

-- a block's parameters
pub parameters-lead : (body : List Record) → BlockBody body → of_kind 3 body ≡ leading 3 body
unfolding leads_by kept_by followers
parameters-lead body h =
    leading-all 3 (2 ∷ 3 ∷ []) (4 ∷ 5 ∷ 6 ∷ 7 ∷ 8 ∷ 9 ∷ []) (λ j. not (eqb 2 j)) tt 2 body tt h.0 h.1

-- an edge's arguments
pub arguments-lead : (body : List Record) → T (chain 7 body) → Kinds (λ j. not (eqb 7 j) && in_body j) body → of_kind 8 body ≡ leading 8 body
unfolding leads_by kept_by followers
arguments-lead body c a =
    leading-all 8 (7 ∷ 8 ∷ []) (9 ∷ []) (λ j. not (eqb 7 j) && in_body j) tt 7 body tt c a

-- ORDER FROM A PLACE ON: behind the record at a place stands what may follow it.
module _ (s : List ℕ) (h : T (ordered 0 (records s))) where
  pub chain-behind : (i : ℕ) → i < record_count s → T (chain (kind (record_at s i)) (rest s (suc i)))
  chain-behind zero l =
      let r = record_at s 0 in
      and_right (follows 0 (kind r)) (chain (kind r) (rest s 1))
      (subst (λ rs. T (chain 0 rs)) (sym (rest_all s) ∙ rest_more s 0 l) (ordered-chain 0 (records s) h))
  chain-behind (suc i) l =
      let r = record_at s (suc i) in
      let p = kind (record_at s i) in
      and_right (follows p (kind r)) (chain (kind r) (rest s (suc (suc i))))
      (subst (λ rs. T (chain p rs)) (rest_more s (suc i) l) (chain-behind i (omega arith)))

  -- the same by the code's sum
  pub chain_next : (i : ℕ) → i < record_count s → T (chain (kind (record_at s i)) (rest s (i + 1)))
  chain_next i l = rw (add-one i) (chain-behind i l)
