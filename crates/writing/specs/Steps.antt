-- FROM ONE RECORD OF A KIND TO THE NEXT: a loop that writes for such records only goes so, since at the places between nothing
-- is written.
use Rattle.std.specs.Prelude.{ℕ, ◌+◌, ◌-◌, ◌<◌, ◌≤◌, ◌≡◌, refl, List, [], ◌++◌, length, take, drop}
use Rattle.std.proofs.Common.{sym, ap, subst, ◌∙◌, append_assoc, append-nil, arith, length-append, length-drop, drop_of_length-le, drop-drop, take-add, take_all, take-append-drop}
use Rattle.rules.specs.Records.{kind, record_at, record_count}
use Rattle.rules.specs.declared.Record.{Record}
use Rattle.graph.specs.Next.{next_place, next_place-bounds, next_place-found}
use Rattle.writing.specs.Places.{from_to, from_to-split, wrote-start, wrote-turn, passed-before, passed-behind}
use Rattle.writing.specs.Put.{Fits, Put, rest_wrote, front_stays, wrote_put}
use Rattle.writing.specs.Wrote.{room, Wrote, wrote_as}
use Rattle.writing.specs.declared.put.Output.{Output}

module _ (s : List ℕ) (k : ℕ) where
  -- what is written for records of the kind only
  abbrev pub Only : (ℕ → List Record) → Type 0
  Only g = (i : ℕ) → (kind (record_at s i) ≡ k → ⊥) → g i ≡ []

  module _ (end : ℕ) (m : end ≤ record_count s) where
    module _ (g : ℕ → List Record) (only : Only g) where
      -- is written from the first one on,
      pub from_first : (from : ℕ) → from ≤ end → from_to g from end ≡ from_to g (next_place s k from end) end
      from_first from l =
          let within = next_place-bounds s k from end l m in
          passed-before g from (next_place s k from end) end within.0 within.1 (λ i low high. only i ((next_place-found s k end m from l).1 i low high))

      -- and up to one nothing more than before
      up_to : (from p : ℕ) → from ≤ p → p ≤ end → from_to g from (next_place s k p end) ≡ from_to g from p
      up_to from p low l =
          let within = next_place-bounds s k p end l m in
          passed-behind g from p (next_place s k p end) low within.0 (λ i u v. only i ((next_place-found s k end m p l).1 i u v))

      -- THE START of a loop at the first one
      pub first-start : (from first : ℕ) → from ≤ end → first ≡ next_place s k from end → (e : List ℕ) → Wrote e (from_to g from first) 0 e
      first-start from first l there e =
          wrote_as (from_to g from from) (from_to g from first) (sym (ap (from_to g from) there ∙ up_to from from (omega arith) l)) (wrote-start g from e)

      -- which puts nothing yet into an output
      pub first-put : (from first : ℕ) → from ≤ end → first ≡ next_place s k from end → (a : Output) → a.at ≤ length a.bytes.now → Put a (from_to g from first) a
      first-put from first l there a h =
          wrote_put a a h refl (omega arith) (sym (take-append-drop a.at a.bytes.now)) (first-start from first l there (drop a.at a.bytes.now))

    -- where the first one stands
    pub first-place :
        (from first : ℕ) → from ≤ end → first ≡ next_place s k from end
        → (from ≤ first) × (first ≤ end) × (first < end → kind (record_at s first) ≡ k)
    first-place from first l there =
        let within = next_place-bounds s k from end l m in (
          omega (arith, within.0, there),
          omega (arith, within.1, there),
          subst (λ (n : ℕ). n < end → kind (record_at s n) ≡ k) (sym there) (next_place-found s k end m from l).0,
        )

    -- A TURN of it, from the one at place p to the next
    module _ (p : ℕ) (l : p < end) (next : ℕ) (there : next ≡ next_place s k (p + 1) end) where
      -- where it comes to,
      pub next-place : (p < next) × (next ≤ end) × (next < end → kind (record_at s next) ≡ k)
      next-place =
          let ahead = first-place (p + 1) next (omega arith) there in (omega (arith, ahead.0), ahead.1, ahead.2)

      -- and what is written then
      pub next-turn :
          (g : ℕ → List Record) → Only g → (from : ℕ) → from ≤ p
          → {e : List ℕ} {at : ℕ} {x : List ℕ} {r : ℕ} {y : List ℕ} (rs : List Record) → rs ≡ g p → Wrote e (from_to g from p) at x → at ≤ length x
          → Wrote (take (length x - at) (drop at x)) rs r y
          → Wrote e (from_to g from next) (at + r) (take at x ++ (y ++ drop (length x - at) (drop at x)))
      next-turn g only from low rs same w u v =
          wrote_as (from_to g from (p + 1)) (from_to g from next) (sym (ap (from_to g from) there ∙ up_to g only from (p + 1) (omega arith) (omega arith)))
          (wrote-turn g from p low rs same w u v)

      -- as an output has it: the one at place p is put behind those before it
      pub next-put :
          (g : ℕ → List Record) → Only g → (from : ℕ) → from ≤ p → {a b c : Output} (rs : List Record) → rs ≡ g p → Fits a (from_to g from end)
          → Put a (from_to g from p) b → Put b rs c → Put a (from_to g from next) c
      next-put g only from low {a} {b} {c} rs same fits w v =
          let before = from_to g from p in
          let e = a.bytes.now in
          let x = b.bytes.now in
          let z = c.bytes.now in
          let rest = drop a.at x in
          let behind = drop (room before) rest in
          let inside-a : a.at ≤ length e = omega (arith, fits) in
          let inside-b : b.at ≤ length x =
          omega (arith, fits, w.count, w.long, ap length (from_to-split g from p end low (omega arith)), length-append before (from_to g p end)) in
          let left : behind ≡ drop b.at x = drop-drop (room before) a.at x ∙ ap (λ (n : ℕ). drop n x) (sym w.count) in
          let lent : take (length rest - room before) behind ≡ drop b.at x =
          take_all (length rest - room before) behind (omega (arith, length-drop (room before) rest)) ∙ left in
          let none : drop (length rest - room before) behind ≡ [] =
          drop_of_length-le behind {i = length rest - room before} (omega (arith, length-drop (room before) rest)) in
          let stays : take b.at z ≡ take a.at e ++ take (room before) rest =
          front_stays inside-b v ∙ ap (λ (n : ℕ). take n x) w.count ∙ take-add a.at (room before) x ∙ ap (λ (t : List ℕ). t ++ take (room before) rest) (front_stays inside-a w) in
          let is : z ≡ take a.at e ++ (take (room before) rest ++ drop b.at z) =
          sym (take-append-drop b.at z) ∙ ap (λ (t : List ℕ). t ++ drop b.at z) stays
          ∙ append_assoc (take a.at e) (take (room before) rest) (drop b.at z) in
          wrote_put a c inside-a (v.same ∙ w.same) (omega (arith, w.count, v.count))
          (is ∙ sym (ap (λ (t : List ℕ). take a.at e ++ (take (room before) rest ++ t)) (ap (λ (t : List ℕ). drop b.at z ++ t) none ∙ append-nil (drop b.at z))))
          (next-turn g only from low rs same (rest_wrote inside-a w) (omega (arith, inside-b, w.count, length-drop a.at x)) (subst (λ (t : List ℕ). Wrote t rs (room rs) (drop b.at z)) (sym lent) (rest_wrote inside-b v)))
