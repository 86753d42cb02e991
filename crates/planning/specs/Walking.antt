-- Steps beside records: none made, one made, and one run behind another.
use Prim.Native.Nat.{ℕ, zero, suc, ◌+◌, ◌-◌, ◌<◌, ◌≤◌}
use Rattle.std.specs.Prelude.{◌≡◌, List, [], ◌∷◌, ◌++◌, take, set}
use Rattle.std.proofs.Math.Path.{refl, sym, ap}
use Rattle.std.proofs.Common.{subst, ◌∙◌, add-one, length-set, take-suc-set}
use Rattle.std.proofs.Math.Option.{none, some}
use native.Mathlib.Omega.{arith}
use Rattle.std.proofs.Math.ListN.{length, length-append, length-map}
use Rattle.std.proofs.Math.Seq.{length-take-le}
use Rattle.rules.specs.Tree.{Function}
use Rattle.rules.specs.Plan.{Plan, Made, Planning}
use Rattle.lists.specs.Maps.{map-append}
use Rattle.numbering.specs.NewValues.{unmarked, new_values}
use Rattle.planning.specs.Standing.{Tables, plan_of, Good, Kept, Ran, mark, step_at, walk, Walked}

-- one new value more
pub new_values-more : (sizes : List ℕ) (n x : ℕ) → n < length sizes → new_values (set sizes n x) (n + 1) ≡ new_values sizes n ++ (unmarked x ∷ [])
unfolding new_values
new_values-more sizes n x l = rw (add-one n, take-suc-set sizes n x l) (map-append unmarked (take n sizes) (x ∷ []))

module _ (f : Function) where
  -- room for more records is room for fewer
  pub good-less : (t : Tables) (k j : ℕ) → j ≤ k → Good f t k → Good f t j
  good-less t k j l g =
      record {
        counted = g.counted;
        few = g.few;
        row = g.row;
        known = g.known;
        room_steps = omega (arith, g.room_steps);
        room_sizes = omega (arith, g.room_sizes);
        small = g.small;
      }

  pub kept-none : (n : ℕ) (t : Tables) → Kept f n t t
  kept-none n t =
      record { good = λ k h. good-less t (n + k) k (omega arith) h; pointer = refl; asked_long = refl; steps_long = refl; sizes_long = refl }

  pub kept_more : (n m : ℕ) (t u w : Tables) → Kept f n t u → Kept f m u w → Kept f (n + m) t w
  kept_more n m t u w a b =
      record {
        good =
            λ k h.
            let again : n + m + k ≡ n + (m + k) = omega arith in
            b.good k (a.good (m + k) (rw again at h));
        pointer = b.pointer ∙ a.pointer;
        asked_long = b.asked_long ∙ a.asked_long;
        steps_long = b.steps_long ∙ a.steps_long;
        sizes_long = b.sizes_long ∙ a.sizes_long;
      }

  -- the number of the next value
  pub next-value : (t : Tables) (k : ℕ) → Good f t k → length (plan_of f t).values ≡ t.progress.given + t.progress.made
  unfolding new_values
  next-value t k g =
      let news : length (new_values t.sizes t.progress.made) ≡ t.progress.made =
      length-map (take t.progress.made t.sizes) unmarked ∙ length-take-le t.progress.made t.sizes (omega (arith, g.room_sizes)) in
      omega (arith, length-append f.values (new_values t.sizes t.progress.made), news, g.counted)

  -- nothing is made,
  pub walked_none : (g : ℕ → Planning Made) (place : ℕ) (t : Tables) (numbers : List ℕ) → g place (plan_of f t) ≡ (none, plan_of f t) → Walked f g place 1 t numbers t numbers
  unfolding walk
  walked_none g place t numbers e = record { state = rw e; kept = kept-none 1 t; long = refl }

  -- or what a step makes is noted
  pub walked-some :
      (g : ℕ → Planning Made) (place : ℕ) (m : Planning Made) (t t' : Tables) (numbers : List ℕ) (n : ℕ)
      → g place (plan_of f t) ≡ m (plan_of f t) → Ran f m 1 t t' → (m (plan_of f t)).0 ≡ some n
      → Walked f g place 1 t numbers t' (set numbers place (n + 1))
  unfolding walk
  walked-some g place m t t' numbers n same ran made =
      let up : n + 1 ≡ suc n = omega arith in
      record {
        state =
            (λ i. (ran.state i, (ap (set numbers place) up ∙ sym (ap (mark numbers place) made)) i))
            ∙ ap (λ (y : Made × Plan). (y.1, mark numbers place y.0)) (sym same);
        kept = ran.kept;
        long = simp length-set;
      }

-- RUNS. A walk, and another from where it ends,
walk-append : (g : ℕ → Planning Made) (place n m : ℕ) (x : Plan × List ℕ) → walk g (place + n) m (walk g place n x) ≡ walk g place (n + m) x
unfolding walk
walk-append g place zero m x = let e : place + 0 ≡ place = omega arith in let d : 0 + m ≡ m = omega arith in rw (e, d)
walk-append g place (suc n) m x =
    let e : place + suc n ≡ suc place + n = omega arith in
    let d : suc n + m ≡ suc (n + m) = omega arith in
    rw (e, d) (walk-append g (suc place) n m (step_at g place x))

module _ (f : Function) (g : ℕ → Planning Made) where
  pub walked_start : (place : ℕ) (t : Tables) (numbers : List ℕ) → Walked f g place 0 t numbers t numbers
  unfolding walk
  walked_start place t numbers = record { state = refl; kept = kept-none f 0 t; long = refl }

  pub walked-append :
      (place n m : ℕ) (t u w : Tables) (ns ms ks : List ℕ) → Walked f g place n t ns u ms → Walked f g (place + n) m u ms w ks
      → Walked f g place (n + m) t ns w ks
  walked-append place n m t u w ns ms ks a b =
      record {
        state = b.state ∙ ap (walk g (place + n) m) a.state ∙ walk-append g place n m (plan_of f t, ns);
        kept = kept_more f n m t u w a.kept b.kept;
        long = b.long ∙ a.long;
      }

-- A LOOP'S TURN, for steps that are told the size of an address
module _ (f : Function) (steps : ℕ → ℕ → Planning Made) (start i : ℕ) (up : start ≤ i) (t u : Tables) (ns ms : List ℕ)
    (done : Walked f (steps t.progress.pointer) start (i - start) t ns u ms) where
  pub walked-turn :
      (w : Tables) (ks : List ℕ) → Walked f (steps u.progress.pointer) i 1 u ms w ks
      → Walked f (steps t.progress.pointer) start (i + 1 - start) t ns w ks
  walked-turn w ks next =
      let here : start + (i - start) ≡ i = omega arith in
      let count : i + 1 - start ≡ (i - start) + 1 = omega arith in
      rw count
      (walked-append f (steps t.progress.pointer) start (i - start) 1 t u w ns ms ks done
      (rw here (subst (λ (x : ℕ). Walked f (steps x) i 1 u ms w ks) done.kept.pointer next)))

  -- what room is left
  pub room-left : (end : ℕ) → i ≤ end → Good f t (end - start) → Good f u (end - i)
  room-left end l h =
      let parts : end - start ≡ (i - start) + (end - i) = omega arith in
      done.kept.good (end - i) (rw parts at h)

  pub room-turn : (end : ℕ) → i < end → Good f t (end - start) → Good f u 1
  room-turn end l h = good-less f u (end - i) 1 (omega arith) (room-left end (omega arith) h)
