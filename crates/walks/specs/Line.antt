-- What a walk keeps. The blocks done, and behind them the blocks still open, innermost first, stand in one line: what
-- is entered so far, by ascending index. To enter a block puts it between the two parts. To finish it changes nothing,
-- for it stands at its place already.
use Rattle.std.specs.Prelude.{ℕ, ◌≡◌, refl, ◌≢◌, not, T}
use Rattle.std.proofs.Common.{sym, subst, ⊎_elim, T_not}
use mathlib.Core.HLevel.{¬_prop}
use mathlib.Core.List.{List, [], ◌∷◌, reverse_aux, Mem, Nodup}
use mathlib.Core.List.Pairwise
use mathlib.Core.List.{Pairwise, Pairwise-reverse_aux}
use Rattle.rules.specs.Lists.{NumberSet, nothing}
use Rattle.rules.specs.Tree.{Function}
use Rattle.rules.specs.Graph.{successors}
use Rattle.rules.specs.Demand3.{PathTo, onward}
use Rattle.lists.specs.Sets.{insert, insert-elim, insert-here, insert-there}
use Rattle.lists.specs.Members.{find}
use Rattle.lists.specs.Members.{◌∈◌, here, there, not-∈-nil, ∈-elim}
use Rattle.lists.specs.Members.{∈-reverse_aux, ∈-reverse_aux-left, ∈-reverse_aux-right}
use Rattle.walks.specs.Paths.{Dominates, dominates-refl, not-dominates, dominates-none}
use Rattle.walks.specs.Paths.{Path-along, path-along-mono}
use Rattle.walks.specs.Walks.{Stage, entering, Walks, finished, skips, enters, walks-enter}

-- the blocks done, first one first, and behind them these
abbrev pub line : Stage → List ℕ → List ℕ
line s passed = reverse_aux s.done passed

-- a path leads to x along other blocks of a set
abbrev pub Reached : Function → NumberSet → ℕ → Type 0
Reached f s x = Path-along f (λ y. T (s y) × (y ≢ x)) x

-- A line has the blocks entered and no others, none of them dominates one behind it, and to each a path leads along
-- others of them.
pub record Sound (f : Function) (entered : NumberSet) (blocks : List ℕ) : Type 0 where
  pub entered→∈ : {x : ℕ} → T (entered x) → x ∈ blocks
  pub ∈→entered : {x : ℕ} → x ∈ blocks → T (entered x)
  pub ordered : Pairwise (λ x y. ¬ Dominates f x y) blocks
  pub reached : {x : ℕ} → T (entered x) → Reached f entered x

-- where nothing is entered, the empty line is sound
pub untouched-sound : {f : Function} → Sound f nothing []
untouched-sound =
    record {
      entered→∈ = λ t. absurd t;
      ∈→entered = λ m. absurd (not-∈-nil m);
      ordered = Pairwise.nil;
      reached = λ t. absurd t;
    }

-- a sound line has each block once: a block dominates itself
pub sound-nodup : {f : Function} {entered : NumberSet} {blocks : List ℕ} → Sound f entered blocks → Nodup blocks
sound-nodup h = Pairwise.imp (λ x y undominated same. undominated (λ passed p. here same)) h.ordered

-- To enter a new block, between those done and those on the path to it, keeps a line sound.
pub entering-sound :
    {f : Function} {b : ℕ} {passed : List ℕ} → PathTo f b passed → (s : Stage) → T (not (s.entered b))
    → Sound f s.entered (line s passed) → Sound f (entering b s).entered (line s (b ∷ passed))
entering-sound {f} {b} {passed} p s new h =
    record {
      entered→∈ =
          λ {x} t.
          insert-elim b s.entered x (λ e. ∈-reverse_aux-right s.done (here e)) (λ k. stays (h.entered→∈ k)) t;
      ∈→entered =
          λ {x} m.
          ⊎_elim (λ k. insert-there b s.entered x (done_entered k))
          (∈-elim (insert-here b s.entered) (λ k. insert-there b s.entered x (passed_entered k)))
          (∈-reverse_aux s.done (b ∷ passed) m);
      ordered =
          (Pairwise-reverse_aux (λ x y. ¬_prop)).1 (
            parts.0,
            Pairwise.cons (λ x m. dominates-none p (λ k. fresh (passed_entered k)) (find m)) parts.1,
            λ d m y k. ∈-elim (λ (e : y ≡ b). rw e (undominated d (find m))) (λ j. parts.2 d m y ∣ j ∣₁) (find k),
          );
      reached =
          λ {x} t.
          insert-elim b s.entered x
          (λ e. subst (Reached f (insert b s.entered)) (sym e) new_reached)
          (λ k. path-along-mono (λ y g. (insert-there b s.entered y g.0, g.1)) (h.reached k))
          t;
    }
  where
    fresh : T (s.entered b) → ⊥
    fresh = T_not (s.entered b) new

    done_entered : {x : ℕ} → x ∈ s.done → T (s.entered x)
    done_entered m = h.∈→entered (∈-reverse_aux-left passed m)

    passed_entered : {x : ℕ} → x ∈ passed → T (s.entered x)
    passed_entered m = h.∈→entered (∈-reverse_aux-right s.done m)

    stays : {x : ℕ} → x ∈ line s passed → x ∈ line s (b ∷ passed)
    stays m =
        ⊎_elim (∈-reverse_aux-left (b ∷ passed)) (λ k. ∈-reverse_aux-right s.done (there k))
        (∈-reverse_aux s.done passed m)

    new_reached : Reached f (insert b s.entered) b
    new_reached =
        record {
          passed = passed;
          path = p;
          along =
              λ y m.
              (insert-there b s.entered y (passed_entered m), λ (e : y ≡ b). fresh (rw e at (passed_entered m)));
        }

    parts :
        Pairwise (λ x y. ¬ Dominates f y x) s.done × Pairwise (λ x y. ¬ Dominates f x y) passed
        × ((x : ℕ) → Mem x s.done → (y : ℕ) → Mem y passed → ¬ Dominates f x y)
    parts = (Pairwise-reverse_aux (λ x y. ¬_prop) {l = s.done} {acc = passed}).0 h.ordered

    -- a block done is not the new one, and not on the path to it
    undominated : (d : ℕ) → d ∈ s.done → ¬ Dominates f d b
    undominated d m =
        not-dominates p (λ (e : d ≡ b). fresh (rw e at (done_entered m)))
        (λ k. parts.2 d ∣ m ∣₁ d ∣ k ∣₁ (dominates-refl d))

-- A walk along edges that go on from a path keeps its line sound.
pub walks-sound :
    {f : Function} {s r : Stage} {ts passed : List ℕ} → Walks f s ts r → ((t : ℕ) → t ∈ ts → PathTo f t passed)
    → Sound f s.entered (line s passed) → Sound f r.entered (line r passed)
walks-sound finished p h = h
walks-sound (skips y w) p h = walks-sound w (λ x m. p x (there m)) h
walks-sound (enters {s = s} {t = t} n i w) p h =
    let q = p t (here refl) in
    walks-sound w (λ x m. p x (there m)) (walks-sound i (λ x m. onward q m) (entering-sound q s n h))

-- every edge of a block that is done leads to an entered block
abbrev pub Closed : Function → Stage → Type 0
Closed f s = (x t : ℕ) → x ∈ s.done → t ∈ successors f x → T (s.entered t)

-- A walk keeps that, too.
pub walks-closed : {f : Function} {s r : Stage} {ts : List ℕ} → Walks f s ts r → Closed f s → Closed f r
walks-closed finished h = h
walks-closed (skips y w) h = walks-closed w h
walks-closed {f} (enters {s = s} {t = t} n i w) h =
    walks-closed w
    (λ x u m k.
    ∈-elim (λ e. walks-enter i (subst (λ y. u ∈ successors f y) e k))
    (λ j. walks-closed i (λ y z a c. insert-there t s.entered z (h y z a c)) x u j k)
    m)
