-- The walk without its fuel: a relation between how far a walk has come, the edges that it then takes, and how far it
-- has come behind them. That the depth given to the walk of the definition is enough is proved here, once; the laws go
-- by the relation.
use Rattle.std.specs.Prelude.{ℕ, zero, suc, ◌+◌, ◌<◌, ◌≤◌, ◌≡◌, not, List, [], ◌∷◌, length, T, ltb}
use Rattle.std.proofs.Common.{arith, sym, subst, ltb→lt, nltb→le}
use Rattle.rules.specs.Lists.{foldl, has, NumberSet, nothing}
use Rattle.rules.specs.Tree.{Function}
use Rattle.rules.specs.Graph.{successors, Walk, enter}
use Rattle.lists.specs.Tests.{test-elim, if-elim}
use Rattle.lists.specs.Sets.{Within, insert, insert-here, insert-there}
use Rattle.lists.specs.Members.{◌∈◌, not-∈-nil, ∈-elim}
use Rattle.lists.specs.Lack.{lack, one, lack-mono, lack-insert, lack-one-le}
use Rattle.walks.specs.Paths.{successors-outside}

-- how far a walk has come: the set of the blocks entered, and the list of those whose edges are done, last first
pub record Stage : Type 0 where
  pub entered : NumberSet
  pub done : List ℕ

-- of a walk of the definition, which lists what it entered
abbrev pub stage_of : Walk → Stage
stage_of w = record { entered = λ x. has x w.entered; done = w.done }

abbrev pub untouched : Stage
untouched = record { entered = nothing; done = [] }

-- block b is entered
abbrev pub entering : ℕ → Stage → Stage
entering b s = record { entered = insert b s.entered; done = s.done }

-- the edges of block b are done
abbrev pub finishing : ℕ → Stage → Stage
finishing b s = record { entered = s.entered; done = b ∷ s.done }

-- From the first stage, edges to these blocks lead to the last stage. A block already entered is skipped; another is
-- entered, its edges are taken, and it is finished.
pub data Walks (f : Function) : Stage → List ℕ → Stage → Type 0 where
  finished : {s : Stage} → Walks f s [] s
  skips : {s r : Stage} {t : ℕ} {ts : List ℕ} → T (s.entered t) → Walks f s ts r → Walks f s (t ∷ ts) r
  enters :
      {s inside r : Stage} {t : ℕ} {ts : List ℕ} → T (not (s.entered t))
      → Walks f (entering t s) (successors f t) inside → Walks f (finishing t inside) ts r → Walks f s (t ∷ ts) r

module _ {f : Function} where
  -- a walk along one edge, and on along others
  walks-cons : {s m r : Stage} {t : ℕ} {ts : List ℕ} → Walks f s (t ∷ []) m → Walks f m ts r → Walks f s (t ∷ ts) r
  walks-cons (skips y finished) w = skips y w
  walks-cons (enters n i finished) w = enters n i w

  -- What is entered stays entered.
  pub walks-grow : {s r : Stage} {ts : List ℕ} → Walks f s ts r → Within s.entered r.entered
  walks-grow finished x h = h
  walks-grow (skips y w) x h = walks-grow w x h
  walks-grow (enters {s = s} {t = t} n i w) x h = walks-grow w x (walks-grow i x (insert-there t s.entered x h))

  -- Every block that an edge leads to is entered in the end.
  pub walks-enter : {s r : Stage} {ts : List ℕ} → Walks f s ts r → {x : ℕ} → x ∈ ts → T (r.entered x)
  walks-enter finished m = absurd (not-∈-nil m)
  walks-enter (skips {t = t} y w) {x} m = ∈-elim (λ (e : x ≡ t). rw e (walks-grow w t y)) (walks-enter w) m
  walks-enter (enters {s = s} {t = t} n i w) {x} m =
      ∈-elim (λ e. walks-grow w x (walks-grow i x (insert-here t s.entered e))) (walks-enter w) m

module _ (f : Function) where
  -- how many blocks of the file are not entered
  abbrev unseen : Walk → ℕ
  unseen w = lack one (length f.blocks) (stage_of w).entered

  -- where this depth is enough, the walk of the definition into a block is the walk of the relation
  abbrev Deep : ℕ → Type 0
  Deep depth = (w : Walk) (b : ℕ) → unseen w < depth → Walks f (stage_of w) (b ∷ []) (stage_of (enter f depth w b))

  -- then along a list of edges, too
  foldl-walks :
      (depth : ℕ) → Deep depth → (w : Walk) (ts : List ℕ) → unseen w < depth
      → Walks f (stage_of w) ts (stage_of (foldl (enter f depth) w ts))
  foldl-walks depth deep w [] l = finished
  foldl-walks depth deep w (t ∷ ts) l =
      let next : Walk = enter f depth w t in
      let fewer : unseen next ≤ unseen w =
      lack-mono one (length f.blocks) (stage_of w).entered (stage_of next).entered (walks-grow (deep w t l)) in
      walks-cons (deep w t l) (foldl-walks depth deep next ts (omega arith))

  -- And along the edges of a new block with one less depth: either it is of the file, and one less is not entered; or
  -- it has no edges.
  new_walks :
      (depth : ℕ) → Deep depth → (w : Walk) (b : ℕ) → unseen w < suc depth → T (not (has b w.entered))
      → let now : Walk = record { entered = b ∷ w.entered; done = w.done } in
      Walks f (stage_of now) (successors f b) (stage_of (foldl (enter f depth) now (successors f b)))
  new_walks depth deep w b l new = test-elim (ltb b (length f.blocks)) inside outside
    where
      now : Walk
      now = record { entered = b ∷ w.entered; done = w.done }

      Along : List ℕ → Type 0
      Along ts = Walks f (stage_of now) ts (stage_of (foldl (enter f depth) now ts))

      inside : T (ltb b (length f.blocks)) → Along (successors f b)
      inside h =
          let less : b < length f.blocks = ltb→lt b (length f.blocks) h in
          let fewer : unseen now + 1 ≤ unseen w =
          lack-insert one (length f.blocks) (stage_of w).entered b less new in
          foldl-walks depth deep now (successors f b) (omega arith)

      outside : T (not (ltb b (length f.blocks))) → Along (successors f b)
      outside h = subst Along (sym (successors-outside f b (nltb→le b (length f.blocks) h))) finished

  -- Every walk of the definition is a walk of the relation, if it may go deeper than the blocks not entered are many.
  pub enter-walks : (depth : ℕ) → Deep depth
  enter-walks zero w b l = absurd (omega arith)
  enter-walks (suc depth) w b l =
      let now : Walk = record { entered = b ∷ w.entered; done = w.done } in
      let end : Walk = foldl (enter f depth) now (successors f b) in
      if-elim (λ (r : Walk). Walks f (stage_of w) (b ∷ []) (stage_of r)) (has b w.entered) w
      (record { entered = end.entered; done = b ∷ end.done })
      (λ seen. skips seen finished)
      (λ new. enters new (new_walks depth (enter-walks depth) w b l new) finished)

  -- the walk of the definition that gives the indices, at its end
  abbrev pub walked : Walk
  walked = enter f (suc (length f.blocks)) (record { entered = []; done = [] }) 0

  -- Its depth is enough: it is the walk from block 0.
  pub walked-walks : Walks f untouched (0 ∷ []) (stage_of walked)
  walked-walks =
      enter-walks (suc (length f.blocks)) (record { entered = []; done = [] }) 0
      (omega (arith, lack-one-le (length f.blocks) nothing))
