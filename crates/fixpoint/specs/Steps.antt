-- One step of the process, field by field: what a visit leaves, and which entry it takes. What holds of every state
-- that a visit leaves then holds after any number of steps.
use Rattle.std.specs.Prelude.{ℕ, zero, suc, ◌+◌, ◌≡◌, refl, Bool, true, false, ◌||◌, cond, ◌⊎◌, length, T, eqb}
use Rattle.std.proofs.Common.{arith, sym, ap, subst, ◌∙◌, inl, inr, ⊎_elim, T_not}
use mathlib.Core.List.{List, [], ◌∷◌, reverse, reverse_aux, reverse-reverse, nil≢cons, head-eq_of_cons-eq}
use Rattle.std.proofs.lemmas.List.{length-reverse}
use Rattle.rules.specs.Lists.{foldl, has, update, NumberSet, nothing, union, adding, grew}
use Rattle.rules.specs.Tree.{Function}
use Rattle.rules.specs.Graph.{reachable}
use Rattle.rules.specs.Liveness.{through, State, push, start, predecessors, joined, visit, popped, visit_top, step}
use Rattle.rules.specs.Liveness.{after}
use Rattle.lists.specs.Tests.{if-elim, T-ext, or_elim, or_left}
use Rattle.lists.specs.Members.{◌∈◌, here, there, not-∈-nil, has→∈, ∈→has, ∈-reverse_aux, ∈-reverse_aux-left}

-- a state with all these pushed, in order
abbrev pub push_all : State → List ℕ → State
push_all s ps =
    record {
      ins = s.ins;
      outs = s.outs;
      stack = reverse_aux ps s.stack;
      pending = adding ps s.pending;
      visited = s.visited;
      pushes = s.pushes + length ps;
    }

-- a state from its parts
state-ext :
    {s t : State} → s.ins ≡ t.ins → s.outs ≡ t.outs → s.stack ≡ t.stack → s.pending ≡ t.pending
    → s.visited ≡ t.visited → s.pushes ≡ t.pushes → s ≡ t
state-ext a b c d e g =
    λ i. record { ins = a i; outs = b i; stack = c i; pending = d i; visited = e i; pushes = g i }

also-pending : (a b c : Bool) → b || cond a true c ≡ (a || b) || c
also-pending true true c = refl
also-pending true false c = refl
also-pending false b c = refl

-- Pushes one after the other are these.
pub foldl-push : (s : State) (ps : List ℕ) → foldl push s ps ≡ push_all s ps
foldl-push s [] = state-ext refl refl refl refl refl (omega arith)
foldl-push s (p ∷ ps) =
    foldl-push (push s p) ps
    ∙ state-ext refl refl refl (λ i x. also-pending (eqb x p) (has x ps) (s.pending x) i) refl (omega arith)

-- the state at first: nothing is live, and every reachable block is pending, by ascending index from the top
abbrev pub first : Function → State
first f =
    record {
      ins = λ _. nothing;
      outs = λ _. nothing;
      stack = reachable f;
      pending = λ x. has x (reachable f);
      visited = [];
      pushes = length (reachable f);
    }

reverse-has : (l : List ℕ) (x : ℕ) → has x (reverse l) || false ≡ has x l
reverse-has l x =
    T-ext (has x (reverse l) || false) (has x l)
    (or_elim (has x (reverse l)) false
    (λ t. ∈→has (⊎_elim (λ m. m) (λ m. absurd (not-∈-nil m)) (∈-reverse_aux l [] (has→∈ (reverse l) t))))
    (λ t. absurd t))
    (λ t. or_left (has x (reverse l)) false (∈→has (∈-reverse_aux-left [] (has→∈ l t))))

-- The process starts there.
pub start_first : (f : Function) → start f ≡ first f
start_first f =
    foldl-push _ (reverse (reachable f))
    ∙ state-ext refl refl (reverse-reverse (reachable f)) (λ i x. reverse-has (reachable f) x i) refl
    (omega (arith, length-reverse (reachable f)))

-- live-out of b as a visit leaves it
abbrev pub new_out : Function → State → ℕ → NumberSet
new_out f s b = union (s.outs b) (joined f s.ins b)

-- live-in of b as a visit leaves it
abbrev pub new_in : Function → State → ℕ → NumberSet
new_in f s b = union (s.ins b) (through f b (new_out f s b))

-- a visit of b makes its live-in grow
abbrev pub grows : Function → State → ℕ → Bool
grows f s b = grew (length f.values) (s.ins b) (through f b (new_out f s b))

-- what a visit of b pushes
abbrev pub pushed : Function → State → ℕ → List ℕ
pushed f s b = elim (grows f s b) [ true ↦ predecessors f b | false ↦ [] ]

-- what a visit of b leaves, whose entry was popped off rest
abbrev pub after_visit : Function → State → ℕ → List ℕ → State
after_visit f s b rest =
    record {
      ins = update b (new_in f s b) s.ins;
      outs = update b (new_out f s b) s.outs;
      stack = reverse_aux (pushed f s b) rest;
      pending = adding (pushed f s b) (update b false s.pending);
      visited = b ∷ s.visited;
      pushes = s.pushes + length (pushed f s b);
    }

-- A visit leaves that.
pub visit-leaves : (f : Function) (s : State) (b : ℕ) (rest : List ℕ) → visit f s b rest ≡ after_visit f s b rest
visit-leaves f s b rest = go (grows f s b)
  where
    left : State
    left =
        record {
          ins = update b (new_in f s b) s.ins;
          outs = update b (new_out f s b) s.outs;
          stack = rest;
          pending = update b false s.pending;
          visited = b ∷ s.visited;
          pushes = s.pushes;
        }

    go :
        (g : Bool)
        → elim g [ true ↦ foldl push left (predecessors f b) | false ↦ left ]
        ≡ push_all left (elim g [ true ↦ predecessors f b | false ↦ [] ])
    go true = foldl-push left (predecessors f b)
    go false = foldl-push left []

-- no entry of the stack counts
abbrev pub Idle : State → Type 0
Idle s = popped s.pending s.stack ≡ []

module _ (pending : NumberSet) where
  -- the entry on top counts
  pub popped-counts : {b : ℕ} {rest : List ℕ} (stack : List ℕ) → popped pending stack ≡ b ∷ rest → T (pending b)
  popped-counts [] e = absurd (nil≢cons e)
  popped-counts {b} {rest} (x ∷ stack) e =
      if-elim (λ (r : List ℕ). r ≡ b ∷ rest → T (pending b)) (pending x) (x ∷ stack) (popped pending stack)
      (λ t q. subst (λ y. T (pending y)) (head-eq_of_cons-eq q) t)
      (λ _. popped-counts stack)
      e

  -- no entry that counts is lost
  pub popped-keeps : {x : ℕ} {stack : List ℕ} → T (pending x) → x ∈ stack → x ∈ popped pending stack
  popped-keeps {x} t (here {x = y} {xs = stack} e) =
      if-elim (λ (r : List ℕ). x ∈ r) (pending y) (y ∷ stack) (popped pending stack) (λ _. here e)
      (λ n. absurd (T_not (pending y) n (subst (λ z. T (pending z)) e t)))
  popped-keeps {x} t (there {x = y} {xs = stack} m) =
      if-elim (λ (r : List ℕ). x ∈ r) (pending y) (y ∷ stack) (popped pending stack) (λ _. there m)
      (λ _. popped-keeps t m)

module _ (f : Function) where
  -- To prove something of a step, prove it where no entry counts, and of what the visit of the topmost one that counts
  -- leaves.
  pub step-elim :
      (P : State → Type 0) (s : State) → (Idle s → P s)
      → ((b : ℕ) (rest : List ℕ) → popped s.pending s.stack ≡ b ∷ rest → P (after_visit f s b rest))
      → P (step f s)
  step-elim P s idle busy = go (popped s.pending s.stack) refl
    where
      go : (l : List ℕ) → popped s.pending s.stack ≡ l → P (visit_top f s l)
      go [] e = idle e
      go (b ∷ rest) e = subst P (sym (visit-leaves f s b rest)) (busy b rest e)

  -- what every step keeps, any number of steps keeps
  pub after-keeps :
      (P : State → Type 0) → ((s : State) → P s → P (step f s)) → (k : ℕ) (s : State) → P s → P (after f k s)
  after-keeps P keeps zero s h = h
  after-keeps P keeps (suc k) s h = keeps (after f k s) (after-keeps P keeps k s h)

  -- With any cuts the end is the same: k steps and then j are j + k.
  pub after-add : (j k : ℕ) (s : State) → after f (j + k) s ≡ after f j (after f k s)
  after-add zero k s = let none : 0 + k ≡ k = omega arith in ap (λ n. after f n s) none
  after-add (suc j) k s =
      let more : suc j + k ≡ suc (j + k) = omega arith in
      ap (λ n. after f n s) more ∙ ap (step f) (after-add j k s)

  -- where no entry counts, a step changes nothing,
  pub step-idle : (s : State) → Idle s → step f s ≡ s
  step-idle s e = ap (visit_top f s) e

  -- and so do any number of them.
  pub after-idle : (k : ℕ) (s : State) → Idle s → after f k s ≡ s
  after-idle zero s e = refl
  after-idle (suc k) s e = ap (step f) (after-idle k s e) ∙ step-idle s e

  -- After k steps there are k visits more, unless no entry counts.
  pub after-counts :
      (k : ℕ) (s : State) → Idle (after f k s) ⊎ (length (after f k s).visited ≡ k + length s.visited)
  after-counts zero s = inr (omega arith)
  after-counts (suc k) s =
      ⊎_elim (λ e. inl (subst Idle (sym (step-idle (after f k s) e)) e))
      (λ n.
      step-elim (λ t. Idle t ⊎ (length t.visited ≡ suc k + length s.visited)) (after f k s) inl
      (λ b rest _. inr (omega arith)))
      (after-counts k s)
