-- The entries of a stack that count, each once, where it stands first: what a pop and a push do to them.
use Rattle.std.specs.Prelude.{ℕ, ◌≡◌, refl, Bool, true, false, not, cond, T, eqb}
use Rattle.std.proofs.Common.{sym, ap, subst, ◌∙◌, T_not, eqb→eq}
use mathlib.Core.List.{List, [], ◌∷◌, Nodup, Nodup-cons}
use Rattle.rules.specs.Lists.{has, update, NumberSet}
use Rattle.rules.specs.Liveness.{popped}
use Rattle.lists.specs.Tests.{test-elim, if-elim, chosen}
use Rattle.lists.specs.Members.{◌∈◌, here, there, not-∈-nil, ∈-elim, ∈→has}
use Rattle.fixpoint.specs.Finding.{update_here, ∈-keep, keep-∈}
use Rattle.fixpoint.specs.Removal.{remove, move_to_top, remove-head, remove-other, remove-comm, remove-idem}
use Rattle.fixpoint.specs.Removal.{remove_absent}
use Rattle.fixpoint.specs.Steps.{popped-counts}

-- the entries that count, each where it stands first
pub counting : NumberSet → List ℕ → List ℕ
counting pending [] = []
counting pending (b ∷ stack) =
    elim (pending b) [ true ↦ move_to_top b (counting pending stack) | false ↦ counting pending stack ]

-- every entry counts
pub counting-pending : (pending : NumberSet) {x : ℕ} (stack : List ℕ) → x ∈ counting pending stack → T (pending x)
unfolding counting
counting-pending pending [] m = absurd (not-∈-nil m)
counting-pending pending {x} (b ∷ stack) m =
    if-elim (λ (r : List ℕ). x ∈ r → T (pending x)) (pending b) (move_to_top b (counting pending stack))
    (counting pending stack)
    (λ t.
    ∈-elim (λ e. subst (λ y. T (pending y)) (sym e) t)
    (λ k. counting-pending pending stack (keep-∈ (λ y. not (eqb y b)) (counting pending stack) k)))
    (λ _. counting-pending pending stack)
    m

-- and what counts is there
pub ∈-counting : (pending : NumberSet) {x : ℕ} {stack : List ℕ} → T (pending x) → x ∈ stack → x ∈ counting pending stack
unfolding counting
∈-counting pending {x} t (here {x = b} {xs = stack} e) =
    if-elim (λ (r : List ℕ). x ∈ r) (pending b) (move_to_top b (counting pending stack)) (counting pending stack)
    (λ _. here e)
    (λ n. absurd (T_not (pending b) n (subst (λ y. T (pending y)) e t)))
∈-counting pending {x} t (there {x = b} {xs = stack} m) =
    let k = ∈-counting pending t m in
    if-elim (λ (r : List ℕ). x ∈ r) (pending b) (move_to_top b (counting pending stack)) (counting pending stack)
    (λ _.
    test-elim (eqb x b) (λ same. here (eqb→eq x b same))
    (λ other. there (∈-keep (λ y. not (eqb y b)) k other)))
    (λ _. k)

-- a block that is no longer pending is taken out
counting-off :
    (pending : NumberSet) (b : ℕ) (stack : List ℕ)
    → counting (update b false pending) stack ≡ remove b (counting pending stack)
unfolding counting
counting-off pending b [] = refl
counting-off pending b (x ∷ stack) =
    go (pending x) (eqb x b) refl (eqb→eq x b) (counting-off pending b stack)
  where
    C : List ℕ
    C = counting pending stack

    D : List ℕ
    D = counting (update b false pending) stack

    go :
        (p e : Bool) → eqb x b ≡ e → (T e → x ≡ b) → D ≡ remove b C
        → elim (cond e false p) [ true ↦ move_to_top x D | false ↦ D ]
        ≡ remove b (elim p [ true ↦ move_to_top x C | false ↦ C ])
    go true true q same ih =
        ih
        ∙ sym (remove-idem b C)
        ∙ ap (λ y. remove b (remove y C)) (sym (same tt))
        ∙ sym (remove-head b x (remove x C) (subst T (sym q) tt))
    go false true q same ih = ih
    go true false q same ih =
        ap (λ r. x ∷ remove x r) ih
        ∙ ap (λ r. x ∷ r) (remove-comm x b C)
        ∙ sym (remove-other b x (remove x C) (subst (λ e. T (not e)) (sym q) tt))
    go false false q same ih = ih

-- an entry that counts stands on top
counting-top :
    (pending : NumberSet) (b : ℕ) (stack : List ℕ) → T (pending b)
    → counting pending (b ∷ stack) ≡ move_to_top b (counting pending stack)
unfolding counting
counting-top pending b stack t =
    chosen (pending b) (move_to_top b (counting pending stack)) (counting pending stack) t

off-on : (e p : Bool) → cond e false (cond e true p) ≡ cond e false p
off-on true p = refl
off-on false p = refl

-- a block that is pushed is moved to the top
pub counting-on :
    (pending : NumberSet) (b : ℕ) (stack : List ℕ)
    → counting (update b true pending) (b ∷ stack) ≡ move_to_top b (counting pending stack)
unfolding counting
counting-on pending b stack =
    let now = update b true pending in
    counting-top now b stack (subst T (sym (update_here b true pending)) tt)
    ∙ ap (λ r. b ∷ r)
    (sym (counting-off now b stack)
    ∙ ap (λ p. counting p stack) (λ i x. off-on (eqb x b) (pending x) i)
    ∙ counting-off pending b stack)

-- entries above the topmost one that counts do not
counting-popped : (pending : NumberSet) (stack : List ℕ) → counting pending (popped pending stack) ≡ counting pending stack
unfolding counting
counting-popped pending [] = refl
counting-popped pending (b ∷ stack) = go (pending b) refl (counting-popped pending stack)
  where
    go :
        (p : Bool) → pending b ≡ p → counting pending (popped pending stack) ≡ counting pending stack
        → counting pending (elim p [ true ↦ b ∷ stack | false ↦ popped pending stack ])
        ≡ elim p [ true ↦ move_to_top b (counting pending stack) | false ↦ counting pending stack ]
    go true q ih = counting-top pending b stack (subst T (sym q) tt)
    go false q ih = ih

-- a list without repetitions, all of it pending, is what counts of itself
counting-where :
    (pending : NumberSet) (l : List ℕ) → Nodup l → ((x : ℕ) → x ∈ l → T (pending x)) → counting pending l ≡ l
unfolding counting
counting-where pending [] d h = refl
counting-where pending (b ∷ l) d h =
    let parts = Nodup-cons.0 d in
    counting-top pending b l (h b (here refl))
    ∙ ap (λ r. b ∷ remove b r) (counting-where pending l parts.1 (λ x m. h x (there m)))
    ∙ ap (λ r. b ∷ r) (remove_absent b l (λ m. parts.0 ∣ m ∣₁))

-- so a list without repetitions is what counts where it is what is pending
pub counting-all : (l : List ℕ) → Nodup l → counting (λ x. has x l) l ≡ l
counting-all l d = counting-where (λ x. has x l) l d (λ x m. ∈→has m)

-- where no entry counts, none is left
pub counting-none : (pending : NumberSet) (stack : List ℕ) → popped pending stack ≡ [] → counting pending stack ≡ []
unfolding counting
counting-none pending stack e = sym (counting-popped pending stack) ∙ ap (counting pending) e

-- the topmost one that counts stands on top, and below it is what counts without it
pub counting-some :
    (pending : NumberSet) (stack : List ℕ) {b : ℕ} {rest : List ℕ} → popped pending stack ≡ b ∷ rest
    → counting pending stack ≡ b ∷ counting (update b false pending) rest
counting-some pending stack {b} {rest} e =
    sym (counting-popped pending stack)
    ∙ ap (counting pending) e
    ∙ counting-top pending b rest (popped-counts pending stack e)
    ∙ ap (λ r. b ∷ r) (sym (counting-off pending b rest))
