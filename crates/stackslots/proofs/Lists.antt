-- The free lists: what a change of the tables leaves of one.
use Prim.Native.Nat.{ℕ, suc, ◌<◌, ◌≤◌}
use mathlib.Core.Path.{◌≡◌, refl, sym, ap, subst, ◌∙◌}
use mathlib.Core.Logic.{◌≢◌}
use mathlib.Core.List.{List, [], ◌∷◌}
use native.Mathlib.Omega.{arith}
use lib.ListN.{length, get_or, set}
use lib.Seq.{get_or-set_same, get_or-set_other}
use Rattle.rules.specs.Lists.{update}
use Rattle.rules.specs.Records.{log2}
use Rattle.lists.specs.Tests.{neqb→ne}
use Rattle.fixpoint.specs.Finding.{update-elim}
use Rattle.slots.specs.Classes.{index, bytes, log2-bytes}
use Rattle.slots.specs.declared.SlotSize.{SlotSize}
use Rattle.stackslots.specs.Tables.{value_of, Freed}
use Rattle.stackslots.proofs.Classes.{index-sizes}

-- A list is kept where the older nodes are, and the slots of values that have one.
module _
    (steps older older' tags tags' : List ℕ) (n m : ℕ) (le : n ≤ m)
    (nodes : (node : ℕ) → node < n → get_or older' node 0 ≡ get_or older node 0)
    (slots : (v slot : ℕ) → get_or tags v 0 ≡ suc slot → get_or tags' v 0 ≡ suc slot)
  where
    pub freed-kept : (tag : ℕ) (l : List ℕ) → Freed steps n older tags tag l → Freed steps m older' tags' tag l
    freed-kept tag [] h = h
    freed-kept tag (x ∷ rest) h =
        let node = h.0 in (
          node,
          h.1,
          omega (arith, h.2, le),
          slots (value_of steps node) x h.3,
          subst (λ k. Freed steps m older' tags' k rest) (sym (nodes node h.2)) (freed-kept (get_or older node 0) rest h.4),
        )

-- a value that has no slot may get one
pub slots_kept : (tags : List ℕ) (v x : ℕ) → get_or tags v 0 ≡ 0 → (w slot : ℕ) → get_or tags w 0 ≡ suc slot → get_or (set tags v x) w 0 ≡ suc slot
slots_kept tags v x e w slot h =
    get_or-set_other tags v w x 0 (λ same. let z : get_or tags w 0 ≡ 0 = ap (λ u. get_or tags u 0) same ∙ e in omega (arith, h)) ∙ h

-- A list without a first node is empty.
pub freed-none : (steps : List ℕ) (n : ℕ) (older tags : List ℕ) (tag : ℕ) (l : List ℕ) → Freed steps n older tags tag l → tag ≡ 0 → l ≡ []
freed-none steps n older tags tag [] h e = refl
freed-none steps n older tags tag (x ∷ rest) h e = absurd (omega (arith, h.1))

-- A first node is one of the steps so far.
pub freed-bound : (steps : List ℕ) (n : ℕ) (older tags : List ℕ) (tag : ℕ) (l : List ℕ) → Freed steps n older tags tag l → tag ≤ n
freed-bound steps n older tags tag [] h = omega (arith, h)
freed-bound steps n older tags tag (x ∷ rest) h = omega (arith, h.1, h.2)

-- CLASSES. A change of one class's list changes no other.
pub class-changed :
    (steps : List ℕ) (n : ℕ) (older tags heads : List ℕ) (free : ℕ → List ℕ) (c : SlotSize) (tag : ℕ) (l : List ℕ) → index c < length heads
    → Freed steps n older tags tag l
    → ((d : SlotSize) → Freed steps n older tags (get_or heads (index d) 0) (free (bytes d)))
    → (d : SlotSize) → Freed steps n older tags (get_or (set heads (index c) tag) (index d) 0) (update (bytes c) l free (bytes d))
class-changed steps n older tags heads free c tag l inside new old d =
    update-elim (λ (xs : List ℕ). Freed steps n older tags (get_or (set heads (index c) tag) (index d) 0) xs) (bytes c) l free (bytes d)
    (λ same.
    let number : index d ≡ index c = sym (log2-bytes d) ∙ ap log2 same ∙ log2-bytes c in
    subst (λ k. Freed steps n older tags k l)
    (sym (ap (λ i. get_or (set heads (index c) tag) i 0) number ∙ get_or-set_same heads (index c) tag 0 inside)) new)
    (λ other.
    let number : index d ≢ index c =
    λ e. neqb→ne (bytes d) (bytes c) other (index-sizes d c e) in
    subst (λ k. Freed steps n older tags k (free (bytes d))) (sym (get_or-set_other heads (index c) (index d) tag 0 number)) (old d))
