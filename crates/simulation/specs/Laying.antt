-- Whether a function is another with added items and landings only, by a test. This is the part about shape of a checker
-- of files.
use Rattle.std.specs.Prelude.{ℕ, ◌≡◌, refl, Bool, true, false, not, ◌&&◌, List, [], ◌∷◌, length, T, eqb}
use Rattle.std.proofs.Common.{ap₂, subst, eqb→eq}
use Rattle.rules.specs.Lists.{has}
use Rattle.rules.specs.Tree.{Edge, Instruction, Item, instruction, slot_address, store, load, jump, Block}
use Rattle.lists.specs.Tests.{T_and, test-elim, chosen, left_out}
use Rattle.simulation.specs.Ghost.{same}
use Rattle.simulation.specs.Related.{at, crossing, replaced, Shape, refilled, Laid}

-- EQUAL PARTS
same-eq : (a b : Bool) → T (same a b) → a ≡ b
same-eq true true t = refl
same-eq true false t = absurd t
same-eq false true t = absurd t
same-eq false false t = refl

abbrev pub same_list : List ℕ → List ℕ → Bool
same_list [] [] = true
same_list [] (_ ∷ _) = false
same_list (_ ∷ _) [] = false
same_list (x ∷ xs) (y ∷ ys) = eqb x y && same_list xs ys

pub same-list : (xs ys : List ℕ) → T (same_list xs ys) → xs ≡ ys
same-list [] [] t = refl
same-list [] (_ ∷ _) t = absurd t
same-list (_ ∷ _) [] t = absurd t
same-list (x ∷ xs) (y ∷ ys) t =
    let both = T_and (eqb x y) (same_list xs ys) t in
    ap₂ (λ z zs. z ∷ zs) (eqb→eq x y both.0) (same-list xs ys both.1)

-- j is i but for arguments, map entries, and what its edges are, which are as many
abbrev pub replaced_ok : Instruction → Instruction → Bool
replaced_ok i j =
    same i.safepoint j.safepoint
    && (same i.terminator j.terminator
    && (eqb i.tag j.tag
    && (same_list i.results j.results
    && (same_list i.contexts j.contexts && eqb (length j.edges) (length i.edges)))))

replaced-ok : (i j : Instruction) → T (replaced_ok i j)
    → (replaced i j.arguments j.edges j.entries ≡ j) × (length j.edges ≡ length i.edges)
replaced-ok i j t =
    let t₁ = T_and (same i.safepoint j.safepoint) _ t in
    let t₂ = T_and (same i.terminator j.terminator) _ t₁.1 in
    let t₃ = T_and (eqb i.tag j.tag) _ t₂.1 in
    let t₄ = T_and (same_list i.results j.results) _ t₃.1 in
    let t₅ = T_and (same_list i.contexts j.contexts) (eqb (length j.edges) (length i.edges)) t₄.1 in (
      λ k. record {
        safepoint = same-eq i.safepoint j.safepoint t₁.0 k;
        terminator = same-eq i.terminator j.terminator t₂.0 k;
        tag = eqb→eq i.tag j.tag t₃.0 k;
        arguments = j.arguments;
        results = same-list i.results j.results t₄.0 k;
        edges = j.edges;
        contexts = same-list i.contexts j.contexts t₅.0 k;
        entries = j.entries;
      },
      eqb→eq (length j.edges) (length i.edges) t₅.1,
    )

-- ITEMS of a landing, and of a block
abbrev pub landing_items_ok : List Item → Bool
landing_items_ok [] = false
landing_items_ok (instruction _ ∷ js) = false
landing_items_ok (slot_address _ _ ∷ js) = landing_items_ok js
landing_items_ok (store _ _ ∷ js) = landing_items_ok js
landing_items_ok (load _ _ _ ∷ js) = landing_items_ok js
landing_items_ok (jump _ ∷ []) = true
landing_items_ok (jump _ ∷ _ ∷ _) = false

landing-items : (e : Edge) (js : List Item) → T (landing_items_ok js) → Shape (crossing e) js
landing-items e [] t = absurd t
landing-items e (instruction _ ∷ js) t = absurd t
landing-items e (slot_address r s ∷ js) t = Shape.added (slot_address r s) tt (landing-items e js t)
landing-items e (store x a ∷ js) t = Shape.added (store x a) tt (landing-items e js t)
landing-items e (load r a size ∷ js) t = Shape.added (load r a size) tt (landing-items e js t)
landing-items e (jump e' ∷ []) t = Shape.lands e e'
landing-items e (jump e' ∷ x ∷ js) t = absurd t

abbrev pub items_ok : List Item → List Item → Bool
items_ok [] [] = true
items_ok (_ ∷ _) [] = false
items_ok is (slot_address _ _ ∷ js) = items_ok is js
items_ok is (store _ _ ∷ js) = items_ok is js
items_ok is (load _ _ _ ∷ js) = items_ok is js
items_ok is (jump _ ∷ js) = false
items_ok [] (instruction _ ∷ js) = false
items_ok (instruction i ∷ is) (instruction j ∷ js) = replaced_ok i j && items_ok is js
items_ok (slot_address _ _ ∷ is) (instruction j ∷ js) = false
items_ok (store _ _ ∷ is) (instruction j ∷ js) = false
items_ok (load _ _ _ ∷ is) (instruction j ∷ js) = false
items_ok (jump _ ∷ is) (instruction j ∷ js) = false

block-items : (is js : List Item) → T (items_ok is js) → Shape (at is) js
block-items [] [] t = Shape.done
block-items (_ ∷ _) [] t = absurd t
block-items is (slot_address r s ∷ js) t = Shape.added (slot_address r s) tt (block-items is js t)
block-items is (store x a ∷ js) t = Shape.added (store x a) tt (block-items is js t)
block-items is (load r a size ∷ js) t = Shape.added (load r a size) tt (block-items is js t)
block-items is (jump _ ∷ js) t = absurd t
block-items [] (instruction _ ∷ js) t = absurd t
block-items (instruction i ∷ is) (instruction j ∷ js) t =
    let both = T_and (replaced_ok i j) (items_ok is js) t in
    let new = replaced-ok i j both.0 in
    subst (λ j. Shape (at (instruction i ∷ is)) (instruction j ∷ js)) new.0
    (Shape.kept i j.arguments j.edges j.entries new.1 (block-items is js both.1))
block-items (slot_address _ _ ∷ is) (instruction j ∷ js) t = absurd t
block-items (store _ _ ∷ is) (instruction j ∷ js) t = absurd t
block-items (load _ _ _ ∷ is) (instruction j ∷ js) t = absurd t
block-items (jump _ ∷ is) (instruction j ∷ js) t = absurd t

-- BLOCKS: one with a number of the original is the original's next
abbrev pub refilled_ok : Block → Block → Bool
refilled_ok b b' =
    same b.cold b'.cold
    && (eqb b.number b'.number && (same_list b.parameters b'.parameters && items_ok b.items b'.items))

refilled-ok : (b b' : Block) → T (refilled_ok b b') → (refilled b b'.items ≡ b') × Shape (at b.items) b'.items
refilled-ok b b' t =
    let t₁ = T_and (same b.cold b'.cold) _ t in
    let t₂ = T_and (eqb b.number b'.number) _ t₁.1 in
    let t₃ = T_and (same_list b.parameters b'.parameters) (items_ok b.items b'.items) t₂.1 in (
      λ k. record {
        cold = same-eq b.cold b'.cold t₁.0 k;
        number = eqb→eq b.number b'.number t₂.0 k;
        parameters = same-list b.parameters b'.parameters t₃.0 k;
        items = b'.items;
      },
      block-items b.items b'.items t₃.1,
    )

module _ (original : List ℕ) where
  abbrev pub laid_ok : List Block → List Block → Bool
  laid_ok [] [] = true
  laid_ok (_ ∷ _) [] = false
  laid_ok [] (l ∷ bs') = not (has l.number original) && (landing_items_ok l.items && laid_ok [] bs')
  laid_ok (b ∷ bs) (b' ∷ bs') =
      elim (has b'.number original) [
        | true ↦ refilled_ok b b' && laid_ok bs bs'
        | false ↦ landing_items_ok b'.items && laid_ok (b ∷ bs) bs'
      ]

  pub laid-ok : (bs bs' : List Block) → T (laid_ok bs bs') → Laid original bs bs'
  laid-ok [] [] t = Laid.done
  laid-ok (_ ∷ _) [] t = absurd t
  laid-ok [] (l ∷ bs') t =
      let t₁ = T_and (not (has l.number original)) _ t in
      let t₂ = T_and (landing_items_ok l.items) _ t₁.1 in
      Laid.landing l t₁.0 (λ e. landing-items e l.items t₂.0) (laid-ok [] bs' t₂.1)
  laid-ok (b ∷ bs) (b' ∷ bs') t =
      let next = refilled_ok b b' && laid_ok bs bs' in
      let landing = landing_items_ok b'.items && laid_ok (b ∷ bs) bs' in
      test-elim (has b'.number original)
      (λ h.
      let both = T_and (refilled_ok b b') (laid_ok bs bs') (subst T (chosen (has b'.number original) next landing h) t) in
      let new = refilled-ok b b' both.0 in
      subst (λ c. Laid original (b ∷ bs) (c ∷ bs')) new.0 (Laid.block b new.1 (laid-ok bs bs' both.1)))
      (λ h.
      let both =
      T_and (landing_items_ok b'.items) (laid_ok (b ∷ bs) bs') (subst T (left_out (has b'.number original) next landing h) t) in
      Laid.landing b' h (λ e. landing-items e b'.items both.0) (laid-ok (b ∷ bs) bs' both.1))
