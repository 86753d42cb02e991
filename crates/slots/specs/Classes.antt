-- The class of a slot's size: document 01's five sizes, each with its logarithm for a number.
use Rattle.std.specs.Prelude.{ℕ, ◌≡◌, refl, Bool, true, false, not, ◌||◌, cond, [], ◌∷◌, T, eqb, Option, Some, None}
use Rattle.std.proofs.Common.{sym, eqb→eq}
use Rattle.rules.specs.Lists.{has}
use Rattle.rules.specs.Records.{slot_sizes, log2}
use Rattle.lists.specs.Tests.{or_elim}
use Rattle.slots.specs.declared.SlotSize.{SlotSize}
use Rattle.slots.specs.declared.SlotSize.TheVariants as slot

-- the class of a size in bytes, if a slot can have that size
unfoldable pub class_of : ℕ → Option SlotSize
class_of n =
    cond (eqb n 1) (Some slot.Size8)
    (cond (eqb n 2) (Some slot.Size16)
    (cond (eqb n 4) (Some slot.Size32)
    (cond (eqb n 8) (Some slot.Size64)
    (cond (eqb n 16) (Some slot.Size128)
    None))))

-- the number of a class
abbrev pub index : SlotSize → ℕ
index slot.Size8 = 0
index slot.Size16 = 1
index slot.Size32 = 2
index slot.Size64 = 3
index slot.Size128 = 4

-- the size of a class, in bytes
abbrev pub bytes : SlotSize → ℕ
bytes slot.Size8 = 1
bytes slot.Size16 = 2
bytes slot.Size32 = 4
bytes slot.Size64 = 8
bytes slot.Size128 = 16

-- a class is that of its size, which a slot can have, and its number is the size's logarithm
pub class-of-bytes : (c : SlotSize) → class_of (bytes c) ≡ Some c
unfolding class_of
class-of-bytes slot.Size8 = refl
class-of-bytes slot.Size16 = refl
class-of-bytes slot.Size32 = refl
class-of-bytes slot.Size64 = refl
class-of-bytes slot.Size128 = refl

pub bytes-slot-size : (c : SlotSize) → T (has (bytes c) slot_sizes)
bytes-slot-size slot.Size8 = tt
bytes-slot-size slot.Size16 = tt
bytes-slot-size slot.Size32 = tt
bytes-slot-size slot.Size64 = tt
bytes-slot-size slot.Size128 = tt

pub log2-bytes : (c : SlotSize) → log2 (bytes c) ≡ index c
log2-bytes slot.Size8 = refl
log2-bytes slot.Size16 = refl
log2-bytes slot.Size32 = refl
log2-bytes slot.Size64 = refl
log2-bytes slot.Size128 = refl

-- exactly the sizes that a slot can have have a class
pub class-of-slot-size : (n : ℕ) → T (has n slot_sizes) → (c : SlotSize) × (bytes c ≡ n)
class-of-slot-size n =
    or_elim (eqb n 1) (has n (2 ∷ 4 ∷ 8 ∷ 16 ∷ [])) (λ e. (slot.Size8, sym (eqb→eq n 1 e)))
    (or_elim (eqb n 2) (has n (4 ∷ 8 ∷ 16 ∷ [])) (λ e. (slot.Size16, sym (eqb→eq n 2 e)))
    (or_elim (eqb n 4) (has n (8 ∷ 16 ∷ [])) (λ e. (slot.Size32, sym (eqb→eq n 4 e)))
    (or_elim (eqb n 8) (has n (16 ∷ [])) (λ e. (slot.Size64, sym (eqb→eq n 8 e)))
    (or_elim (eqb n 16) false (λ e. (slot.Size128, sym (eqb→eq n 16 e))) (λ x. absurd x)))))

pub no-class : (n : ℕ) → T (not (has n slot_sizes)) → class_of n ≡ None
unfolding class_of
no-class n h = go (eqb n 1) (eqb n 2) (eqb n 4) (eqb n 8) (eqb n 16) h
  where
    go : (a b c d e : Bool) → T (not (a || (b || (c || (d || (e || false))))))
        → cond a (Some slot.Size8) (cond b (Some slot.Size16) (cond c (Some slot.Size32)
        (cond d (Some slot.Size64) (cond e (Some slot.Size128) None)))) ≡ None
    go true b c d e h = absurd h
    go false true c d e h = absurd h
    go false false true d e h = absurd h
    go false false false true e h = absurd h
    go false false false false true h = absurd h
    go false false false false false h = refl
