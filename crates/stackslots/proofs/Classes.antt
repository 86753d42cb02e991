-- The classes of sizes: what their numbers say, and what a match on a size's class finds.
use Prim.Native.Nat.{ℕ, ◌^◌, ◌<◌}
use mathlib.Core.Path.{◌≡◌, refl, sym, ap, subst, ◌∙◌}
use native.Mathlib.Omega.{arith}
use lib.Dec.{T}
use Rattle.std.specs.Prelude.{Some, None}
use Rattle.std.specs.Option.{is_some}
use Rattle.rules.specs.Lists.{has}
use Rattle.rules.specs.Records.{slot_sizes, log2}
use Rattle.lists.specs.Tests.{test-elim, is_true, is_false}
use Rattle.slots.specs.Classes.{class_of, index, bytes, log2-bytes, class-of-bytes, class-of-slot-size, no-class}
use Rattle.slots.specs.declared.SlotSize.{SlotSize}
use Rattle.slots.specs.declared.SlotSize.TheVariants as slot

-- NUMBERS. Classes of one number have one size.
class-power : (c : SlotSize) → bytes c ≡ 2 ^ index c
class-power slot.Size8 = refl
class-power slot.Size16 = refl
class-power slot.Size32 = refl
class-power slot.Size64 = refl
class-power slot.Size128 = refl

pub index-sizes : (c d : SlotSize) → index c ≡ index d → bytes c ≡ bytes d
index-sizes c d e = class-power c ∙ ap (λ i. 2 ^ i) e ∙ sym (class-power d)

pub index-less : (c : SlotSize) → index c < 5
index-less slot.Size8 = omega arith
index-less slot.Size16 = omega arith
index-less slot.Size32 = omega arith
index-less slot.Size64 = omega arith
index-less slot.Size128 = omega arith

-- a size that a slot can have has a class, whose number is its logarithm
pub class-number : (size : ℕ) → T (has size slot_sizes) → (class : ℕ) → class ≡ log2 size → (c : SlotSize) × (bytes c ≡ size) × (class ≡ index c)
class-number size fits class e =
    let own = class-of-slot-size size fits in (own.0, own.1, e ∙ ap log2 (sym own.1) ∙ log2-bytes own.0)

-- A SIZE'S CLASS. There is one exactly where a slot can have the size,
pub class-known : (size : ℕ) → is_some (class_of size) ≡ has size slot_sizes
class-known size =
    test-elim (has size slot_sizes)
    (λ y.
    let own = class-of-slot-size size y in
    ap is_some (ap class_of (sym own.1) ∙ class-of-bytes own.0) ∙ sym (is_true (has size slot_sizes) y))
    (λ n. ap is_some (no-class size n) ∙ sym (is_false (has size slot_sizes) n))

-- and then its number is the size's logarithm
pub class-found : (size : ℕ) → T (has size slot_sizes) → (c : SlotSize) → class_of size ≡ Some c → index c ≡ log2 size
class-found size fits c e =
    let own = class-of-slot-size size fits in
    let found : Some own.0 ≡ Some c = sym (class-of-bytes own.0) ∙ ap class_of own.1 ∙ e in
    let same : own.0 ≡ c = cc in
    sym (log2-bytes c) ∙ ap log2 (ap bytes (sym same) ∙ own.1)

pub class-missing : (size : ℕ) → T (has size slot_sizes) → class_of size ≡ None → ⊥
class-missing size fits e = subst T (sym (class-known size) ∙ ap is_some e) fits
