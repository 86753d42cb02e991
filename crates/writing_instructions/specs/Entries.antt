-- Map entries: what is written for the values on a list, ascending.
use Rattle.std.specs.Prelude.{ℕ, ◌+◌, ◌-◌, ◌<◌, ◌≤◌, ◌≡◌, refl, Bool, true, false, List, [], ◌∷◌, ◌++◌, map}
use Rattle.std.proofs.Common.{sym, ◌∙◌}
use Rattle.std.proofs.Math.Path.{ap}
use native.Mathlib.Omega.{arith}
use Rattle.rules.specs.Lists.{keep, concat_map, up_from, NumberSet, members}
use Rattle.rules.specs.Tree.{MapEntry}
use Rattle.rules.specs.Rewriting.{map_entry}
use Rattle.rules.specs.declared.Record.{Record}
use Rattle.rules.specs.declared.Record.TheVariants as record'
use Rattle.rows.specs.Bits.{bit_at}
use Rattle.writing.specs.Places.{from_to, from_to-same, passed-behind}

-- the values from base on that a word has bits for, as a set
abbrev pub in_word : ℕ → ℕ → NumberSet
in_word word base v = bit_at word (v - base)

-- the entry of a value
abbrev pub entry_of : (ℕ → ℕ) → (ℕ → ℕ) → ℕ → Record
entry_of size slot v = record'.MapEntry (slot v) (size v)

module _ (size slot : ℕ → ℕ) (set : NumberSet) where
  -- if it is on the list
  abbrev pub entry_at : ℕ → List Record
  entry_at v = elim (set v) [ true ↦ entry_of size slot v ∷ [] | false ↦ [] ]

  -- those of the values below n
  abbrev pub entries_below : ℕ → List Record
  entries_below n = from_to entry_at 0 n

  -- the records of map entries
  abbrev written : List ℕ → List Record
  written vs = map (λ (x : MapEntry). record'.MapEntry x.slot x.size) (map (map_entry size slot) vs)

  entries-among : (vs : List ℕ) → written (keep set vs) ≡ concat_map entry_at vs
  entries-among [] = refl
  entries-among (v ∷ vs) = go (set v) (entries-among vs)
    where
      go : (b : Bool) → written (keep set vs) ≡ concat_map entry_at vs
          → written (elim b [ true ↦ v ∷ keep set vs | false ↦ keep set vs ])
          ≡ elim b [ true ↦ entry_of size slot v ∷ [] | false ↦ [] ] ++ concat_map entry_at vs
      go true later = ap (λ (t : List Record). entry_of size slot v ∷ t) later
      go false later = later

  -- the entries of a list that is a set in order
  pub entries-by-value : (n : ℕ) → written (members n set) ≡ entries_below n
  unfolding from_to
  entries-by-value n =
      let all : n ≡ n - 0 = omega arith in
      entries-among (up_from 0 n) ∙ ap (λ (k : ℕ). concat_map entry_at (up_from 0 k)) all

  -- a value on the list has its entry, another none
  pub entry_listed : (v : ℕ) → set v ≡ true → entry_at v ≡ entry_of size slot v ∷ []
  entry_listed v e = ap {B = List Record} (λ b. elim b [ true ↦ entry_of size slot v ∷ [] | false ↦ [] ]) e

  entry-unlisted : (v : ℕ) → set v ≡ false → entry_at v ≡ []
  entry-unlisted v e = ap {B = List Record} (λ b. elim b [ true ↦ entry_of size slot v ∷ [] | false ↦ [] ]) e

  -- the values that are passed over have none
  pub entries-passed :
      (p v r : ℕ) → p ≤ v → v ≤ r → ((u : ℕ) → v ≤ u → u < r → set u ≡ false) → from_to entry_at p v ≡ from_to entry_at p r
  entries-passed p v r k l none = sym (passed-behind entry_at p v r k l (λ u l m. entry-unlisted u (none u l m)))

-- those of the values that a word has bits for, by the word
pub entries-in-word :
    (size slot : ℕ → ℕ) (set : NumberSet) (word base end : ℕ) → ((i : ℕ) → i < 64 → bit_at word i ≡ set (base + i)) → end ≤ base + 64
    → from_to (entry_at size slot (in_word word base)) base end ≡ from_to (entry_at size slot set) base end
entries-in-word size slot set word base end bits far =
    from_to-same (entry_at size slot (in_word word base)) (entry_at size slot set) base end
    (λ v l m.
    let there : base + (v - base) ≡ v = omega arith in
    ap {B = List Record} (λ b. elim b [ true ↦ entry_of size slot v ∷ [] | false ↦ [] ]) (bits (v - base) (omega arith) ∙ ap set there))
