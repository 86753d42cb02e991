-- What a tree is read from are words of 32 bits: its tags and indices fit, and its values have a value's size.
use Rattle.std.specs.Prelude.{ℕ, zero, suc, ◌+◌, ◌≤◌, ◌<◌, ◌≡◌, refl, true, false, not, ◌&&◌, cond, List, [], ◌∷◌, map, get_or, drop, T, ltb}
use native.Mathlib.Omega.{arith}
use Rattle.std.proofs.Common.{sym, ap, ◌∙◌, leb→le, ltb→lt}
use Rattle.std.proofs.Math.Path.{subst}
use Rattle.std.proofs.Math.Bool.{Bool}
use mathlib.Core.List.Memᴰ
use Rattle.std.proofs.Math.Dec.{leb, eqb}
use Rattle.rules.specs.Limits.{record_bytes}
use Rattle.rules.specs.Lists.{all, has}
use Rattle.rules.specs.Tree.{Value, Edge, Instruction, Block}
use Rattle.rules.specs.Records.{IsBytes, word_at, bit, slot_sizes, log2, is_safepoint, is_terminator, edge_argument, decode, encode, kind}
use Rattle.rules.specs.Records.{record_at, record_count, each_from, records}
use Rattle.rules.specs.File.{Section, cut, ordered, of_kind, instruction_of, opens_item, function, function_in}
use Rattle.rules.specs.Graph.{instructions_of}
use Rattle.rules.specs.Refusals.{all_edges}
use Rattle.rules.specs.declared.EdgeArgument.{EdgeArgument}
use Rattle.rules.specs.declared.EdgeArgument.TheVariants as passes
use Rattle.rules.specs.declared.Record.{Record}
use Rattle.rules.specs.declared.Record.TheVariants as record'
use Rattle.rules.specs.declared.Words.{Words}
use Rattle.lists.specs.Tests.{and_left, and_right, passes_at}
use Rattle.lists.specs.Members.{◌∈◌, here, there, not-∈-nil, ∈-elim, all→∈, ∈-concat_map}
use Rattle.records.specs.Writing.{IsWord}
use Rattle.records.specs.Values.{value_of}
use Rattle.records.specs.InOrder.{whole, cut-joins}
use Rattle.records.specs.Parts.{is_instruction, in_block, in_body, body-allowed, block-instructions, block-instructions-are, argument, edge_arguments-in-order}
use Rattle.records.specs.Kinds.{kinds-weaken, of_kind-none}
use Rattle.demand3.specs.SlotTables.{ValueSize}
use Rattle.demand3.specs.Verdicts.{block-section}

-- BYTES
byte_small : (s : List ℕ) → IsBytes s → (i : ℕ) → get_or s i 0 < 256
byte_small [] h i = omega arith
byte_small (b ∷ s) h zero = ltb→lt b 256 (and_left (ltb b 256) (all (λ b. ltb b 256) s) h)
byte_small (b ∷ s) h (suc i) = byte_small s (and_right (ltb b 256) (all (λ b. ltb b 256) s) h) i

drop-bytes : (n : ℕ) (s : List ℕ) → IsBytes s → IsBytes (drop n s)
drop-bytes zero s h = h
drop-bytes (suc n) [] h = tt
drop-bytes (suc n) (b ∷ s) h = drop-bytes n s (and_right (ltb b 256) (all (λ b. ltb b 256) s) h)

word_small : (s : List ℕ) → IsBytes s → (i : ℕ) → IsWord (word_at s i)
word_small s h i =
    omega (arith, byte_small s h i, byte_small s h (i + 1), byte_small s h (i + 2), byte_small s h (i + 3))

-- RECORDS
-- the words of a record have 32 bits, and a value's size is a value's
pub record Small (r : Record) : Type 0 where
  pub second : IsWord (encode r).second
  pub third : IsWord (encode r).third
  pub fourth : IsWord (encode r).fourth
  pub value : T (eqb (kind r) 1) → ValueSize (encode r).second

-- a table's 0 or 1
pub bit-small : (b : Bool) → bit b ≤ 1
bit-small true = omega arith
bit-small false = omega arith

-- a slot's logarithm
pub log-small : (size : ℕ) → IsWord (log2 size)
log-small size = go (eqb size 1) (eqb size 2) (eqb size 4) (eqb size 8)
  where
    go : (p q r t : Bool) → IsWord (cond p 0 (cond q 1 (cond r 2 (cond t 3 4))))
    go true q r t = omega arith
    go false true r t = omega arith
    go false false true t = omega arith
    go false false false true = omega arith
    go false false false false = omega arith

-- a row of the table whose record is of another kind than 1
other : (r : Record) → IsWord (encode r).second → IsWord (encode r).third → IsWord (encode r).fourth → T (not (eqb (kind r) 1)) → Small r
other r a b c n = record { second = a; third = b; fourth = c; value = λ t. absurd (clash (eqb (kind r) 1) n t) }
  where
    clash : (c : Bool) → T (not c) → T c → ⊥
    clash true n t = n
    clash false n t = t

outside : Small record'.Outside
outside = other record'.Outside (omega arith) (omega arith) (omega arith) tt

-- a row of the table that may not fit
row : (fits : Bool) (r : Record) → (T fits → Small r) → Small (cond fits r record'.Outside)
row true r h = h tt
row false r h = outside

-- one of two rows
either : (t : Bool) (r s : Record) → Small r → Small s → Small (cond t r s)
either true r s f g = f
either false r s f g = g

edge-argument-small : (a b : ℕ) → IsWord b → Small (record'.EdgeArgument (edge_argument a b))
edge-argument-small a b l = go (eqb a 0) (eqb a 1)
  where
    go : (x y : Bool) → Small (record'.EdgeArgument (cond x (passes.Value b) (cond y (passes.Returned b) (passes.Exception b))))
    go true y = other _ (omega arith) l (omega arith) tt
    go false true = other _ (omega arith) l (omega arith) tt
    go false false = other _ (omega arith) l (omega arith) tt

module _ (k a b c : ℕ) (x : IsWord a) (y : IsWord b) (z : IsWord c) where
  -- the row of a value tests its size
  value_row : (m : Bool) → T (eqb c 0 && (leb 1 a && leb a 64 && leb b 1)) → Small (record'.Value a m)
  value_row m t =
      let sizes = and_left (leb 1 a && leb a 64) (leb b 1) (and_right (eqb c 0) (leb 1 a && leb a 64 && leb b 1) t) in
      record {
        second = x;
        third = omega (arith, bit-small m);
        fourth = omega arith;
        value = λ _. (leb→le 1 a (and_left (leb 1 a) (leb a 64) sizes), leb→le a 64 (and_right (leb 1 a) (leb a 64) sizes));
      }

  decode-small : Small (decode k a b c)
  unfolding decode
  decode-small =
      let two : Bool = eqb b 0 && eqb c 0 in
      let no : IsWord 0 = omega arith in
      either (eqb k 1) _ _ (row (eqb c 0 && (leb 1 a && leb a 64 && leb b 1)) _ (value_row (eqb b 1)))
      (either (eqb k 2) _ _ (row (eqb c 0 && leb a 1) _ (λ _. other (record'.Block (eqb a 1) b) (omega (arith, bit-small (eqb a 1))) y no tt))
      (either (eqb k 3) _ _ (row two _ (λ _. other (record'.Parameter a) x no no tt))
      (either (eqb k 4) _ _
      (row (eqb c 0 && leb a 3) _
      (λ _. other (record'.Instruction (is_safepoint a) (is_terminator a) b)
      (omega (arith, bit-small (is_safepoint a), bit-small (is_terminator a))) y no tt))
      (either (eqb k 5) _ _ (row two _ (λ _. other (record'.Result a) x no no tt))
      (either (eqb k 6) _ _ (row two _ (λ _. other (record'.Argument a) x no no tt))
      (either (eqb k 7) _ _ (row two _ (λ _. other (record'.Edge a) x no no tt))
      (either (eqb k 8) _ _ (row (eqb c 0 && leb a 2) _ (λ _. edge-argument-small a b y))
      (either (eqb k 9) _ _ (row two _ (λ _. other (record'.Context a) x no no tt))
      (either (eqb k 10) _ _ (row (eqb c 0 && (has a slot_sizes && eqb b (log2 a))) _ (λ t. other (record'.Slot a) x (log-small a) no tt))
      (either (eqb k 11) _ _ (row (eqb c 0 && true) _ (λ _. other (record'.MapEntry a b) x y no tt))
      (either (eqb k 12) _ _ (row (eqb c 0 && true) _ (λ _. other (record'.SlotAddress a b) x y no tt))
      (either (eqb k 13) _ _ (row (eqb c 0 && true) _ (λ _. other (record'.Store a b) x y no tt))
      (either (eqb k 14) _ _ (other (record'.Load a b c) x y z tt)
      (either (eqb k 15) _ _ (either (eqb a 0) _ _ (row two _ (λ _. other record'.Jump no no no tt)) outside)
      outside))))))))))))))

-- every record of bytes
pub record-small : (s : List ℕ) → IsBytes s → (r : Record) → r ∈ records s → Small r
unfolding records record_at
record-small s h r m = go (record_count s) s h m
  where
    go : (n : ℕ) (t : List ℕ) → IsBytes t → r ∈ each_from (λ t. record_at t 0) n t → Small r
    go zero t h m = absurd (not-∈-nil m)
    go (suc n) t h m =
        ∈-elim
        (λ e. subst Small (sym e) (decode-small (word_at t 0) (word_at t 4) (word_at t 8) (word_at t 12) (word_small t h 4) (word_small t h 8) (word_small t h 12)))
        (go n (drop record_bytes t) (drop-bytes record_bytes t h)) m

-- THE TREE
-- the words of a kind are a record's
words-from : (k : ℕ) (rs : List Record) (w : Words) → w ∈ of_kind k rs → (r : Record) × (r ∈ rs) × T (eqb (kind r) k) × (w ≡ encode r)
words-from k [] w m = absurd (not-∈-nil m)
words-from k (r ∷ rs) w m =
    go (eqb (kind r) k) (λ t. t) m (λ n. let from = words-from k rs w n in (from.0, there from.1, from.2, from.3))
  where
    go : (c : Bool) → (T c → T (eqb (kind r) k)) → w ∈ elim c [ true ↦ encode r ∷ of_kind k rs | false ↦ of_kind k rs ]
        → (w ∈ of_kind k rs → (x : Record) × (x ∈ (r ∷ rs)) × T (eqb (kind x) k) × (w ≡ encode x))
        → (x : Record) × (x ∈ (r ∷ rs)) × T (eqb (kind x) k) × (w ≡ encode x)
    go true t m later = ∈-elim (λ e. (r, here refl, t tt, e)) later m
    go false t m later = later m

-- the records of a section are the list's
section-within : (opens : ℕ → Bool) (rs : List Record) (t : Section) → t ∈ (cut opens rs).sections → (r : Record) → r ∈ whole t → r ∈ rs
section-within opens rs t m r k = subst (◌∈◌ r) (cut-joins opens rs) (Memᴰ.append_right (cut opens rs).front (∈-concat_map whole m k))

module _ (s : List ℕ) (h : IsBytes s) (order : T (ordered 0 (records s))) where
  -- A value has a value's size,
  pub value-sized : (x : Value) → x ∈ (function_in s).values → ValueSize x.size
  unfolding function
  value-sized x m =
      let word = Memᴰ.of_map value_of (of_kind 1 (records s)) m in
      let from = words-from 1 (records s) word.0 word.1 in
      let small = (record-small s h from.0 from.1).value from.2 in
      subst (λ (y : Value). ValueSize y.size) word.2 (subst (λ (w : Words). ValueSize w.second) (sym from.3) small)

  -- a tag is a word,
  pub tag_small : (b : Block) → b ∈ (function_in s).blocks → (i : Instruction) → i ∈ instructions_of b → IsWord i.tag
  tag_small b m i k =
      let x = block-section (records s) order b m in
      let is : i ∈ map instruction_of (cut opens_item x.0.body).sections =
      subst (◌∈◌ i) (ap instructions_of (sym x.2) ∙ block-instructions-are x.0 x.3) k in
      let t = Memᴰ.of_map instruction_of (cut opens_item x.0.body).sections is in
      let inside = section-within opens_item x.0.body t.0 t.1 t.0.head (here refl) in
      let stands = section-within (eqb 2) (records s) x.0 x.1 t.0.head (there inside) in
      subst (λ (j : Instruction). IsWord j.tag) t.2 (record-small s h t.0.head stands).third

  -- and so is the word of an edge argument.
  pub argument-small : (e : Edge) → e ∈ all_edges (function_in s) → (x : EdgeArgument) → x ∈ e.arguments
      → IsWord (encode (record'.EdgeArgument x)).third
  argument-small e m x k =
      let all-passed = subst (◌∈◌ x) (edge_arguments-in-order (records s) order) (∈-concat_map (λ (e : Edge). e.arguments) m k) in
      let word = Memᴰ.of_map argument (of_kind 8 (records s)) all-passed in
      let from = words-from 8 (records s) word.0 word.1 in
      subst (λ y. IsWord (encode (record'.EdgeArgument y)).third) word.2
      (edge-argument-small word.0.second word.0.third
      (subst (λ (w : Words). IsWord w.third) (sym from.3) (record-small s h from.0 from.1).third)).third

  -- An instruction of an input has no map entries.
  pub entries_none : (b : Block) → b ∈ (function_in s).blocks → (i : Instruction) → i ∈ instructions_of b → i.entries ≡ []
  entries_none b m i k =
      let x = block-section (records s) order b m in
      let ts = (cut opens_item x.0.body).sections in
      let is : i ∈ map instruction_of ts = subst (◌∈◌ i) (ap instructions_of (sym x.2) ∙ block-instructions-are x.0 x.3) k in
      let t = Memᴰ.of_map instruction_of ts is in
      let kinds = body-allowed t.0 (all→∈ is_instruction ts (block-instructions x.0.body x.3) t.1) in
      let none = of_kind-none 11 t.0.body (kinds-weaken in_body (λ j. not (eqb j 11)) no-entry t.0.body kinds) in
      subst (λ (j : Instruction). j.entries ≡ []) t.2 (ap (map (λ (w : Words). record { slot = w.second; size = w.third })) none)
    where
      no-entry : (j : ℕ) → T (in_body j) → T (not (eqb j 11))
      no-entry j h =
          passes_at (λ j. not (eqb j 11)) (3 ∷ 4 ∷ 5 ∷ 6 ∷ 7 ∷ 8 ∷ 9 ∷ []) tt j (and_right (not (opens_item j)) (in_block j) h)
