-- What it says of a file that rewriting accepts it: no refusal applies, and its tree is as the laws of rewriting ask.
use Rattle.std.specs.Prelude.{ℕ, ◌*◌, ◌%◌, ◌≡◌, refl, Bool, true, false, not, ◌&&◌, ◌||◌, List, [], ◌∷◌, ◌++◌, map, length, T, ltb, eqb, is_ok}
use Rattle.std.proofs.Common.{sym, ap, subst, ◌∙◌, eqb→eq}
use mathlib.Core.List.Memᴰ
use Rattle.rules.specs.Limits.{record_bytes}
use Rattle.rules.specs.Lists.{all}
use Rattle.rules.specs.Tree.{instruction, Block}
use Rattle.rules.specs.Records.{kind, records}
use Rattle.rules.specs.File.{Section, cut, ordered, instruction_of, item_of, opens_item, block_of, function, function_in}
use Rattle.rules.specs.Graph.{instructions_of}
use Rattle.rules.specs.Refusals.{◌when◌, too_many, numbered_from, numbers_in_file, defined_once, sound, marked_context}
use Rattle.rules.specs.Refusals.{spilled_size, file_refusals}
use Rattle.rules.specs.Services.{is_unchanged, records_of, rewriting_verdict, rewriting_answer}
use Rattle.rules.specs.declared.Record.{Record}
use Rattle.rules.specs.declared.Refusal.TheVariants as refusal
use Rattle.lists.specs.Calls.{passed-ok, answered-passes, none-applies}
use Rattle.lists.specs.Tests.{T_and, and_left, and_right, is_true}
use Rattle.lists.specs.Members.{◌∈◌, all→∈}
use Rattle.walks.specs.InFile.{blocks-some}
use Rattle.records.specs.InOrder.{Sections}
use Rattle.records.specs.Parts.{is_instruction, head-instruction, block-instructions, block-instructions-are, BlockBody, file-blocks, is_block, is_block-body}
use Rattle.agreement.specs.Accepted.{Accepted}

-- what holds of a file, a pointer size and a room that rewriting accepts
pub record FileAccepted (s : List ℕ) (pointer n : ℕ) : Type 0 where
  pub pointer-size : T (eqb pointer 4 || eqb pointer 8)
  pub whole-records : length s % record_bytes ≡ 0
  pub few : T (not (too_many s))
  pub in-order : T (ordered 0 (records s))
  pub numbered : T (numbered_from 0 (function_in s).blocks)
  pub in-file : T (numbers_in_file (function_in s))
  pub once : T (defined_once (function_in s))
  pub is-sound : T (sound (function_in s))
  pub unmarked-contexts : T (not (marked_context (function_in s)))
  pub slot-sizes : T (not (spilled_size (function_in s)))
  pub room : T (not (not (is_unchanged (function_in s)) && ltb n (record_bytes * records_of s pointer)))

-- a test that does not fail passes
not-not : (b : Bool) → T (not (not b)) → T b
not-not true t = tt
not-not false t = absurd t

-- An answered call says all of it.
pub file-accepted : (s : List ℕ) (pointer n : ℕ) → T (is_ok (rewriting_answer s pointer n)) → FileAccepted s pointer n
unfolding rewriting_answer rewriting_verdict file_refusals
file-accepted s pointer n t =
    let f = function_in s in
    let count = records_of s pointer in
    let last =
    (refusal.SlotSize when spilled_size f)
    ∷ (refusal.TooShort count when (not (is_unchanged f) && ltb n (record_bytes * count)))
    ∷ [] in
    let none =
    none-applies ((refusal.PointerSize when not (eqb pointer 4 || eqb pointer 8)) ∷ (file_refusals s ++ last))
    (passed-ok (rewriting_verdict s pointer n) (answered-passes (rewriting_verdict s pointer n) _ t)) in
    let order = T_and (ordered 0 (records s)) (numbered_from 0 f.blocks) (not-not (ordered 0 (records s) && numbered_from 0 f.blocks) none.1.1.1.0) in
    record {
      pointer-size = not-not (eqb pointer 4 || eqb pointer 8) none.0;
      whole-records = eqb→eq (length s % record_bytes) 0 (not-not (eqb (length s % record_bytes) 0) none.1.0);
      few = none.1.1.0;
      in-order = order.0;
      numbered = order.1;
      in-file = not-not (numbers_in_file f) none.1.1.1.1.0;
      once = not-not (defined_once f) none.1.1.1.1.1.0;
      is-sound = not-not (sound f) none.1.1.1.1.1.1.0;
      unmarked-contexts = none.1.1.1.1.1.1.1.0;
      slot-sizes = none.1.1.1.1.1.1.1.1.0;
      room = none.1.1.1.1.1.1.1.1.1.0;
    }

-- THE TREE. The items of a block of a file in order are instructions.
items-are : (ts : List Section) → Sections is_instruction ts → map item_of ts ≡ map instruction (map instruction_of ts)
items-are [] h = refl
items-are (t ∷ ts) h =
    let here = and_left (is_instruction t) (all is_instruction ts) h in
    let later = items-are ts (and_right (is_instruction t) (all is_instruction ts) h) in
    let four : eqb (kind t.head) 4 ≡ true = is_true (eqb (kind t.head) 4) (head-instruction t here) in
    rw four (ap (λ x. instruction (instruction_of t) ∷ x) later)

-- a block of a file in order is read from a section
pub block-section : (rs : List Record) → T (ordered 0 rs) → (b : Block) → b ∈ (function rs).blocks
    → (x : Section) × (x ∈ (cut (eqb 2) rs).sections) × (block_of x ≡ b) × BlockBody x.body
unfolding function
block-section rs h b m =
    let from = Memᴰ.of_map block_of (cut (eqb 2) rs).sections m in
    (from.0, from.1, from.2, is_block-body from.0 (all→∈ is_block (cut (eqb 2) rs).sections (file-blocks rs h) from.1))

-- every block has instructions for items
pub plain : (rs : List Record) → T (ordered 0 rs) → (b : Block) → b ∈ (function rs).blocks → b.items ≡ map instruction (instructions_of b)
plain rs h b m =
    let x = block-section rs h b m in
    subst (λ (c : Block). c.items ≡ map instruction (instructions_of c)) x.2
    (items-are (cut opens_item x.0.body).sections (block-instructions x.0.body x.3)
    ∙ ap (map instruction) (sym (block-instructions-are x.0 x.3)))

-- So the tree is accepted.
pub tree-accepted : (s : List ℕ) (pointer n : ℕ) → FileAccepted s pointer n → Accepted (function_in s)
tree-accepted s pointer n a =
    record {
      some_block = blocks-some (records s) a.in-order;
      numbered = a.numbered;
      in-file = a.in-file;
      is-sound = a.is-sound;
      plain = plain (records s) a.in-order;
    }
