-- `writing_instructions::entries::put_word_entries` meets its contract. The invariant: every entry below the
-- next one is put, and the word is left from it on.
use Rattle.writing_instructions.proofs.InWord.{written_below}
use Rattle.writing.specs.Put.{Put}
use Rattle.writing.specs.Parts.{slot_in}
use Rattle.rows.specs.Words.{Left}
use Rattle.rules.specs.Graph.{size_of}
use Rattle.rules.specs.File.{function_in}
use Prim.Native.Nat.{◌+◌, ◌-◌, ◌≤◌}
use Rattle.writing_instructions.proofs.entries.put_word_entries.Given as goal

abbrev pub invariant-loop-v : goal.invariant-loop-v
invariant-loop-v l = (l.base ≤ l.v) × (l.v ≤ l.base + 64) × Left l.word (l.v - l.base) l.left × Put l.initial.out (written_below (size_of (function_in l.homes.file.bytes.now)) (slot_in l.homes.slots.now) l.word l.base l.end l.v) l.out

abbrev pub decreases-loop-v : goal.decreases-loop-v
decreases-loop-v l = l.end - l.v
