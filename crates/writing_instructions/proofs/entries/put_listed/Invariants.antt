-- `writing_instructions::entries::put_listed` meets its contract. The invariant: the entries before word k are put.
use Rattle.writing_instructions.proofs.ByWord.{before_word}
use Rattle.writing.specs.Put.{Put}
use Rattle.writing.specs.Parts.{slot_in}
use Rattle.rows.specs.Rows.{rows}
use Rattle.rules.specs.Graph.{size_of}
use Rattle.rules.specs.File.{function_in}
use Rattle.writing_instructions.proofs.entries.put_listed.Given as goal

abbrev pub invariant-loop-k : goal.invariant-loop-k
invariant-loop-k l = Put l.initial.out (before_word (size_of (function_in l.homes.file.bytes.now)) (slot_in l.homes.slots.now) (rows l.lists.rows.now l.i) l.lists.values l.k) l.out
