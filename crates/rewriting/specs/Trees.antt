-- The tree of an accepted file.
use Rattle.std.specs.Prelude.{ℕ, List, T, is_ok}
use Rattle.rules.specs.Records.{records}
use Rattle.rules.specs.File.{function_in}
use Rattle.rules.specs.Refusals.{first_of, file_refusals}
use Rattle.walks.specs.InFile.{blocks-some}
use Rattle.agreement.specs.Accepted.{Accepted}
use Rattle.demand3.specs.Verdicts.{plain}
use Rattle.acceptance.specs.Survey.{accepted-is}

pub accepted-tree : (s : List ℕ) → T (is_ok (first_of (file_refusals s))) → Accepted (function_in s)
accepted-tree s passes =
    let a = accepted-is s passes in
    record {
      some_block = blocks-some (records s) a.readable.in_order;
      numbered = a.readable.numbered;
      in-file = a.readable.in_file;
      is-sound = a.is_sound;
      plain = plain (records s) a.readable.in_order;
    }
