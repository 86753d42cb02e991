-- What rewriting stands on: an accepted file by its tables, with its live sets, its lists and its spilled values as rows.
use Rattle.std.specs.Prelude.{ℕ, ◌*◌, ◌≡◌, true, false, ◌||◌, List, length, eqb}
use Rattle.rules.specs.Limits.{largest_instructions, table_words, row_words}
use Rattle.rules.specs.File.{function_in}
use Rattle.rules.specs.Liveness.{process, lists, is_spilled}
use Rattle.rules.specs.Refusals.{spilled_size}
use Rattle.rules.specs.Services.{is_unchanged}
use Rattle.rows.specs.Rows.{rows}
use Rattle.listing.specs.Crossings.{listed}
use Rattle.acceptance.specs.Survey.{Indexed}
use Rattle.rewriting.specs.declared.Found.{Found}

pub record LiveRows (s places order index outs lists' spilled : List ℕ) (found : Found) : Type 0 where
  pub tables : Indexed s places order index found.blocks
  pub outs-long : length outs ≡ table_words
  pub live : rows outs ≡ (process (function_in s)).outs
  pub lists-long : length lists' ≡ largest_instructions * row_words
  pub listed-rows : rows lists' ≡ listed (function_in s)
  pub spilled-long : length spilled ≡ row_words
  pub spilled-row : rows spilled 0 ≡ is_spilled (function_in s)
  pub instructions : found.instructions ≡ length (lists (function_in s))
  pub visits : found.live.visits ≡ length (process (function_in s)).visited
  pub pushes : found.live.pushes ≡ (process (function_in s)).pushes

-- a pointer has one of two sizes
abbrev pub PointerFine : ℕ → Type 0
PointerFine pointer = (eqb pointer 4 || eqb pointer 8) ≡ true

-- a file of which no refusal up to 9 applies, and of which some value is spilled
pub record Spilling (s places order index outs lists' spilled : List ℕ) (found : Found) (pointer : ℕ) : Type 0 where
  pub rows-found : LiveRows s places order index outs lists' spilled found
  pub pointer-fine : PointerFine pointer
  pub sized : spilled_size (function_in s) ≡ false
  pub changed : is_unchanged (function_in s) ≡ false
