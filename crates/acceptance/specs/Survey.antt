-- The survey of a file: what is said of it, and the tables that it is read by afterwards, filled as far as it was read.
use Rattle.std.specs.Prelude.{ℕ, suc, ◌-◌, ◌<◌, ◌≤◌, ◌≡◌, true, false, not, ◌&&◌, List, ◌++◌, length, take, replicate, T, Result, Ok, Err, is_ok}
use Rattle.std.proofs.Common.{sym, ap, ap₂, subst, ◌∙◌, arith, append-nil}
use Rattle.std.proofs.Math.Seq.{length-take-le, take-append_seam}
use Rattle.rules.specs.Limits.{largest_values, largest_blocks}
use Rattle.rules.specs.Lists.{padded}
use Rattle.rules.specs.Records.{records}
use Rattle.rules.specs.File.{ordered, function_in}
use Rattle.rules.specs.Graph.{reachable}
use Rattle.rules.specs.declared.Refusal.{Refusal}
use Rattle.rules.specs.Refusals.{first_of, too_many, numbered_from, defined_once, sound, marked_context, file_refusals}
use Rattle.acceptance.specs.declared.survey.BlockCounts.{BlockCounts}
use Rattle.lists.specs.Calls.{passed-ok, none-applies}
use Rattle.lists.specs.Tests.{T_and, is_true, chosen}
use Rattle.checks.specs.Definitions.{noted_all, Countable}
use Rattle.graph.specs.Zeros.{zeros-at, length-padded, length-padded-le, padded-own}
use Rattle.lists.specs.Lack.{nodup-length-le}
use Rattle.walks.specs.Reachable.{reachable-nodup}
use Rattle.walks.specs.InFile.{blocks-some, reachable-in-file}
use Rattle.graph.specs.Tails.{TailsLast}
use Rattle.graph.specs.Blocks.{block_table, length-block_table}
use Rattle.graph.specs.Tables.{index_table, length-index_table}
use Rattle.graph.specs.Links.{Walked}
use Rattle.graph.specs.Few.{records-few, values-few, blocks-few}
use Rattle.graph.specs.Room.{Blank, blank-zeros}
use Rattle.soundness.specs.Tails.{sound-tails}
use Rattle.acceptance.specs.Stages.{record_refusals, function_refusals, walk_refusals, records_pass, function_passes, stages-verdict, T_not-not, Formed, function-is, Readable, passed-readable}

-- the tables that a survey fills: how often each value is defined, where blocks start, the reachable blocks by index, each
-- block's index; and the two that the walk only needs
pub record SurveyTables : Type 0 where
  pub counts : List ℕ
  pub places : List ℕ
  pub order : List ℕ
  pub index : List ℕ
  pub stack : List ℕ
  pub next : List ℕ

abbrev pub survey_tables : List ℕ → List ℕ → List ℕ → List ℕ → List ℕ → List ℕ → SurveyTables
survey_tables counts places order index stack next =
    record { counts = counts; places = places; order = order; index = index; stack = stack; next = next }

-- what is lent: zeros, as many as the largest counts ask
pub record BlankTables (t : SurveyTables) : Type 0 where
  pub counts : Blank largest_values t.counts
  pub places : Blank (suc largest_blocks) t.places
  pub order : Blank largest_blocks t.order
  pub index : Blank largest_blocks t.index
  pub stack : Blank largest_blocks t.stack
  pub next : Blank largest_blocks t.next

-- zeros of just those lengths are
pub blank-tables :
    BlankTables
    (survey_tables (replicate largest_values 0) (replicate (suc largest_blocks) 0) (replicate largest_blocks 0) (replicate largest_blocks 0)
    (replicate largest_blocks 0) (replicate largest_blocks 0))
blank-tables =
    let per_block = blank-zeros largest_blocks in
    record {
      counts = blank-zeros largest_values;
      places = blank-zeros (suc largest_blocks);
      order = per_block;
      index = per_block;
      stack = per_block;
      next = per_block;
    }

-- what is handed back. Definitions are counted and blocks found where refusals 2 to 4 let the file pass, and it is walked
-- where 5 to 7 do too; a table that is not come to is as it was lent. Blocks are told only of a file that was walked.
pub record Surveyed (s : List ℕ) (lent back : SurveyTables) (verdict : Result Unit Refusal) (blocks : BlockCounts) : Type 0 where
  pub says : verdict ≡ first_of (file_refusals s)
  pub all-counted : blocks.all ≡ elim (function_passes s) [ true ↦ length (function_in s).blocks | false ↦ 0 ]
  pub counted : blocks.reachable ≡ elim (function_passes s) [ true ↦ length (reachable (function_in s)) | false ↦ 0 ]
  pub counts : back.counts ≡ elim (records_pass s) [ true ↦ noted_all lent.counts (records s) | false ↦ lent.counts ]
  pub places : back.places ≡ elim (records_pass s) [ true ↦ padded (length lent.places) (block_table s) | false ↦ lent.places ]
  pub order : back.order ≡ elim (function_passes s) [ true ↦ padded (length lent.order) (reachable (function_in s)) | false ↦ lent.order ]
  pub index : back.index ≡ elim (function_passes s) [ true ↦ index_table (function_in s) (length lent.index) | false ↦ lent.index ]
  pub stack : back.stack ≡ lent.stack
  pub next : back.next ≡ lent.next

-- WHAT AN ACCEPTED FILE IS.
pub record Accepted (s : List ℕ) : Type 0 where
  pub readable : Readable s
  pub once : T (defined_once (function_in s))
  pub is_sound : T (sound (function_in s))
  pub unmarked : T (not (marked_context (function_in s)))

pub accepted-is : (s : List ℕ) → T (is_ok (first_of (file_refusals s))) → Accepted s
unfolding file_refusals
accepted-is s a =
    let none = none-applies (file_refusals s) (passed-ok (first_of (file_refusals s)) a) in
    let order = T_and (ordered 0 (records s)) (numbered_from 0 (function_in s).blocks) (T_not-not _ none.1.1.0) in
    record {
      readable = record { few = none.1.0; in_order = order.0; numbered = order.1; in_file = T_not-not _ none.1.1.1.0 };
      once = T_not-not _ none.1.1.1.1.0;
      is_sound = T_not-not _ none.1.1.1.1.1.0;
      unmarked = none.1.1.1.1.1.1.0;
    }

-- It passed every stage.
pub accepted-passes :
    (s : List ℕ) → T (is_ok (first_of (file_refusals s))) → T (function_passes s) × T (is_ok (first_of (walk_refusals s)))
accepted-passes s a =
    go (first_of (record_refusals s)) (first_of (function_refusals s)) (first_of (walk_refusals s)) (subst (λ v. T (is_ok v)) (stages-verdict s) a)
  where
    go : (r f w : Result Unit Refusal)
        → T (is_ok (elim (is_ok r) [ true ↦ elim (is_ok f) [ true ↦ w | false ↦ f ] | false ↦ r ]))
        → T (is_ok r && is_ok f) × T (is_ok w)
    go (Ok _) (Ok _) w t = (tt, t)
    go (Ok _) (Err _) w t = absurd t
    go (Err _) f w t = absurd t

-- Definitions can be counted in a blank table.
pub formed-countable : {s counts : List ℕ} → Formed s → Blank largest_values counts → Countable s counts
formed-countable {s} r b =
    record {
      in_order = is_true _ r.in_order;
      few = records-few s r.few;
      room = omega (arith, values-few s r.few, b.0);
      zeros = zeros-at b.1;
    }

-- THE TABLES OF A FILE THAT WAS READ, as the layers behind read them: where its blocks start,
pub table-own :
    (s : List ℕ) {places : List ℕ} {n : ℕ} → T (not (too_many s)) → largest_blocks < n → places ≡ padded n (block_table s)
    → places ≡ padded (length places) (block_table s)
table-own s {places} {n} few long is_table =
    padded-own places (block_table s) n is_table
    (ap length is_table ∙ length-padded n (block_table s) (omega (arith, length-block_table s, blocks-few s few)))

module _ {s : List ℕ} (r : Readable s) where
  -- that its blocks' tails stand last,
  pub function-tails : first_of (function_refusals s) ≡ Ok tt → TailsLast s
  function-tails passed = sound-tails s r.in_order (function-is s passed).2

  -- and its walk.
  pub numbered-walked :
      {places order : List ℕ} {count n m : ℕ} → largest_blocks < n → places ≡ padded n (block_table s) → largest_blocks ≤ m
      → order ≡ padded m (reachable (function_in s)) → count ≡ length (reachable (function_in s))
      → first_of (function_refusals s) ≡ Ok tt → Walked s places order count
  numbered-walked {places} {order} {count} {n} {m} long is_table listed is_order counted passed =
      let f = function_in s in
      let order-long : length order ≡ m =
      ap length is_order
      ∙ length-padded m (reachable f)
      (omega (
        arith,
        blocks-few s r.few,
        nodup-length-le (length f.blocks) (reachable f) (reachable-nodup f)
            (λ x. reachable-in-file f r.in_file (blocks-some (records s) r.in_order)),
      )) in
      record {
        given = record { in_order = r.in_order; in_file = r.in_file; table = table-own s r.few long is_table };
        counted = counted;
        listed = padded-own order (reachable f) m is_order order-long;
        tails = function-tails passed;
      }

-- So are those of an accepted file.
pub surveyed-walked :
    {s : List ℕ} {lent back : SurveyTables} {verdict : Result Unit Refusal} {blocks : BlockCounts} → BlankTables lent
    → Surveyed s lent back verdict blocks → T (is_ok verdict) → Walked s back.places back.order blocks.reachable
surveyed-walked {s} {lent} {back} b g a =
    let f = function_in s in
    let passes = (accepted-passes s (subst (λ v. T (is_ok v)) g.says a)).0 in
    let read = T_and (records_pass s) (is_ok (first_of (function_refusals s))) passes in
    let records-pass = passed-ok (first_of (record_refusals s)) read.0 in
    let function-passes = passed-ok (first_of (function_refusals s)) read.1 in
    numbered-walked (passed-readable s records-pass function-passes)
    b.places.0
    (g.places ∙ chosen (records_pass s) (padded (length lent.places) (block_table s)) lent.places read.0)
    b.order.0
    (g.order ∙ chosen (function_passes s) (padded (length lent.order) (reachable f)) lent.order passes)
    (g.counted ∙ chosen (function_passes s) (length (reachable f)) 0 passes)
    function-passes

-- the file by its tables, with the indices of its blocks
pub record Indexed (s places order index : List ℕ) (blocks : BlockCounts) : Type 0 where
  pub accepted : T (is_ok (first_of (file_refusals s)))
  pub walked : Walked s places order blocks.reachable
  pub all-counted : blocks.all ≡ length (function_in s).blocks
  pub indexed : index ≡ index_table (function_in s) (length index)
  pub index-long : largest_blocks ≤ length index

-- So they are where a survey leaves them.
pub surveyed-indexed :
    {s : List ℕ} {lent back : SurveyTables} {v : Result Unit Refusal} {blocks : BlockCounts} → BlankTables lent → Surveyed s lent back v blocks
    → T (is_ok (first_of (file_refusals s))) → Indexed s back.places back.order back.index blocks
surveyed-indexed {s} {lent} {back} b g passed =
    let passes = (accepted-passes s passed).0 in
    let index : back.index ≡ index_table (function_in s) (length lent.index) =
    g.index ∙ chosen (function_passes s) (index_table (function_in s) (length lent.index)) lent.index passes in
    let long : length back.index ≡ length lent.index = ap length index ∙ length-index_table (function_in s) (length lent.index) in
    record {
      accepted = passed;
      walked = surveyed-walked b g (subst (λ v. T (is_ok v)) (sym g.says) passed);
      all-counted = g.all-counted ∙ chosen (function_passes s) (length (function_in s).blocks) 0 passes;
      indexed = index ∙ ap (index_table (function_in s)) (sym long);
      index-long = omega (arith, b.index.0);
    }

-- THE LIST OF EXACTLY the reachable blocks, of a longer one: it has a place for each,
pub walked-room : {s places order : List ℕ} {count : ℕ} → Walked s places order count → count ≤ length order
walked-room {s} {places} {order} {count} w = omega (arith, w.counted, ap length w.listed, length-padded-le (length order) (reachable (function_in s)))

-- and so many of them are the list.
pub exactly-walked : {s places order : List ℕ} {count : ℕ} → Walked s places order count → Walked s places (take count order) (length (take count order))
exactly-walked {s} {places} {order} {count} w =
    let few = length-padded-le (length order) (reachable (function_in s)) in
    let long : length (take count order) ≡ count = length-take-le count order (omega (arith, w.counted, ap length w.listed, few)) in
    let own : take count order ≡ reachable (function_in s) =
    ap₂ (λ (n : ℕ) (xs : List ℕ). take n xs) w.counted w.listed ∙ take-append_seam (reachable (function_in s)) _ in
    let r = reachable (function_in s) in
    let none : length r - length r ≡ 0 = omega arith in
    let whole : padded (length r) r ≡ r = ap (λ (n : ℕ). r ++ replicate n 0) none ∙ append-nil r in
    record {
      given = w.given;
      counted = long ∙ w.counted;
      listed = own ∙ sym whole ∙ ap (λ (n : ℕ). padded n r) (sym (long ∙ w.counted));
      tails = w.tails;
    }

pub walked-exact : {s places order : List ℕ} {count : ℕ} → Walked s places order count → Walked s places (take count order) count
walked-exact {s} {places} {order} {count} w =
    subst (Walked s places (take count order)) (length-take-le count order (walked-room w)) (exactly-walked w)
