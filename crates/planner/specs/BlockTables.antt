-- WHAT PLANNING A BLOCK READS, from the tables of an accepted file: the table of its blocks' places, live-out and the lists of
-- all safepoints as rows.
use Rattle.std.specs.Prelude.{ℕ, suc, ◌+◌, ◌-◌, ◌*◌, ◌<◌, ◌≤◌, ◌≡◌, true, false, List, map, length, get_or, T}
use Rattle.std.proofs.Common.{sym, ap, ap₂, ◌∙◌, arith, add-one}
use Rattle.std.proofs.Math.Option.{Option, none}
use Rattle.std.proofs.lemmas.List.{length-map}
use Rattle.rules.specs.Limits.{row_words}
use Rattle.rules.specs.Lists.{has, up_from, zip_with, NumberSet}
use Rattle.rules.specs.Tree.{Instruction, Function}
use Rattle.rules.specs.File.{instruction_of, function_in}
use Rattle.rules.specs.Graph.{block_at, instructions_of, reachable}
use Rattle.rules.specs.Liveness.{process, lists_among, lists_of, lists, is_spilled}
use Rattle.rules.specs.Refusals.{sound}
use Rattle.graph.specs.Blocks.{place_of}
use Rattle.graph.specs.ByTable.{place_at}
use Rattle.graph.specs.Sections.{sections_at, length-sections_at}
use Rattle.graph.specs.Tables.{Given, index_table}
use Rattle.listing.specs.ByBlock.{length-lists_of, list-in-block}
use Rattle.listing.specs.Crossings.{listed}
use Rattle.listing.specs.Firsts.{Firsts, first-behind}
use Rattle.listing.specs.Listed.{length-of-blocks}
use Rattle.listing.specs.Stepping.{heads_from, instructions_from}
use Rattle.listing.specs.Tables.{ListTables, indices-given, block-records, instructions-by-table, below-fits}
use Rattle.rows.specs.Rows.{rows, row_values}
use Rattle.planner.specs.Backward.{listed_at}
use Rattle.planner.specs.Blocks.{BlockGiven}
use Rattle.planner.specs.RowLists.{row-lists}
use Rattle.planner.specs.SoundEdges.{sound-edges}

-- an accepted file by its tables: where its blocks stand, what is live out of each, and the lists of its safepoints
pub record PlanTables (s places table outs : List ℕ) : Type 0 where
  pub given : Given s places
  pub is_sound : T (sound (function_in s))
  pub values : length (function_in s).values ≤ row_values
  pub live : rows outs ≡ (process (function_in s)).outs
  pub outs_room : row_words * length (function_in s).blocks ≤ length outs
  pub rows_are : rows table ≡ listed (function_in s)
  pub lists_room : row_words * length (lists (function_in s)) ≤ length table

-- a reachable block's lists are those of its instructions
lists_of-reachable : (f : Function) (b : ℕ) → has b (reachable f) ≡ true → lists_of f b ≡ lists_among f (instructions_of (block_at f b)) ((process f).outs b)
unfolding lists_of
lists_of-reachable f b e =
    ap {B = List (Option (List ℕ))} (λ r. elim r [ true ↦ lists_among f (instructions_of (block_at f b)) ((process f).outs b) | false ↦ map (λ _. none) (instructions_of (block_at f b)) ]) e

module _ (s places table outs firsts : List ℕ) (t : PlanTables s places table outs) (numbered : Firsts s firsts) (b : ℕ) (l : b < length (function_in s).blocks) where
  abbrev f' : Function
  f' = function_in s

  abbrev start : ℕ
  start = get_or places b 0 + 1

  abbrev end : ℕ
  end = get_or places (b + 1) 0

  tabled : ListTables s places (index_table f' (length f'.blocks)) outs (length table)
  tabled =
      record {
        tables = indices-given s places t.given;
        values = t.values;
        live = t.live;
        outs_room = t.outs_room;
        lists_room = t.lists_room;
      }

  -- THE LAW.
  pub block-given : has b (reachable f') ≡ true → BlockGiven s table outs b (get_or firsts (b + 1) 0) start end
  block-given reached =
      let is = instructions-by-table tabled.tables b l in
      let heads = heads_from s start end in
      let first = get_or firsts b 0 in
      let behind = get_or firsts (b + 1) 0 in
      let counts = numbered.number b (omega arith) in
      let sum = first-behind t.given numbered b l in
      let from : behind - length heads ≡ first = omega (arith, sum) in
      let long : length heads ≡ length (instructions_of (block_at f' b)) =
      sym (length-map (sections_at s end heads) instruction_of ∙ length-sections_at s end heads) ∙ ap length is in
      let own : lists_among f' (instructions_from s start end) ((process f').outs b) ≡ lists_of f' b =
      ap (λ (xs : List Instruction). lists_among f' xs ((process f').outs b)) is ∙ sym (lists_of-reachable f' b reached) in
      record {
        starts = add-one (get_or places b 0) ∙ ap suc (place_at s places t.given b);
        ends = place_at s places t.given (b + 1) ∙ ap (place_of s) (add-one b);
        in_file = l;
        records = block-records tabled.tables b l;
        edges = sound-edges s places t.given t.is_sound;
        live = ap (λ (r : ℕ → NumberSet). r b) t.live;
        in_outs = omega (arith, t.outs_room);
        enough = omega (arith, sum);
        in_lists = omega (arith, numbered.number (b + 1) (omega arith), below-fits tabled (b + 1) (omega arith));
        listed =
            ap (λ (n : ℕ). listed_at s table (is_spilled f') end n heads) from
            ∙ row-lists s table t.rows_are end ((process f').outs b) heads first
            (λ j m.
            ap (λ (ls : List (Option (List ℕ))). get_or ls j none) own
            ∙ list-in-block f' b l j (omega (arith, long, length-lists_of f' b))
            ∙ ap (λ (k : ℕ). get_or (lists f') (k + j) none) (length-of-blocks f' (up_from 0 b) ∙ sym counts))
            ∙ ap₂ (λ (xs : List Instruction) (ls : List (Option (List ℕ))). zip_with (λ i l. (i, l)) xs ls) is own;
      }
