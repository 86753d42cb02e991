-- What the analysis of a file is lent, and what it leaves.
use Rattle.std.specs.Prelude.{ℕ, ◌≡◌, List, length}
use Rattle.std.proofs.Common.{arith}
use Rattle.rules.specs.Limits.{largest_blocks, largest_edges, table_words}
use Rattle.rules.specs.File.{function_in}
use Rattle.rules.specs.Liveness.{process}
use Rattle.fixpoint.specs.Rule as rule
use Rattle.graph.specs.Room.{Blank, lists-lent}
use Rattle.graph.specs.Tables.{Given}
use Rattle.graph.specs.Links.{links, linked, LentLinks}
use Rattle.rows.specs.Rows.{rows}
use Rattle.acceptance.specs.Stages.{Readable}
use Rattle.blocksets.specs.InRows.{SetTables}
use Rattle.solving.specs.Tables.{Few, Listed, Ruled, Solvable, linked-listed, few-counts, table-rows-enough}
use Rattle.rules.specs.declared.LivenessCounts.{LivenessCounts}

-- the tables: the linked lists of predecessors, each block's uses and kills, and both live tables
pub record LiveTables : Type 0 where
  pub first : List ℕ
  pub from : List ℕ
  pub next : List ℕ
  pub uses : List ℕ
  pub kills : List ℕ
  pub ins : List ℕ
  pub outs : List ℕ

abbrev pub live_tables : List ℕ → List ℕ → List ℕ → List ℕ → List ℕ → List ℕ → List ℕ → LiveTables
live_tables first from next uses kills ins outs =
    record { first = first; from = from; next = next; uses = uses; kills = kills; ins = ins; outs = outs }

-- what is asked: a file that refusals 2 to 5 let pass, surveyed, and zeros, as many as the largest counts ask
pub record Analysable (s : List ℕ) (t : LiveTables) : Type 0 where
  pub readable : Readable s
  pub first : Blank largest_blocks t.first
  pub from : Blank largest_edges t.from
  pub next : Blank largest_edges t.next
  pub uses : Blank table_words t.uses
  pub kills : Blank table_words t.kills
  pub ins : Blank table_words t.ins
  pub outs : Blank table_words t.outs

-- what is left: the process's sets and counts, and in the other tables what it went by
pub record Analysed (s : List ℕ) (lent back : LiveTables) (counts : LivenessCounts) : Type 0 where
  pub live_in : rows back.ins ≡ (process (function_in s)).ins
  pub live_out : rows back.outs ≡ (process (function_in s)).outs
  pub visits : counts.visits ≡ length (process (function_in s)).visited
  pub pushes : counts.pushes ≡ (process (function_in s)).pushes
  pub used : rows back.uses ≡ rule.uses (function_in s)
  pub killed : rows back.kills ≡ rule.kills (function_in s)
  pub lists :
      (n : ℕ) × (links back.first back.from back.next n ≡ linked (function_in s) (links lent.first lent.from lent.next 0))

-- EACH STEP CAN BE TAKEN.
module _ {s : List ℕ} {t : LiveTables} (h : Analysable s t) where
  few : Few (function_in s)
  few = few-counts s h.readable.few h.readable.in_order

  pub links-lent : LentLinks (function_in s) (links t.first t.from t.next 0)
  links-lent =
      let r = h.readable in
      lists-lent s r.few r.in_order r.in_file t.first t.from t.next h.first h.from h.next

  pub sets-lent : (places : List ℕ) (blocks : ℕ) → Given s places → blocks ≡ length (function_in s).blocks → SetTables s places blocks t.uses t.kills
  sets-lent places blocks given counted =
      record {
        given = given;
        values = few.values;
        counted = counted;
        room_uses = omega (arith, few.blocks, h.uses.0);
        room_kills = omega (arith, few.blocks, h.kills.0);
        zero_uses = h.uses.1;
        zero_kills = h.kills.1;
      }

  pub then-listed :
      (first from next : List ℕ) (n : ℕ) → links first from next n ≡ linked (function_in s) (links t.first t.from t.next 0)
      → Listed (function_in s) first from next
  then-listed = linked-listed (function_in s) h.readable.in_file t.first t.from t.next links-lent

  pub then-ruled :
      (uses kills : List ℕ) → rows uses ≡ rule.uses (function_in s) → rows kills ≡ rule.kills (function_in s)
      → length uses ≡ length t.uses → length kills ≡ length t.kills → Ruled (function_in s) uses kills
  then-ruled uses kills used killed u k =
      record {
        used = used;
        killed = killed;
        use-rows = table-rows-enough (function_in s) few uses (omega (arith, h.uses.0));
        kill-rows = table-rows-enough (function_in s) few kills (omega (arith, h.kills.0));
        few = few;
      }

  pub then-solvable : Solvable (function_in s) t.ins t.outs
  then-solvable =
      record {
        in_rows = table-rows-enough (function_in s) few t.ins h.ins.0;
        out-rows = table-rows-enough (function_in s) few t.outs h.outs.0;
        ins-zero = h.ins.1;
        outs-zero = h.outs.1;
      }
