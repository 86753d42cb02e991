-- What is lent for the live tables of a file that was surveyed and not refused.
use Rattle.std.specs.Prelude.{ℕ, ◌≤◌, ◌≡◌, List, length, replicate, T, is_ok}
use Rattle.std.proofs.Common.{sym, ap, ◌∙◌, arith}
use Rattle.std.proofs.lemmas.List.{length-replicate}
use Rattle.rules.specs.Limits.{largest_blocks, largest_edges, table_words}
use Rattle.rules.specs.Refusals.{first_of, file_refusals}
use Rattle.graph.specs.Room.{Blank, blank-zeros}
use Rattle.acceptance.specs.Stages.{Readable}
use Rattle.acceptance.specs.Survey.{accepted-is, Indexed}
use Rattle.acceptance.specs.declared.accepted.Survey.{Survey}
use Rattle.analysis.specs.Analysis.{live_tables, Analysable}

-- A cleared buffer that is long enough is blank.
pub cleared-blank : (t : List ℕ) (n k : ℕ) → t ≡ replicate n 0 → k ≤ n → Blank k t
cleared-blank t n k e l =
    let long : length t ≡ n = ap length e ∙ length-replicate {A = ℕ} n 0 in
    (omega arith, e ∙ ap (λ (m : ℕ). replicate {A = ℕ} m 0) (sym long))

-- a file that refusals 2 to 5 let pass, and two tables of zeros with a row for each of the largest count of blocks
pub record Lent (s ins outs : List ℕ) : Type 0 where
  pub readable : Readable s
  pub in-blank : Blank table_words ins
  pub out-blank : Blank table_words outs

-- so with zeros of its own the analysis can begin
pub lent-analysable :
    {s ins outs : List ℕ} → Lent s ins outs
    → Analysable s
    (live_tables (replicate largest_blocks 0) (replicate largest_edges 0) (replicate largest_edges 0) (replicate table_words 0)
    (replicate table_words 0) ins outs)
lent-analysable h =
    record {
      readable = h.readable;
      first = blank-zeros largest_blocks;
      from = blank-zeros largest_edges;
      next = blank-zeros largest_edges;
      uses = blank-zeros table_words;
      kills = blank-zeros table_words;
      ins = h.in-blank;
      outs = h.out-blank;
    }

-- An accepted file and zeros are such,
pub lent-own : {s : List ℕ} → T (is_ok (first_of (file_refusals s))) → Lent s (replicate table_words 0) (replicate table_words 0)
lent-own {s} passed =
    record {
      readable = (accepted-is s passed).readable;
      in-blank = blank-zeros table_words;
      out-blank = blank-zeros table_words;
    }

-- and a survey's tables are those of an accepted file.
pub surveyed-indexed :
    (v : Survey) → Indexed v.file.bytes.now v.places.now v.order.now v.index.now (record { all = v.count; reachable = v.reachable })
surveyed-indexed v =
    record {
      accepted = v.accepted;
      walked = v.walked;
      all-counted = v.counted;
      indexed = v.indexed;
      index-long = v.index_long;
    }
