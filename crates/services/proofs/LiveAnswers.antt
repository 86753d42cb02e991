-- The whole answer of liveness, as its function comes to it: by a refusal, or by the tables of the process.
use Prim.Native.Nat.{ℕ, ◌<◌, ◌≤◌}
use mathlib.Core.Logic.{◌⊎◌, inl, inr}
use mathlib.Core.Path.{◌≡◌, refl, sym, ap, ap₂, subst, ◌∙◌}
use mathlib.Core.Bool.{Bool, true, false, not, ◌||◌}
use mathlib.Core.List.{List, [], ◌∷◌}
use native.Mathlib.Omega.{arith}
use lib.ListN.{length, replicate}
use lib.Dec.{T, not_T, ltb}
use borrow.Author.Tests.{lt-ltb, le-ltb}
use Rattle.rules.specs.Limits.{largest_blocks, table_words}
use Rattle.rules.specs.Lists.{has, NumberSet, nothing, padded}
use Rattle.rules.specs.Tree.{Function}
use Rattle.rules.specs.Records.{records}
use Rattle.rules.specs.File.{function_in}
use Rattle.rules.specs.Graph.{reachable}
use Rattle.rules.specs.Liveness.{process}
use Rattle.rules.specs.Refusals.{Ground, ◌when◌, first_of, file_refusals}
use Rattle.rules.specs.Services.{answering, lent, table, liveness_verdict, liveness_answer, liveness_ins, liveness_outs}
use Rattle.rules.specs.declared.Refusal.{Refusal}
use Rattle.rules.specs.declared.Refusal.TheVariants as refusal
use Rattle.std.specs.Prelude.{Result, Ok, Err, is_ok}
use Rattle.lists.specs.Calls.{passed-ok, passed-append, refused-append}
use Rattle.lists.specs.Members.{has→∈}
use Rattle.walks.specs.InFile.{blocks-some, reachable-in-file}
use Rattle.fixpoint.specs.Answer.{process-ins-unreachable, process-outs-unreachable}
use Rattle.graph.specs.Few.{blocks-few}
use Rattle.rows.specs.Rows.{rows}
use Rattle.rows.specs.Tables.{Words64, table-padded}
use Rattle.graph.specs.Links.{Walked}
use Rattle.acceptance.specs.Survey.{Accepted, accepted-is}
use Rattle.acceptance.specs.declared.survey.BlockCounts.{BlockCounts}
use Rattle.analysis.specs.Live.{Lent, cleared-blank}

-- one of two tables is too short
pub either-short : (n m : ℕ) → (n < table_words) ⊎ (m < table_words) → ltb n table_words || ltb m table_words ≡ true
either-short n m (inl l) = ap (λ b. b || ltb m table_words) (lt-ltb n table_words l)
either-short n m (inr l) = or_true (ltb n table_words) (ltb m table_words) (lt-ltb m table_words l)
  where
    or_true : (a b : Bool) → b ≡ true → a || b ≡ true
    or_true true b e = refl
    or_true false b e = e

module _ (s : List ℕ) (n m : ℕ) where
  abbrev f : Function
  f = function_in s

  -- a table is too short
  abbrev short : Bool
  short = ltb n table_words || ltb m table_words

  abbrev last : List Ground
  last = (refusal.TooShort table_words when short) ∷ []

  -- the whole answer, by what is said of the call
  by-verdict : (v : Result Unit Refusal) → v ≡ liveness_verdict s n m
      → (answering v (record { visits = length (process f).visited; pushes = (process f).pushes }) ≡ liveness_answer s n m)
      × (lent v n (table (process f).ins) ≡ liveness_ins s n m) × (lent v m (table (process f).outs) ≡ liveness_outs s n m)
  unfolding liveness_answer liveness_ins liveness_outs
  by-verdict v e = (
    ap (λ (w : Result Unit Refusal). answering w (record { visits = length (process f).visited; pushes = (process f).pushes })) e,
    ap (λ (w : Result Unit Refusal). lent w n (table (process f).ins)) e,
    ap (λ (w : Result Unit Refusal). lent w m (table (process f).outs)) e,
  )

  -- REFUSED: zeros, by 2 to 8
  pub file-refused :
      {e : Refusal} → first_of (file_refusals s) ≡ Err e
      → (Err e ≡ liveness_answer s n m) × (replicate n 0 ≡ liveness_ins s n m) × (replicate m 0 ≡ liveness_outs s n m)
  unfolding liveness_verdict
  file-refused {e} r = by-verdict (Err e) (sym (refused-append (file_refusals s) last r))

  module _ (passes : T (is_ok (first_of (file_refusals s)))) where
    says : (b : Bool) → short ≡ b → liveness_verdict s n m ≡ elim b [ true ↦ Err (refusal.TooShort table_words) | false ↦ Ok tt ]
    unfolding liveness_verdict
    says b e =
        passed-append (file_refusals s) last (passed-ok (first_of (file_refusals s)) passes)
        ∙ ap (λ (x : Bool). first_of ((refusal.TooShort table_words when x) ∷ [])) e

    -- and by 11
    pub table-short :
        short ≡ true
        → (Err (refusal.TooShort table_words) ≡ liveness_answer s n m) × (replicate n 0 ≡ liveness_ins s n m) × (replicate m 0 ≡ liveness_outs s n m)
    table-short e = by-verdict (Err (refusal.TooShort table_words)) (sym (says true e))

  -- ACCEPTED: the process's counts and sets
  module _ (passes : T (is_ok (first_of (file_refusals s)))) (ins-long : table_words ≤ n) (outs-long : table_words ≤ m) where
    yes : liveness_verdict s n m ≡ Ok tt
    yes = says passes false (rw (le-ltb n table_words ins-long, le-ltb m table_words outs-long) refl)

    accepted : Accepted s
    accepted = accepted-is s passes

    pub accepted-answer :
        (visits pushes : ℕ) → visits ≡ length (process f).visited → pushes ≡ (process f).pushes
        → Ok (record { visits = visits; pushes = pushes }) ≡ liveness_answer s n m
    accepted-answer visits pushes a b =
        ap₂ (λ (v p : ℕ). Ok (record { visits = v; pushes = p })) a b ∙ (by-verdict (Ok tt) (sym yes)).0

    -- no block beyond the largest count is reachable
    beyond : (b : ℕ) → largest_blocks ≤ b → T (not (has b (reachable f)))
    beyond b l =
        let r = accepted.readable in
        not_T (has b (reachable f))
        (λ t.
        let inside = reachable-in-file f r.in_file (blocks-some (records s) r.in_order) (has→∈ (reachable f) t) in
        absurd (omega (arith, inside, blocks-few s r.few)))

    -- a table whose rows are the sets is the whole table
    whole-table :
        (t : List ℕ) (k : ℕ) (sets : ℕ → NumberSet) → length t ≡ k → table_words ≤ k → Words64 t → rows t ≡ sets
        → ((b : ℕ) → T (not (has b (reachable f))) → sets b ≡ nothing) → t ≡ padded k (table sets)
    whole-table t k sets e l w same empty =
        table-padded t (omega arith) w (λ b far. ap (λ (r : ℕ → NumberSet). r b) same ∙ empty b (beyond b far))
        ∙ ap₂ (λ (j : ℕ) (r : ℕ → NumberSet). padded j (table r)) e same

    pub accepted-ins : (t : List ℕ) → length t ≡ n → Words64 t → rows t ≡ (process f).ins → t ≡ liveness_ins s n m
    accepted-ins t e w same =
        whole-table t n (process f).ins e ins-long w same (process-ins-unreachable f)
        ∙ (by-verdict (Ok tt) (sym yes)).1

    pub accepted-outs : (t : List ℕ) → length t ≡ m → Words64 t → rows t ≡ (process f).outs → t ≡ liveness_outs s n m
    accepted-outs t e w same =
        whole-table t m (process f).outs e outs-long w same (process-outs-unreachable f)
        ∙ (by-verdict (Ok tt) (sym yes)).2

    -- the tables can be filled
    pub tables-lent : (ins outs : List ℕ) → ins ≡ replicate n 0 → outs ≡ replicate m 0 → Lent s ins outs
    tables-lent ins outs a b =
        record {
          readable = accepted.readable;
          in-blank = cleared-blank ins n table_words a ins-long;
          out-blank = cleared-blank outs m table_words b outs-long;
        }
