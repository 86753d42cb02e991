-- What follows from the rows that are found of an accepted file: how its tree is, which values are spilled, and the answers
-- that need no plan.
use Rattle.std.specs.Prelude.{ℕ, zero, suc, ◌-◌, ◌≤◌, ◌≡◌, refl, Bool, true, false, List, [], ◌∷◌, length, get_or, replicate, T, Ok, Err}
use Rattle.std.proofs.Common.{sym, ap, subst, ◌∙◌, arith}
use Rattle.rules.specs.Limits.{largest_records}
use Rattle.rules.specs.Lists.{empty, padded, members}
use Rattle.rules.specs.Tree.{Function}
use Rattle.rules.specs.Records.{record_count, records, bytes}
use Rattle.rules.specs.File.{ordered, function_records, function_in}
use Rattle.rules.specs.Liveness.{is_spilled}
use Rattle.rules.specs.Refusals.{spilled_size}
use Rattle.rules.specs.Services.{is_unchanged}
use Rattle.rules.specs.Plan.{Plan, planned}
use Rattle.rules.specs.Rewriting.{rewritten}
use Rattle.rules.specs.declared.Refusal.TheVariants as refusal
use Rattle.lists.specs.Tests.{is_true, is_false, test-elim}
use Rattle.lists.specs.Members.{◌∈◌, not-∈-nil}
use Rattle.fixpoint.specs.Finding.{∈-keep, ∈-up_from}
use Rattle.fixpoint.specs.Rule.{marked-in-file}
use Rattle.sharing.specs.Spilled.{spilled-marked}
use Rattle.agreement.specs.Accepted.{Accepted}
use Rattle.graph.specs.Few.{records-few, values-few}
use Rattle.graph.specs.ByTable.{places-long, values-by-table}
use Rattle.rows.specs.Rows.{rows, row_values, size, size-members}
use Rattle.planning.specs.Operands.{Reading}
use Rattle.acceptance.specs.Survey.{accepted-is}
use Rattle.rewriting.specs.declared.Found.{Found}
use Rattle.rewriting.specs.Answers.{Outcome, outcome-refused, outcome-accepted, verdict-size, verdict-unchanged, records-unchanged}
use Rattle.rewriting.specs.Rows.{LiveRows, PointerFine}
use Rattle.rewriting.specs.Trees.{accepted-tree}
use Rattle.rewriting.specs.Unspilled.{planned-nothing}

-- a list with no members is empty
empty-length : {A : Type 0} (xs : List A) → length xs ≡ 0 → empty xs ≡ true
empty-length [] e = refl
empty-length (x ∷ xs) e = absurd (omega arith)

length-empty : {A : Type 0} (xs : List A) → (length xs ≡ 0 → ⊥) → empty xs ≡ false
length-empty [] h = absurd (h refl)
length-empty (x ∷ xs) h = refl

module _ {s places order index outs lists spilled : List ℕ} {found : Found} (h : LiveRows s places order index outs lists spilled found) where
  abbrev f : Function
  f = function_in s

  -- the file is in order, and its tree is an accepted one
  pub in-order : T (ordered 0 (records s))
  in-order = h.tables.walked.given.in_order

  pub tree : Accepted f
  tree = accepted-tree s h.tables.accepted

  pub values-small : length f.values ≤ row_values
  values-small = values-few s (accepted-is s h.tables.accepted).readable.few

  pub records-small : record_count s ≤ largest_records
  records-small = records-few s (accepted-is s h.tables.accepted).readable.few

  -- values are counted by the place of the first block
  pub values-counted : get_or places 0 0 ≡ length f.values
  values-counted = values-by-table s places h.tables.walked.given

  pub places-some : suc zero ≤ length places
  places-some = let l = places-long s places h.tables.walked.given in omega arith

  -- the spilled values as a row
  pub reading : Reading s spilled
  reading =
      record {
        in_order = is_true (ordered 0 (records s)) in-order;
        row = omega (arith, h.spilled-long);
        is_row = h.spilled-row;
      }

  -- a value that is not of the file is not spilled
  far : (v : ℕ) → length f.values ≤ v → is_spilled f v ≡ false
  far v l =
      test-elim (is_spilled f v)
      (λ t. let inside = marked-in-file f v (spilled-marked f v t) in absurd (omega arith))
      (λ t. is_false (is_spilled f v) t)

  -- no value is spilled exactly where the row has none
  row_counts : size (rows spilled 0) ≡ length (members (length f.values) (is_spilled f))
  row_counts = ap size h.spilled-row ∙ size-members (length f.values) (is_spilled f) values-small far

  pub unchanged-row : size (rows spilled 0) ≡ 0 → is_unchanged f ≡ true
  unchanged-row e = empty-length (members (length f.values) (is_spilled f)) (sym row_counts ∙ e)

  pub changed_row : (size (rows spilled 0) ≡ 0 → ⊥) → is_unchanged f ≡ false
  changed_row e = length-empty (members (length f.values) (is_spilled f)) (λ z. e (row_counts ∙ z))

  -- where the answer is unchanged no value is spilled at all
  none-spilled : is_unchanged f ≡ true → (v : ℕ) → is_spilled f v ≡ false
  none-spilled e v =
      test-elim (is_spilled f v)
      (λ t.
      let inside = marked-in-file f v (spilled-marked f v t) in
      let m = ∈-keep (is_spilled f) (∈-up_from 0 (length f.values) v (omega arith) (omega (arith, inside))) t in
      absurd (not-∈-nil (subst (λ vs. v ∈ vs) (no-members (members (length f.values) (is_spilled f)) e) m)))
      (λ t. is_false (is_spilled f v) t)
    where
      no-members : (vs : List ℕ) → empty vs ≡ true → vs ≡ []
      no-members [] e = refl
      no-members (x ∷ vs) e = absurd (subst T (sym e) tt)

  module _ (pointer n : ℕ) (fine : PointerFine pointer) where
    -- 9
    pub outcome-sized : spilled_size f ≡ true → Outcome s pointer n (Err refusal.SlotSize) (replicate n 0)
    outcome-sized e = outcome-refused s pointer n refusal.SlotSize (verdict-size s pointer n fine h.tables.accepted e)

    -- unchanged: the input's records, and the output all 0
    pub outcome-unchanged :
        spilled_size f ≡ false → is_unchanged f ≡ true → (count : ℕ) → count ≡ record_count s
        → Outcome s pointer n
        (Ok
        (record {
          records = count;
          slots = 0;
          landings = 0;
          visits = found.live.visits;
          pushes = found.live.pushes;
          unchanged = true;
        }))
        (replicate n 0)
    outcome-unchanged sized e count c =
        let nothing = planned-nothing f pointer tree (none-spilled e) in
        let made : 0 ≡ length (planned f pointer).1.slots.made = ap (λ (p : Plan). length p.slots.made) (sym nothing) in
        let landed : 0 ≡ (planned f pointer).1.blocks - length f.blocks =
        let same = ap (λ (p : Plan). p.blocks) nothing in omega (arith, same) in
        let changed = bytes (function_records (rewritten f pointer)) in
        let all : n ≡ n - 0 = omega arith in
        outcome-accepted s pointer n (verdict-unchanged s pointer n fine h.tables.accepted sized e) _
        (λ i.
        record {
          records = (c ∙ sym (records-unchanged s pointer n e)) i;
          slots = made i;
          landings = landed i;
          visits = h.visits i;
          pushes = h.pushes i;
          unchanged = sym e i;
        })
        _
        (ap (λ (k : ℕ). replicate k 0) all
        ∙ ap (λ (u : Bool). padded n (elim u as (λ _. List ℕ) [ true ↦ [] | false ↦ changed ])) (sym e))
