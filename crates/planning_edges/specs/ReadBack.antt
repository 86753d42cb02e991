-- NUMBERS READ BACK. What a run notes beside the records of a kind is read there afterwards, where nothing was noted
-- before; and it notes nothing elsewhere.
use Rattle.std.specs.Prelude.{ℕ, zero, suc, ◌+◌, ◌-◌, ◌<◌, ◌≤◌, ◌≡◌, refl, ◌≢◌, Bool, true, false, List, [], ◌∷◌, map, length, get_or, T, eqb}
use Rattle.std.proofs.Common.{sym, ap, ap₂, subst, ◌∙◌, arith, length-set, get_or-set_same, get_or-set_other}
use Rattle.std.proofs.Math.Option.{none, some}
use Rattle.std.proofs.lemmas.List.{length-map}
use Rattle.rules.specs.Tree.{Function}
use Rattle.rules.specs.Records.{encode, kind, record_at, record_count}
use Rattle.rules.specs.File.{of_kind, named, function_in}
use Rattle.rules.specs.Plan.{Plan, Made, Planning, for_each, plan_use, plan_definition, plan_edge_use}
use Rattle.rules.specs.declared.Record.{Record}
use Rattle.rules.specs.declared.Words.{Words}
use Rattle.lists.specs.Tests.{eqb_same}
use Rattle.records.specs.Parts.{argument}
use Rattle.graph.specs.Between.{between, between_none, between_more}
use Rattle.graph.specs.Sections.{place_if, places}
use Rattle.numbering.specs.Beside.{made, tag, made-tag, made_at, mades_between}
use Rattle.planning.specs.Standing.{Tables, plan_of, Kept, mark, Walked}
use Rattle.planning.specs.Operands.{use_at, define_at}
use Rattle.planning.specs.Marks.{marks, Beside, uses-beside, edge-uses-beside, definitions-beside}
use Rattle.planning_edges.specs.BlocksMade.{NoBlocks, each-blocks, use-blocks, edge-use-blocks, definition-blocks}
use Rattle.planning_edges.specs.Noted.{Within, Blank, SameBut, Noted}

-- a number noted beside one place
mark-other : (numbers : List ℕ) (p : ℕ) (m : Made) (i : ℕ) → i ≢ p → get_or (mark numbers p m) i 0 ≡ get_or numbers i 0
mark-other numbers p none i n = refl
mark-other numbers p (some x) i n = get_or-set_other numbers p i (suc x) 0 n

mark-same : (numbers : List ℕ) (p : ℕ) (m : Made) → p < length numbers → get_or numbers p 0 ≡ 0 → get_or (mark numbers p m) p 0 ≡ tag m
mark-same numbers p none l z = z
mark-same numbers p (some x) l z = get_or-set_same numbers p (suc x) 0 l

length-mark : (numbers : List ℕ) (p : ℕ) (m : Made) → length (mark numbers p m) ≡ length numbers
length-mark numbers p none = refl
length-mark numbers p (some x) = length-set numbers p (suc x)

module _ (s : List ℕ) (k : ℕ) where
  abbrev from : ℕ → ℕ → List ℕ
  from p q = places (eqb k) p (between s p q)

  -- places of other records, and those outside, keep their numbers
  pub marks-other :
      (n p q : ℕ) → p + n ≡ q → q ≤ record_count s → (ms : List Made) (numbers : List ℕ)
      → SameBut (Within s (eqb k) p q) numbers (marks (from p q) ms numbers)
  marks-other zero p q e l ms numbers i out =
      let same : q ≡ p = omega arith in
      rw (same, between_none s p) refl
  marks-other (suc n) p q e l ms numbers i out =
      rw (between_more s p q (omega arith) l)
      (go (eqb k (kind (record_at s p))) refl ms
      (λ ms numbers. marks-other n (suc p) q (omega arith) l ms numbers i (λ w. out (omega (arith, w.0), w.1, w.2))))
    where
      go : (b : Bool) → b ≡ eqb k (kind (record_at s p)) → (ms : List Made)
          → ((ms : List Made) (numbers : List ℕ) → get_or (marks (from (suc p) q) ms numbers) i 0 ≡ get_or numbers i 0)
          → get_or (marks (place_if b p (from (suc p) q)) ms numbers) i 0 ≡ get_or numbers i 0
      go false b ms later = later ms numbers
      go true b [] later = refl
      go true b (m ∷ ms) later =
          later ms (mark numbers p m)
          ∙ mark-other numbers p m i
          (λ h. out (omega (arith, h), omega (arith, h), subst (λ (j : ℕ). T (eqb k (kind (record_at s j)))) (sym h) (subst T b tt)))

  -- and the numbers are read back
  pub marks-read :
      (n p q : ℕ) → p + n ≡ q → q ≤ record_count s → (ms : List Made) (numbers : List ℕ) → length ms ≡ length (from p q)
      → Blank (Within s (eqb k) p q) numbers → q ≤ length numbers → mades_between s (marks (from p q) ms numbers) k p q ≡ ms
  marks-read zero p q e l [] numbers long blank room =
      let same : q ≡ p = omega arith in
      rw (same, between_none s p) refl
  marks-read zero p q e l (m ∷ ms) numbers long blank room =
      let same : q ≡ p = omega arith in
      absurd (omega (arith, rw (same, between_none s p) at long))
  marks-read (suc n) p q e l ms numbers long blank room =
      rw (between_more s p q (omega arith) l)
      (go (eqb k (kind (record_at s p))) refl ms (rw (between_more s p q (omega arith) l) at long)
      (λ ms numbers long blank room. marks-read n (suc p) q (omega arith) l ms numbers long blank room))
    where
      go : (b : Bool) → b ≡ eqb k (kind (record_at s p)) → (ms : List Made) → length ms ≡ length (place_if b p (from (suc p) q))
          → ((ms : List Made) (numbers : List ℕ) → length ms ≡ length (from (suc p) q)
          → Blank (Within s (eqb k) (suc p) q) numbers → q ≤ length numbers → mades_between s (marks (from (suc p) q) ms numbers) k (suc p) q ≡ ms)
          → map (made_at s (marks (place_if b p (from (suc p) q)) ms numbers)) (place_if b p (from (suc p) q)) ≡ ms
      go false b ms long later = later ms numbers long (λ i w. blank i (omega (arith, w.0), w.1, w.2)) room
      go true b [] long later = absurd (omega (arith, long))
      go true b (m ∷ ms) long later =
          let here : get_or (marks (from (suc p) q) ms (mark numbers p m)) p 0 ≡ tag m =
          marks-other n (suc p) q (omega arith) l ms (mark numbers p m) p (λ w. omega (arith, w.0))
          ∙ mark-same numbers p m (omega arith) (blank p (omega arith, omega arith, subst T b tt)) in
          ap₂ (λ (x : Made) (xs : List Made). x ∷ xs) (ap made here ∙ made-tag m)
          (later ms (mark numbers p m) (omega (arith, long))
          (λ i w. mark-other numbers p m i (λ h. omega (arith, h, w.0)) ∙ blank i (omega (arith, w.0), w.1, w.2))
          (omega (arith, length-mark numbers p m)))

-- as many places as records of the kind
pub length-places : (k p : ℕ) (rs : List Record) → length (places (eqb k) p rs) ≡ length (of_kind k rs)
length-places k p [] = refl
length-places k p (r ∷ rs) = go (eqb k (kind r)) (eqb (kind r) k) (eqb_same k (kind r)) (length-places k (suc p) rs)
  where
    go : (a b : Bool) → a ≡ b → length (places (eqb k) (suc p) rs) ≡ length (of_kind k rs)
        → length (place_if a p (places (eqb k) (suc p) rs)) ≡ length {A = Words} (elim b [ true ↦ encode r ∷ of_kind k rs | false ↦ of_kind k rs ])
    go true true e h = ap suc h
    go true false e h = absurd (subst T e tt)
    go false true e h = absurd (subst T (sym e) tt)
    go false false e h = h

-- as many answers as members
pub length-each : {A B : Type 0} (k : A → Planning B) (xs : List A) (p : Plan) → length (for_each k xs p).0 ≡ length xs
length-each k [] p = refl
length-each k (x ∷ xs) p = ap suc (length-each k xs (k x p).1)

-- RUNS
module _ (s : List ℕ) (pointer k start end : ℕ) (up : start ≤ end) (in_file : end ≤ record_count s) (t t' : Tables) (numbers numbers' : List ℕ)
    (blank : Blank (Within s (eqb k) start end) numbers) (room : end ≤ length numbers) where
  abbrev f : Function
  f = function_in s

  -- the numbers of a run are read back
  abbrev Run : Planning (List Made) → Type 0
  Run m = Noted f (Within s (eqb k) start end) (λ ns. mades_between s ns k start end) m (end - start) t numbers t' numbers'

  pub run-noted :
      (m : Planning (List Made)) → length (m (plan_of f t)).0 ≡ length (of_kind k (between s start end))
      → plan_of f t' ≡ (m (plan_of f t)).1 → numbers' ≡ marks (places (eqb k) start (between s start end)) (m (plan_of f t)).0 numbers
      → (m (plan_of f t)).1.blocks ≡ (plan_of f t).blocks → Kept f (end - start) t t' → length numbers' ≡ length numbers → Run m
  run-noted m many state noted few kept long =
      let ms = (m (plan_of f t)).0 in
      let read : mades_between s numbers' k start end ≡ ms =
      ap (λ (ns : List ℕ). mades_between s ns k start end) noted
      ∙ marks-read s k (end - start) start end (omega arith) in_file ms numbers (many ∙ sym (length-places k start (between s start end))) blank room in
      record {
        answer = λ i. (read i, state i);
        same = λ i out. ap (λ (ns : List ℕ). get_or ns i 0) noted ∙ marks-other s k (end - start) start end (omega arith) in_file ms numbers i out;
        kept = kept;
        blocks = omega (arith, ap (λ (x : Plan). x.blocks) state, few);
        long = long;
      }

  beside-noted :
      {A : Type 0} (h : A → Planning Made) (pick : Words → A) → NoBlocks h → Beside s pointer k start end up in_file t t' numbers numbers' (for_each h (map pick (of_kind k (between s start end))))
      → Kept f (end - start) t t' → length numbers' ≡ length numbers → Run (for_each h (map pick (of_kind k (between s start end))))
  beside-noted h pick few b kept long =
      run-noted (for_each h (map pick (of_kind k (between s start end))))
      (length-each h (map pick (of_kind k (between s start end))) (plan_of f t) ∙ length-map (of_kind k (between s start end)) pick)
      b.state b.noted (each-blocks h few (map pick (of_kind k (between s start end))) (plan_of f t)) kept long

  -- of uses, of edge arguments, and of definitions
  pub uses-noted : k ≢ 8 → Walked f (use_at s pointer k) start (end - start) t numbers t' numbers' → Run (for_each (plan_use f pointer) (named k (between s start end)))
  uses-noted other walked =
      beside-noted (plan_use f pointer) (λ w. w.second) (use-blocks f pointer) (uses-beside s pointer k start end up in_file t t' numbers numbers' other walked) walked.kept walked.long

  pub edge-uses-noted : k ≡ 8 → Walked f (use_at s pointer k) start (end - start) t numbers t' numbers' → Run (for_each (plan_edge_use f pointer) (map argument (of_kind k (between s start end))))
  edge-uses-noted eight walked =
      beside-noted (plan_edge_use f pointer) argument (edge-use-blocks f pointer) (edge-uses-beside s pointer k start end up in_file t t' numbers numbers' eight walked) walked.kept walked.long

  pub definitions-noted : k ≢ 8 → Walked f (define_at s pointer k) start (end - start) t numbers t' numbers' → Run (for_each (plan_definition f pointer) (named k (between s start end)))
  definitions-noted other walked =
      beside-noted (plan_definition f pointer) (λ w. w.second) (definition-blocks f pointer) (definitions-beside s pointer k start end up in_file t t' numbers numbers' other walked) walked.kept walked.long
