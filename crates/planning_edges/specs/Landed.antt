-- LANDINGS, record by record. In a landing each argument of the edge is loaded, or becomes a parameter of the size of the
-- target's parameter at the same position; the target's parameters stand directly behind its record.
use Prim.Native.Nat.{ℕ, zero, suc, ◌+◌, ◌-◌, ◌<◌, ◌≤◌}
use Rattle.std.specs.Prelude.{◌≡◌, Bool, true, false, not, ◌&&◌, cond, get_or, set, T, eqb}
use Rattle.std.proofs.Math.Path.{refl, ap}
use Rattle.std.proofs.Common.{sym, subst, ◌∙◌, length-set}
use Rattle.std.proofs.Math.Option.{none, some}
use mathlib.Core.List.{List, [], ◌∷◌, ◌++◌, map, append_assoc}
use native.Mathlib.Omega.{arith}
use Rattle.std.proofs.Math.ListN.{length}
use Rattle.rules.specs.Lists.{zip_with}
use Rattle.rules.specs.Tree.{Value, Function}
use Rattle.rules.specs.Records.{encode, kind, record_at, record_count, records}
use Rattle.rules.specs.File.{of_kind, function_in}
use Rattle.rules.specs.Graph.{size_of}
use Rattle.rules.specs.Plan.{Plan, Made, Planning, pure, new_value, for_each, plan_landed}
use Rattle.rules.specs.declared.EdgeArgument.{EdgeArgument}
use Rattle.rules.specs.declared.EdgeArgument.TheVariants as passes
use Rattle.rules.specs.declared.Record.{Record}
use Rattle.rules.specs.declared.Record.TheVariants as record'
use Rattle.rules.specs.declared.Words.{Words}
use Rattle.records.specs.Leading.{leading}
use Rattle.records.specs.Parts.{argument}
use Rattle.graph.specs.Between.{between, between_none, between_more}
use Rattle.graph.specs.Sections.{place_if, places}
use Rattle.numbering.specs.NewValues.{unmarked, new_values}
use Rattle.planning.specs.Operands.{operand_at, use_at, use_by}
use Rattle.std.specs.Prelude.{Some, None}
use Rattle.planning.specs.Standing.{Progress, Tables, tables, plan_of, Good, mark, walk, Walked}
use Rattle.planning.specs.Walking.{new_values-more, next-value, walked-some}
use Rattle.planning.specs.Marks.{marks}
use Rattle.lists.specs.Tests.{eqb_same}

-- the members of a list behind its first
abbrev pub behind_first : List Words → List Words
behind_first [] = []
behind_first (w ∷ ws) = ws

-- an edge argument that is a returned or an exception word
abbrev pub is_word : Words → Bool
is_word w = eqb w.kind 8 && not (eqb w.second 0)

-- the steps for an edge's arguments, with the parameters at the same positions
abbrev pub zipped : List ℕ → ℕ → List EdgeArgument → List ℕ → List (Planning Made)
zipped s pointer xs ps = zip_with (λ x p. plan_landed (function_in s) pointer x (size_of (function_in s) p)) xs ps

module _ (s : List ℕ) (pointer start first : ℕ) where
  abbrev f : Function
  f = function_in s

  -- what the record names that stands as far behind place `first` as this one behind place `start`
  abbrev pub parameter_at : ℕ → ℕ
  parameter_at place = (encode (get_or (records s) (first + (place - start)) record'.Outside)).second

  -- the step of rule 2 in a landing for a record, if it is an edge argument,
  abbrev landed_by : Record → ℕ → Planning Made
  landed_by r size = cond (eqb (kind r) 8) (plan_landed f pointer (argument (encode r)) size) (pure none)

  -- and for the one at a place
  abbrev pub landed_at : ℕ → Planning Made
  landed_at place = landed_by (record_at s place) (size_of f (parameter_at place))

  -- a value of a size is made for a word,
  abbrev pub plan_word : ℕ → Planning Made
  plan_word size p = (some (length p.values), (new_value size p).1)

  landed-word : (place : ℕ) (p : Plan) → is_word (encode (record_at s place)) ≡ true → landed_at place p ≡ plan_word (size_of f (parameter_at place)) p
  landed-word place p e = go (eqb (kind (record_at s place)) 8) (eqb w.second 0) (eqb w.second 1) e
    where
      w : Words
      w = encode (record_at s place)

      size : ℕ
      size = size_of f (parameter_at place)

      go : (b c d : Bool) → (b && not c) ≡ true
          → cond b (plan_landed f pointer (cond c (passes.Value w.third) (cond d (passes.Returned w.third) (passes.Exception w.third))) size) (pure none) p
          ≡ plan_word size p
      go true false true e = refl
      go true false false e = refl
      go true true d e = absurd (subst T (sym e) tt)
      go false c d e = absurd (subst T (sym e) tt)

  -- and a value is used
  landed-use : (place : ℕ) (p : Plan) → is_word (encode (record_at s place)) ≡ false → landed_at place p ≡ use_at s pointer 8 place p
  unfolding operand_at
  landed-use place p e = go (eqb (kind (record_at s place)) 8) (eqb w.second 0) (eqb w.second 1) e
    where
      w : Words
      w = encode (record_at s place)

      size : ℕ
      size = size_of f (parameter_at place)

      go : (b c d : Bool) → (b && not c) ≡ false
          → cond b (plan_landed f pointer (cond c (passes.Value w.third) (cond d (passes.Returned w.third) (passes.Exception w.third))) size) (pure none) p
          ≡ use_by s pointer (cond b (cond c (Some w.third) None) None) p
      go true true d e = refl
      go true false d e = absurd (subst T e tt)
      go false c d e = refl

  -- ON THE TABLES. A word's value is noted beside it,
  pub word-walked :
      (place : ℕ) (asked steps sizes numbers : List ℕ) (p : Progress) (size : ℕ) → Good f (tables asked steps sizes p) 1
      → is_word (encode (record_at s place)) ≡ true → size ≡ size_of f (parameter_at place)
      → Walked f landed_at place 1 (tables asked steps sizes p) numbers
      (tables asked steps (set sizes p.made size)
      (record { pointer = p.pointer; given = p.given; made = p.made + 1; blocks = p.blocks; steps = p.steps }))
      (set numbers place (p.given + p.made + 1))
  word-walked place asked steps sizes numbers p size g word is =
      let t = tables asked steps sizes p in
      walked-some f landed_at place (plan_word size) t _ numbers (p.given + p.made)
      (landed-word place (plan_of f t) word ∙ ap (λ (n : ℕ). plan_word n (plan_of f t)) (sym is))
      (record {
        state = ap (λ (vs : List Value). record { slots = (plan_of f t).slots; values = vs; blocks = p.blocks }) one_value;
        kept =
            record {
              good =
                  λ k h.
                  record {
                    counted = h.counted;
                    few = h.few;
                    row = h.row;
                    known = h.known;
                    room_steps = omega (arith, h.room_steps);
                    room_sizes = simp length-set (omega (arith, h.room_sizes));
                    small = simp length-set h.small;
                  };
              pointer = refl;
              asked_long = refl;
              steps_long = refl;
              sizes_long = simp length-set;
            };
      })
      (ap some (next-value f t 1 g))
    where
      one_value : f.values ++ new_values (set sizes p.made size) (p.made + 1) ≡ (f.values ++ new_values sizes p.made) ++ (unmarked size ∷ [])
      one_value =
          ap (λ (xs : List Value). f.values ++ xs) (new_values-more sizes p.made size (omega (arith, g.room_sizes)))
          ∙ sym (append_assoc f.values (new_values sizes p.made) (unmarked size ∷ []))

  -- and the use of a value is its step
  pub use-walked :
      (place : ℕ) (t t' : Tables) (numbers numbers' : List ℕ) → is_word (encode (record_at s place)) ≡ false
      → Walked f (use_at s pointer 8) place 1 t numbers t' numbers' → Walked f landed_at place 1 t numbers t' numbers'
  unfolding walk
  use-walked place t t' numbers numbers' other walked =
      record {
        state = walked.state ∙ ap (λ (y : Made × Plan). (y.1, mark numbers place y.0)) (sym (landed-use place (plan_of f t) other));
        kept = walked.kept;
        long = walked.long;
      }

  -- A RUN of them, and what it leaves
  abbrev pub ran_landed : ℕ → List Record → List ℕ → Plan × List ℕ → Plan × List ℕ
  ran_landed place rs ps x =
      let r = for_each (λ m. m) (zipped s pointer (map argument (of_kind 8 rs)) ps) x.0 in
      (r.1, marks (places (eqb 8) place rs) r.0 x.1)

  -- where no argument stands none leads
  leading-none : (rs : List Record) → of_kind 8 rs ≡ [] → leading 8 rs ≡ []
  leading-none [] e = refl
  leading-none (r ∷ rs) e = go (eqb (kind r) 8) e
    where
      go : (b : Bool) → ◌≡◌ {A = List Words} (elim b [ true ↦ encode r ∷ of_kind 8 rs | false ↦ of_kind 8 rs ]) []
          → ◌≡◌ {A = List Words} (elim b [ true ↦ encode r ∷ leading 8 rs | false ↦ [] ]) []
      go true e = absurd (omega (arith, ap length e))
      go false e = refl

  marks-none : (ps : List ℕ) (numbers : List ℕ) → marks ps [] numbers ≡ numbers
  marks-none [] numbers = refl
  marks-none (p ∷ ps) numbers = refl

  pub walk-landed :
      (n place : ℕ) → start ≤ place → place + n ≤ record_count s → (ps : List ℕ)
      → of_kind 8 (between s place (place + n)) ≡ leading 8 (between s place (place + n))
      → length (of_kind 8 (between s place (place + n))) ≤ length ps
      → ((j : ℕ) → j < length ps → get_or ps j 0 ≡ parameter_at (place + j)) → (x : Plan × List ℕ)
      → walk landed_at place n x ≡ ran_landed place (between s place (place + n)) ps x
  unfolding walk
  walk-landed zero place l m ps leads few named x =
      let here : place + 0 ≡ place = omega arith in
      rw (here, between_none s place) refl
  walk-landed (suc n) place l m ps leads few named x =
      let next : place + suc n ≡ suc place + n = omega arith in
      let more : between s place (place + suc n) ≡ r ∷ rs = ap (between s place) next ∙ between_more s place (suc place + n) (omega arith) (omega arith) in
      go (eqb (kind r) 8) (eqb 8 (kind r)) (eqb_same (kind r) 8) ps
      (ap (of_kind 8) (sym more) ∙ leads ∙ ap (leading 8) more) (subst (λ (z : List Record). length (of_kind 8 z) ≤ length ps) more few) named
      (λ ps leads few named x. walk-landed n (suc place) (omega arith) (omega arith) ps leads few named x)
      ∙ ap (λ (z : List Record). ran_landed place z ps x) (sym more)
    where
      r : Record
      r = record_at s place

      rs : List Record
      rs = between s (suc place) (suc place + n)

      size : ℕ
      size = size_of f (parameter_at place)

      go : (b c : Bool) → b ≡ c → (ps : List ℕ)
          → ◌≡◌ {A = List Words} (elim b [ true ↦ encode r ∷ of_kind 8 rs | false ↦ of_kind 8 rs ])
          (elim b [ true ↦ encode r ∷ leading 8 rs | false ↦ [] ])
          → length {A = Words} (elim b [ true ↦ encode r ∷ of_kind 8 rs | false ↦ of_kind 8 rs ]) ≤ length ps
          → ((j : ℕ) → j < length ps → get_or ps j 0 ≡ parameter_at (place + j))
          → ((ps : List ℕ) → of_kind 8 rs ≡ leading 8 rs → length (of_kind 8 rs) ≤ length ps
          → ((j : ℕ) → j < length ps → get_or ps j 0 ≡ parameter_at (suc place + j)) → (x : Plan × List ℕ)
          → walk landed_at (suc place) n x ≡ ran_landed (suc place) rs ps x)
          → (let y = cond b (plan_landed f pointer (argument (encode r)) size) (pure none) x.0 in
          walk landed_at (suc place) n (y.1, mark x.1 place y.0))
          ≡ (let ws : List Words = elim b [ true ↦ encode r ∷ of_kind 8 rs | false ↦ of_kind 8 rs ] in
          let z = for_each (λ m. m) (zipped s pointer (map argument ws) ps) x.0 in
          (z.1, marks (place_if c place (places (eqb 8) (suc place) rs)) z.0 x.1))
      go true true e (q ∷ qs) leads few named later =
          let here : place + 0 ≡ place = omega arith in
          let q-is : q ≡ parameter_at place = named 0 (omega arith) ∙ ap parameter_at here in
          let y = plan_landed f pointer (argument (encode r)) size x.0 in
          later qs (ap behind_first leads) (omega (arith, few))
          (λ j h.
          let up : place + suc j ≡ suc place + j = omega arith in
          named (suc j) (omega arith) ∙ ap parameter_at up)
          (y.1, mark x.1 place y.0)
          ∙ ap
          (λ (v : ℕ).
          let z = for_each (λ m. m) (plan_landed f pointer (argument (encode r)) (size_of f v) ∷ zipped s pointer (map argument (of_kind 8 rs)) qs) x.0 in
          (z.1, marks (place ∷ places (eqb 8) (suc place) rs) z.0 x.1))
          (sym q-is)
      go true true e [] leads few named later = absurd (omega (arith, few))
      go false false e ps leads few named later =
          later [] (leads ∙ sym (leading-none rs leads)) (omega (arith, ap length leads)) (λ j h. absurd (omega arith)) x
          ∙ rw leads refl
      go true false e ps leads few named later = absurd (subst T e tt)
      go false true e ps leads few named later = absurd (subst T (sym e) tt)
