-- A LANDING: the records of an edge, its landing's number beside the first, and beside each argument what is made for it.
use Rattle.std.specs.Prelude.{ℕ, zero, suc, ◌+◌, ◌-◌, ◌<◌, ◌≤◌, ◌≡◌, refl, Bool, true, false, List, [], ◌∷◌, map, length, get_or, set, T, eqb}
use Rattle.std.proofs.Common.{sym, ap, ap₂, subst, ◌∙◌, arith, add-one, length-set, get_or-set_same, get_or-set_other, eqb→eq}
use Rattle.std.proofs.lemmas.List.{length-map}
use Rattle.rules.specs.Lists.{has}
use Rattle.rules.specs.Tree.{Edge, Function}
use Rattle.rules.specs.Records.{encode, kind, record_at, record_count, records}
use Rattle.rules.specs.File.{ordered, of_kind, edge_of, function_in}
use Rattle.rules.specs.Graph.{block_at}
use Rattle.rules.specs.Plan.{Plan, Made, for_each, plan_landing}
use Rattle.rules.specs.declared.EdgeArgument.{EdgeArgument}
use Rattle.rules.specs.declared.Record.{Record}
use Rattle.rules.specs.declared.Record.TheVariants as record'
use Rattle.rules.specs.declared.Words.{Words}
use Rattle.records.specs.Leading.{leading, parameters-lead}
use Rattle.records.specs.Parts.{second, argument}
use Rattle.records.specs.Places.{record-there}
use Rattle.graph.specs.Between.{between, between_none, between_more}
use Rattle.graph.specs.Blocks.{place_of, body_at, place-le, place-less, block_at-parameters, block-body}
use Rattle.graph.specs.ByTable.{places-long, place_at, end-le, start-less}
use Rattle.graph.specs.Tables.{Given}
use Rattle.numbering.specs.Beside.{made, mades_between, edge_plan_at}
use Rattle.planning.specs.Operands.{Range}
use Rattle.planning.specs.Standing.{Progress, Tables, tables, plan_of, Known, Good, Kept, Walked}
use Rattle.planning.specs.Walking.{kept_more}
use Rattle.planning_edges.specs.BlocksMade.{landed-blocks}
use Rattle.planning_edges.specs.Landed.{landed_at, zipped, ran_landed, walk-landed}
use Rattle.planning_edges.specs.Noted.{Within, Blank, Able, Noted}
use Rattle.planning_edges.specs.ReadBack.{run-noted}

-- the kinds of an edge's records that numbers stand beside
abbrev pub edge_kind : ℕ → Bool
edge_kind j = has j (7 ∷ 8 ∷ [])

-- the edge whose records stand from a place on and before place end
abbrev pub edge_at : List ℕ → ℕ → ℕ → Edge
edge_at s place end = edge_of (record { head = record_at s place; body = between s (suc place) end })

-- THE RECORDS OF AN EDGE: its own, directly behind it its arguments, no more than its target has parameters
pub record EdgeRecords (s : List ℕ) (place end : ℕ) : Type 0 where
  pub inside : place < end
  pub in_file : end ≤ record_count s
  pub head : kind (record_at s place) ≡ 7
  pub target : (edge_at s place end).target < length (function_in s).blocks
  pub leads : of_kind 8 (between s (suc place) end) ≡ leading 8 (between s (suc place) end)
  pub fits : length (of_kind 8 (between s (suc place) end)) ≤ length (block_at (function_in s) (edge_at s place end).target).parameters

-- its arguments are among them
pub argument-in : (s : List ℕ) (place end i : ℕ) → Within s (eqb 8) (suc place) end i → Within s edge_kind place end i
argument-in s place end i w = (omega (arith, w.0), w.1, subst (λ (j : ℕ). T (edge_kind j)) (eqb→eq 8 (kind (record_at s i)) w.2) tt)

-- records at the front, by place
leading_at :
    (s : List ℕ) (k n p q : ℕ) → p + n ≡ q → q ≤ record_count s → (j : ℕ) → j < length (leading k (between s p q))
    → (get_or (map second (leading k (between s p q))) j 0 ≡ (encode (record_at s (p + j))).second) × (p + j < q)
leading_at s k zero p q e l j h =
    let same : q ≡ p = omega arith in
    absurd (omega (arith, rw (same, between_none s p) at h))
leading_at s k (suc n) p q e l j h =
    let more = between_more s p q (omega arith) l in
    subst
    (λ (rs : List Record). (get_or (map second (leading k rs)) j 0 ≡ (encode (record_at s (p + j))).second) × (p + j < q)) (sym more)
    (go (eqb (kind (record_at s p)) k) j (subst (λ (rs : List Record). j < length (leading k rs)) more h) (leading_at s k n (suc p) q (omega arith) l))
  where
    rs : List Record
    rs = between s (suc p) q

    go : (b : Bool) (j : ℕ) → j < length {A = Words} (elim b [ true ↦ encode (record_at s p) ∷ leading k rs | false ↦ [] ])
        → ((j : ℕ) → j < length (leading k rs) → (get_or (map second (leading k rs)) j 0 ≡ (encode (record_at s (suc p + j))).second) × (suc p + j < q))
        → (get_or (map second (elim b [ true ↦ encode (record_at s p) ∷ leading k rs | false ↦ [] ])) j 0 ≡ (encode (record_at s (p + j))).second) × (p + j < q)
    go true zero h later =
        let here : p + 0 ≡ p = omega arith in
        (sym (ap (λ (i : ℕ). (encode (record_at s i)).second) here), omega arith)
    go true (suc j) h later =
        let next : suc p + j ≡ p + suc j = omega arith in
        let x = later j (omega (arith, h)) in
        (x.0 ∙ ap (λ (i : ℕ). (encode (record_at s i)).second) next, omega (arith, x.1))
    go false j h later = absurd (omega (arith, h))

-- A block's parameters stand directly behind its record.
pub parameter-at :
    (s : List ℕ) → T (ordered 0 (records s)) → (b : ℕ) → b < length (function_in s).blocks → (j : ℕ)
    → j < length (block_at (function_in s) b).parameters
    → get_or (block_at (function_in s) b).parameters j 0 ≡ (encode (get_or (records s) (suc (place_of s b) + j) record'.Outside)).second
parameter-at s h b l j m =
    let p = suc (place_of s b) in
    let q = place_of s (suc b) in
    let are : (block_at (function_in s) b).parameters ≡ map second (leading 3 (between s p q)) =
    block_at-parameters s b l ∙ ap (map second) (parameters-lead (body_at s b) (block-body s h b l)) in
    let up = place-less s b l in
    let there = leading_at s 3 (q - p) p q (omega arith) (place-le s (suc b) l) j (omega (arith, ap length are, length-map (leading 3 (between s p q)) second)) in
    ap (λ (ps : List ℕ). get_or ps j 0) are ∙ there.0
    ∙ ap (λ (r : Record). (encode r).second) (sym (record-there s (p + j) (omega (arith, there.1, place-le s (suc b) l))))

-- steps for two lists member by member: as many as the first has, and no block
module _ (s : List ℕ) (pointer : ℕ) where
  zipped-length : (xs : List EdgeArgument) (ps : List ℕ) (p : Plan) → length xs ≤ length ps → length (for_each (λ m. m) (zipped s pointer xs ps) p).0 ≡ length xs
  zipped-length [] ps p l = refl
  zipped-length (x ∷ xs) [] p l = absurd (omega arith)
  zipped-length (x ∷ xs) (q ∷ ps) p l = ap suc (zipped-length xs ps _ (omega arith))

  zipped-blocks : (xs : List EdgeArgument) (ps : List ℕ) (p : Plan) → (for_each (λ m. m) (zipped s pointer xs ps) p).1.blocks ≡ p.blocks
  zipped-blocks [] ps p = refl
  zipped-blocks (x ∷ xs) [] p = refl
  zipped-blocks (x ∷ xs) (q ∷ ps) p = zipped-blocks xs ps _ ∙ landed-blocks (function_in s) pointer x _ p

-- a new block leaves the tables' room, but for one record
kept_block :
    (f : Function) (asked steps sizes : List ℕ) (p q : Progress) → q.pointer ≡ p.pointer → q.given ≡ p.given → q.made ≡ p.made
    → q.steps ≡ p.steps → Kept f 1 (tables asked steps sizes p) (tables asked steps sizes q)
kept_block f asked steps sizes p q pointer given made step =
    record {
      good =
          λ k h.
          record {
            counted = given ∙ h.counted;
            few = h.few;
            row = h.row;
            known = subst (λ (n : ℕ). Known f asked steps n) (sym step) h.known;
            room_steps = omega (arith, h.room_steps);
            room_sizes = omega (arith, h.room_sizes);
            small = h.small;
          };
      pointer = pointer;
      asked_long = refl;
      steps_long = refl;
      sizes_long = refl;
    }

-- THE LAW. The landing's number is noted beside the edge, and then its arguments are run through.
module _ (s : List ℕ) (order : T (ordered 0 (records s))) (place end : ℕ) (e : EdgeRecords s place end) (asked steps sizes numbers : List ℕ) (p : Progress)
    (blank : Blank (Within s edge_kind place end) numbers) (room : end ≤ length numbers) where
  abbrev f : Function
  f = function_in s

  abbrev edge : Edge
  edge = edge_at s place end

  abbrev parameters : List ℕ
  parameters = (block_at f edge.target).parameters

  abbrev opened : Progress
  opened = record { pointer = p.pointer; given = p.given; made = p.made; blocks = p.blocks + 1; steps = p.steps }

  abbrev before : Tables
  before = tables asked steps sizes p

  abbrev after : Tables
  after = tables asked steps sizes opened

  abbrev tagged : List ℕ
  tagged = set numbers place (p.blocks + 1)

  module _ (t : Tables) (numbers' : List ℕ) (first : ℕ) (behind : first ≡ suc (place_of s edge.target))
      (walked : Walked f (landed_at s p.pointer (suc place) first) (suc place) (end - suc place) after tagged t numbers') where
    arguments-noted :
        Noted f (Within s (eqb 8) (suc place) end) (λ ns. mades_between s ns 8 (suc place) end)
        (for_each (λ m. m) (zipped s p.pointer edge.arguments parameters)) (end - suc place) after tagged t numbers'
    arguments-noted =
        let few = e.inside in
        let start = suc place in
        let whole : start + (end - start) ≡ end = omega arith in
        let long : length edge.arguments ≡ length (of_kind 8 (between s start end)) = length-map (of_kind 8 (between s start end)) argument in
        let ran =
        walked.state
        ∙ walk-landed s p.pointer start first (end - start) start (omega arith) (omega (arith, e.in_file)) parameters
        (subst (λ (q : ℕ). of_kind 8 (between s start q) ≡ leading 8 (between s start q)) (sym whole) e.leads)
        (subst (λ (q : ℕ). length (of_kind 8 (between s start q)) ≤ length parameters) (sym whole) e.fits)
        (λ j l.
        let same : suc (place_of s edge.target) + j ≡ first + (start + j - start) = omega (arith, behind) in
        parameter-at s order edge.target e.target j l
        ∙ ap (λ (i : ℕ). (encode (get_or (records s) i record'.Outside)).second) same)
        (plan_of f after, tagged)
        ∙ ap (λ (q : ℕ). ran_landed s p.pointer start first start (between s start q) parameters (plan_of f after, tagged)) whole in
        run-noted s p.pointer 8 start end few e.in_file after t tagged numbers'
        (λ i w. get_or-set_other numbers place i (p.blocks + 1) 0 (λ h. omega (arith, h, w.0)) ∙ blank i (argument-in s place end i w))
        (omega (arith, length-set numbers place (p.blocks + 1)))
        (for_each (λ m. m) (zipped s p.pointer edge.arguments parameters))
        (zipped-length s p.pointer edge.arguments parameters (plan_of f after) (omega (arith, e.fits, long)) ∙ long)
        (ap (λ (x : Plan × List ℕ). x.0) ran) (ap (λ (x : Plan × List ℕ). x.1) ran)
        (zipped-blocks s p.pointer edge.arguments parameters (plan_of f after)) walked.kept walked.long

    landing-noted : Noted f (Within s edge_kind place end) (λ ns. edge_plan_at s ns place end) (plan_landing f p.pointer edge) (end - place) before numbers t numbers'
    landing-noted =
        let few = e.inside in
        let a = arguments-noted in
        let steps' = for_each (λ m. m) (zipped s p.pointer edge.arguments parameters) in
        let count : 1 + (end - suc place) ≡ end - place = omega arith in
        let tag : get_or numbers' place 0 ≡ suc p.blocks =
        a.same place (λ w. omega (arith, w.0)) ∙ get_or-set_same numbers place (p.blocks + 1) 0 (omega arith) ∙ add-one p.blocks in
        record {
          answer =
              ap₂ (λ (l : Made) (r : List Made × Plan). (record { landing = l; arguments = r.0 }, r.1)) (ap made tag)
              (a.answer
              ∙ ap (λ (n : ℕ). steps' (record { slots = (plan_of f before).slots; values = (plan_of f before).values; blocks = n })) (add-one p.blocks));
          same =
              λ i out.
              a.same i (λ w. out (argument-in s place end i w))
              ∙ get_or-set_other numbers place i (p.blocks + 1) 0
              (λ h. out (omega (arith, h), omega (arith, h), subst (λ (j : ℕ). T (edge_kind j)) (sym (ap (λ (x : ℕ). kind (record_at s x)) h ∙ e.head)) tt));
          kept = subst (λ (n : ℕ). Kept f n before t) count (kept_more f 1 (end - suc place) before after t (kept_block f asked steps sizes p opened refl refl refl refl) a.kept);
          blocks = omega (arith, a.blocks);
          long = a.long ∙ length-set numbers place (p.blocks + 1);
        }

  -- the same by the code's sum
  pub landing-done :
      (t : Tables) (numbers' : List ℕ) (first : ℕ) → first ≡ suc (place_of s edge.target)
      → Walked f (landed_at s p.pointer (place + 1) first) (place + 1) (end - (place + 1)) after tagged t numbers'
      → Noted f (Within s edge_kind place end) (λ ns. edge_plan_at s ns place end) (plan_landing f p.pointer edge) (end - place) before numbers t numbers'
  landing-done t numbers' first behind walked =
      landing-noted t numbers' first behind
      (subst (λ (n : ℕ). Walked f (landed_at s p.pointer n first) n (end - n) after tagged t numbers') (add-one place) walked)

  -- room for the arguments
  pub arguments-ready : Able f before (end - place) → Range s tagged (place + 1) end × Good f after (end - (place + 1))
  arguments-ready able =
      let few = e.inside in
      let count : end - place ≡ 1 + (end - (place + 1)) = omega arith in (
        record { up = omega arith; in_file = e.in_file; in_numbers = omega (arith, length-set numbers place (p.blocks + 1)) },
        (kept_block f asked steps sizes p opened refl refl refl refl).good (end - (place + 1)) (subst (Good f before) count able.good),
      )

-- the first parameter of a target stands behind its record
pub first-parameter :
    (s places : List ℕ) (given : Given s places) (place end : ℕ) (e : EdgeRecords s place end) (w : Words) → w ≡ encode (record_at s place)
    → (w.second < length places) × (get_or places w.second 0 + 1 ≤ record_count s) × (get_or places w.second 0 + 1 ≡ suc (place_of s (edge_at s place end).target))
first-parameter s places given place end e w is =
    let same : w.second ≡ (edge_at s place end).target = ap (λ (x : Words). x.second) is in
    let inside : w.second < length (function_in s).blocks = omega (arith, same, e.target) in (
      omega (arith, places-long s places given),
      omega (arith, start-less s places given w.second inside, end-le s places given w.second inside),
      add-one (get_or places w.second 0) ∙ ap suc (place_at s places given w.second ∙ ap (place_of s) same),
    )
