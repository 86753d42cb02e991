-- What the lists are made from: a file by its tables, and the final live-out as rows.
use Rattle.std.specs.Prelude.{ℕ, zero, suc, ◌+◌, ◌-◌, ◌*◌, ◌<◌, ◌≤◌, ◌≡◌, refl, Bool, true, false, not, ◌||◌, List, [], ◌∷◌, ◌++◌, length, get_or, eqb}
use Rattle.std.proofs.Common.{sym, ap, ap₂, subst, ◌∙◌, arith, add-one, length-append, eq-eqb, ne_eqb}
use Rattle.std.proofs.lemmas.List.{length-map}
use Rattle.std.proofs.Math.Dec.{eqb-suc-zero}
use Rattle.rules.specs.Limits.{row_words}
use Rattle.rules.specs.Lists.{has, any, update, up_from, union, NumberSet}
use Rattle.rules.specs.Tree.{Instruction, Function}
use Rattle.rules.specs.File.{instruction_of, function_in}
use Rattle.rules.specs.Graph.{block_at, instructions_of, reachable}
use Rattle.rules.specs.Liveness.{process, lists}
use Rattle.records.specs.Parts.{BlockBody}
use Rattle.lists.specs.Anys.{any-joined}
use Rattle.graph.specs.Blocks.{place_of, block-body, instructions-by-place}
use Rattle.graph.specs.Sections.{places, sections_at, length-sections_at}
use Rattle.graph.specs.Tables.{Given, tag_from, index_table, length-index_table, index_table-at}
use Rattle.graph.specs.ByTable.{place_at, end-le, start-less, body-by-table}
use Rattle.rows.specs.Rows.{rows, row_values}
use Rattle.fixpoint.specs.Finding.{update_here}
use Rattle.blocksets.specs.InRows.{InRows}
use Rattle.listing.specs.Crossings.{fill, fill_none, crossings_among, crossings, crossings_below, crossings-more, length-crossings, crossings-reachable, crossings-unreachable, up_from-more}
use Rattle.listing.specs.Stepping.{heads_from, instructions_from, BlockRecords}
use Rattle.listing.specs.Listed.{together, length-lists}

-- the file by its block table, and its blocks' indices
pub record IndexTables (s places index : List ℕ) : Type 0 where
  pub given : Given s places
  pub indexed : index ≡ index_table (function_in s) (length index)
  pub index_room : length (function_in s).blocks ≤ length index

-- the indices follow from the file
pub indices-given : (s places : List ℕ) → Given s places → IndexTables s places (index_table (function_in s) (length (function_in s).blocks))
indices-given s places given =
    let f = function_in s in
    record {
      given = given;
      indexed = ap (index_table f) (sym (length-index_table f (length f.blocks)));
      index_room = omega (arith, length-index_table f (length f.blocks));
    }

-- with them the final live-out of its blocks, and room for a row an instruction
pub record ListTables (s places index outs : List ℕ) (room : ℕ) : Type 0 where
  pub tables : IndexTables s places index
  pub values : length (function_in s).values ≤ row_values
  pub live : rows outs ≡ (process (function_in s)).outs
  pub outs_room : row_words * length (function_in s).blocks ≤ length outs
  pub lists_room : row_words * length (lists (function_in s)) ≤ room

-- a block has a tag if it is reachable
tag-some : (n : ℕ) (xs : List ℕ) (b : ℕ) → has b xs ≡ not (eqb (tag_from n xs b) 0)
tag-some n [] b = refl
tag-some n (x ∷ xs) b = go (eqb b x) (tag-some (suc n) xs b)
  where
    go : (o : Bool) → has b xs ≡ not (eqb (tag_from (suc n) xs b) 0)
        → o || has b xs ≡ not (eqb (elim o [ true ↦ suc n | false ↦ tag_from (suc n) xs b ]) 0)
    go true later = sym (ap not (eqb-suc-zero n))
    go false later = later

-- BY BLOCK, with its indices
module _ {s places index : List ℕ} (t : IndexTables s places index) (b : ℕ) (l : b < length (function_in s).blocks) where
  abbrev f : Function
  f = function_in s

  abbrev start : ℕ
  start = get_or places b 0 + 1

  abbrev end : ℕ
  end = get_or places (b + 1) 0

  pub block-records : BlockRecords s start end
  block-records =
      record {
        ascends = start-less s places t.given b l;
        inside = end-le s places t.given b l;
        body = subst BlockBody (sym (body-by-table s places t.given b l)) (block-body s t.given.in_order b l);
      }

  -- its instructions by the table
  pub instructions-by-table : instructions_from s start end ≡ instructions_of (block_at f b)
  instructions-by-table =
      let first : start ≡ suc (place_of s b) = add-one (get_or places b 0) ∙ ap suc (place_at s places t.given b) in
      let last : end ≡ place_of s (suc b) = place_at s places t.given (b + 1) ∙ ap (place_of s) (add-one b) in
      ap₂ (instructions_from s) first last ∙ sym (instructions-by-place s t.given.in_order b l)

  pub length-heads : length (heads_from s start end) ≡ length (crossings f b)
  length-heads =
      sym (length-crossings f b ∙ ap length (sym instructions-by-table)
      ∙ length-map (sections_at s end (heads_from s start end)) instruction_of ∙ length-sections_at s end (heads_from s start end))

  -- the number behind its last one
  pub behind-block :
      (first count : ℕ) → first ≡ length (crossings_below f b) → count ≡ length (heads_from s start end)
      → first + count ≡ length (crossings_below f (b + 1))
  behind-block first count e c =
      omega (arith, e, c, length-heads, ap length (crossings-more f b), length-append (crossings_below f b) (crossings f b))

  -- it is reachable if it has a tag
  tag_at : has b (reachable f) ≡ not (eqb (get_or index b 0) 0)
  tag_at =
      tag-some 0 (reachable f) b
      ∙ ap (λ (x : ℕ). not (eqb x 0))
      (sym (ap (λ (xs : List ℕ). get_or xs b 0) t.indexed ∙ index_table-at f (length index) b (omega (arith, t.index_room))))

  pub tag-reachable : (get_or index b 0 ≡ 0 → ⊥) → has b (reachable f) ≡ true
  tag-reachable tag = tag_at ∙ ap not (ne_eqb (get_or index b 0) 0 tag)

  pub tag-unreachable : get_or index b 0 ≡ 0 → has b (reachable f) ≡ false
  tag-unreachable tag = tag_at ∙ ap not (eq-eqb (get_or index b 0) 0 tag)

module _ {s places index outs : List ℕ} {room : ℕ} (t : ListTables s places index outs room) where
  pub list-in-rows : InRows s
  list-in-rows = record { in_order = t.tables.given.in_order; in_file = t.tables.given.in_file; values = t.values }

  -- there is room for the instructions of the blocks below one
  crossings-le : (k b n : ℕ) → b + k ≡ n → length (crossings_below (function_in s) b) ≤ length (crossings_below (function_in s) n)
  crossings-le zero b n e = let same : n ≡ b = omega arith in rw same (omega arith)
  crossings-le (suc k) b n e =
      let f = function_in s in
      omega (
        arith,
        crossings-le k (b + 1) n (omega arith),
        ap length (crossings-more f b),
        length-append (crossings_below f b) (crossings f b),
      )

  pub below-fits : (b : ℕ) → b ≤ length (function_in s).blocks → row_words * length (crossings_below (function_in s) b) ≤ room
  below-fits b l =
      let n = length (function_in s).blocks in
      omega (arith, t.lists_room, length-lists (function_in s), crossings-le (n - b) b n (omega arith))

  module _ (b : ℕ) (l : b < length (function_in s).blocks) where
    -- a block with a tag has lists,
    pub block_listed :
        (first behind : ℕ) (lent : ℕ → NumberSet) → (get_or index b 0 ≡ 0 → ⊥)
        → behind ≡ first + length (heads_from s (get_or places b 0 + 1) (get_or places (b + 1) 0))
        → fill (behind - length (heads_from s (get_or places b 0 + 1) (get_or places (b + 1) 0)))
        (crossings_among (function_in s) (instructions_from s (get_or places b 0 + 1) (get_or places (b + 1) 0)) (rows outs b)) lent
        ≡ fill first (crossings (function_in s) b) lent
    block_listed first behind lent tag e =
        let f = function_in s in
        let p = get_or places b 0 + 1 in
        let q = get_or places (b + 1) 0 in
        let from : behind - length (heads_from s p q) ≡ first = omega arith in
        ap (λ (n : ℕ). fill n (crossings_among f (instructions_from s p q) (rows outs b)) lent) from
        ∙ ap₂ (λ (is : List Instruction) (out : NumberSet). fill first (crossings_among f is out) lent) (instructions-by-table t.tables b l)
        (ap (λ (r : ℕ → NumberSet). r b) t.live)
        ∙ ap (λ xs. fill first xs lent) (sym (crossings-reachable f b (tag-reachable t.tables b l tag)))

    -- and one without has none
    pub block-unlisted : (first : ℕ) (lent : ℕ → NumberSet) → get_or index b 0 ≡ 0 → lent ≡ fill first (crossings (function_in s) b) lent
    block-unlisted first lent tag =
        let f = function_in s in
        sym (ap (λ xs. fill first xs lent) (crossings-unreachable f b (tag-unreachable t.tables b l tag))
        ∙ fill_none (instructions_of (block_at f b)) first lent)

-- ROWS TOGETHER, one more
pub together-more : (n : ℕ) (t : ℕ → NumberSet) → union (together n t) (t n) ≡ together (n + 1) t
together-more n t = λ i v. each v i
  where
    two : (a b : Bool) → a || b ≡ a || (b || false)
    two true b = refl
    two false true = refl
    two false false = refl

    each : (v : ℕ) → union (together n t) (t n) v ≡ together (n + 1) t v
    each v =
        let next : n + 1 ≡ suc n = omega arith in
        let same : 0 + n ≡ n = omega arith in
        two (together n t v) (t n v)
        ∙ sym (ap (λ (k : ℕ). any (λ i. t i v) (up_from 0 k)) next
        ∙ ap (any (λ i. t i v)) (up_from-more 0 n ∙ ap (λ (x : ℕ). up_from 0 n ++ (x ∷ [])) same)
        ∙ any-joined (λ i. t i v) (up_from 0 n) (n ∷ []))

-- a row that gets one row more
pub joined-more :
    (n : ℕ) (from t u : ℕ → NumberSet) → t 0 ≡ together n from → u ≡ update 0 (union (t 0) (from n)) t → u 0 ≡ together (n + 1) from
joined-more n from t u here there =
    ap (λ (z : ℕ → NumberSet). z 0) there
    ∙ update_here 0 (union (t 0) (from n)) t
    ∙ ap (λ (z : NumberSet). union z (from n)) here
    ∙ together-more n from
