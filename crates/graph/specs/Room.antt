-- Tables of the largest counts have room: what a caller shows of a file that refusals 3, 4 and 5 let pass.
use Prim.Native.Nat.{ℕ, zero, suc, ◌+◌, ◌<◌, ◌≤◌}
use Rattle.std.specs.Prelude.{◌≡◌, not, take, replicate, T}
use Rattle.std.proofs.Math.Path.{refl, sym, ap}
use Rattle.std.proofs.Common.{◌∙◌, take-suc}
use mathlib.Core.List.{List, [], ◌∷◌, ◌++◌, append-nil, Nodup, Nodup-cons}
use native.Mathlib.Omega.{arith}
use Rattle.std.proofs.Math.ListN.{length, length-append, length-map}
use Rattle.std.proofs.lemmas.List.{length-replicate}
use Rattle.std.proofs.Math.Seq.{take-length}
use Rattle.std.proofs.Math.Dec.{not_T}
use Rattle.rules.specs.Limits.{largest_blocks, largest_edges}
use Rattle.rules.specs.Lists.{concat_map, has, nothing, padded}
use Rattle.rules.specs.Tree.{Edge, Instruction, Block, Function}
use Rattle.rules.specs.Records.{records}
use Rattle.rules.specs.File.{ordered, function_in}
use Rattle.rules.specs.Graph.{block_at, instructions_of, edges_out, successors, reachable}
use Rattle.rules.specs.Refusals.{too_many, all_edges, numbers_in_file}
use Rattle.lists.specs.Members.{◌∈◌, here, there, has→∈}
use Rattle.lists.specs.Maps.{concat_map-append, concat_map-concat_map}
use Rattle.lists.specs.Lack.{lack, lack-insert}
use Rattle.walks.specs.Reachable.{reachable-nodup}
use Rattle.walks.specs.InFile.{blocks-some, reachable-in-file}
use Rattle.graph.specs.Zeros.{Zeros, zeros-zeros}
use Rattle.graph.specs.Tails.{TailsLast}
use Rattle.graph.specs.Blocks.{block_places, block_table, length-block_places}
use Rattle.graph.specs.Tables.{tables, Lent}
use Rattle.graph.specs.Links.{links, reachable_edges, LentLinks}
use Rattle.graph.specs.Few.{blocks-few, edges_few}

-- EDGES OUT OF REACHABLE BLOCKS are edges of the file, each once.
module _ (f : Function) where
  abbrev weight : ℕ → ℕ
  weight b = length (successors f b)

  -- the edges out of different blocks, and those out of the others
  nodup-edges :
      (n : ℕ) (bs : List ℕ) → Nodup bs → ((b : ℕ) → b ∈ bs → b < n)
      → length (concat_map (successors f) bs) + lack weight n (λ x. has x bs) ≤ lack weight n nothing
  nodup-edges n [] d h = omega arith
  nodup-edges n (b ∷ bs) d h =
      let parts = Nodup-cons.0 d in
      let new : T (not (has b bs)) = not_T (has b bs) (λ k. parts.0 ∣ has→∈ bs k ∣₁) in
      omega (
        arith,
        length-append (successors f b) (concat_map (successors f) bs),
        nodup-edges n bs parts.1 (λ x m. h x (there m)),
        lack-insert weight n (λ x. has x bs) b (h b (here refl)) new,
      )

  -- the edges out of the first k blocks
  first-edges : (k : ℕ) → k ≤ length f.blocks → lack weight k nothing ≡ length (concat_map edges_out (take k f.blocks))
  unfolding lack
  first-edges zero l = refl
  first-edges (suc k) l =
      let b = block_at f k in
      sym (ap (λ (bs : List Block). length (concat_map edges_out bs)) (take-suc f.blocks k _ l)
      ∙ ap length (concat_map-append edges_out (take k f.blocks) (b ∷ []) ∙ ap (λ (es : List Edge). concat_map edges_out (take k f.blocks) ++ es) (append-nil (edges_out b)))
      ∙ omega (
        arith,
        length-append (concat_map edges_out (take k f.blocks)) (edges_out b),
        first-edges k (omega arith),
        length-map (edges_out b) (λ (e : Edge). e.target),
      ))

  all-edges : lack weight (length f.blocks) nothing ≡ length (all_edges f)
  all-edges =
      first-edges (length f.blocks) (omega arith)
      ∙ ap (λ (bs : List Block). length (concat_map edges_out bs)) (take-length f.blocks)
      ∙ ap length (sym (concat_map-concat_map (λ (i : Instruction). i.edges) instructions_of f.blocks))

  -- So there are no more of them than edges in the file.
  pub reachable_edges-le : T (numbers_in_file f) → 0 < length f.blocks → length (reachable_edges f) ≤ length (all_edges f)
  reachable_edges-le in_file some =
      omega (
        arith,
        nodup-edges (length f.blocks) (reachable f) (reachable-nodup f) (λ b. reachable-in-file f in_file some),
        all-edges,
      )

-- a table of zeros with a place for each of the largest count
abbrev pub Blank : ℕ → List ℕ → Type 0
Blank largest table = (largest ≤ length table) × Zeros table

pub blank-zeros : (n : ℕ) → Blank n (replicate n 0)
blank-zeros n = (omega (arith, length-replicate {A = ℕ} n 0), zeros-zeros n)

-- TABLES OF THE LARGEST COUNTS are long enough for a file that those refusals let pass. The block table has a place for each
-- block and one behind,
pub table-room : (s : List ℕ) → T (not (too_many s)) → (n : ℕ) → largest_blocks < n → length (block_places s) < n
table-room s few n l = omega (arith, length-block_places s, blocks-few s few)

module _ (s : List ℕ) (few : T (not (too_many s))) (in_order : T (ordered 0 (records s))) (in_file : T (numbers_in_file (function_in s))) where
  enough : {table : List ℕ} → Blank largest_blocks table → length (function_in s).blocks ≤ length table
  enough h = omega (arith, blocks-few s few, h.0)

  -- so do the tables of the walk,
  pub walk-lent :
      (places order index stack next : List ℕ) → places ≡ padded (length places) (block_table s)
      → Blank largest_blocks order → Blank largest_blocks index → Blank largest_blocks stack → Blank largest_blocks next → TailsLast s
      → Lent s places (tables order index stack next 0 0)
  walk-lent places order index stack next table o i t n tails =
      record {
        given = record { in_order = in_order; in_file = in_file; table = table };
        room = record { order = enough o; index = enough i; stack = enough t; next = enough n };
        order = o.1;
        index = i.1;
        stack = t.1;
        next = n.1;
        tails = tails;
      }

  enough_edges : {table : List ℕ} → Blank largest_edges table → length (reachable_edges (function_in s)) ≤ length table
  enough_edges h =
      omega (
        arith,
        reachable_edges-le (function_in s) in_file (blocks-some (records s) in_order),
        edges_few s few in_order,
        h.0,
      )

  -- and those of the lists of predecessors.
  pub lists-lent :
      (first from next : List ℕ) → Blank largest_blocks first → Blank largest_edges from → Blank largest_edges next
      → LentLinks (function_in s) (links first from next 0)
  lists-lent first from next b f n =
      record {
        blocks = enough b;
        froms = enough_edges f;
        nexts = enough_edges n;
        first = b.1;
        from = f.1;
        next = n.1;
      }
