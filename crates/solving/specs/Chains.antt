-- A block's linked list as it is read: from its first tag, entry by entry, to the tag 0.
use Rattle.std.specs.Prelude.{ℕ, suc, ◌<◌, ◌≤◌, ◌≡◌, List, ◌∷◌, length, get_or}
use Rattle.std.proofs.Common.{arith, ap}
use Rattle.graph.specs.Links.{links, list_from, list_at}
use Rattle.graph.specs.LinkLaws.{enough}
use Rattle.graph.specs.LinkLaws as laws

-- The predecessors in the entries from a tag on. Entries lead to entries before them, so a tag is as many as it can have.
abbrev pub chain : List ℕ → List ℕ → ℕ → List ℕ
chain from next tag = list_from from next tag tag

-- such entries
pub record Chain (from next : List ℕ) (tag : ℕ) : Type 0 where
  pub froms : tag ≤ length from
  pub nexts : tag ≤ length next
  -- an entry leads to one before it
  pub falls : (e : ℕ) → e < tag → get_or next e 0 ≤ e

module _ (from next : List ℕ) (e : ℕ) (h : Chain from next (suc e)) where
  -- the first entry's predecessor stands in front of those behind it
  pub chain_more : chain from next (suc e) ≡ get_or from e 0 ∷ chain from next (get_or next e 0)
  chain_more =
      let fall = h.falls e (omega arith) in
      ap (λ (ps : List ℕ). get_or from e 0 ∷ ps)
      (enough from next (suc e) h.falls e (get_or next e 0) (get_or next e 0) fall (omega arith) (omega arith))

  -- which are such entries too
  pub chain-behind : Chain from next (get_or next e 0)
  chain-behind =
      let fall = h.falls e (omega arith) in
      let x = h.froms in
      let y = h.nexts in
      record { froms = omega arith; nexts = omega arith; falls = λ d l. h.falls d (omega arith) }

-- Every list of linked tables is such, and is what the tables say of the block.
module _ (first from next : List ℕ) (used m : ℕ) (h : laws.Chained m (links first from next used)) (b : ℕ) where
  abbrev tag : ℕ
  tag = get_or first b 0

  pub linked-chain : Chain from next tag
  linked-chain =
      let l = h.starts b in
      let x = h.froms in
      let y = h.nexts in
      record { froms = omega arith; nexts = omega arith; falls = λ e k. h.falls e (omega arith) }

  pub chain-linked : chain from next tag ≡ list_at (links first from next used) b
  chain-linked =
      let l = h.starts b in
      enough from next used h.falls tag used tag (omega arith) l l
