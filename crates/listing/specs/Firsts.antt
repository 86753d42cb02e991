-- THE NUMBER OF EACH BLOCK'S FIRST INSTRUCTION, as a table: made once, and read by all that go by instruction numbers.
use Rattle.std.specs.Prelude.{ℕ, ◌+◌, ◌<◌, ◌≤◌, ◌≡◌, refl, List, length, get_or, set, eqb}
use Rattle.std.proofs.Common.{sym, ap, ◌∙◌, arith, length-set, get_or-set_same, get_or-set_other, eqb→eq}
use Rattle.rules.specs.File.{function_in}
use Rattle.rules.specs.Liveness.{lists}
use Rattle.lists.specs.Tests.{test-elim, neqb→ne}
use Rattle.graph.specs.Tables.{Given}
use Rattle.listing.specs.Crossings.{crossings_below}
use Rattle.listing.specs.Listed.{length-lists}
use Rattle.listing.specs.Stepping.{heads_from}
use Rattle.listing.specs.Tables.{indices-given, behind-block}

-- as many as the blocks below have; behind the last block that is how many there are
pub record Firsts (s firsts : List ℕ) : Type 0 where
  pub room : length (function_in s).blocks < length firsts
  pub number : (b : ℕ) → b ≤ length (function_in s).blocks → get_or firsts b 0 ≡ length (crossings_below (function_in s) b)

module _ {s places firsts : List ℕ} (given : Given s places) (h : Firsts s firsts) where
  -- a block's last instruction stands before the next one's first
  pub first-behind :
      (b : ℕ) → b < length (function_in s).blocks
      → get_or firsts (b + 1) 0 ≡ get_or firsts b 0 + length (heads_from s (get_or places b 0 + 1) (get_or places (b + 1) 0))
  first-behind b l =
      h.number (b + 1) (omega arith)
      ∙ sym (behind-block (indices-given s places given) b l (get_or firsts b 0) (length (heads_from s (get_or places b 0 + 1) (get_or places (b + 1) 0))) (h.number b (omega arith)) refl)

-- the entry behind the last block
pub all-numbered : {s firsts : List ℕ} → Firsts s firsts → (blocks : ℕ) → blocks ≡ length (function_in s).blocks → get_or firsts blocks 0 ≡ length (lists (function_in s))
all-numbered {s} {firsts} h blocks e =
    ap (λ (n : ℕ). get_or firsts n 0) e ∙ h.number (length (function_in s).blocks) (omega arith) ∙ sym (length-lists (function_in s))

-- HOW IT IS MADE. The entries below b are noted, and what lies behind is as it was lent.
pub record NumberedTo (s : List ℕ) (b : ℕ) (lent firsts : List ℕ) : Type 0 where
  pub below : (c : ℕ) → c < b → get_or firsts c 0 ≡ length (crossings_below (function_in s) c)
  pub behind : (c : ℕ) → b ≤ c → get_or firsts c 0 ≡ get_or lent c 0
  pub long : length firsts ≡ length lent

pub numbered-start : (s lent : List ℕ) → NumberedTo s 0 lent lent
numbered-start s lent = record { below = λ c l. absurd (omega arith); behind = λ c l. refl; long = refl }

-- one entry more
pub numbered_more :
    (s : List ℕ) (b : ℕ) (lent firsts : List ℕ) (first : ℕ) → b < length firsts → first ≡ length (crossings_below (function_in s) b) → NumberedTo s b lent firsts
    → NumberedTo s (b + 1) lent (set firsts b first)
numbered_more s b lent firsts first l is h =
    record {
      below =
          λ c m.
          test-elim (eqb c b)
          (λ e.
          let same = eqb→eq c b e in
          ap (λ (x : ℕ). get_or (set firsts b first) x 0) same ∙ get_or-set_same firsts b first 0 l ∙ is
          ∙ ap (λ (x : ℕ). length (crossings_below (function_in s) x)) (sym same))
          (λ e. let other = neqb→ne c b e in get_or-set_other firsts b c first 0 other ∙ h.below c (omega (arith, other)));
      behind = λ c m. get_or-set_other firsts b c first 0 (λ e. omega (arith, e)) ∙ h.behind c (omega arith);
      long = length-set firsts b first ∙ h.long;
    }

-- with an entry for each block and one behind it is the table
pub numbered-firsts :
    {s lent firsts : List ℕ} (blocks : ℕ) → blocks ≡ length (function_in s).blocks → blocks < length lent → NumberedTo s (blocks + 1) lent firsts → Firsts s firsts
numbered-firsts blocks e room h =
    record { room = omega (arith, e, room, h.long); number = λ b l. h.below b (omega (arith, e, l)) }
