-- The replay as a whole: from the places that are found, over the table of holders, to the sizes.
use Prim.Native.Nat.{ℕ, zero, suc, ◌≤◌}
use mathlib.Core.Path.{◌≡◌, refl, ap, ap₂, ◌∙◌}
use mathlib.Core.List.{List}
use native.Mathlib.Omega.{arith}
use lib.ListN.{length, take, replicate, set}
use Rattle.std.proofs.Common.{length-take-le, get_or-take}
use Rattle.rules.specs.Limits.{largest_values}
use Rattle.rows.specs.Rows.{row_values}
use Rattle.holders.specs.declared.Holder.{Holder}
use Rattle.holders.specs.Table.{nobody, holders_after}
use Rattle.stackslots.specs.Tables.{Lent, PlacesFound, Replayed}
use Rattle.stackslots.specs.SlotSizes.{sizes_over}
use Rattle.stackslots.specs.HolderSteps.{holders-long}
use Rattle.stackslots.specs.HolderSizes.{sizes-replayed, length-sizes}

-- the sizes of the first slots, by a table that ends behind them
sizes-front : (table : List Holder) (r n : ℕ) (sizes : List ℕ) → n ≤ r → sizes_over (take r table) n sizes ≡ sizes_over table n sizes
sizes-front table r zero sizes le = refl
sizes-front table r (suc n) sizes le =
    ap₂ (λ (xs : List ℕ) (h : Holder). set xs n h.size) (sizes-front table r n sizes (omega arith)) (get_or-take r table n nobody le)

module _
    {s steps : List ℕ} {count : ℕ} {heads older tags places heads' older' tags' places' : List ℕ} {r : ℕ} (lent : Lent s steps count heads older tags)
    (found : PlacesFound s steps count heads older tags places r heads' older' tags' places')
  where
    -- few slots are made
    made-few : r ≤ row_values
    made-few = omega (arith, found.counted, (found.good count (omega arith)).few)

    -- and the sizes of its first slots are theirs
    pub replay-done :
        (table : List Holder) → table ≡ holders_after s steps places' count (replicate largest_values nobody)
        → (sizes sizes' : List ℕ) → sizes' ≡ sizes_over (take r table) (length (take r table)) sizes → row_values ≤ length sizes
        → (xs ys zs : List ℕ) → xs ≡ heads' → ys ≡ older' → zs ≡ tags' → Replayed s steps count heads older tags sizes r xs ys zs sizes'
    replay-done table e sizes sizes' e' room xs ys zs ex ey ez =
        let long : length (take r table) ≡ r =
        length-take-le r table (omega (arith, made-few, ap (length {A = Holder}) e, holders-long s steps places' count lent.in_steps found.found found.good count)) in
        let all : sizes' ≡ sizes_over table r sizes = e' ∙ ap (λ n. sizes_over (take r table) n sizes) long ∙ sizes-front table r r sizes (omega arith) in
        rw (ex, ey, ez)
        (record {
          slots =
              ap (take r) (all ∙ ap (λ (t : List Holder). sizes_over t r sizes) e)
              ∙ sizes-replayed s steps places' count lent.in_steps found.found found.good r found.counted sizes room;
          tagged = found.tagged;
          few = made-few;
          long = found.long;
          sizes_long = ap (length {A = ℕ}) all ∙ length-sizes table r sizes;
        })
