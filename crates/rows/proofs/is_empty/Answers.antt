-- `rows::is_empty` meets its contract.
use borrow.Author.Rules.{rules}
use Prim.Native.Nat.{◌+◌, ◌-◌, ◌*◌}
use native.Mathlib.Omega.{arith}
use Rattle.std.specs.Prelude.{◌≡◌, fold, bit_or, take, drop}
use Rattle.std.proofs.Common.{ap, ◌∙◌}
use Rattle.rows.proofs.Together.{together-empty}
use Rattle.rows.proofs.is_empty.Goals as goal

pub returns : goal.returns
returns c =
    let t = c.args.t.now in
    let at = 8 * c.args.row in
    let words : c.fold.result ≡ fold bit_or 0 (take (at + 8 - at) (drop at t)) = search rules in
    let eight : at + 8 - at ≡ 8 = omega arith in
    together-empty t c.args.row _ c.requires (search rules) (words ∙ ap (λ n. fold bit_or 0 (take n (drop at t))) eight)
