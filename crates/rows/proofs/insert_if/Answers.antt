-- `rows::insert_if` meets its contract.
use Prim.Native.Nat.{ℕ, ◌*◌, ◌%◌, ◌^◌}
use native.Mathlib.Nat.{one-mul, zero-mul, mod-eq_of_lt}
use native.Mathlib.Omega.{arith}
use mathlib.Core.Bool.{Bool, true, false, cond}
use mathlib.Core.Path.{◌≡◌}
use lib.Pow.{pow-lt}
use mir.Val.{bool_byte}
use Rattle.rows.proofs.Filling.{rows-set-if}
use Rattle.rows.proofs.insert_if.Goals as goal

-- a truth value, shifted to the place of a bit
shifted : (wanted : Bool) (v x : ℕ) → x ≡ bool_byte wanted → x * 2 ^ (v % 64) % 2 ^ 64 ≡ cond wanted (2 ^ (v % 64)) 0
shifted true v x e = rw (e, one-mul, mod-eq_of_lt (pow-lt {i = v % 64} {j = 64} (omega arith)))
shifted false v x e = rw (e, zero-mul)

pub returns : goal.returns
returns c =
    let A = c.args in
    rows-set-if A.wanted A.t.now A.row A.v _ c.requires.0 c.requires.1 (shifted A.wanted A.v _ c.from.ensures)
