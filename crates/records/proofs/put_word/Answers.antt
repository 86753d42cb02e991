-- `records::put_word` meets its contract.
use Prim.Native.Nat.{ℕ, ◌+◌, ◌-◌}
use native.Mathlib.Omega.{arith}
use mathlib.Core.List.{List, ◌++◌}
use mathlib.Core.Path.{◌≡◌, sym, ap, ◌∙◌}
use lib.ListN.{take, drop}
use Rattle.rules.specs.Records.{bytes_of_word}
use Rattle.records.specs.Writing.{put-between}
use Rattle.records.proofs.put_word.Goals as goal

pub returns : goal.returns
returns c =
    let i = c.args.i in
    let t = c.args.out.now in
    let four : i + 4 - i ≡ 4 = omega arith in
    ap (λ (bs : List ℕ). take i t ++ (bs ++ drop (i + 4 - i) (drop i t))) (c.copy_from_slice.ensures.after ∙ c.to_le_bytes-bytes.ensures)
    ∙ ap (λ k. take i t ++ (bytes_of_word c.args.w ++ drop k (drop i t))) four
    ∙ sym (put-between i (bytes_of_word c.args.w) t c.requires)
