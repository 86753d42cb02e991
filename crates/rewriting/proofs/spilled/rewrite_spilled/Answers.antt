-- `rewriting::spilled::rewrite_spilled` meets its contract.
use Prim.Native.Nat.{ℕ, ◌*◌}
use mathlib.Core.Path.{ap, ◌∙◌}
use native.Mathlib.Omega.{arith}
use lib.ListN.{length, length-replicate}
use Rattle.rules.specs.Limits.{largest_records}
use Rattle.rules.specs.Services.{rewriting_answer, rewriting_output}
use Rattle.rewriting.specs.Planning.{plannable, plan-found, own-lent}
use Rattle.rewriting.proofs.spilled.rewrite_spilled.Goals as goal

pub plan_records-planned-requires : goal.plan_records-planned-requires
plan_records-planned-requires c = (plannable c.requires.0, own-lent, c.args.numbered.numbered)

pub write_planned-requires : goal.write_planned-requires
write_planned-requires c = (
  plan-found c.requires.0 c.plan_records-planned.ensures (omega (arith, c.plan_records-planned.auto.numbers, length-replicate {A = ℕ} largest_records 0))
      (c.plan_records-planned.auto.new_sizes ∙ length-replicate {A = ℕ} (2 * largest_records) 0),
  c.requires.1,
)

pub returns : goal.returns
returns c =
    let s = c.args.numbered.indexed.blocks.file.bytes.now in
    let own = c.plan_records-planned.ensures.pointed in (
      c.write_planned.ensures.0 ∙ ap (λ (x : ℕ). rewriting_answer s x (length c.args.out.now)) own,
      c.write_planned.ensures.1 ∙ ap (λ (x : ℕ). rewriting_output s x (length c.args.out.now)) own,
    )
