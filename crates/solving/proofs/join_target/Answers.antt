-- `solving::join_target` meets its contract.
use borrow.Author.Rules.{rules}
use mathlib.Core.Path.{refl, sym, ap, subst, ◌∙◌}
use mathlib.Core.List.{List}
use Prim.Native.Nat.{ℕ}
use Rattle.rules.specs.Records.{record_at}
use Rattle.lists.specs.Members.{◌∈◌, here}
use Rattle.rows.specs.Rows.{rows}
use Rattle.solving.specs.Progress.{joined_into}
use Rattle.solving.proofs.Joining.{joined-none, joined-one, named-edge, named_other}
use Rattle.solving.proofs.join_target.Goals as goal

pub join-requires : goal.join-requires
join-requires c =
    let w = c.words_at-w in
    let is = named-edge (record_at c.args.file.bytes.now c.args.i) w.result w.ensures c.if-w-eq-EDGE.true in
    (search rules, c.requires.2 _ (subst (λ (ts : List ℕ). w.result.second ∈ ts) is (here refl)))

pub returns-then-w-eq-EDGE : goal.returns-then-w-eq-EDGE
returns-then-w-eq-EDGE c =
    let w = c.words_at-w in
    let is = named-edge (record_at c.args.file.bytes.now c.args.i) w.result w.ensures c.if-w-eq-EDGE.true in
    c.join.ensures ∙ joined-one c.args.b w.result.second (rows c.args.ins.now) (rows c.args.outs.now)
    ∙ ap (λ (ts : List ℕ). joined_into c.args.b (rows c.args.ins.now) ts (rows c.args.outs.now)) is

pub returns-else-w-eq-EDGE : goal.returns-else-w-eq-EDGE
returns-else-w-eq-EDGE c =
    let w = c.words_at-w in
    let is = named_other (record_at c.args.file.bytes.now c.args.i) w.result w.ensures c.if-w-eq-EDGE.false in
    sym (joined-none c.args.b (rows c.args.ins.now) (rows c.args.outs.now))
    ∙ ap (λ (ts : List ℕ). joined_into c.args.b (rows c.args.ins.now) ts (rows c.args.outs.now)) is
