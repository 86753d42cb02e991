-- `planning_edges::landings::plan_landed` meets its contract.
use Rattle.planning.specs.Lent.{tables_of}
use Rattle.planning_edges.specs.Landed.{word-walked, use-walked}
use Rattle.rules.specs.declared.Words.{Words}
use Rattle.rules.specs.Graph.{size_of}
use Rattle.rules.specs.File.{function_in}
use mathlib.Core.Path.{ap, ◌∙◌, sym}
use Rattle.planning_edges.proofs.landings.plan_landed.Goals as goal

pub returns-then-not-is_word-clause-walked : goal.returns-then-not-is_word-clause-walked
returns-then-not-is_word-clause-walked c = use-walked c.args.spilled.file.bytes.now c.args.spiller.now.pointer c.args.start c.args.first c.args.place _ _ _ _ (sym c.is_word.ensures ∙ c.if-not-is_word.true) c.plan_use.ensures.walked

pub returns-clause-walked : goal.returns-clause-walked
returns-clause-walked c =
    let t = tables_of c.args.spiller.now in
    word-walked c.args.spilled.file.bytes.now t.progress.pointer c.args.start c.args.first c.args.place t.asked t.steps t.sizes c.args.spiller.now.numbers.now t.progress c.size_of.result c.requires.4 (sym c.is_word.ensures ∙ c.if-not-is_word.false) (c.size_of.ensures ∙ ap (λ (w : Words). size_of (function_in c.args.spilled.file.bytes.now) w.second) c.words_from-w.ensures)
