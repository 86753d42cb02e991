-- `records::put_words` meets its contract.
use mathlib.Core.Path.{ap, ◌∙◌}
use mathlib.Core.List.{List}
use Prim.Native.Nat.{ℕ}
use Rattle.rules.specs.Records.{bytes_of_word}
use Rattle.records.specs.Writing.{put_from, put-words}
use Rattle.records.proofs.put_words.Goals as goal

pub returns : goal.returns
returns c = let w = c.args.w in
    c.put_word-4.ensures
    ∙ ap (λ (t : List ℕ). put_from 12 (bytes_of_word w.fourth) t)
    (c.put_word-3.ensures ∙ ap (λ (t : List ℕ). put_from 8 (bytes_of_word w.third) t)
    (c.put_word-2.ensures ∙ ap (λ (t : List ℕ). put_from 4 (bytes_of_word w.second) t) c.put_word.ensures))
    ∙ put-words w c.args.out.now c.requires
