-- `writing::parts::word_part` meets its contract.
use Rattle.std.proofs.Common.{inl, inr}
use Rattle.numbering.specs.Beside.{made}
use Rattle.writing.proofs.Words.{word-passed, word-only, word-parameter, word-landed, word-nothing}
use Rattle.writing.proofs.parts.word_part.Goals as goal

pub returns-in-Passed : goal.returns-in-Passed
returns-in-Passed c =
    λ size slot.
    elim c.in-Passed.is [
      | inl p ↦ rw p (word-passed size slot c.args.x c.args.tag c.requires.1)
      | inr p ↦ rw p (word-only size slot c.args.x c.args.tag c.requires.1)
    ]

pub returns-in-LandingParameter : goal.returns-in-LandingParameter
returns-in-LandingParameter c =
    λ size slot. rw (c.parameter_of.ensures, c.in-LandingParameter.is) (word-parameter size slot c.args.x c.args.tag c.requires.1)

pub returns-in-Landed : goal.returns-in-Landed
returns-in-Landed c = λ size slot. rw (c.landed_word.ensures, c.in-Landed.is) (word-landed size slot c.args.x c.args.tag c.requires.1)

pub returns-in_default : goal.returns-in_default
returns-in_default c =
    λ size slot.
    word-nothing size slot c.args.x (made c.args.tag) c.requires.1 c.args.part c.requires.0 c.in_default.not-Passed c.in_default.not-Word
    c.in_default.not-LandingParameter c.in_default.not-Landed
