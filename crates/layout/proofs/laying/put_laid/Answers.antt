-- `layout::laying::put_laid` meets its contract.
use borrow.Author.Rules.{rules}
use mathlib.Core.Path.{refl}
use Rattle.writing.specs.Put.{put_front, fits_front}
use Rattle.layout.proofs.laying.put_laid.Goals as goal

pub lay_block-requires : goal.lay_block-requires
lay_block-requires c = (c.requires.0, fits_front (record { bytes = c.args.rest; at = 0 }) _ refl c.requires.1)

pub returns : goal.returns
returns c = put_front refl c.lay_block.ensures (search rules)
