-- `multi_stream::parsing::fill` meets its contract: the groups of the body that was measured.
use Rattle.multi_stream.proofs.Sighted.{fillable, filled_there, filled_none}
use borrow.Author.Rules.{rules}
use Rattle.multi_stream.proofs.parsing.fill.Goals as goal

pub store_rows-requires : goal.store_rows-requires
store_rows-requires c =
    let f = fillable _ c.requires.0 c.if-count-gt0.true in (f.inside, f.sound, tt, search rules)

pub returns-then-count-gt0 : goal.returns-then-count-gt0
returns-then-count-gt0 c = search filled_there

pub returns-else-count-gt0 : goal.returns-else-count-gt0
returns-else-count-gt0 c =
    filled_none _ c.requires.0 c.if-count-gt0.false _
