-- `writing::effect_long` meets its contract.
use Rattle.instruction_writing.proofs.Writes.{loud_fits, effect_long_lem}
use borrow.Author.Rules.{rules}
use Rattle.instruction_writing.proofs.writing.effect_long.Goals as goal

pub target_long-requires : goal.target_long-requires
target_long-requires c =
    loud_fits c.args.d c.requires.0

pub returns : goal.returns
returns c = search (rules, effect_long_lem)
