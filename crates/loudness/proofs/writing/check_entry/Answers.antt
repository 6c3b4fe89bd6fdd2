-- `writing::check_entry` meets its contract: the range, the scope, the length and the bytes.
use mathlib.Core.Path.{◌∙◌}
use mathlib.Core.List.{[], ◌∷◌}
use Rattle.wire.specs.Bits.{field}
use Rattle.wire.proofs.Fields.{fit_one}
use Rattle.loudness.proofs.Written.{entry_checked}
use borrow.Author.Rules.{rules}
use Rattle.loudness.proofs.writing.check_entry.Goals as goal

pub run-requires : goal.run-requires
run-requires c =
    let w = (c.byte-p2.ensures.of
    (field 8 c.args.e.loudness_info.length ∷ []) (c.fits.ensures ∙ fit_one 8 c.args.e.loudness_info.length)).near in
    (search rules, search (rules, w))

pub returns : goal.returns
returns c =
    search (entry_checked, rw c.id_types.ensures at c.check_scope-p1.ensures)
