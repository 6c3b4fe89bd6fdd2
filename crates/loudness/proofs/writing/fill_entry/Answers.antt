-- `writing::fill_entry` meets its contract: the bytes of the scope, the length, and the bytes from the store.
use Rattle.loudness.proofs.Written.{scope_ready, info_inside, length_ready, info_room, entry_filled}
use borrow.Author.Rules.{rules}
use Rattle.loudness.proofs.writing.fill_entry.Goals as goal

pub fill_scope-n1-requires : goal.fill_scope-n1-requires
fill_scope-n1-requires c =
    scope_ready c.args.store.now c.args.e c.requires

pub put-n2-requires : goal.put-n2-requires
put-n2-requires c =
    length_ready c.args.store.now c.args.e c.requires
    c.fill_scope-n1.ensures

pub copy-requires : goal.copy-requires
copy-requires c = search (rules, info_inside, info_room)

pub returns : goal.returns
returns c = search entry_filled
