-- `writing::fill_entry` meets its contract: the ID, the length, and the bytes from the store.
use Rattle.labels.proofs.Written.{id_ready, label_inside, length_fits, length_room, label_room, entry_filled}
use Rattle.labels.proofs.writing.fill_entry.Goals as goal

pub fill_all-n1-requires : goal.fill_all-n1-requires
fill_all-n1-requires c = search id_ready

pub put-n2-requires : goal.put-n2-requires
put-n2-requires c = search (length_fits, length_room)

pub copy-requires : goal.copy-requires
copy-requires c = search (label_inside, label_room)

pub returns : goal.returns
returns c = search entry_filled
