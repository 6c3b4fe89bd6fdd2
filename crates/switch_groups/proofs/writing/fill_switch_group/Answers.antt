-- `writing::fill_switch_group` meets its contract: its first two bytes, its members, and its default.
use Rattle.switch_groups.proofs.Writes.{row_ready, head_ready, members_ready, default_ready, row_filled}
use Rattle.switch_groups.proofs.writing.fill_switch_group.Goals as goal

pub fill_all-n1-requires : goal.fill_all-n1-requires
fill_all-n1-requires c = search head_ready

pub fill_pairs-n2-requires : goal.fill_pairs-n2-requires
fill_pairs-n2-requires c =
    ((row_ready c.args.members.now c.args.g c.requires).inside, members_ready c.args.members.now c.args.g c.requires c.head_bytes.ensures c.fill_all-n1.ensures)

pub fill_all-requires : goal.fill_all-requires
fill_all-requires c = search default_ready

pub returns : goal.returns
returns c = search row_filled
