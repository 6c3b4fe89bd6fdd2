-- `plain_bytes` looks at the three bytes of a row without parts, and at all of any other.
use Rattle.scene_groups.specs.Rows.{group_cols, group_of}
use Rattle.scene_groups.proofs.Writes.{bare_so, bare_odd}
use Rattle.scene_groups.proofs.writing.plain_bytes.Goals as goal

pub returns-then-head_fits : goal.returns-then-head_fits
returns-then-head_fits c =
    let s = c.args in
    bare_so (group_cols (group_of s.groups.now s.b)) c.bare.ensures c.if-bare.true c.head_fits.ensures c.if-head_fits.true

pub returns-else-head_fits : goal.returns-else-head_fits
returns-else-head_fits c =
    let s = c.args in
    bare_odd (group_cols (group_of s.groups.now s.b)) c.bare.ensures c.if-bare.true c.head_fits.ensures c.if-head_fits.false
