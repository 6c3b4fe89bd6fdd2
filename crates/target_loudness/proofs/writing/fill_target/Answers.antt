-- `writing::fill_target` meets its contract.
use Rattle.target_loudness.specs.Rows.{target_cols}
use Rattle.target_loudness.proofs.Writes.{upper_ready, lower_ready, depends_ready, target_filled, none_filled}
use Rattle.target_loudness.proofs.writing.fill_target.Goals as goal

pub fill_all-n1-requires : goal.fill_all-n1-requires
fill_all-n1-requires c = search upper_ready

pub fill_all-n2-requires : goal.fill_all-n2-requires
fill_all-n2-requires c =
    search (lower_ready (target_cols c.args.t))

pub fill_all-requires : goal.fill_all-requires
fill_all-requires c = search depends_ready

pub returns-then-t-eq1 : goal.returns-then-t-eq1
returns-then-t-eq1 c = search target_filled

pub returns-else-t-eq1 : goal.returns-else-t-eq1
returns-else-t-eq1 c =
    none_filled (target_cols c.args.t) c.if-t-eq1.false
