-- `drc_loudness::tallying::zero_bits` meets its contract: the record, and list after list.
use mathlib.Core.Path.{refl, ap}
use native.Mathlib.Omega.{arith}
use Rattle.wire.specs.Reads.{is_done}
use Rattle.drc_kind.specs.declared.rows.Info.{Info}
use Rattle.drc_loudness.proofs.Walked.{first_there}
use Rattle.drc_loudness.proofs.Found.{info_few, at_entries, at_downmixes, zeros_so}
use Rattle.drc_loudness.proofs.tallying.zero_bits.Goals as goal

pub info_at-info-requires : goal.info_at-info-requires
info_at-info-requires c =
    (first_there c.requires.0, c.requires.0.head)

pub rows_at-at-requires : goal.rows_at-at-requires
rows_at-at-requires c =
    first_there c.requires.0

pub rows_zeros-is-requires : goal.rows_zeros-is-requires
rows_zeros-is-requires c =
    rw (c.rows_at-at.ensures, c.info_at-info.ensures)
    (c.requires.0.head, ap is_done c.requires.0.instructions_read, tt, omega (arith, (info_few c.args.body.now).instructions))

pub rows_zeros-ls-requires : goal.rows_zeros-ls-requires
rows_zeros-ls-requires c =
    rw c.info_at-info.ensures
    (at_entries c.requires.0, ap is_done c.requires.0.entries_read, c.requires.1, omega (arith, (info_few c.args.body.now).entries))

pub rows_zeros-ds-requires : goal.rows_zeros-ds-requires
rows_zeros-ds-requires c =
    rw c.info_at-info.ensures
    (at_downmixes c.requires.0, ap is_done c.requires.0.downmixes_read, tt, omega (arith, (info_few c.args.body.now).downmixes))

pub returns : goal.returns
returns c =
    zeros_so c.requires.0 c.requires.1 (ap (λ (i : Info). i.part) c.info_at-info.ensures)
    c.rows_at-at.ensures refl c.top_zeros-top.ensures.0
    c.rows_zeros-is.ensures.0 c.rows_zeros-ls.ensures.0 c.rows_zeros-ds.ensures.0
