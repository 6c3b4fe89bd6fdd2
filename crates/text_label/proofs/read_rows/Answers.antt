-- Reading a body that may have languages: it is measured, room is asked, and both tables are filled.
use Rattle.wire.proofs.Handed.{handed}
use Rattle.frame.proofs.Entries.{reads_unmeasured}
use Rattle.text_label.specs.Kind.{kind}
use Rattle.text_label.proofs.Sighted.{lacks_room, both_roomy, well_read}
use Rattle.text_label.proofs.read_rows.Goals as goal

pub returns-in_err-s : goal.returns-in_err-s
returns-in_err-s c = rw (handed c.from_residual.result c.from_residual.ensures.1) (reads_unmeasured kind _ c.in_err-s.ensures _)

pub returns-in_err-and_table : goal.returns-in_err-and_table
returns-in_err-and_table c =
    rw (handed c.from_residual-in_err-and_table.result c.from_residual-in_err-and_table.ensures.1)
    (lacks_room c.in_ok-s.ensures c.and_table-a.ensures c.in_err-and_table.ensures)

pub fill-requires : goal.fill-requires
fill-requires c = (c.in_ok-s.ensures, both_roomy c.in_ok-s.ensures c.and_table-a.ensures c.in_ok-and_table.ensures)

pub returns : goal.returns
returns c = well_read c.in_ok-s.ensures c.and_table-a.ensures c.in_ok-and_table.ensures c.fill.ensures c.record_at.ensures
