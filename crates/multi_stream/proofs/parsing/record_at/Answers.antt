-- `multi_stream::parsing::record_at` meets its contract: the fields of the first byte, the main part and the trailing run.
use Rattle.frame.proofs.Entries.{within_measured}
use Rattle.multi_stream.specs.Kind.{kind}
use Rattle.multi_stream.proofs.Sighted.{main_sound, tops_are}
use Rattle.multi_stream.proofs.parsing.record_at.Goals as goal

pub bounds-body-0 : goal.bounds-body-0
bounds-body-0 c =
    (main_sound _ c.requires).0

pub main_at-requires : goal.main_at-requires
main_at-requires c =
    rw (c.part-2.ensures, c.wide-b0.ensures) (main_sound _ c.requires).1

pub trailing_run-requires : goal.trailing_run-requires
trailing_run-requires c =
    let w = within_measured kind _ c.requires in (w.before, w.all)

pub returns : goal.returns
returns c =
    tops_are _ c.requires (rw (c.part.ensures, c.wide-b0.ensures))
    (rw (c.part-2.ensures, c.wide-b0.ensures) at c.main_at.ensures.0) _
    (rw (c.part-2.ensures, c.wide-b0.ensures) at c.main_at.ensures.1) c.trailing_run.ensures
