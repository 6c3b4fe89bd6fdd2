-- Reading: without languages the record stands at once; else the rows are read.
use Rattle.text_label.proofs.Sighted.{bare_sizes, bare_reads}
use Rattle.text_label.proofs.read.Goals as goal

pub record_at-requires : goal.record_at-requires
record_at-requires c = search bare_sizes

pub returns-then-is_bare : goal.returns-then-is_bare
returns-then-is_bare c = search bare_reads
