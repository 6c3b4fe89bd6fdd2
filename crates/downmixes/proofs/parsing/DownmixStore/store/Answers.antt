use mathlib.Core.Path.{refl, ap, ◌∙◌}
use lib.Seq.{sets}
use Rattle.downmixes.specs.Rows.{downmix_row}
use Rattle.downmixes.proofs.Downmixes.{downmix_there, downmix_run}
use Rattle.downmixes.proofs.parsing.DownmixStore.store.Goals as goal

pub downmix_at-requires : goal.downmix_at-requires
downmix_at-requires c = downmix_there c.args.body.now c.args.at c.requires.0 c.requires.1

pub returns : goal.returns
returns c = record {
  value = _;
  reads = downmix_run c.args.body.now c.args.at c.requires.0 c.requires.1;
  wide = refl;
  stored = c.put_row.ensures ∙ ap (sets c.args.table.now c.args.to) (c.columns.ensures ∙ ap downmix_row c.downmix_at.ensures);
}
