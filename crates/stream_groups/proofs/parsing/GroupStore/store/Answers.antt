use mathlib.Core.Path.{refl, sym, ap, ◌∙◌}
use lib.Seq.{sets}
use Rattle.stream_groups.proofs.parsing.GroupStore.store.Goals as goal

pub returns : goal.returns
returns c = record {
  value = _;
  reads = sym c.group_at-p.ensures;
  wide = refl;
  stored = c.put_row.ensures ∙ ap (sets c.args.table.now c.args.to) c.columns.ensures;
}
