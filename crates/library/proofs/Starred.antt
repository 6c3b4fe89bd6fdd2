-- The claim about the starred bodies, by computing the entry points' definitions on each.
use mathlib.Core.List.{flatten, flat_map}
use mathlib.Core.Path.{refl}
use lib.Count.{ones, ones_in}
use Rattle.wire.proofs.Lists.{every_each}
use Rattle.wire.specs.Bits.{split, total}
use Rattle.wire.specs.Layout.{put, puts, reads, shown, cells, tally, has}
use Rattle.wire.specs.Lists.{each, sum, firsts}
use Rattle.wire.specs.Prog.{run, u8, pass, many, ◌>>=◌}
use Rattle.frame.specs.Entry.{onto, into, needs, first_table, other_tables, room, lacking, filled, judging, placing, reading, tallying}
use Rattle.frame.specs.Body as Body
use Rattle.frame.specs.Ranges.{ranged}
use Rattle.base.specs.Layout as BaseLayout
use Rattle.base.specs.Kind as Base
use Rattle.scene_kind.specs.Layout as SceneLayout
use Rattle.scene_kind.specs.Kind as Scene
use Rattle.text_label.specs.Layout as TextLabelLayout
use Rattle.text_label.specs.Kind as TextLabel
use Rattle.stream_groups.specs.Layout as StreamGroups
use Rattle.multi_stream.specs.Layout as MultiStreamLayout
use Rattle.multi_stream.specs.Kind as MultiStream
use Rattle.pairs.specs.Layout as Pairs
use Rattle.scopes.specs.Layout as Scopes
use Rattle.downmixes.specs.Layout as Downmixes
use Rattle.drc_kind.specs.Layout as DrcLayout
use Rattle.drc_kind.specs.Kind as Drc
use Rattle.library.specs.Starred.{Holds, starred as stars, Starred}

pub starred : Starred
unfolding reading tallying onto into judging placing run u8 pass many ◌>>=◌ needs first_table other_tables room lacking filled flatten flat_map sum firsts ones ones_in Base.kind BaseLayout.head each split total put puts reads shown cells tally SceneLayout.groups SceneLayout.switch_group_list SceneLayout.presets Body.layouts Body.carried Body.parse Body.with_place Body.tables Body.zeros Scene.kind TextLabel.kind TextLabelLayout.head TextLabelLayout.groups TextLabelLayout.switch_group_list TextLabelLayout.presets ranged MultiStream.kind MultiStreamLayout.head StreamGroups.group has Scopes.scope Pairs.pair Downmixes.downmix DrcLayout.head Drc.kind
starred = record {
  all = every_each Holds stars (
    record { reads = refl; tallies = refl },
    (
      record { reads = refl; tallies = refl },
      (
        record { reads = refl; tallies = refl },
        (
          record { reads = refl; tallies = refl },
          (
            record { reads = refl; tallies = refl },
            (
              record { reads = refl; tallies = refl },
              (
                record { reads = refl; tallies = refl },
                (
                  record { reads = refl; tallies = refl },
                  (
                    record { reads = refl; tallies = refl },
                    (
                      record { reads = refl; tallies = refl },
                      (record { reads = refl; tallies = refl }, (record { reads = refl; tallies = refl }, (record { reads = refl; tallies = refl }, tt))),
                    ),
                  ),
                ),
              ),
            ),
          ),
        ),
      ),
    ),
  );
}
