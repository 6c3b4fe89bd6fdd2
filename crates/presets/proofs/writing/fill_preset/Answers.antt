-- `writing::fill_preset` meets its contract.
use Prim.Native.Nat.{ℕ, ◌/◌}
use mathlib.Core.List.{List, [], ◌++◌}
use mathlib.Core.Bool.{true}
use mathlib.Core.Path.{refl}
use native.Mathlib.Omega.{arith}
use lib.ListN.{length}
use Rattle.wire.specs.Act.{rows}
use Rattle.wire.specs.Layout.{writes}
use Rattle.wire.proofs.Writing.Passes.{Filling, fill_end}
use Rattle.wire.proofs.Writing.Plain.{ready_part, fill_part_lem}
use Rattle.wire.proofs.Layouts.Families.{kids_ready, kids_filled}
use Rattle.conditions.specs.Write.{row_acts}
use Rattle.presets.specs.Layout.{preset}
use Rattle.presets.specs.Rows.{preset_cols}
use Rattle.wire.specs.Pen.{Ready}
use Rattle.wire.specs.Spell.{Spelt, FillsAll}
use Rattle.presets.specs.Write.{head_fields, preset_acts}
use Rattle.presets.specs.declared.rows.GroupPreset.{GroupPreset}
use Rattle.presets.proofs.Writes.{ready_few, ready_counted, filling}
use borrow.Author.Rules.{rules}
use Rattle.presets.proofs.writing.fill_preset.Goals as goal

-- its conditions are left behind the three bytes
behind_head : (u : List ℕ) (p : GroupPreset) {n m : ℕ} {l o vs : List ℕ} → Ready (preset_acts p u) n l → Spelt (head_fields p) vs → FillsAll true vs n l m o
    → Filling (preset_acts p u) (rows (row_acts u) p.conditions.first p.conditions.count ++ []) n l m o
behind_head u p x s w = fill_part_lem _ s (filling u (preset_cols p) x) w

pub overflow_sub-p : goal.overflow_sub-p
overflow_sub-p c =
    omega (arith, ready_counted c.args.conditions.now (preset_cols c.args.p) c.requires)

pub fill_all-n1-requires : goal.fill_all-n1-requires
fill_all-n1-requires c = search (ready_part, filling)

pub fill_rows-requires : goal.fill_rows-requires
unfolding writes
fill_rows-requires c =
    let left = behind_head c.args.conditions.now c.args.p c.requires c.head_bytes.ensures c.fill_all-n1.ensures in (
      (ready_few c.args.conditions.now (preset_cols c.args.p) c.requires).inside,
      tt,
      search rules,
      kids_ready preset (length c.args.conditions.now / 13) (row_acts c.args.conditions.now) (preset_cols c.args.p) left,
    )

pub returns : goal.returns
unfolding writes
returns c =
    let left = behind_head c.args.conditions.now c.args.p c.requires c.head_bytes.ensures c.fill_all-n1.ensures in
    fill_end (kids_filled preset (length c.args.conditions.now / 13) (row_acts c.args.conditions.now) (preset_cols c.args.p)
    left c.fill_rows.ensures) refl
