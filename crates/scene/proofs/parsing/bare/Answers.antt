-- `scene::parsing::bare` meets its contract: sections that have no rows stand one behind the other.
use native.Mathlib.Omega.{arith}
use Rattle.scene.proofs.Bare.{rows_at_near, stand, bare_so}
use Rattle.scene.proofs.parsing.bare.Goals as goal

pub rows_at-presets-requires : goal.rows_at-presets-requires
rows_at-presets-requires c =
    omega (arith, c.rows_at-switch_groups.ensures, rows_at_near c.args.g 2)

pub rows_at-k-requires : goal.rows_at-k-requires
rows_at-k-requires c =
    omega
    (arith, c.rows_at-switch_groups.ensures, rows_at_near c.args.g 2, c.rows_at-presets.ensures, rows_at_near c.args.s c.rows_at-switch_groups.result)

pub count_at-requires : goal.count_at-requires
count_at-requires c =
    (stand c.args.s c.args.q _ _ _ c.rows_at-presets.ensures c.rows_at-k.ensures c.if-body-k.false, omega arith)

pub returns-then-count_at : goal.returns-then-count_at
returns-then-count_at c =
    record { sees = bare_so c.requires.0 c.requires.1 c.rows_at-switch_groups.ensures c.rows_at-presets.ensures c.rows_at-k.ensures c.if-body-k.false c.requires.2 c.count_at.ensures.0 c.count_at-2.ensures.0 c.if-count_at.true }
