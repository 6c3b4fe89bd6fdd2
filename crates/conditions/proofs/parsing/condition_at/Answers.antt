-- `parsing::condition_at` meets its contract.
use mathlib.Core.Path.{◌∙◌, ap}
use native.Mathlib.Omega.{arith}
use Rattle.wire.proofs.Layouts.Straight.{flat_done}
use Rattle.wire.specs.Straight.{blanks}
use Rattle.conditions.specs.Layout.{condition}
use Rattle.conditions.specs.Rows.{behind}
use Rattle.conditions.proofs.Taken.{condition_long, long_with, condition_with, condition_without}
use Rattle.conditions.proofs.parsing.condition_at.Goals as goal

pub bounds-body-at : goal.bounds-body-at
bounds-body-at c =
    omega (arith, (flat_done 13 condition _ _ c.requires.0 c.requires.1).there, condition_long c.args.body.now c.args.at)

pub detail_from-detail-requires : goal.detail_from-detail-requires
detail_from-detail-requires c =
    omega (arith, (flat_done 13 condition _ _ c.requires.0 c.requires.1).there, long_with c.args.body.now c.args.at c.wide-b.ensures c.part-2.ensures c.if-part-eq1.true)

pub bounds-body-at-then-part-eq1 : goal.bounds-body-at-then-part-eq1
bounds-body-at-then-part-eq1 c =
    omega (arith, (flat_done 13 condition _ _ c.requires.0 c.requires.1).there, long_with c.args.body.now c.args.at c.wide-b.ensures c.part-2.ensures c.if-part-eq1.true)

pub returns-then-part-eq1 : goal.returns-then-part-eq1
returns-then-part-eq1 c =
    search (condition_with, flat_done 13 condition _ _ c.requires.0 c.requires.1, c.behind.ensures.0 ∙ ap behind c.wide.ensures)

pub returns-else-part-eq1 : goal.returns-else-part-eq1
unfolding blanks
returns-else-part-eq1 c =
    rw c.absent-detail.ensures (search (condition_without, flat_done 13 condition _ _ c.requires.0 c.requires.1))
