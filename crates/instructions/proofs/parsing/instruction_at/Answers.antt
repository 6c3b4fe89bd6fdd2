-- `parsing::instruction_at` meets its contract: where the additional IDs begin follows from the type byte, and what stands behind them from the byte before them.
use mathlib.Core.Path.{refl, ◌∙◌}
use native.Mathlib.Omega.{arith}
use Rattle.instructions.proofs.Taken.{settings_total, begins_are, settings_there, effect_there, bare_so}
use Rattle.instructions.proofs.parsing.instruction_at.Goals as goal

pub bounds-body-at : goal.bounds-body-at
bounds-body-at c = let there = settings_there _ _ c.requires.0 c.requires.1 in omega (arith, there)

pub bounds-body-begins : goal.bounds-body-begins
bounds-body-begins c =
    let b = begins_are c.args.body.now c.args.at c.wide.ensures c.part.ensures c.id_bytes.ensures.0 in
    let there = settings_there _ _ c.requires.0 c.requires.1 in
    omega (arith, there, b, settings_total c.args.body.now c.args.at)

pub bare_effect_at-bare-requires : goal.bare_effect_at-bare-requires
bare_effect_at-bare-requires c =
    let b = begins_are c.args.body.now c.args.at c.wide.ensures c.part.ensures c.id_bytes.ensures.0 in
    omega (arith, (effect_there _ _ c.requires.0 c.requires.1 b c.wide-c.ensures refl refl refl).0)

pub instruction_with-requires : goal.instruction_with-requires
instruction_with-requires c =
    let b = begins_are c.args.body.now c.args.at c.wide.ensures c.part.ensures c.id_bytes.ensures.0 in
    let (e, n) = bare_so c.wide-c.result c.part-2.ensures c.if-part-eq0.true _ _ c.bare_effect_at-bare.ensures in
    (c.requires.0, c.requires.1, b, c.wide-c.ensures, e, n)

pub returns-then-part-eq0 : goal.returns-then-part-eq0
returns-then-part-eq0 c =
    let b = begins_are c.args.body.now c.args.at c.wide.ensures c.part.ensures c.id_bytes.ensures.0 in
    (c.instruction_with.ensures.0, c.instruction_with.ensures.1 ∙ b)

pub effect_at-e-requires : goal.effect_at-e-requires
effect_at-e-requires c =
    let b = begins_are c.args.body.now c.args.at c.wide.ensures c.part.ensures c.id_bytes.ensures.0 in
    effect_there _ _ c.requires.0 c.requires.1 b c.wide-c.ensures c.part-3.ensures c.part-4.ensures c.part-5.ensures

pub instruction_with-requires-2 : goal.instruction_with-requires-2
instruction_with-requires-2 c =
    let b = begins_are c.args.body.now c.args.at c.wide.ensures c.part.ensures c.id_bytes.ensures.0 in
    let (e, n) = rw (c.part-3.ensures, c.part-4.ensures, c.part-5.ensures) at c.effect_at-e.ensures in
    (c.requires.0, c.requires.1, b, c.wide-c.ensures, e, n)

pub returns : goal.returns
returns c =
    let b = begins_are c.args.body.now c.args.at c.wide.ensures c.part.ensures c.id_bytes.ensures.0 in
    (c.instruction_with-2.ensures.0, c.instruction_with-2.ensures.1 ∙ b)
