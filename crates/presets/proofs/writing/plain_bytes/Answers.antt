-- A preset is plain if its range, its three bytes and all its conditions are.
use Prim.Native.Nat.{ℕ, ◌/◌, ◌+◌}
use lib.Dec.{leb}
use lib.ListN.{length}
use mathlib.Core.Path.{◌≡◌, sym, ◌∙◌}
use mathlib.Core.List.{List}
use mathlib.Core.Bool.{Bool, true, ◌&&◌}
use native.Mathlib.Omega.{arith}
use Rattle.wire.specs.Spell.{fit_all}
use Rattle.wire.proofs.Writing.Acts.{both_and}
use Rattle.presets.specs.Rows.{preset_cols}
use Rattle.presets.specs.Write.{head_fields}
use Rattle.presets.specs.declared.rows.GroupPreset.{GroupPreset}
use Rattle.presets.proofs.Writes.{test, test_few, outside_odd, front_odd, run_plain, run_odd}
use Rattle.presets.proofs.writing.plain_bytes.Goals as goal

-- its own fields were tested
tested : (u : List ℕ) (p : GroupPreset) {inside fits : Bool} → inside ≡ leb (p.conditions.first + p.conditions.count) (length u / 13) → inside ≡ true
    → fits ≡ leb 1 p.conditions.count && fit_all (head_fields p) → fits ≡ true → test u (preset_cols p) ≡ true
tested u p e t f s = both_and (sym e ∙ t) (sym f ∙ s)

pub returns-then-not-inside : goal.returns-then-not-inside
returns-then-not-inside c =
    outside_odd c.args.conditions.now (preset_cols c.args.p) (sym c.in_table-inside.ensures ∙ c.if-not-inside.true)

pub returns-then-not-front_fits : goal.returns-then-not-front_fits
returns-then-not-front_fits c =
    front_odd c.args.conditions.now (preset_cols c.args.p) (sym c.front_fits.ensures ∙ c.if-not-front_fits.true)

pub plain_run-k-requires : goal.plain_run-k-requires
plain_run-k-requires c =
    let a = c.args in
    let f = test_few a.conditions.now (preset_cols a.p) (tested a.conditions.now a.p c.in_table-inside.ensures c.if-not-inside.false c.front_fits.ensures c.if-not-front_fits.false) in
    (f.inside, tt, omega (arith, f.few), omega (arith, f.few))

pub returns-in-Some : goal.returns-in-Some
returns-in-Some c =
    let a = c.args in
    run_plain a.conditions.now (preset_cols a.p) c.in-Some.ensures (tested a.conditions.now a.p c.in_table-inside.ensures c.if-not-inside.false c.front_fits.ensures c.if-not-front_fits.false)

pub returns-in-None : goal.returns-in-None
returns-in-None c = run_odd c.args.conditions.now (preset_cols c.args.p) c.in-None.ensures
