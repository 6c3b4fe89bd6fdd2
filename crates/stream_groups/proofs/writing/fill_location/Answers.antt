-- `fill_location` stores the byte of a location that is there.
use Prim.Native.Nat.{ℕ}
use mathlib.Core.Path.{◌≡◌}
use mathlib.Core.List.{List, [], ◌∷◌}
use borrow.Author.Tests.{eq-eqb, ne_eqb}
use Rattle.wire.specs.Act.{byte}
use Rattle.wire.specs.Pen.{Ready}
use Rattle.wire.specs.Spell.{none, more}
use Rattle.wire.proofs.Writing.Passes.{fill_none}
use Rattle.stream_groups.specs.Write.{location_byte, location_part}
use Rattle.stream_groups.specs.declared.rows.Auxiliary.{Auxiliary}
use Rattle.stream_groups.proofs.writing.fill_location.Goals as goal

there : (a : Auxiliary) {n : ℕ} {o : List ℕ} → a.present ≡ 1 → Ready (location_part a) n o → Ready (byte (location_byte a) ∷ []) n o
there a e r = rw (eq-eqb a.present 1 e) at r

pub fill_all-requires : goal.fill_all-requires
fill_all-requires c =
    record { fss = _; spelt = more c.location_byte.ensures none; ready = there c.args.a c.if-a-eq1.true c.requires }

pub returns-then-a-eq1 : goal.returns-then-a-eq1
returns-then-a-eq1 c =
    let w = c.fill_all.ensures.of _ (more c.location_byte.ensures none) (there c.args.a c.if-a-eq1.true c.requires).sound in
    rw (eq-eqb _ 1 c.if-a-eq1.true) w

pub returns-else-a-eq1 : goal.returns-else-a-eq1
returns-else-a-eq1 c = rw (ne_eqb _ 1 c.if-a-eq1.false) (fill_none _ _)
