-- `flags_hold` tests the flags of a row, isInTS only where the location is there.
use mathlib.Core.Path.{◌≡◌, sym, ap, ◌∙◌}
use mathlib.Core.Bool.{Bool, true, ◌&&◌}
use lib.Dec.{eqb}
use borrow.Author.Tests.{eq-eqb, ne_eqb}
use Rattle.wire.specs.Bits.{is_flag}
use Rattle.wire.specs.Act.{pick}
use Rattle.stream_groups.proofs.writing.flags_hold.Goals as goal
use Rattle.stream_groups.proofs.writing.flags_hold.Goals.{then-a-eq1, else-a-eq1}

pub returns : goal.returns
returns c =
    let a = c.args.g.auxiliary in
    let said : Bool → Bool = λ b. pick b (is_flag a.location.is_in_ts) true in
    let location-so : c.if-a-eq1.location ≡ said (eqb a.present 1) = elim c.if-a-eq1.branch [
      | then-a-eq1 w ↦ w.location-is ∙ w.is_flag-location.ensures ∙ ap said (sym (eq-eqb _ 1 w.if-a-eq1.true))
      | else-a-eq1 w ↦ w.location-is ∙ ap said (sym (ne_eqb _ 1 w.if-a-eq1.false))
    ] in
    λ i. c.is_flag.ensures i && (c.is_flag-2.ensures i && location-so i)
