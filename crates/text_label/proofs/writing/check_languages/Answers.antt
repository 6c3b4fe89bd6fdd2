use Prim.Native.Nat.{ℕ, ◌+◌, ◌-◌, ◌*◌, ◌<◌}
use mathlib.Core.List.{List}
use native.Mathlib.Omega.{arith}
use native.Mathlib.Nat.{sub-zero}
use Rattle.wire.specs.Act.{Act, rows}
use Rattle.wire.specs.Pen.{Pen, Checked}
use Rattle.wire.proofs.Handed.{handed}
use Rattle.wire.proofs.Writing.Passes.{Checking, rows_turn, rows_end, check_start, check_turn, check_stop, check_end}
use Rattle.text_label.specs.Write.{row_acts}
use Rattle.text_label.proofs.writing.check_languages.Goals as goal

-- the pen behind a row
behind : (f : ℕ → List Act) {n i : ℕ} {p q r : Pen} → Checking (rows f 0 n) (rows f i (n - i)) (48579 * i) p q → i < n → Checked (f i) 48579 q r
    → Checking (rows f 0 n) (rows f (i + 1) (n - (i + 1))) (48579 * (i + 1)) p r
behind f v h w = check_turn _ v (rows_turn f _ _ h) w (omega arith)

pub loop-i-init : goal.loop-i-init
loop-i-init c = rw sub-zero (check_start _ _)

pub returns-in_err-at : goal.returns-in_err-at
returns-in_err-at c =
    let f = row_acts c.args.languages.now c.args.entries.now c.args.store.now in
    let v = behind f c.loop-i.invariant (omega arith) (rw c.of_columns-l.ensures at c.check_language.ensures) in
    rw (handed c.from_residual.result c.from_residual.ensures.1, ← c.in_err-at.was) (check_stop _ v c.in_err-at.was (omega arith))

pub loop-i-preserved : goal.loop-i-preserved
loop-i-preserved c =
    let f = row_acts c.args.languages.now c.args.entries.now c.args.store.now in
    behind f c.loop-i.invariant (omega arith) (rw c.of_columns-l.ensures at c.in_ok-at.ensures)

pub returns : goal.returns
returns c = check_end _ c.loop-i.invariant (rows_end _ _ _ (omega arith)) (omega arith)
