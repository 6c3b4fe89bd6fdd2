-- `plain_bytes` sees the two shapes of a row that are without a fault; no other is.
use Prim.Native.Nat.{ℕ, ◌+◌, ◌<◌}
use mathlib.Core.List.{List}
use mir.Val.{Fits}
use mir.Syntax.{w16}
use lib.ListN.{get_or}
use mathlib.Core.Path.{sym, ◌∙◌}
use native.Mathlib.Omega.{arith}
use Rattle.wire.specs.Layout.{Columns}
use Rattle.stream_groups.specs.Rows.{group_cols, group_of}
use Rattle.stream_groups.proofs.Writes.{plain_main, plain_located, odd_id, odd_flags, odd_location}
use Rattle.stream_groups.proofs.writing.plain_bytes.Goals as goal

abbrev cols : List ℕ → ℕ → Columns
cols t b = group_cols (group_of t b)

second_small : (t : List ℕ) (b : ℕ) → ((i : ℕ) → Fits w16 (get_or t i 0)) → cols t b 1 < 65536
second_small t b h = let l = h (b + 1) in omega arith

pub returns-then-groups-b-ge128 : goal.returns-then-groups-b-ge128
returns-then-groups-b-ge128 c =
    odd_id (cols c.args.groups.now c.args.b) c.if-groups-b-ge128.true

pub returns-then-flags-eq1 : goal.returns-then-flags-eq1
returns-then-flags-eq1 c =
    plain_main (cols c.args.groups.now c.args.b) c.pair-flags.ensures c.if-groups-b-ge128.false c.if-flags-eq1.true

pub returns-then-two_fit : goal.returns-then-two_fit
returns-then-two_fit c =
    plain_located (cols c.args.groups.now c.args.b) c.pair-flags.ensures (second_small c.args.groups.now c.args.b c.type_inv.groups) c.if-flags-eq65536.true c.if-groups-b-ge128.false
    (sym c.two_fit.ensures ∙ c.if-two_fit.true)

pub returns-else-two_fit : goal.returns-else-two_fit
returns-else-two_fit c =
    odd_location (cols c.args.groups.now c.args.b) c.pair-flags.ensures (second_small c.args.groups.now c.args.b c.type_inv.groups) c.if-flags-eq65536.true (sym c.two_fit.ensures ∙ c.if-two_fit.false)

pub returns-else-flags-eq65536 : goal.returns-else-flags-eq65536
returns-else-flags-eq65536 c =
    odd_flags (cols c.args.groups.now c.args.b) c.pair-flags.ensures c.if-flags-eq1.false c.if-flags-eq65536.false
