-- `writing::fill_instruction` meets its contract: its scope, its settings, its additional IDs, and what stands behind them.
use Rattle.instruction_writing.proofs.Writes.{row_ready, scope_ready, settings_ready, ids_ready, effect_ready, row_filled}
use Rattle.instruction_writing.proofs.writing.fill_instruction.Goals as goal

pub fill_scope-n1-requires : goal.fill_scope-n1-requires
fill_scope-n1-requires c =
    scope_ready c.args.d c.args.additional.now c.requires

pub fill_all-n2-requires : goal.fill_all-n2-requires
fill_all-n2-requires c = search settings_ready

pub fill_pairs-n3-requires : goal.fill_pairs-n3-requires
fill_pairs-n3-requires c =
    ((row_ready c.args.d c.args.additional.now c.requires).inside, ids_ready c.args.d c.args.additional.now c.requires c.fill_scope-n1.ensures c.settings_bytes.ensures c.fill_all-n2.ensures)

pub fill_effect-requires : goal.fill_effect-requires
fill_effect-requires c =
    effect_ready c.args.d
    c.args.additional.now c.requires c.fill_scope-n1.ensures
    c.settings_bytes.ensures c.fill_all-n2.ensures c.fill_pairs-n3.ensures

pub returns : goal.returns
returns c = search row_filled
