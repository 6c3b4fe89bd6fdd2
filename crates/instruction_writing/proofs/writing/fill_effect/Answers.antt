-- `writing::fill_effect` meets its contract.
use Rattle.instruction_writing.proofs.Writes.{word_ready, limiter_ready, loud_ready, effect_filled}
use Rattle.instruction_writing.proofs.writing.fill_effect.Goals as goal

pub fill_all-n1-requires : goal.fill_all-n1-requires
fill_all-n1-requires c = search word_ready

pub fill_all-n2-requires : goal.fill_all-n2-requires
fill_all-n2-requires c = search limiter_ready

pub fill_target-requires : goal.fill_target-requires
fill_target-requires c = search loud_ready

pub returns : goal.returns
returns c = search effect_filled
