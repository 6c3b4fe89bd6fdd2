-- `rows::DrcTargetLoudness::new` meets its contract.
use Rattle.target_loudness.proofs.rows.DrcTargetLoudness.new.Goals as goal

pub returns : goal.returns
returns c =
    cc
