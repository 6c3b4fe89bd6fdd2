-- `rows::TargetLoudnessLower::new` meets its contract.
use Rattle.target_loudness.proofs.rows.TargetLoudnessLower.new.Goals as goal

pub returns : goal.returns
returns c =
    cc
