-- `rows::DrcTargetLoudness::absent` meets its contract.
use Rattle.target_loudness.proofs.rows.DrcTargetLoudness.absent.Goals as goal

pub returns : goal.returns
returns c =
    cc
