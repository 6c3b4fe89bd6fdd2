-- `mpegh_c::base_body::mpegh_base_measure` meets its contract.
use mathlib.Core.Path.{refl}
use native.Mathlib.Omega.{arith}
use Rattle.base.specs.Kind.{kind}
use Rattle.mpegh_c.proofs.Hosted.{measures_refused, measures_sized}
use Rattle.mpegh_c.proofs.base_body.mpegh_base_measure.Goals as goal

pub returns-in-Ok : goal.returns-in-Ok
returns-in-Ok c =
    measures_sized kind c.in-Ok.ensures (omega arith) refl c.code.ensures

pub returns-in-Err : goal.returns-in-Err
returns-in-Err c =
    measures_refused kind c.in-Err.ensures c.refusal_code.ensures
