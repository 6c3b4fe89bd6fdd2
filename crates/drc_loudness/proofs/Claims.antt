-- What is claimed of the entry points of the DRC and loudness body: all claims hold of its kind (drc_kind, proofs/Claims), and each promise fixes the answer itself and the four tables.
use mathlib.Core.Path.{◌≡◌, refl}
use Rattle.frame.specs.Entry as E
use Rattle.frame.specs.Numbers.{answer_of}
use Rattle.frame.specs.Claims.{Claims, Fixed}
use Rattle.frame.proofs.Numbers.{results_fixed}
use Rattle.frame.proofs.Tables.{rows_at}
use Rattle.drc_kind.specs.Kind.{kind}
use Rattle.drc_kind.proofs.Claims as K
use Rattle.drc_loudness.specs.declared.Sizes.{Sizes}
use Rattle.drc_loudness.specs.Contract.{sized, measured}

pub claims : Claims kind
claims = K.claims

-- ---- the promises fix the answers themselves

measure_of : E.Sizes → Sizes
measure_of z =
    record { instructions = rows_at 0 z.tables; additional = rows_at 1 z.tables; loudness = rows_at 2 z.tables; downmixes = rows_at 3 z.tables; k = z.before }

measured_back : (s : Sizes) → measure_of (sized s) ≡ s
unfolding measure_of
measured_back s = refl

pub fixed : Fixed kind answer_of measured
fixed = results_fixed claims sized measure_of measured_back
