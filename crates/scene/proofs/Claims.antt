-- What is claimed of the entry points of the scene body: all claims hold of its kind (scene_kind, proofs/Claims), and each promise fixes the answer itself and the five tables.
use mathlib.Core.Path.{◌≡◌, refl}
use Rattle.frame.specs.Numbers.{answer_of}
use Rattle.frame.specs.Entry as E
use Rattle.frame.specs.Claims.{Claims, Fixed}
use Rattle.frame.proofs.Numbers.{results_fixed}
use Rattle.frame.proofs.Tables.{rows_at}
use Rattle.scene_kind.specs.Kind.{kind}
use Rattle.scene_kind.proofs.Claims as K
use Rattle.scene.specs.declared.Sizes.{Sizes}
use Rattle.scene.specs.Contract.{sized, measured}

pub claims : Claims kind
claims = K.claims

-- ---- the promises fix the answers themselves

measure_of : E.Sizes → Sizes
measure_of z =
    record { groups = rows_at 0 z.tables; switch_groups = rows_at 1 z.tables; members = rows_at 2 z.tables; presets = rows_at 3 z.tables; conditions = rows_at 4 z.tables; k = z.before }

measured_back : (s : Sizes) → measure_of (sized s) ≡ s
unfolding measure_of
measured_back s = refl

pub fixed : Fixed kind answer_of measured
fixed = results_fixed claims sized measure_of measured_back
