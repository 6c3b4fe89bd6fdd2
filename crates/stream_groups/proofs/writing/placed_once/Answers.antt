-- `placed_once` compares the location's flag with what follows from isInMainStream.
use Prim.Native.Nat.{ℕ, zero, suc}
use mathlib.Core.Path.{◌≡◌, refl, sym, ap}
use mathlib.Core.List.{[], ◌∷◌}
use lib.ListN.{get_or}
use lib.Dec.{eqb}
use Rattle.stream_groups.proofs.writing.placed_once.Goals as goal

-- in the main stream there is none
none : (m : ℕ) → (m ≡ 0 → ⊥) → ◌≡◌ {A = ℕ} 0 (get_or (1 ∷ 0 ∷ []) m 0)
none zero n = absurd (n refl)
none (suc zero) n = refl
none (suc (suc m)) n = refl

pub returns-then-g-eq0 : goal.returns-then-g-eq0
returns-then-g-eq0 c = ap (λ (m : ℕ). eqb c.args.g.auxiliary.present (get_or (1 ∷ 0 ∷ []) m 0)) (sym c.if-g-eq0.true)

pub returns-else-g-eq0 : goal.returns-else-g-eq0
returns-else-g-eq0 c = ap (eqb c.args.g.auxiliary.present) (none _ c.if-g-eq0.false)
