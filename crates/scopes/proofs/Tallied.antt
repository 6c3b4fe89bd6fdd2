-- The tally of a scope, case by case.
use Prim.Native.Nat.{ℕ, ◌+◌}
use mathlib.Core.Path.{◌≡◌, refl, sym, ap, ◌∙◌}
use mathlib.Core.List.{List, ◌∷◌, ◌++◌, flatten}
use native.Mathlib.Nat.{add-zero, zero-add}
use Rattle.wire.specs.Lists.{sum}
use Rattle.wire.specs.Bits.{zeros}
use Rattle.wire.specs.Layout.{Cell, column, idle, of, shown, cells, tally}
use Rattle.scopes.specs.Layout.{scope}
use Rattle.scopes.specs.Rows.{scope_row}
use Rattle.scopes.specs.Tally.{scope_zeros}
use Rattle.scopes.specs.declared.rows.DrcScope.{DrcScope}
use Rattle.scopes.specs.declared.rows.DrcScope.TheVariants.{Plain, Group, Preset, Unknown}

-- those of the ID byte
abbrev pub id_zeros : DrcScope → ℕ
id_zeros (Plain k) = 0
id_zeros (Group k r i) = zeros 1 r
id_zeros (Preset r i) = zeros 3 r
id_zeros Unknown = 0

pub zeros_so : (rt : ℕ) (s : DrcScope) → scope_zeros rt s ≡ zeros 6 rt + id_zeros s
unfolding tally cells shown scope sum flatten
zeros_so rt (Plain k) = simp (zero-add, add-zero)
zeros_so rt (Group k r i) = simp (zero-add, add-zero)
zeros_so rt (Preset r i) = simp (zero-add, add-zero)
zeros_so rt Unknown = simp (zero-add, add-zero)

-- of a scope whose case is known
pub told : (rt : ℕ) {own x r : ℕ} (s : DrcScope) {t : DrcScope} → own ≡ zeros 6 rt → s ≡ t → x ≡ id_zeros t → r ≡ own + x → r ≡ scope_zeros rt s
told rt s e q f g = g ∙ (λ i. e i + f i) ∙ sym (ap (λ (s : DrcScope). zeros 6 rt + id_zeros s) q) ∙ sym (zeros_so rt s)

-- in a row, of which it is the first columns
pub row_zeros : (types : List ℕ) (rt : ℕ) (s : DrcScope) (rest : List ℕ)
    → sum (λ (c : Cell). idle c (of (rt ∷ scope_row s ++ rest) (column c))) (shown (scope types) (of (rt ∷ scope_row s ++ rest))) ≡ scope_zeros rt s
unfolding tally cells shown scope sum flatten
row_zeros types rt (Plain k) rest = refl
row_zeros types rt (Group k r i) rest = refl
row_zeros types rt (Preset r i) rest = refl
row_zeros types rt Unknown rest = refl
