-- The tally of an instruction: the reserved bits of its scope, of its three bytes of settings and of its target loudness, and those of its additional IDs.
use Prim.Native.Nat.{ℕ, ◌+◌, ◌≤◌}
use mathlib.Core.Path.{◌≡◌, refl, ◌∙◌}
use mathlib.Core.List.{List, [], ◌∷◌, ◌++◌, flatten}
use mathlib.Core.Bool.{Bool, true, false}
use native.Mathlib.Omega.{arith}
use lib.ListN.{length}
use lib.Dec.{eqb}
use Rattle.wire.specs.Lists.{sum}
use Rattle.wire.specs.Bits.{zeros, total}
use Rattle.wire.specs.Prog.{done, run, many}
use Rattle.wire.specs.Reads.{map_out, rows_of}
use Rattle.wire.specs.Act.{pick}
use Rattle.wire.specs.Layout.{Cell, column, idle, end, optional, ◌▹◌, num, Columns, of, shown, cells, tally, layouts, blank, flat, broken_row, family_tally, has}
use Rattle.wire.specs.Straight.{spans}
use Rattle.wire.proofs.Layouts.Cells.{all}
use Rattle.wire.proofs.Layouts.Families.{placed_tallied}
use Rattle.scopes.specs.Layout.{scope}
use Rattle.scopes.specs.Tally.{scope_zeros}
use Rattle.scopes.proofs.Tallied.{row_zeros}
use Rattle.target_loudness.specs.Layout.{target}
use Rattle.target_loudness.specs.Tally.{target_zeros}
use Rattle.target_loudness.proofs.Tallied.{target_tally}
use Rattle.instructions.specs.Layout.{types, additional, settings, effect, instruction, instructions}
use Rattle.instructions.specs.Rows.{settings_row, effect_row, instruction_row, instruction_cols, settings_cells}
use Rattle.instructions.specs.declared.rows.DrcInstructions.{DrcInstructions}
use Rattle.instructions.proofs.Taken.{ids_zeros}

sum_append : {A : Type 0} (f : A → ℕ) (a b : List A) → sum f (a ++ b) ≡ sum f a + sum f b
unfolding sum
sum_append f [] b = omega arith
sum_append f (x ∷ a) b = omega (arith, sum_append f a b)

abbrev bits : Columns → Cell → ℕ
bits g c = idle c (g (column c))

settings_tally : (d : DrcInstructions)
    → sum (bits (instruction_cols d)) (shown settings (instruction_cols d)) ≡ scope_zeros d.reserved_type d.scope + (zeros 2 d.reserved_set + (zeros 1 d.reserved_downmix + zeros 3 d.reserved_additional))
unfolding shown sum flatten
settings_tally d =
    sum_append (bits (instruction_cols d)) (shown (scope types) (instruction_cols d)) (flatten settings_cells)
    ∙ omega (arith, row_zeros types d.reserved_type d.scope (settings_row d ++ effect_row d))

effect_tally : (g : Columns) → sum (bits g) (shown effect g) ≡ sum (bits g) (shown (optional 15 target ▹ end) g)
unfolding shown sum flatten
effect_tally g = go (eqb (g 13) 1)
  where
    go : (x : Bool) → sum (bits g) (num 16 12 ∷ (pick x (num 8 14 ∷ []) [] ++ shown (optional 15 target ▹ end) g)) ≡ sum (bits g) (shown (optional 15 target ▹ end) g)
    go true = omega arith
    go false = omega arith

pub own_tally : (d : DrcInstructions) → tally (layouts instruction) (instruction_cols d)
    ≡ scope_zeros d.reserved_type d.scope + zeros 2 d.reserved_set + (zeros 1 d.reserved_downmix + zeros 3 d.reserved_additional + target_zeros d.target_loudness)
unfolding tally cells
own_tally d =
    let g = instruction_cols d in
    sum_append (bits g) (shown settings g) (shown effect g) ∙ omega (arith, settings_tally d, effect_tally g, target_tally g)

-- with its additional IDs
no_first : has 10 (all settings ++ all effect) ≡ false
unfolding has all flatten scope
no_first = refl

pub instruction_tallied : (s : List ℕ) (at : ℕ) (d : DrcInstructions) {next begins own below zs : ℕ} → at ≤ length s
    → done (instruction_row d) next ≡ map_out (λ x. broken_row instruction (0, x)) (run instructions s at) → begins ≡ at + total (spans settings blank s at)
    → own ≡ tally (layouts instruction) (instruction_cols d) → below ≡ sum (λ r. tally (additional ∷ []) (of r)) (rows_of (run (many d.additional_downmix_ids.count (flat 2 additional)) s begins)) → zs ≡ own + below
    → done zs next ≡ map_out (family_tally instruction additional) (run instructions s at)
instruction_tallied s at d h e b o w z = placed_tallied instruction 2 additional s at h no_first e o (ids_zeros s at 0 d h e b w) z
