-- The declared row of table 12 as columns, from its table and from its bytes, and the bytes of its layout.
use Rattle.std.specs.Prelude.{ℕ, ◌+◌, List, [], ◌∷◌, get_or}
use Rattle.wire.specs.Bits.{part}
use Rattle.wire.specs.Layout.{Cell, num, reserved, Columns, of}
use Rattle.downmixes.specs.declared.rows.DownmixDefinition.{DownmixDefinition}

abbrev pub downmix_row : DownmixDefinition → List ℕ
downmix_row d = d.reserved ∷ d.downmix_id ∷ d.downmix_type ∷ d.cicp_speaker_layout_idx ∷ []

abbrev pub downmix_cols : DownmixDefinition → Columns
downmix_cols d = of (downmix_row d)

abbrev pub downmix_of : List ℕ → ℕ → DownmixDefinition
downmix_of t b = record { reserved = get_or t b 0; downmix_id = get_or t (b + 1) 0; downmix_type = get_or t (b + 2) 0; cicp_speaker_layout_idx = get_or t (b + 3) 0 }

abbrev pub downmix_from : ℕ → ℕ → DownmixDefinition
downmix_from id kind = record { reserved = part 7 1 id; downmix_id = part 0 7 id; downmix_type = part 6 2 kind; cicp_speaker_layout_idx = part 0 6 kind }

abbrev pub downmix_cells : List (List Cell)
downmix_cells = (reserved 1 0 ∷ num 7 1 ∷ []) ∷ (num 2 2 ∷ num 6 3 ∷ []) ∷ []
