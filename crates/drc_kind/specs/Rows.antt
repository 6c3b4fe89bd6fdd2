-- The top record of the DRC and loudness body as columns, and what was read of a body: rows as their columns.
use Rattle.std.specs.Prelude.{ℕ, List, [], ◌∷◌, ◌++◌, false, get_or, eqb}
use Rattle.wire.specs.Bits.{bit}
use Rattle.wire.specs.declared.rows.Payload.{Payload}
use Rattle.wire.specs.Layout.{Family, Borne}
use Rattle.frame.specs.Kind.{Bound, bounded}
use Rattle.frame.specs.Entry.{Need}
use Rattle.drc_kind.specs.declared.rows.DrcLoudnessInfo.{DrcLoudnessInfo}
use Rattle.drc_kind.specs.declared.rows.Info.{Info}
use Rattle.drc_kind.specs.declared.rows.MpegH3dAudioDrcLoudness.{MpegH3dAudioDrcLoudness}

-- ---- the record

abbrev pub no_info : Info
no_info = record { present = false; part = record { reserved_drc = 0; reserved_loudness = 0; reserved_downmix = 0; drc_instructions = 0; loudness_infos = 0; downmix_definitions = 0 } }

-- its columns in the Rust's order, the trailing run apart
abbrev pub fields : MpegH3dAudioDrcLoudness → List ℕ
fields m =
    m.reserved ∷ bit m.info.present
    ∷ m.info.part.reserved_drc ∷ m.info.part.reserved_loudness ∷ m.info.part.reserved_downmix
    ∷ m.info.part.drc_instructions ∷ m.info.part.loudness_infos ∷ m.info.part.downmix_definitions ∷ []

abbrev pub info_of : List ℕ → DrcLoudnessInfo
info_of r = record {
  reserved_drc = get_or r 2 0;
  reserved_loudness = get_or r 3 0;
  reserved_downmix = get_or r 4 0;
  drc_instructions = get_or r 5 0;
  loudness_infos = get_or r 6 0;
  downmix_definitions = get_or r 7 0;
}

abbrev pub drc_of : List ℕ → Payload → MpegH3dAudioDrcLoudness
drc_of r run = record { reserved = get_or r 0 0; info = record { present = eqb (get_or r 1 0) 1; part = info_of r }; trailing = run }

abbrev pub top_columns : ℕ
top_columns = 10

abbrev pub top_row : MpegH3dAudioDrcLoudness → List ℕ
top_row m = fields m ++ (m.trailing.offset ∷ m.trailing.length ∷ [])

abbrev pub retrail : MpegH3dAudioDrcLoudness → Payload → MpegH3dAudioDrcLoudness
retrail m run = record { reserved = m.reserved; info = m.info; trailing = run }

unfoldable pub bounds : MpegH3dAudioDrcLoudness → List Bound
bounds m =
    bounded 256 m.reserved
    ∷ bounded 256 m.info.part.reserved_drc ∷ bounded 256 m.info.part.reserved_loudness ∷ bounded 256 m.info.part.reserved_downmix
    ∷ bounded 65536 m.info.part.drc_instructions ∷ bounded 65536 m.info.part.loudness_infos ∷ bounded 65536 m.info.part.downmix_definitions
    ∷ bounded 65536 m.trailing.offset ∷ bounded 65536 m.trailing.length ∷ []

-- ---- what is read: the instructions each with its additional IDs, the loudness entries and the downmix definitions, and the 8 columns with them; A is a loudness entry that was read, or what it means

abbrev pub Lists : Type 0 → Type 0
Lists A = List Family × (List A × (List (List ℕ) × Unit {0}))

abbrev pub Tree : Type 0
Tree = List ℕ × Lists Borne

abbrev pub Value : Type 0
Value = List ℕ × Lists (List ℕ × List ℕ)

abbrev pub tree_is : List ℕ → List Family → List Borne → List (List ℕ) → Tree
tree_is top instructions entries downmixes = (top, (instructions, (entries, (downmixes, tt))))

-- the four tables by their numbers and columns (document 01, "Row tables"), and the rows that each needs
abbrev pub needed : (instructions additional loudness downmixes : ℕ) → List Need
needed i a l d =
    record { number = 9; columns = 24; rows = i }
    ∷ record { number = 10; columns = 2; rows = a }
    ∷ record { number = 11; columns = 7; rows = l }
    ∷ record { number = 12; columns = 4; rows = d }
    ∷ []
