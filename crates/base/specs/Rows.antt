-- The top record of the base body as columns, and what was read of a body.
use Rattle.std.specs.Prelude.{ℕ, List, [], ◌∷◌, ◌++◌, true, false, get_or, eqb}
use Rattle.std.proofs.Math.Option.{Option, none, some}
use Rattle.wire.specs.Bits.{bit}
use Rattle.wire.specs.Prog.{span}
use Rattle.wire.specs.declared.rows.Payload.{Payload}
use Rattle.frame.specs.Kind.{Bound, bounded}
use Rattle.base.specs.declared.rows.CompatibleSets.{CompatibleSets}
use Rattle.base.specs.declared.rows.MpegH3dAudio.{MpegH3dAudio}

abbrev pub absent_sets : CompatibleSets
absent_sets = record { present = false; indications = span 0 0 }

abbrev pub listed_sets : Payload → CompatibleSets
listed_sets p = record { present = true; indications = p }

-- ---- the record

-- its columns in the Rust's order, the trailing run apart; columns 3 and 4 are the place of the compatible sets
abbrev pub fields : MpegH3dAudio → List ℕ
fields m =
    m.profile_level_indication ∷ bit m.interactivity_enabled ∷ bit m.compatible_sets.present
    ∷ m.compatible_sets.indications.offset ∷ m.compatible_sets.indications.length
    ∷ m.reserved_flags ∷ m.reserved_layout ∷ m.reference_channel_layout ∷ []

abbrev pub base_of : List ℕ → Payload → MpegH3dAudio
base_of r run = record {
  profile_level_indication = get_or r 0 0;
  interactivity_enabled = eqb (get_or r 1 0) 1;
  compatible_sets = record { present = eqb (get_or r 2 0) 1; indications = span (get_or r 3 0) (get_or r 4 0) };
  reserved_flags = get_or r 5 0;
  reserved_layout = get_or r 6 0;
  reference_channel_layout = get_or r 7 0;
  trailing = run;
}

abbrev pub top_columns : ℕ
top_columns = 10

abbrev pub top_row : MpegH3dAudio → List ℕ
top_row m = fields m ++ (m.trailing.offset ∷ m.trailing.length ∷ [])

abbrev pub retrail : MpegH3dAudio → Payload → MpegH3dAudio
retrail m run = record {
  profile_level_indication = m.profile_level_indication;
  interactivity_enabled = m.interactivity_enabled;
  compatible_sets = m.compatible_sets;
  reserved_flags = m.reserved_flags;
  reserved_layout = m.reserved_layout;
  reference_channel_layout = m.reference_channel_layout;
  trailing = run;
}

unfoldable pub bounds : MpegH3dAudio → List Bound
bounds m =
    bounded 256 m.profile_level_indication ∷ bounded 65536 m.compatible_sets.indications.offset ∷ bounded 65536 m.compatible_sets.indications.length
    ∷ bounded 256 m.reserved_flags ∷ bounded 256 m.reserved_layout ∷ bounded 256 m.reference_channel_layout ∷ bounded 65536 m.trailing.offset ∷ bounded 65536 m.trailing.length ∷ []

-- ---- what is read: the 8 columns, with no place yet, and where the compatible sets stand

abbrev pub Carried : Type 0 → Type 0
Carried A = Option A × Unit {0}

abbrev pub Tree : Type 0
Tree = List ℕ × Carried Payload

abbrev pub Value : Type 0
Value = List ℕ × Carried (List ℕ)

abbrev pub sets_of : Option Payload → CompatibleSets
sets_of none = absent_sets
sets_of (some p) = listed_sets p
