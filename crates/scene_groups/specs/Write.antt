-- What the functions that write a group promise: the bytes of its parts, its flags, its actions.
use Rattle.std.specs.Prelude.{ℕ, List, [], ◌∷◌, map, Bool, true, ◌&&◌, eqb}
use Rattle.wire.specs.Bits.{Field, field, is_flag, fit}
use Rattle.wire.specs.Act.{Act, byte, when, pick}
use Rattle.wire.specs.Layout.{Columns, at, flat_acts}
use Rattle.wire.specs.Spell.{fields_of, fit_all}
use Rattle.wire.specs.Straight.{part_from}
use Rattle.scene_groups.specs.Layout.{group}
use Rattle.scene_groups.specs.Rows.{group_cols, position_row, gain_row, language_row, id_cells, flag_cells, content_cells, position_cells, gain_cells, language_cells}
use Rattle.scene_groups.specs.declared.rows.PositionInteractivity.{PositionInteractivity}
use Rattle.scene_groups.specs.declared.rows.GainInteractivity.{GainInteractivity}
use Rattle.scene_groups.specs.declared.rows.ContentLanguage.{ContentLanguage}
use Rattle.scene_groups.specs.declared.rows.SceneGroup.{SceneGroup}

abbrev pub head_fields : SceneGroup → List (List Field)
head_fields g = fields_of (group_cols g) (id_cells ∷ flag_cells ∷ content_cells ∷ [])

abbrev pub position_fields : PositionInteractivity → List (List Field)
position_fields p = fields_of (part_from 7 (position_row p)) position_cells

abbrev pub gain_fields : GainInteractivity → List (List Field)
gain_fields g = fields_of (part_from 18 (gain_row g)) gain_cells

abbrev pub language_fields : ContentLanguage → List (List Field)
language_fields l = fields_of (part_from 23 (language_row l)) language_cells

abbrev pub group_flags : SceneGroup → Bool
group_flags g =
    is_flag g.allow_on_off && (is_flag g.default_on_off && (is_flag g.position.present && (is_flag g.gain.present && is_flag g.content_language.present)))

-- the fields of a part fit, if its flag v is 1
abbrev pub part_fits : ℕ → List (List Field) → Bool
part_fits v fields = pick (eqb v 1) (fit_all fields) true

abbrev pub position_fits : PositionInteractivity → Bool
position_fits p = part_fits p.present (position_fields p)

abbrev pub gain_fits : GainInteractivity → Bool
gain_fits g = part_fits g.present (gain_fields g)

abbrev pub language_fits : ContentLanguage → Bool
language_fits l = part_fits l.present (language_fields l)

-- a row without a fault
abbrev pub plain_fits : Columns → Bool
plain_fits g =
    fit_all (fields_of g (id_cells ∷ flag_cells ∷ content_cells ∷ []))
    && (part_fits (g 7) (fields_of g position_cells) && (part_fits (g 18) (fields_of g gain_cells) && part_fits (g 23) (fields_of g language_cells)))

-- its first eight columns fit, four and four
abbrev pub id_fits : Columns → Bool
id_fits g = fit (field 1 (g 0) ∷ field 7 (g 1) ∷ field 3 (g 2) ∷ field 1 (g 3) ∷ [])

abbrev pub kind_fits : Columns → Bool
kind_fits g = fit (field 1 (g 4) ∷ field 4 (g 5) ∷ field 4 (g 6) ∷ field 1 (g 7) ∷ [])

-- a row without parts
abbrev pub no_parts : Columns → Bool
no_parts g = eqb (g 7) 0 && (eqb (g 18) 0 && eqb (g 23) 0)

-- the actions of a part
abbrev pub position_part : PositionInteractivity → List Act
position_part p = when (eqb p.present 1) (map byte (position_fields p))

abbrev pub gain_part : GainInteractivity → List Act
gain_part g = when (eqb g.present 1) (map byte (gain_fields g))

abbrev pub language_part : ContentLanguage → List Act
language_part l = when (eqb l.present 1) (map byte (language_fields l))

abbrev pub group_acts : SceneGroup → List Act
group_acts g = flat_acts group (group_cols g)

abbrev pub row_acts : List ℕ → ℕ → List Act
row_acts t i = flat_acts group (at 27 t i)
