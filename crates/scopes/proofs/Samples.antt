-- Scopes of document 01, with the types that carry a group ID in instructions and in loudness entries: what is read, and each fault at its place.
use mathlib.Core.Path.{◌≡◌, refl}
use mathlib.Core.List.{List, [], ◌∷◌, flatten}
use mathlib.Core.Bool.{true}
use Prim.Native.Nat.{ℕ}
use Rattle.wire.specs.Bits.{split, total, fit, join}
use Rattle.wire.specs.Lists.{each}
use Rattle.wire.specs.Act.{settle, ahead, image, fault}
use Rattle.wire.specs.Layout.{row, blank, has, put, shown, writes, matches}
use Rattle.wire.specs.Straight.{took, puts_at, taken}
use Rattle.wire.specs.declared.pen.Fault.TheVariants as F
use Rattle.wire.proofs.Layouts.Cells.{all, distinct, free, eights, proper, suits}
use Rattle.scopes.specs.Layout.{scope}
use Rattle.scopes.specs.Write.{scope_acts}
use Rattle.scopes.specs.declared.rows.DrcScope.TheVariants.{Plain, Group, Preset, Unknown}

abbrev instructions : List ℕ
instructions = 2 ∷ []

abbrev loudness : List ℕ
loudness = 1 ∷ 2 ∷ []

-- both layouts pass the test of a layout
pub instructions_pass : proper [] (scope instructions) ≡ true
unfolding proper scope all has distinct free eights total flatten suits each
instructions_pass = refl

pub loudness_pass : proper [] (scope loudness) ≡ true
unfolding proper scope all has distinct free eights total flatten suits each
loudness_pass = refl

-- type 1 is plain in an instruction, and has a group ID in a loudness entry
pub plain_read : row 5 (taken (scope instructions) blank (253 ∷ 133 ∷ []) 0) ≡ 63 ∷ 0 ∷ 1 ∷ 0 ∷ 0 ∷ []
unfolding scope took puts_at put split total each has
plain_read = refl

pub group_read : row 5 (taken (scope loudness) blank (253 ∷ 133 ∷ []) 0) ≡ 63 ∷ 1 ∷ 1 ∷ 1 ∷ 5 ∷ []
unfolding scope took puts_at put split total each has
group_read = refl

pub preset_read : row 5 (taken (scope loudness) blank (255 ∷ 233 ∷ []) 0) ≡ 63 ∷ 2 ∷ 3 ∷ 7 ∷ 9 ∷ []
unfolding scope took puts_at put split total each has
preset_read = refl

-- ---- written

pub plain_written : settle (scope_acts instructions 63 (Plain 1)) 0 ≡ image (253 ∷ [])
unfolding scope writes matches shown settle ahead fit join flatten has each
plain_written = refl

pub group_written : settle (scope_acts loudness 63 (Group 1 1 (record { 0 = 5 }))) 0 ≡ image (253 ∷ 133 ∷ [])
unfolding scope writes matches shown settle ahead fit join flatten has each
group_written = refl

-- a plain scope whose type needs an ID is 8, one whose type is over 3 is 5
pub plain_needs_id : settle (scope_acts loudness 63 (Plain 1)) 0 ≡ fault F.Scope 0
unfolding scope writes matches shown settle ahead fit join flatten has each
plain_needs_id = refl

pub plain_over_3 : settle (scope_acts loudness 63 (Plain 4)) 0 ≡ fault F.Field 0
unfolding scope writes matches shown settle ahead fit join flatten has each
plain_over_3 = refl

-- a group whose type carries no group ID here is 8, before its ID; an ID over its width is 5 where the scope begins
pub group_elsewhere : settle (scope_acts instructions 63 (Group 1 1 (record { 0 = 200 }))) 0 ≡ fault F.Scope 0
unfolding scope writes matches shown settle ahead fit join flatten has each
group_elsewhere = refl

pub id_over : settle (scope_acts instructions 63 (Group 2 1 (record { 0 = 128 }))) 0 ≡ fault F.Field 0
unfolding scope writes matches shown settle ahead fit join flatten has each
id_over = refl

pub preset_over : settle (scope_acts instructions 64 (Preset 8 (record { 0 = 32 }))) 0 ≡ fault F.Field 0
unfolding scope writes matches shown settle ahead fit join flatten has each
preset_over = refl

-- a case above 2 is 8, before the reserved bits of the type byte
pub case_over_2 : settle (scope_acts instructions 64 Unknown) 0 ≡ fault F.Scope 0
unfolding scope writes matches shown settle ahead fit join flatten has each
case_over_2 = refl
