-- `group_at` takes the fields of the three bytes, and each part that their flags say at its place.
use Prim.Native.Nat.{ℕ, ◌+◌}
use mathlib.Core.List.{List, [], ◌∷◌}
use mathlib.Core.Path.{◌≡◌, ap, ◌∙◌}
use native.Mathlib.Omega.{arith}
use lib.ListN.{get_or}
use Rattle.wire.specs.Bits.{part}
use Rattle.scene_groups.specs.Rows.{head_of}
use Rattle.scene_groups.proofs.Groups.{head_there, group_room, group_done, flag_below}
use Rattle.scene_groups.proofs.parsing.group_at.Goals as goal

pub bounds-body-at : goal.bounds-body-at
bounds-body-at c = omega (arith, head_there _ _ c.requires.0 c.requires.1)

pub bounds-body-at-2 : goal.bounds-body-at-2
bounds-body-at-2 c = omega (arith, head_there _ _ c.requires.0 c.requires.1)

pub bounds-body-at-3 : goal.bounds-body-at-3
bounds-body-at-3 c = omega (arith, head_there _ _ c.requires.0 c.requires.1)

pub overflow_add-at_gain-2 : goal.overflow_add-at_gain-2
overflow_add-at_gain-2 c =
    omega (arith, c.size.ensures, group_room _ _ c.requires.0 c.requires.1 c.wide-flags.ensures c.part-p.ensures c.part-g.ensures c.part-l.ensures)

pub overflow_add-at_language : goal.overflow_add-at_language
overflow_add-at_language c =
    omega (arith, c.size-2.ensures, c.size.ensures, group_room _ _ c.requires.0 c.requires.1 c.wide-flags.ensures c.part-p.ensures c.part-g.ensures c.part-l.ensures)

pub position_at-requires : goal.position_at-requires
position_at-requires c =
    (omega (arith, group_room _ _ c.requires.0 c.requires.1 c.wide-flags.ensures c.part-p.ensures c.part-g.ensures c.part-l.ensures), flag_below 2 _ c.part-p.ensures)

pub gain_at-requires : goal.gain_at-requires
gain_at-requires c =
    (omega (arith, c.size.ensures, group_room _ _ c.requires.0 c.requires.1 c.wide-flags.ensures c.part-p.ensures c.part-g.ensures c.part-l.ensures), flag_below 1 _ c.part-g.ensures)

pub language_at-requires : goal.language_at-requires
language_at-requires c =
    (omega (arith, c.size-2.ensures, c.size.ensures, group_room _ _ c.requires.0 c.requires.1 c.wide-flags.ensures c.part-p.ensures c.part-g.ensures c.part-l.ensures), flag_below 0 _ c.part-l.ensures)

pub overflow_add-result : goal.overflow_add-result
overflow_add-result c =
    omega (arith, c.size-3.ensures, c.size-2.ensures, c.size.ensures, group_room _ _ c.requires.0 c.requires.1 c.wide-flags.ensures c.part-p.ensures c.part-g.ensures c.part-l.ensures, c.well_formed)

pub returns : goal.returns
returns c =
    -- the seven fields of the three bytes
    let fields : List ℕ = c.part.result ∷ c.part-2.result
    ∷ c.part-3.result ∷ c.part-4.result ∷ c.part-5.result
    ∷ c.part-6.result ∷ c.part-7.result ∷ [] in
    let body : List ℕ = c.args.body.now in
    let begins : ℕ = c.args.at in
    let fields_so : fields ≡ head_of (get_or body begins 0) c.wide-flags.result (get_or body (begins + 2) 0) = let x = c.wide-id.ensures in
    let z = c.wide-content.ensures in
    λ i. (c.part.ensures ∙ ap (part 7 1) x) i ∷ (c.part-2.ensures ∙ ap (part 0 7) x) i
    ∷ c.part-3.ensures i ∷ c.part-4.ensures i ∷ c.part-5.ensures i
    ∷ (c.part-6.ensures ∙ ap (part 4 4) z) i ∷ (c.part-7.ensures ∙ ap (part 0 4) z) i ∷ [] in
    group_done _ _ c.requires.0 c.requires.1
    c.wide-flags.ensures c.part-p.ensures c.part-g.ensures c.part-l.ensures
    c.size.ensures c.size-2.ensures c.size-3.ensures fields_so c.position_at.ensures
    c.gain_at.ensures c.language_at.ensures
