-- A group is stored: the seven columns of the three bytes, then those of each part.
use Prim.Native.Nat.{◌+◌}
use mathlib.Core.Path.{◌≡◌, ◌∙◌}
use native.Mathlib.Omega.{arith}
use lib.ListN.{get_or}
use Rattle.scene_groups.specs.Rows.{head_of}
use Rattle.scene_groups.proofs.Groups.{head_there, group_room, group_put, flag_below}
use borrow.Author.Rules.{rules}
use Rattle.scene_groups.proofs.parsing.GroupStore.store.Goals as goal

pub bounds-body-at : goal.bounds-body-at
bounds-body-at c = omega (arith, head_there _ _ c.requires.0 c.requires.1)

pub bounds-body-at-2 : goal.bounds-body-at-2
bounds-body-at-2 c = omega (arith, head_there _ _ c.requires.0 c.requires.1)

pub bounds-body-at-3 : goal.bounds-body-at-3
bounds-body-at-3 c = omega (arith, head_there _ _ c.requires.0 c.requires.1)

pub fill_position-at_gain-requires : goal.fill_position-at_gain-requires
fill_position-at_gain-requires c =
    (omega (arith, group_room _ _ c.requires.0 c.requires.1 c.wide-flags.ensures c.part-p.ensures c.part-g.ensures c.part-l.ensures), flag_below 2 _ c.part-p.ensures, search rules)

pub fill_gain-at_language-requires : goal.fill_gain-at_language-requires
fill_gain-at_language-requires c =
    (search (rules, group_room _ _ c.requires.0 c.requires.1 c.wide-flags.ensures c.part-p.ensures c.part-g.ensures c.part-l.ensures), flag_below 1 _ c.part-g.ensures, search rules)

pub fill_language-requires : goal.fill_language-requires
fill_language-requires c =
    (search (rules, group_room _ _ c.requires.0 c.requires.1 c.wide-flags.ensures c.part-p.ensures c.part-g.ensures c.part-l.ensures), flag_below 0 _ c.part-l.ensures, search rules)

pub returns : goal.returns
returns c =
    let head_so : c.head_row.result ≡ head_of (get_or c.args.body.now c.args.at 0) c.wide-flags.result (get_or c.args.body.now (c.args.at + 2) 0) = c.head_row.ensures
    ∙ λ i. head_of (c.wide-id.ensures i) c.wide-flags.result
    (c.wide-content.ensures i) in
    group_put _ _ c.requires.0 c.requires.1
    c.wide-flags.ensures c.part-p.ensures c.part-g.ensures c.part-l.ensures head_so
    c.put_row.ensures c.fill_position-at_gain.ensures c.fill_gain-at_language.ensures
    c.fill_language.ensures
