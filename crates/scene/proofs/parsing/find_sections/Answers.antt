-- `scene::parsing::find_sections` meets its contract: a place after each section.
use Rattle.std.specs.Prelude.{Ok}
use Prim.Native.Nat.{ℕ}
use mathlib.Core.Path.{◌≡◌, ap, ◌∙◌}
use mathlib.Core.List.{List}
use native.Mathlib.Omega.{arith}
use lib.ListN.{get_or}
use Rattle.wire.specs.Bits.{part}
use Rattle.wire.specs.Prog.{done, run}
use Rattle.wire.specs.Reads.{end_of, Summed}
use Rattle.wire.specs.Straight.{ends, ones}
use Rattle.wire.specs.Layout.{flat}
use Rattle.wire.proofs.Handed.{handed}
use Rattle.wire.proofs.Layouts.Straight.{Past, ones_past}
use Rattle.scene_groups.specs.Layout.{group}
use Rattle.switch_groups.specs.Layout.{switch_group_list}
use Rattle.scene_kind.specs.Read.{section}
use Rattle.scene.proofs.Walked.{head_cut, counted, InGroups, groups_found, groups_cut, InSwitches, switches_found, switches_cut, all_found, presets_cut}
use Rattle.scene.proofs.parsing.find_sections.Goals as goal

-- the first two bytes
two : {s : List ℕ} {n : ℕ} → done tt n ≡ ends (ones 2) s 0 → Past s 0 2 n
two {s} e = ones_past 2 s 0 (omega arith) e

-- behind the groups, and behind the switch groups: v is the byte of the flags
module _ {s : List ℕ} {v : ℕ} where
  groups_so : {n m g : ℕ} → done tt n ≡ ends (ones 2) s 0 → v ≡ get_or s 0 0 → g ≡ part 7 1 v → done tt m ≡ end_of (run (section g 1 7 1 (flat 27 group)) s n) → InGroups s m
  groups_so e b q r = groups_found (two e) (q ∙ ap (part 7 1) b) r

  switches_so : {m x k t : ℕ} → InGroups s m → v ≡ get_or s 0 0 → t ≡ part 6 1 v → Summed (section t 3 5 7 switch_group_list) counted 992 s m (Ok (x, k))
      → InSwitches s m x k
  switches_so w b q r = switches_found w (q ∙ ap (part 6 1) b) r

pub returns-in_err-n : goal.returns-in_err-n
returns-in_err-n c = rw (handed c.from_residual.result c.from_residual.ensures.1) (record { finds = head_cut _ c.in_err-n.ensures })

pub bounds-body-0 : goal.bounds-body-0
bounds-body-0 c = let h = (two c.in_ok-n.ensures).inside in omega arith

pub groups_end-requires : goal.groups_end-requires
groups_end-requires c = let h = two c.in_ok-n.ensures in rw h.is h.inside

pub returns-in_err-switch_groups : goal.returns-in_err-switch_groups
returns-in_err-switch_groups c =
    rw (handed c.from_residual-in_err-switch_groups.result c.from_residual-in_err-switch_groups.ensures.1)
    (record { finds = groups_cut (two c.in_ok-n.ensures) (c.part.ensures ∙ ap (part 7 1) c.wide-flags.ensures) c.in_err-switch_groups.ensures })

pub section_rows-requires : goal.section_rows-requires
section_rows-requires c = ((groups_so c.in_ok-n.ensures c.wide-flags.ensures c.part.ensures c.in_ok-switch_groups.ensures).place.inside, omega arith)

pub returns-in_err-members : goal.returns-in_err-members
returns-in_err-members c =
    rw (handed c.from_residual-in_err-members.result c.from_residual-in_err-members.ensures.1)
    (record { finds = switches_cut (groups_so c.in_ok-n.ensures c.wide-flags.ensures c.part.ensures c.in_ok-switch_groups.ensures) (c.part-2.ensures ∙ ap (part 6 1) c.wide-flags.ensures) c.in_err-members.ensures })

pub section_rows-requires-2 : goal.section_rows-requires-2
section_rows-requires-2 c = ((switches_so (groups_so c.in_ok-n.ensures c.wide-flags.ensures c.part.ensures c.in_ok-switch_groups.ensures) c.wide-flags.ensures c.part-2.ensures c.in_ok-members.ensures).on.place.inside, omega arith)

pub returns-in_err-conditions : goal.returns-in_err-conditions
returns-in_err-conditions c =
    rw (handed c.from_residual-in_err-conditions.result c.from_residual-in_err-conditions.ensures.1)
    (record { finds = presets_cut (switches_so (groups_so c.in_ok-n.ensures c.wide-flags.ensures c.part.ensures c.in_ok-switch_groups.ensures) c.wide-flags.ensures c.part-2.ensures c.in_ok-members.ensures) (c.part-3.ensures ∙ ap (part 5 1) c.wide-flags.ensures) c.in_err-conditions.ensures })

pub returns : goal.returns
returns c = record { finds = all_found (switches_so (groups_so c.in_ok-n.ensures c.wide-flags.ensures c.part.ensures c.in_ok-switch_groups.ensures) c.wide-flags.ensures c.part-2.ensures c.in_ok-members.ensures) (c.part-3.ensures ∙ ap (part 5 1) c.wide-flags.ensures) (two c.in_ok-n.ensures).inside c.in_ok-conditions.ensures }
