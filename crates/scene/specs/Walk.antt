-- What the walk along a scene body finds: where its sections stand, and how many rows they need of the tables below theirs. The promises of the entry points do not rest on it.
use Rattle.std.specs.Prelude.{Result, Ok, Err, Option, Some, None, ℕ, ◌+◌, ◌≤◌, List, [], ◌∷◌, ◌≡◌, length, get_or, eqb}
use Rattle.wire.specs.Bits.{part, zeros}
use Rattle.wire.specs.Prog.{done, short, run}
use Rattle.wire.specs.Act.{pick}
use Rattle.wire.specs.Layout.{flat, Family, kids}
use Rattle.frame.specs.Kind.{Lent}
use Rattle.frame.specs.Numbers.{refused, refusal}
use Rattle.frame.specs.Entry.{Reads}
use Rattle.frame.specs.Sight.{Opened}
use Rattle.scene_groups.specs.Layout.{group}
use Rattle.switch_groups.specs.Layout.{switch_group_list}
use Rattle.presets.specs.Layout.{presets}
use Rattle.scene.specs.declared.parsing.Places.{Places}
use Rattle.wire.specs.declared.reads.Short.{Short}
use Rattle.frame.specs.declared.Refusal.{Refusal}
use Rattle.scene_kind.specs.Rows.{Scene, scene_is}
use Rattle.scene_kind.specs.Read.{all, Section, section}
use Rattle.scene_kind.specs.Kind.{kind}

-- of a section whose byte stands at a position, if its flag is 1: where its rows begin, and how many there are
unfoldable pub rows_at : ℕ → ℕ → ℕ
rows_at flag at = at + pick (eqb flag 1) 1 0

unfoldable pub count_at : ℕ → List ℕ → ℕ → ℕ → ℕ
count_at w s flag at = pick (eqb flag 1) (part 0 w (get_or s at 0)) 0

unfoldable pub reserved_at : (r w ones : ℕ) → List ℕ → ℕ → ℕ → ℕ
reserved_at r w ones s flag at = pick (eqb flag 1) (part w r (get_or s at 0)) ones

unfoldable pub reserved_zeros : (r w : ℕ) → List ℕ → ℕ → ℕ → ℕ
reserved_zeros r w s flag at = pick (eqb flag 1) (zeros r (part w r (get_or s at 0))) 0

-- the three flags
abbrev pub groups_flag : List ℕ → ℕ
groups_flag s = part 7 1 (get_or s 0 0)

abbrev pub switches_flag : List ℕ → ℕ
switches_flag s = part 6 1 (get_or s 0 0)

abbrev pub presets_flag : List ℕ → ℕ
presets_flag s = part 5 1 (get_or s 0 0)

-- the flags as code has them
pub record Flags (s : List ℕ) (g t q : ℕ) : Type 0 where
  pub of_groups : g ≡ groups_flag s
  pub of_switches : t ≡ switches_flag s
  pub of_presets : q ≡ presets_flag s

-- each section is read where the one before it ends
pub record Found (s : List ℕ) (p : Places) : Type 0 where
  pub in_groups : Section (List ℕ)
  pub in_switches : Section Family
  pub in_presets : Section Family
  pub head : 2 ≤ length s
  pub groups_read : run (section (groups_flag s) 1 7 1 (flat 27 group)) s 2 ≡ done in_groups p.switch_groups
  pub switches_read : run (section (switches_flag s) 3 5 7 switch_group_list) s p.switch_groups ≡ done in_switches p.presets
  pub presets_read : run (section (presets_flag s) 3 5 7 presets) s p.presets ≡ done in_presets p.k
  pub members_are : p.members ≡ length (kids in_switches.rows)
  pub conditions_are : p.conditions ≡ length (kids in_presets.rows)
  pub members_few : p.members ≤ 992
  pub conditions_few : p.conditions ≤ 496

-- the tree of what was found: its columns, and the rows of the sections
abbrev pub top_of : List ℕ → Section (List ℕ) → Section Family → Section Family → List ℕ
top_of s g x p =
    part 0 5 (get_or s 0 0) ∷ all (get_or s 1 0) ∷ groups_flag s ∷ g.count ∷ x.reserved ∷ switches_flag s ∷ x.count ∷ p.reserved ∷ presets_flag s ∷ p.count ∷ g.reserved ∷ []

abbrev pub tree_of : List ℕ → Section (List ℕ) → Section Family → Section Family → Scene
tree_of s g x p = scene_is (top_of s g x p) g.rows x.rows p.rows

abbrev pub tree : {s : List ℕ} {p : Places} → Found s p → Scene
tree {s} f = tree_of s f.in_groups f.in_switches f.in_presets

abbrev pub walks : List ℕ → Result Places Short → Type 0
walks s (Ok p) = Found s p
walks s (Err x) = run kind.program s 0 ≡ short x

pub record Walks (s : List ℕ) (r : Result Places Short) : Type 0 where
  pub finds : walks s r

-- sections that have no rows
pub record Bare (s : List ℕ) (p : Places) : Type 0 where
  pub found : Found s p
  pub no_groups : found.in_groups.rows ≡ []
  pub no_switches : found.in_switches.rows ≡ []
  pub no_presets : found.in_presets.rows ≡ []

-- what the first bytes tell: sections without rows, or nothing yet; or that the body is cut
abbrev pub looks : List ℕ → Result (Option Places) Short → Type 0
looks s (Ok (Some p)) = Bare s p
looks s (Ok None) = 2 ≤ length s
looks s (Err x) = run kind.program s 0 ≡ short x

pub record Looks (s : List ℕ) (r : Result (Option Places) Short) : Type 0 where
  pub sees : looks s r

-- a body that was opened, or why it is refused
abbrev pub opens : List ℕ → Lent → Result Places Refusal → Lent → Type 0
opens s lent (Ok p) after = Opened kind (Found s p) s lent after
opens s lent (Err x) after = Reads kind s lent (refused (refusal x)) after

pub record Opens (s : List ℕ) (lent : Lent) (r : Result Places Refusal) (after : Lent) : Type 0 where
  pub gives : opens s lent r after
