-- What the walk along a DRC and loudness body finds: where its lists stand, and how many additional IDs they have. The promises of the entry points do not rest on it.
use Rattle.std.specs.Prelude.{Result, Ok, Err, ℕ, ◌≤◌, List, [], ◌∷◌, ◌≡◌, length, get_or, eqb}
use Rattle.wire.specs.Bits.{part}
use Rattle.wire.specs.Prog.{done, short, run, many}
use Rattle.wire.specs.Act.{pick}
use Rattle.wire.specs.Layout.{flat, Family, Borne, kids}
use Rattle.wire.specs.declared.reads.Short.{Short}
use Rattle.frame.specs.declared.Refusal.{Refusal}
use Rattle.frame.specs.Kind.{Lent}
use Rattle.frame.specs.Numbers.{refused, refusal}
use Rattle.frame.specs.Entry.{Reads}
use Rattle.frame.specs.Sight.{Opened}
use Rattle.instructions.specs.Layout.{instructions}
use Rattle.loudness.specs.Layout.{entries}
use Rattle.downmixes.specs.Layout.{downmix}
use Rattle.drc_kind.specs.declared.rows.DrcLoudnessInfo.{DrcLoudnessInfo}
use Rattle.drc_kind.specs.declared.rows.Info.{Info}
use Rattle.drc_kind.specs.Rows.{no_info, Tree, tree_is}
use Rattle.drc_kind.specs.Kind.{kind}
use Rattle.drc_loudness.specs.declared.parsing.Places.{Places}

-- the flag of the info, and what stands behind the first byte where it is set
abbrev pub flag_at : List ℕ → ℕ
flag_at s = part 0 1 (get_or s 0 0)

abbrev pub info_there : List ℕ → DrcLoudnessInfo
info_there s = record {
  reserved_drc = part 6 2 (get_or s 1 0);
  reserved_loudness = part 6 2 (get_or s 2 0);
  reserved_downmix = part 5 3 (get_or s 3 0);
  drc_instructions = part 0 6 (get_or s 1 0);
  loudness_infos = part 0 6 (get_or s 2 0);
  downmix_definitions = part 0 5 (get_or s 3 0);
}

unfoldable pub info_at : List ℕ → Info
info_at s = record { present = eqb (flag_at s) 1; part = pick (eqb (flag_at s) 1) (info_there s) no_info.part }

-- where the first list begins
unfoldable pub rows_at : List ℕ → ℕ
rows_at s = pick (eqb (flag_at s) 1) 4 1

-- what stands before the lists is there, and they begin at n
pub record Begun (s : List ℕ) (n : ℕ) : Type 0 where
  pub at_rows : n ≡ rows_at s
  pub inside : n ≤ length s

-- each list is read where the one before it ends
pub record Found (s : List ℕ) (p : Places) : Type 0 where
  pub in_instructions : List Family
  pub in_entries : List Borne
  pub in_downmixes : List (List ℕ)
  pub head : rows_at s ≤ length s
  pub instructions_read : run (many (info_at s).part.drc_instructions instructions) s (rows_at s) ≡ done in_instructions p.loudness
  pub entries_read : run (many (info_at s).part.loudness_infos entries) s p.loudness ≡ done in_entries p.downmixes
  pub downmixes_read : run (many (info_at s).part.downmix_definitions (flat 4 downmix)) s p.downmixes ≡ done in_downmixes p.k
  pub additional_are : p.additional ≡ length (kids in_instructions)
  pub additional_few : p.additional ≤ 441

-- the tree of what was found: its columns, and the rows of the lists
abbrev pub top_of : List ℕ → List ℕ
top_of s =
    let i = (info_at s).part in
    part 1 7 (get_or s 0 0) ∷ flag_at s ∷ i.reserved_drc ∷ i.reserved_loudness ∷ i.reserved_downmix ∷ i.drc_instructions ∷ i.loudness_infos ∷ i.downmix_definitions ∷ []

abbrev pub tree_of : List ℕ → List Family → List Borne → List (List ℕ) → Tree
tree_of s is ls ds = tree_is (top_of s) is ls ds

abbrev pub tree : {s : List ℕ} {p : Places} → Found s p → Tree
tree {s} f = tree_of s f.in_instructions f.in_entries f.in_downmixes

abbrev pub walks : List ℕ → Result Places Short → Type 0
walks s (Ok p) = Found s p
walks s (Err x) = run kind.program s 0 ≡ short x

pub record Walks (s : List ℕ) (r : Result Places Short) : Type 0 where
  pub finds : walks s r

-- a body that was opened, or why it is refused
abbrev pub opens : List ℕ → Lent → Result Places Refusal → Lent → Type 0
opens s lent (Ok p) after = Opened kind (Found s p) s lent after
opens s lent (Err x) after = Reads kind s lent (refused (refusal x)) after

pub record Opens (s : List ℕ) (lent : Lent) (r : Result Places Refusal) (after : Lent) : Type 0 where
  pub gives : opens s lent r after
