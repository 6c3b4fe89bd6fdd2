-- The bench program's line (document 01): number, first returned number, k and tally, of an input of one kind byte and a body.
use Rattle.std.specs.Prelude.{Result, Ok, Err, ℕ, List, [], ◌∷◌, true, false, length, get_or, leb, eqb}
use Rattle.frame.specs.Numbers.{Numbered, numbered, Answer, accepted, refused, refusal}
use Rattle.frame.specs.declared.Refusal.{Refusal}
use Rattle.frame.specs.Kind.{Kind}
use Rattle.frame.specs.Entry.{Sizes, measuring, tallying}
use Rattle.base.specs.Kind as Base
use Rattle.scene_kind.specs.Kind as Scene
use Rattle.text_label.specs.Kind as TextLabel
use Rattle.multi_stream.specs.Kind as MultiStream
use Rattle.drc_kind.specs.Kind as DrcLoudness
use Rattle.bench.specs.declared.line.Line.{Line}

-- k and tally are 0 on refusal
abbrev pub refused_line : Numbered → Line
refused_line x = record { number = x.number; first = get_or x.values 0 0; k = 0; tally = 0 }

abbrev pub shown : Result Line Refusal → Line
shown (Ok l) = l
shown (Err r) = refused_line (refusal r)

-- of a body that was measured
abbrev pub tallied_line : ℕ → Answer ℕ → Line
tallied_line k (accepted n) = record { number = 0; first = 0; k = k; tally = n }
tallied_line k (refused x) = refused_line x

abbrev pub judged_line : Answer Sizes → Answer ℕ → Line
judged_line (accepted z) t = tallied_line z.before t
judged_line (refused x) t = refused_line x

-- the program takes at most 4,096 body bytes; a longer body counts as one of 4,097
abbrev pub too_long_line : Line
too_long_line = refused_line (numbered 2 (4097 ∷ []))

unfoldable pub body_line : {Tree Top Value : Type 0} → Kind Tree Top Value → List ℕ → Line
body_line K body = elim (leb (length body) 4096) [ true ↦ judged_line (measuring K body) (tallying K body) | false ↦ too_long_line ]

abbrev pub base_line : List ℕ → Line
base_line body = body_line Base.kind body

abbrev pub scene_line : List ℕ → Line
scene_line body = body_line Scene.kind body

abbrev pub text_label_line : List ℕ → Line
text_label_line body = body_line TextLabel.kind body

abbrev pub multi_stream_line : List ℕ → Line
multi_stream_line body = body_line MultiStream.kind body

abbrev pub drc_loudness_line : List ℕ → Line
drc_loudness_line body = body_line DrcLoudness.kind body

-- the five kinds: 1 base, 2 scene, 3 text label, 4 multi_stream, 5 DRC and loudness
unfoldable pub kind_line : ℕ → List ℕ → Line
kind_line k body = elim (eqb k 1) [
  | true ↦ base_line body
  | false ↦ elim (eqb k 2) [
    | true ↦ scene_line body
    | false ↦ elim (eqb k 3) [
      | true ↦ text_label_line body
      | false ↦ elim (eqb k 4) [
        | true ↦ multi_stream_line body
        | false ↦ elim (eqb k 5) [
          | true ↦ drc_loudness_line body
          | false ↦ refused_line (numbered 11 (k ∷ []))
        ]
      ]
    ]
  ]
]

-- empty input is kind 0
unfoldable pub line_of : List ℕ → Line
line_of [] = kind_line 0 []
line_of (k ∷ body) = kind_line k body
