-- What the bench program's line comes to, by the tests that the code makes.
use Prim.Native.Nat.{ℕ, ◌-◌, ◌≤◌, ◌<◌}
use mathlib.Core.List.{List, [], ◌∷◌}
use mathlib.Core.Logic.{◌⊎◌}
use mathlib.Core.Path.{◌≡◌, refl, sym, ap, ◌∙◌}
use native.Mathlib.Omega.{arith}
use lib.ListN.{length}
use borrow.Author.Tests.{ne_eqb, le-leb, lt-leb}
use Rattle.frame.specs.Numbers.{Answer, accepted, refused, Numbered, numbered}
use Rattle.frame.specs.Kind.{Kind}
use Rattle.frame.specs.Entry.{Sizes, measuring, tallying}
use Rattle.base.specs.Kind as Base
use Rattle.scene_kind.specs.Kind as Scene
use Rattle.text_label.specs.Kind as TextLabel
use Rattle.multi_stream.specs.Kind as MultiStream
use Rattle.drc_kind.specs.Kind as DrcLoudness
use Rattle.bench.specs.declared.kind.Kind as K
use Rattle.bench.specs.declared.kind.Kind.TheVariants as V
use Rattle.bench.specs.declared.line.Line.{Line}
use Rattle.bench.specs.Kinds.{number_of}
use Rattle.bench.specs.Line.{refused_line, too_long_line, judged_line, body_line, kind_line, line_of}

pub nothing : (s : List ℕ) → length s ≡ 0 → line_of s ≡ refused_line (numbered 11 (0 ∷ []))
unfolding line_of kind_line
nothing [] e = refl
nothing (x ∷ s) e = absurd (omega arith)

pub parted : {s body : List ℕ} {k : ℕ} → s ≡ k ∷ body → line_of s ≡ kind_line k body
unfolding line_of
parted e = ap line_of e

pub is_other : (k : ℕ) (body : List ℕ) → (k < 1) ⊎ (5 < k) → kind_line k body ≡ refused_line (numbered 11 (k ∷ []))
unfolding kind_line
is_other k body h = rw (ne_eqb k 1 (omega arith), ne_eqb k 2 (omega arith), ne_eqb k 3 (omega arith), ne_eqb k 4 (omega arith), ne_eqb k 5 (omega arith), kind_line) refl

-- ---- a body

module _ {Tree Top Value : Type 0} (K : Kind Tree Top Value) (body : List ℕ) where
  pub too_long : 4096 < length body → too_long_line ≡ body_line K body
  unfolding body_line
  too_long h = rw (lt-leb _ _ h, body_line) refl

  -- what measuring and tallying say of one that is not too long
  pub within : length body ≤ 4096 → judged_line (measuring K body) (tallying K body) ≡ body_line K body
  unfolding body_line
  within h = sym (rw (le-leb _ _ h, body_line) refl)

  -- the same of what a call answered, which `search` finds by what it says
  pub judged_within : {l : Line} → length body ≤ 4096 → l ≡ judged_line (measuring K body) (tallying K body) → l ≡ body_line K body
  judged_within h e = e ∙ within h

pub all_too_long : (k : K.Kind) (body : List ℕ) → 4096 < length body → too_long_line ≡ kind_line (number_of k) body
unfolding kind_line
all_too_long V.Base body h = too_long Base.kind body h
all_too_long V.Scene body h = too_long Scene.kind body h
all_too_long V.TextLabel body h = too_long TextLabel.kind body h
all_too_long V.MultiStream body h = too_long MultiStream.kind body h
all_too_long V.DrcLoudness body h = too_long DrcLoudness.kind body h

-- a refusal of either ends it
pub measure_refused : {z : Answer Sizes} (t : Answer ℕ) {x : Numbered} → refused x ≡ z → refused_line x ≡ judged_line z t
measure_refused t e = ap (λ (z : Answer Sizes). judged_line z t) e

module _ {z : Answer Sizes} {t : Answer ℕ} where
  pub tally_refused : {y : Sizes} {x : Numbered} → accepted y ≡ z → refused x ≡ t → refused_line x ≡ judged_line z t
  tally_refused e f = (λ i. judged_line (e i) (f i))

  pub both : {y : Sizes} {n : ℕ} → accepted y ≡ z → accepted n ≡ t → record { number = 0; first = 0; k = y.before; tally = n } ≡ judged_line z t
  both e f = (λ i. judged_line (e i) (f i))
