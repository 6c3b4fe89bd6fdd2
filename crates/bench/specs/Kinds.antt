-- The kinds by their numbers: 1 base, 2 scene, 3 text label, 4 multi_stream, 5 DRC and loudness.
use Rattle.std.specs.Prelude.{ℕ, ◌≤◌, ◌<◌, ◌⊎◌, Result, Ok, Err, ◌≡◌}
use Rattle.bench.specs.declared.kind.Kind.{Kind}
use Rattle.bench.specs.declared.kind.Kind.TheVariants as K
use Rattle.bench.specs.declared.kind.UnknownKind.{UnknownKind}

abbrev pub number_of : Kind → ℕ
number_of K.Base = 1
number_of K.Scene = 2
number_of K.TextLabel = 3
number_of K.MultiStream = 4
number_of K.DrcLoudness = 5

-- what a number names
abbrev pub Names : ℕ → Result Kind UnknownKind → Type 0
Names n (Ok k) = n ≡ number_of k
Names n (Err x) = (x.0 ≡ n) × ((n < 1) ⊎ (5 < n))
