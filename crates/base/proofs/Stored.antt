-- The compatible sets in the store: where they stand there, they are as long as the record says.
use Prim.Native.Nat.{ℕ, ◌+◌}
use mathlib.Core.List.{List}
use mathlib.Core.Bool.{Bool, true, false}
use mathlib.Core.Path.{◌≡◌, refl, ◌∙◌}
use native.Mathlib.Omega.{arith}
use lib.ListN.{length}
use lib.Seq.{slice, length-slice}
use lib.Dec.{leb}
use borrow.Author.Tests.{leb-true}
use Rattle.wire.specs.Act.{pick}
use Rattle.base.specs.declared.rows.CompatibleSets.{CompatibleSets}
use Rattle.base.specs.Write.{inside, listed}

as_long : (c : Bool) (a n : ℕ) (s : List ℕ) → pick c (leb (a + n) (length s)) true ≡ true → pick c (length (slice a (a + n) s)) n ≡ n
as_long true a n s e = length-slice a (a + n) s (leb-true _ _ e) ∙ omega arith
as_long false a n s e = refl

pub listed_long : (x : CompatibleSets) (store : List ℕ) → inside x store ≡ true → pick x.present (length (listed x store)) x.indications.length ≡ x.indications.length
listed_long x store e = as_long x.present x.indications.offset x.indications.length store e
