-- The reserved bits of a scope at 0: they do not depend on the list of types.
use Rattle.std.specs.Prelude.{ℕ, [], ◌∷◌}
use Rattle.wire.specs.Layout.{tally}
use Rattle.scopes.specs.Layout.{scope}
use Rattle.scopes.specs.Write.{scope_cols}
use Rattle.scopes.specs.declared.rows.DrcScope.{DrcScope}

abbrev pub scope_zeros : ℕ → DrcScope → ℕ
scope_zeros rt s = tally (scope [] ∷ []) (scope_cols rt s)
