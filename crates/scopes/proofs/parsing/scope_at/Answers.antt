-- `scopes::parsing::scope_at` meets its contract: the type byte, and the ID behind it.
use Prim.Native.Nat.{◌+◌}
use mathlib.Core.Path.{sym, ap, ◌∙◌}
use mathlib.Core.List.{◌∷◌}
use Rattle.wire.specs.Bits.{part}
use Rattle.scopes.specs.Rows.{id_bytes, scope_row, scope_at}
use Rattle.scopes.proofs.Taken.{scope_taken}
use borrow.Author.Rules.{rules}
use Rattle.scopes.proofs.parsing.scope_at.Goals as goal

pub scope_of-requires : goal.scope_of-requires
scope_of-requires c =
    search (rules, ap (id_bytes c.args.types.now) (c.part-kind.ensures ∙ ap (part 0 2) c.wide-b.ensures))

pub returns : goal.returns
returns c =
    (λ i. (c.part.ensures ∙ ap (part 2 6) c.wide-b.ensures) i ∷ scope_row ((c.scope_of.ensures ∙ ap
    (scope_at c.args.types.now c.args.body.now (c.args.at + 1)) (c.part-kind.ensures ∙ ap (part 0 2) c.wide-b.ensures)) i)) ∙ sym
    (scope_taken c.args.types.now c.args.body.now c.args.at)
