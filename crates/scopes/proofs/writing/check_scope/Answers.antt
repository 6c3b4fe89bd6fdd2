-- `scopes::writing::check_scope` meets its contract: the case, all fields, then the bytes.
use native.Mathlib.Omega.{arith}
use Rattle.wire.specs.Spell.{none, more}
use Rattle.wire.proofs.Writing.Plain.{all_checked}
use Rattle.scopes.proofs.Written.{scope_checked}
use borrow.Author.Rules.{rules}
use Rattle.scopes.proofs.writing.check_scope.Goals as goal

pub check_all-requires : goal.check_all-requires
check_all-requires c =
    (omega (arith, c.demand-p0.ensures.near, c.demand-p1.ensures.near, (all_checked (more c.type_byte-kind.ensures none) c.check_all-p2.ensures).near, c.requires), search rules)

pub returns : goal.returns
returns c =
    scope_checked c.args.types.now c.args.reserved_type c.args.scope c.agrees.ensures c.demand-p0.ensures c.type_byte-kind.ensures c.id_byte-id.ensures c.fits_all.ensures c.demand-p1.ensures c.check_all-p2.ensures c.has_id.ensures c.check_all.ensures
