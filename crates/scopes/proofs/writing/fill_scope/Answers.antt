-- `scopes::writing::fill_scope` meets its contract: the type byte, then the ID byte where it has one.
use Rattle.scopes.proofs.Written.{type_ready, id_ready, scope_filled}
use Rattle.scopes.proofs.writing.fill_scope.Goals as goal

pub fill_all-m-requires : goal.fill_all-m-requires
fill_all-m-requires c = search type_ready

pub fill_all-requires : goal.fill_all-requires
fill_all-requires c = search id_ready

pub returns : goal.returns
returns c = search scope_filled
