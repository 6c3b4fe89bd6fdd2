-- `scopes::tallying::scope_zeros` meets its contract.
use mathlib.Core.Path.{sym}
use native.Mathlib.Omega.{arith}
use native.Mathlib.Nat.{add-zero}
use Rattle.scopes.proofs.Tallied.{told}
use borrow.Author.Rules.{rules}
use Rattle.scopes.proofs.tallying.scope_zeros.Goals as goal

pub returns-in-Plain : goal.returns-in-Plain
returns-in-Plain c = (search (told, sym (add-zero c.idle_bits-own.result)), omega arith)

pub returns-in-Group : goal.returns-in-Group
returns-in-Group c = search (rules, told)

pub returns-in-Preset : goal.returns-in-Preset
returns-in-Preset c = search (rules, told)

pub returns-in-Unknown : goal.returns-in-Unknown
returns-in-Unknown c = (search (told, sym (add-zero c.idle_bits-own.result)), omega arith)
