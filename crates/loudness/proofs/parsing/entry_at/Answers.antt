-- `parsing::entry_at` meets its contract: the scope, the length behind it, and where the bytes stand.
use native.Mathlib.Omega.{arith}
use Rattle.loudness.proofs.Taken.{ids_so, entry_there, entry_taken}
use borrow.Author.Rules.{rules}
use Rattle.loudness.proofs.parsing.entry_at.Goals as goal

pub scope_at-typed-requires : goal.scope_at-typed-requires
scope_at-typed-requires c =
    let w = entry_there _ _ c.requires.0 c.requires.2 in rw c.id_types-types.ensures (omega (arith, w))

pub bounds-body-at : goal.bounds-body-at
bounds-body-at c =
    let w = entry_there _ _ c.requires.0 c.requires.2 in omega (arith, w)

pub bounds-body-size_at : goal.bounds-body-size_at
bounds-body-size_at c =
    let w = entry_there _ _ c.requires.0 c.requires.2 in
    let i = ids_so c.args.body.now c.args.at c.id_bytes.ensures.0 c.id_types-types.ensures c.part.ensures c.wide.ensures in
    omega (arith, w, i)

pub payload_at-requires : goal.payload_at-requires
payload_at-requires c =
    let w = entry_there c.args.body.now c.args.at c.requires.0 c.requires.2 in
    let i = ids_so c.args.body.now c.args.at c.id_bytes.ensures.0 c.id_types-types.ensures c.part.ensures c.wide.ensures in
    search (rules, w, i)

pub returns : goal.returns
returns c =
    let i = ids_so c.args.body.now c.args.at c.id_bytes.ensures.0 c.id_types-types.ensures c.part.ensures c.wide.ensures in
    search (entry_taken, i)
