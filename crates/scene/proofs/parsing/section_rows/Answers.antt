-- The byte of a section, if it is there, and its rows behind it.
use Prim.Native.Nat.{◌*◌, ◌≤◌}
use native.Mathlib.Omega.{arith}
use native.Mathlib.Nat.{mul-le-mul_left}
use Rattle.wire.specs.Lists.{sum}
use Rattle.wire.proofs.Handed.{handed}
use Rattle.scene.proofs.Sections.{begins, section_cut_sum, section_sum}
use Rattle.scene.proofs.parsing.section_rows.Goals as goal

pub returns-in_err-n : goal.returns-in_err-n
returns-in_err-n g c =
    rw (handed c.from_residual.result c.from_residual.ensures.1) (section_cut_sum (g.R.Count.reads c.args.row.now) 3 5 7 _ _ _ (sum (g.R.Count.kids c.args.row.now)) c.size.ensures c.in_err-n.ensures)

pub count_at-requires : goal.count_at-requires
count_at-requires g c = ((begins _ _ _ c.requires.0 c.size.ensures c.in_ok-n.ensures).there_is, omega arith)

pub rows_kids-requires : goal.rows_kids-requires
rows_kids-requires g c =
    let l : g.R.Count.most * c.count_at.result ≤ g.R.Count.most * 31 = mul-le-mul_left g.R.Count.most (omega (arith, c.count_at.ensures.1)) in
    ((begins _ _ _ c.requires.0 c.size.ensures c.in_ok-n.ensures).inside, omega (arith, l, c.requires.1))

pub returns : goal.returns
returns g c =
    section_sum (g.R.Count.reads c.args.row.now) 3 5 7 _ _ _ (sum (g.R.Count.kids c.args.row.now)) (begins _ _ _ c.requires.0 c.size.ensures c.in_ok-n.ensures) c.count_at.ensures.0
    (mul-le-mul_left g.R.Count.most (omega (arith, c.count_at.ensures.1))) c.rows_kids.ensures
