-- `writing::check_fields` meets its contract: the range, the bytes of the record, and the languages.
use mathlib.Core.Path.{sym, ◌∙◌}
use native.Mathlib.Omega.{arith}
use Rattle.wire.proofs.Handed.{handed}
use Rattle.wire.proofs.Writing.Passes.{then, more, passed, refused, stopped, here}
use Rattle.wire.proofs.Writing.Plain.{all_checked}
use Rattle.text_label.specs.Write.{text_label_acts}
use Rattle.text_label.proofs.Written.{languages_few, languages_there}
use Rattle.text_label.proofs.writing.check_fields.Goals as goal

pub returns-in_err-n : goal.returns-in_err-n
unfolding text_label_acts
returns-in_err-n c =
    rw (handed c.from_residual.result c.from_residual.ensures.1, ← c.in_err-n.was, sym c.has_rows.ensures ∙ c.if-has_rows.true)
    (passed _ 0 (passed _ 0 (passed _ 0 (more 728687 (then (all_checked c.head_bytes.ensures c.check_all.ensures) (stopped _ 0 c.in_err-n.was)) (omega arith)))))

pub check_languages-requires : goal.check_languages-requires
check_languages-requires c =
    let w = all_checked c.head_bytes.ensures c.check_all.ensures in
    let n = rw c.in_ok-n.was at w.near in
    (languages_there c.args.m.languages c.args.languages.now c.has_rows.ensures c.if-has_rows.true, languages_few c.args.m w c.in_ok-n.was, omega (arith, n))

pub returns-in_ok-n : goal.returns-in_ok-n
unfolding text_label_acts
returns-in_ok-n c =
    let w = all_checked c.head_bytes.ensures c.check_all.ensures in
    let k = languages_few c.args.m w c.in_ok-n.was in
    rw (sym c.has_rows.ensures ∙ c.if-has_rows.true)
    (passed _ 0 (passed _ 0 (passed _ 0 (more 728687 (then w (here c.in_ok-n.was c.check_languages.ensures)) (omega (arith, k))))))

pub returns-else-has_rows : goal.returns-else-has_rows
unfolding text_label_acts
returns-else-has_rows c =
    rw (sym c.has_rows.ensures ∙ c.if-has_rows.false) (refused _ 0 _ _)
