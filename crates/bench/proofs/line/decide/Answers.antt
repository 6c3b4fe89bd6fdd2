-- An empty input, a kind and its body, or a number that names none.
use Rattle.std.proofs.Common.{[], ◌∷◌, ap, sym, ◌∙◌}
use Rattle.frame.specs.Numbers.{numbered}
use Rattle.bench.specs.Line.{kind_line, refused_line}
use Rattle.bench.proofs.Decided.{nothing, parted, is_other}
use Rattle.bench.proofs.line.decide.Goals as goal

pub returns-in_default : goal.returns-in_default
returns-in_default c = c.refused.ensures ∙ sym (nothing c.args.input.now c.in_default.ensures.cases)

pub returns-in-Ok-judged : goal.returns-in-Ok-judged
returns-in-Ok-judged c = c.in-Ok-judged.ensures ∙ sym (parted c.in-Some.ensures.cases.0 ∙ ap (λ k. kind_line k c.in-Some.body.now) c.in-Ok.ensures)

pub returns-in-Err-judged : goal.returns-in-Err-judged
returns-in-Err-judged c = c.from.ensures ∙ c.in-Err-judged.ensures ∙ sym (parted c.in-Some.ensures.cases.0 ∙ ap (λ k. kind_line k c.in-Some.body.now) c.in-Ok.ensures)

pub returns-in-Err : goal.returns-in-Err
returns-in-Err c =
    c.refused-in-Err.ensures ∙ ap (λ k. refused_line (numbered 11 (k ∷ []))) c.in-Err.ensures.0 ∙ sym (parted c.in-Some.ensures.cases.0 ∙ is_other c.in-Some.number.now c.in-Some.body.now c.in-Err.ensures.1)
