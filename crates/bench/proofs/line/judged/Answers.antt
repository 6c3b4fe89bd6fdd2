-- A body that is too long, or one of each kind.
use Rattle.std.proofs.Common.{rules, ◌∙◌}
use Rattle.base.specs.Kind as Base
use Rattle.scene_kind.specs.Kind as Scene
use Rattle.text_label.specs.Kind as TextLabel
use Rattle.multi_stream.specs.Kind as MultiStream
use Rattle.drc_kind.specs.Kind as DrcLoudness
use Rattle.bench.specs.Line.{kind_line}
use Rattle.bench.proofs.Decided.{within, judged_within, all_too_long}
use Rattle.bench.proofs.line.judged.Goals as goal

pub returns-then-body-gt4096 : goal.returns-then-body-gt4096
returns-then-body-gt4096 c = all_too_long c.args.kind c.args.body.now c.if-body-gt4096.true

pub returns-in-Base : goal.returns-in-Base
unfolding kind_line
returns-in-Base c = rw c.in-Base.is (c.base_line.ensures ∙ within Base.kind c.args.body.now c.if-body-gt4096.false)

pub returns-in-Scene : goal.returns-in-Scene
unfolding kind_line
returns-in-Scene c = rw c.in-Scene.is (c.scene_line.ensures ∙ within Scene.kind c.args.body.now c.if-body-gt4096.false)

pub returns-in-TextLabel : goal.returns-in-TextLabel
unfolding kind_line
returns-in-TextLabel c = rw c.in-TextLabel.is (c.text_label_line.ensures ∙ within TextLabel.kind c.args.body.now c.if-body-gt4096.false)

pub returns-in-MultiStream : goal.returns-in-MultiStream
unfolding kind_line
returns-in-MultiStream c = rw c.in-MultiStream.is (c.multi_stream_line.ensures ∙ within MultiStream.kind c.args.body.now c.if-body-gt4096.false)

pub returns-in-DrcLoudness : goal.returns-in-DrcLoudness
unfolding kind_line
returns-in-DrcLoudness c = rw c.in-DrcLoudness.is (judged_within DrcLoudness.kind c.args.body.now c.if-body-gt4096.false (search rules))
