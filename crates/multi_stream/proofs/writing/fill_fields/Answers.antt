-- `multi_stream::writing::fill_fields` meets its contract: the byte of the record, and the main part.
use mathlib.Core.List.{List, map, ◌++◌}
use mathlib.Core.Bool.{true}
use Rattle.wire.specs.Act.{Act, byte, when}
use Rattle.wire.proofs.Writing.Passes.{Filling, fill_start, fill_demand, fill_last, demanded}
use Rattle.wire.proofs.Writing.Plain.{ready_part, fill_part_lem}
use Rattle.multi_stream.specs.Write.{head_fields, main_acts, multi_stream_acts}
use Rattle.multi_stream.proofs.writing.fill_fields.Goals as goal

pub fill_all-n-requires : goal.fill_all-n-requires
unfolding multi_stream_acts
fill_all-n-requires c =
    let all : List Act = multi_stream_acts c.args.m c.args.groups.now in
    let in-main : List Act = main_acts c.args.m.main c.args.groups.now in
    let begin : Filling all (when true (map byte (head_fields c.args.m)) ++ in-main) 0 c.args.out.now 0 c.args.out.now = fill_demand (fill_demand (fill_demand (fill_start c.requires))) in
    ready_part _ c.head_bytes.ensures begin

pub fill_main-requires : goal.fill_main-requires
unfolding multi_stream_acts
fill_main-requires c =
    let all : List Act = multi_stream_acts c.args.m c.args.groups.now in
    let in-main : List Act = main_acts c.args.m.main c.args.groups.now in
    let begin : Filling all (when true (map byte (head_fields c.args.m)) ++ in-main) 0 c.args.out.now 0 c.args.out.now = fill_demand (fill_demand (fill_demand (fill_start c.requires))) in
    let behind : Filling all in-main 0 c.args.out.now c.fill_all-n.result c.fill_all-n.new.out = fill_part_lem _ c.head_bytes.ensures begin c.fill_all-n.ensures in
    (demanded c.requires, behind.ready)

pub returns : goal.returns
unfolding multi_stream_acts
returns c =
    let all : List Act = multi_stream_acts c.args.m c.args.groups.now in
    let in-main : List Act = main_acts c.args.m.main c.args.groups.now in
    let begin : Filling all (when true (map byte (head_fields c.args.m)) ++ in-main) 0 c.args.out.now 0 c.args.out.now = fill_demand (fill_demand (fill_demand (fill_start c.requires))) in
    let behind : Filling all in-main 0 c.args.out.now c.fill_all-n.result c.fill_all-n.new.out = fill_part_lem _ c.head_bytes.ensures begin c.fill_all-n.ensures in
    fill_last behind c.fill_main.ensures
