-- `base::writing::fill_fields` meets its contract: the three bytes, and the sets.
use mathlib.Core.List.{List, ◌++◌, map}
use mathlib.Core.Bool.{true}
use Rattle.wire.specs.Act.{Act, byte, when}
use Rattle.wire.proofs.Writing.Passes.{Filling, fill_start, fill_demand, fill_last, demanded}
use Rattle.wire.proofs.Writing.Plain.{ready_part, fill_part_lem}
use Rattle.base.specs.Write.{head_fields, listed, sets_acts, base_acts}
use Rattle.base.proofs.writing.fill_fields.Goals as goal

pub fill_all-n-requires : goal.fill_all-n-requires
unfolding base_acts
fill_all-n-requires c =
    let all : List Act = base_acts c.args.m c.args.store.now in
    let in-sets : List Act = sets_acts c.args.m.compatible_sets (listed c.args.m.compatible_sets c.args.store.now) in
    let begin : Filling all (when true (map byte (head_fields c.args.m)) ++ in-sets) 0 c.args.out.now 0 c.args.out.now = fill_demand (fill_demand (fill_demand (fill_start c.requires))) in
    ready_part _ c.head_bytes.ensures begin

pub fill_sets-requires : goal.fill_sets-requires
unfolding base_acts
fill_sets-requires c =
    let all : List Act = base_acts c.args.m c.args.store.now in
    let in-sets : List Act = sets_acts c.args.m.compatible_sets (listed c.args.m.compatible_sets c.args.store.now) in
    let begin : Filling all (when true (map byte (head_fields c.args.m)) ++ in-sets) 0 c.args.out.now 0 c.args.out.now = fill_demand (fill_demand (fill_demand (fill_start c.requires))) in
    let behind : Filling all in-sets 0 c.args.out.now c.fill_all-n.result c.fill_all-n.new.out = fill_part_lem _ c.head_bytes.ensures begin c.fill_all-n.ensures in
    (demanded c.requires, behind.ready)

pub returns : goal.returns
unfolding base_acts
returns c =
    let all : List Act = base_acts c.args.m c.args.store.now in
    let in-sets : List Act = sets_acts c.args.m.compatible_sets (listed c.args.m.compatible_sets c.args.store.now) in
    let begin : Filling all (when true (map byte (head_fields c.args.m)) ++ in-sets) 0 c.args.out.now 0 c.args.out.now = fill_demand (fill_demand (fill_demand (fill_start c.requires))) in
    let behind : Filling all in-sets 0 c.args.out.now c.fill_all-n.result c.fill_all-n.new.out = fill_part_lem _ c.head_bytes.ensures begin c.fill_all-n.ensures in
    fill_last behind c.fill_sets.ensures
