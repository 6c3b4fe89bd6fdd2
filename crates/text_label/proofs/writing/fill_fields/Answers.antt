-- `writing::fill_fields` meets its contract: the bytes of the record, and the languages.
use mathlib.Core.List.{List, map, ◌++◌}
use mathlib.Core.Bool.{true}
use mathlib.Core.Path.{refl}
use native.Mathlib.Omega.{arith}
use Rattle.wire.specs.Act.{Act, byte, when, rows}
use Rattle.wire.proofs.Writing.Passes.{Filling, fill_start, fill_demand, fill_last, demanded}
use Rattle.wire.proofs.Writing.Plain.{ready_part, fill_part_lem}
use Rattle.text_label.specs.Write.{row_acts, head_fields, text_label_acts}
use Rattle.text_label.proofs.Written.{languages_there}
use Rattle.text_label.proofs.writing.fill_fields.Goals as goal

pub fill_all-n-requires : goal.fill_all-n-requires
unfolding text_label_acts
fill_all-n-requires c =
    let all : List Act = text_label_acts c.args.m c.args.languages.now c.args.entries.now c.args.store.now in
    let in_languages : List Act = rows (row_acts c.args.languages.now c.args.entries.now c.args.store.now) 0 c.args.m.languages in
    let begin : Filling all (when true (map byte (head_fields c.args.m)) ++ in_languages) 0 c.args.out.now 0 c.args.out.now = fill_demand (fill_demand (fill_demand (fill_start c.requires))) in
    ready_part _ c.head_bytes.ensures begin

pub fill_languages-requires : goal.fill_languages-requires
unfolding text_label_acts
fill_languages-requires c =
    let all : List Act = text_label_acts c.args.m c.args.languages.now c.args.entries.now c.args.store.now in
    let in_languages : List Act = rows (row_acts c.args.languages.now c.args.entries.now c.args.store.now) 0 c.args.m.languages in
    let begin : Filling all (when true (map byte (head_fields c.args.m)) ++ in_languages) 0 c.args.out.now 0 c.args.out.now = fill_demand (fill_demand (fill_demand (fill_start c.requires))) in
    let behind : Filling all in_languages 0 c.args.out.now c.fill_all-n.result c.fill_all-n.new.out = fill_part_lem _ c.head_bytes.ensures begin c.fill_all-n.ensures in
    (languages_there c.args.m.languages c.args.languages.now refl (demanded c.requires), omega (arith, c.well_formed), behind.ready)

pub returns : goal.returns
unfolding text_label_acts
returns c =
    let all : List Act = text_label_acts c.args.m c.args.languages.now c.args.entries.now c.args.store.now in
    let in_languages : List Act = rows (row_acts c.args.languages.now c.args.entries.now c.args.store.now) 0 c.args.m.languages in
    let begin : Filling all (when true (map byte (head_fields c.args.m)) ++ in_languages) 0 c.args.out.now 0 c.args.out.now = fill_demand (fill_demand (fill_demand (fill_start c.requires))) in
    let behind : Filling all in_languages 0 c.args.out.now c.fill_all-n.result c.fill_all-n.new.out = fill_part_lem _ c.head_bytes.ensures begin c.fill_all-n.ensures in
    fill_last behind c.fill_languages.ensures
