-- The bytes of a bare row, or of any.
use mathlib.Core.Path.{ap, sym, ◌∙◌}
use Rattle.instructions.specs.Rows.{instruction_of}
use Rattle.instruction_writing.proofs.Writes.{row_asked, row_stored, bare_type_ready, bare_settings_ready, bare_word_ready, bare_filled}
use Rattle.instruction_writing.proofs.writing.InstructionsRows.fill.Goals as goal

pub fill_all-n1-requires : goal.fill_all-n1-requires
fill_all-n1-requires c =
    let t = c.args.self.now in
    search (bare_type_ready, sym c.is_bare.ensures ∙ c.if-is_bare.true, row_asked t.instructions.now t.additional.now c.args.i (ap (instruction_of t.instructions.now) c.requires.3) c.requires.2)

pub fill_all-n2-requires : goal.fill_all-n2-requires
fill_all-n2-requires c =
    let t = c.args.self.now in
    search (bare_settings_ready, sym c.is_bare.ensures ∙ c.if-is_bare.true, row_asked t.instructions.now t.additional.now c.args.i (ap (instruction_of t.instructions.now) c.requires.3) c.requires.2)

pub fill_all-requires : goal.fill_all-requires
fill_all-requires c =
    let t = c.args.self.now in
    search (bare_word_ready, sym c.is_bare.ensures ∙ c.if-is_bare.true, row_asked t.instructions.now t.additional.now c.args.i (ap (instruction_of t.instructions.now) c.requires.3) c.requires.2)

pub returns-then-is_bare : goal.returns-then-is_bare
returns-then-is_bare c =
    let t = c.args.self.now in
    row_stored t.instructions.now t.additional.now c.args.i (ap (instruction_of t.instructions.now) c.requires.3)
    (bare_filled t.instructions.now c.args.b t.additional.now (sym c.is_bare.ensures ∙ c.if-is_bare.true)
    (row_asked t.instructions.now t.additional.now c.args.i (ap (instruction_of t.instructions.now) c.requires.3) c.requires.2)
    c.two.ensures c.fill_all-n1.ensures c.of_columns-d.ensures c.settings_bytes.ensures c.fill_all-n2.ensures c.effect_bytes.ensures c.fill_all.ensures)

pub fill_instruction-requires : goal.fill_instruction-requires
fill_instruction-requires c = let t = c.args.self.now in row_asked t.instructions.now t.additional.now c.args.i (rw c.requires.3 at c.of_columns-d-2.ensures) c.requires.2

pub returns : goal.returns
returns c = let t = c.args.self.now in row_stored t.instructions.now t.additional.now c.args.i (rw c.requires.3 at c.of_columns-d-2.ensures) c.fill_instruction.ensures
