-- `parsing::letters_at` meets its contract: three bytes, each whole.
use Rattle.text_label.proofs.Parsed.{letters_are}
use Rattle.text_label.proofs.parsing.letters_at.Goals as goal

pub returns : goal.returns
returns c = search letters_are
