-- `parsing::fill` meets its contract: the languages of the body that was measured.
use Rattle.text_label.proofs.Sighted.{languages_ask, languages_room, languages_filled}
use Rattle.text_label.proofs.parsing.fill.Goals as goal

pub nest_rows-requires : goal.nest_rows-requires
nest_rows-requires c = search (languages_ask, languages_room)

pub returns : goal.returns
returns c = search languages_filled
