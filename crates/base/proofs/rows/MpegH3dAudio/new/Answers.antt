-- `MpegH3dAudio::new` meets its contract: six ones are 63, two are 3.
use Rattle.base.proofs.rows.MpegH3dAudio.new.Goals as goal

pub returns : goal.returns
returns c = rw (c.ones.ensures, c.ones-2.ensures)
