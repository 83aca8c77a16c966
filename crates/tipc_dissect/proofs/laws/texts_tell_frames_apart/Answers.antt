use Rattle.tipc_dissect.proofs.Telling.{text_tells}
use Rattle.tipc_dissect.proofs.laws.texts_tell_frames_apart.Goals as goal

pub returns : goal.returns
returns c = text_tells
