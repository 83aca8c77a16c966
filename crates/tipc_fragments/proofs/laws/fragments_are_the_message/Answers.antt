use Rattle.tipc_fragments.proofs.CutLaws.{bytes-pieces_of, is_piece, length-pieces_of, piece_at}
use Rattle.tipc_fragments.proofs.laws.fragments_are_the_message.Goals as goal

pub returns-clause-bytes : goal.returns-clause-bytes
returns-clause-bytes c = bytes-pieces_of

pub returns-clause-count : goal.returns-clause-count
returns-clause-count c = length-pieces_of

pub returns-clause-each : goal.returns-clause-each
returns-clause-each c = λ message before within. (piece_at message before within, is_piece message before within)
