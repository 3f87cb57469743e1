use Rattle.safety.proofs.AmongStrangers.BookMoves as moves
use Rattle.safety.proofs.trust.book_moves_by_owners.Goals as goal

pub returns : goal.returns
returns c = λ scheme. moves.book_moves_by_owners scheme
