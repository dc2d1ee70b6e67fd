use Rattle.octets.proofs.Laws.{number_back, bytes_back}
use Rattle.octets.proofs.numbers.reading_reverses_writing.Goals as goal

pub returns : goal.returns
returns c = (number_back, bytes_back)
