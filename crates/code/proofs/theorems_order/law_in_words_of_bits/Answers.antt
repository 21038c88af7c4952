use Rattle.code.proofs.Moves.{law_as_tested}
use Rattle.code.proofs.theorems_order.law_in_words_of_bits.Goals as goal

pub returns : goal.returns
returns c = law_as_tested
