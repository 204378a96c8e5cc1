-- `marks::with_bit` meets its contract.
use Rattle.marks.proofs.with_bit.Goals as goal

pub returns : goal.returns
returns c = rw (← c.single_word-bit.ensures) c.word_join.ensures
