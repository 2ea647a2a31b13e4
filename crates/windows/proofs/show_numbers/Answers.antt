use Rattle.windows.proofs.Lists.{numbers_pairs}
use Rattle.windows.proofs.show_numbers.Goals as goal

pub returns : goal.returns
returns c = rw (c.as_chunks.ensures.front, numbers_pairs) at c.show_listed.ensures
