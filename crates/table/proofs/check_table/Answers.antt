use borrow.Author.Rules.{rules}
use Rattle.table.proofs.Check.{pairs_part, check_whole}
use Rattle.table.proofs.check_table.Goals as goal

pub slice_bounds-check_words-end : goal.slice_bounds-check_words-end
slice_bounds-check_words-end c = search (pairs_part, rules)

pub check_words-pairs-requires : goal.check_words-pairs-requires
check_words-pairs-requires c = search pairs_part

pub returns : goal.returns
returns c = search check_whole
