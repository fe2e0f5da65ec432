-- Laws of parts of lists and of sums over them.
use Rattle.std.proofs.lemmas.List.{drop-take}
use Rattle.std.proofs.lemmas.List.Sums.{sum_by_more}

-- the front of a list cut off from its first part
pub ruleset parts = (drop-take)

pub ruleset sums = (sum_by_more)
