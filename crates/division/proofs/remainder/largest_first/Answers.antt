use Rattle.division.specs.Remaining.{largest_first_lem}
use Rattle.division.proofs.remainder.largest_first.Goals as goal

pub returns : goal.returns
returns c = largest_first_lem
