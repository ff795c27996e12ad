use Rattle.std.proofs.Common.{◌≡◌, ◌++◌, map, take, drop}
use Rattle.division.specs.Columns.{negated}
use Rattle.division.proofs.signed.negate.Given as goal

abbrev pub invariant-loop-share : goal.invariant-loop-share
invariant-loop-share l = l.out ≡ map negated (take l.share-index l.initial.out) ++ drop l.share-index l.initial.out
