use Rattle.std.proofs.Common.{◌≡◌, ℕ, ◌<◌, ◌≤◌, length, get_or, pos}
use Rattle.division.specs.Columns.{tenths}
use Rattle.division.specs.Remainder.{floor_at, remainder_at}
use Rattle.division.proofs.Figures.{nothing}
use Rattle.division.proofs.remainder.LargestRemainderDivisionRule.share_out.Given as goal

abbrev pub invariant-loop-s : goal.invariant-loop-s
invariant-loop-s l =
    (length l.share-items ≡ length l.division.loads.now)
    × ((k : ℕ) → k < l.s → get_or l.share-items k nothing ≡ record { 0 = pos (remainder_at l.division.total (tenths l.division.loads.now) k) })
    × ((k : ℕ) → l.s ≤ k → k < length l.division.loads.now → get_or l.share-items k nothing ≡ record { 0 = pos (floor_at l.division.total (tenths l.division.loads.now) k) })
