use Rattle.std.proofs.Common.{◌≡◌, ℕ, ◌+◌, map, length, take, pos}
use Rattle.std.specs.List.{range_with_len}
use Rattle.figures.specs.Limits.{max_seats}
use Rattle.figures.specs.SeatSums.{sum_to}
use Rattle.division.specs.Columns.{tenths}
use Rattle.division.specs.Remainder.{floor_at, rest_at}
use Rattle.division.proofs.rules.Division.round_down.Given as goal

abbrev pub invariant-loop-s : goal.invariant-loop-s
invariant-loop-s l =
    (length l.shares ≡ max_seats)
    × (length l.rests ≡ max_seats)
    × (l.left + sum_to (floor_at l.self.total (tenths l.self.loads.now)) l.s ≡ l.self.total)
    × (take l.s l.shares ≡ map (λ (k : ℕ). record { 0 = pos (floor_at l.self.total (tenths l.self.loads.now) k) }) (range_with_len 0 l.s))
    × (take l.s l.rests ≡ map (rest_at l.self.total (tenths l.self.loads.now)) (range_with_len 0 l.s))
