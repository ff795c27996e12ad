use Rattle.std.proofs.Common.{◌≡◌, ℕ, Bool, ◌+◌, ◌-◌}
use Rattle.book.specs.Deals.{first_hour, first_of_hours}
use Rattle.book.proofs.trades.Offer.first_hour.Given as goal

abbrev pub invariant-loop-hour : goal.invariant-loop-hour
invariant-loop-hour g l = (p : ℕ → Bool) → ((h : ℕ) (b : Bool) → goal.F-post g l.fn.test (record { 0 = h }) b → b ≡ p h) → first_hour p l.hour ((l.self.last.0 + 1) - l.hour) ≡ first_of_hours l.self p
