-- The limits of a sheet's figures. Assumes nothing.
--   max_award   the most kW of an award, or of a figure by the hour
--   max_kw      the most kW in one zone, product and hour, all seats together, and so of one trade there
use Rattle.std.specs.Prelude.{ℕ}

abbrev pub max_award : ℕ
max_award = 1000000

abbrev pub max_kw : ℕ
max_kw = 16000000
