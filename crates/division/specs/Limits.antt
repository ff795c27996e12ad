-- The limits of a division. Assumes nothing.
--   max_total   the largest total, in cents
--   max_load    the largest load of a seat, in tenths of a MWh
use Rattle.std.specs.Prelude.{ℕ}

abbrev pub max_total : ℕ
max_total = 1500000000000

abbrev pub max_load : ℕ
max_load = 300000
