-- The limits of a month's size and terms. Assumes nothing.
--   max_seats    the most seats
--   max_zones    the most zones
--   products     how many products there are
--   max_hours    the most delivery hours
--   max_price    the highest price, in cents for a MW and month
--   max_factor   the highest penalty factor, in hundredths
use Rattle.std.specs.Prelude.{ℕ}

abbrev pub max_seats : ℕ
max_seats = 16

abbrev pub max_zones : ℕ
max_zones = 4

abbrev pub products : ℕ
products = 2

abbrev pub max_hours : ℕ
max_hours = 744

abbrev pub max_price : ℕ
max_price = 2000000

abbrev pub max_factor : ℕ
max_factor = 500
