-- The limit of a book. Assumes nothing.
--   max_trades   the most trades that a book holds
use Rattle.std.specs.Prelude.{ℕ}

abbrev pub max_trades : ℕ
max_trades = 32
