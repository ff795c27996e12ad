-- Writing into a column. Assumes nothing.
--   Written bs at was a now
--                   of writing the bytes bs at the place at of the column was, a is the answer and now the column after it: where they
--                   fit, the place after them, with the rest of the column as it was; and else none, with the whole column as it was
use Rattle.std.specs.Prelude.{◌≡◌, ℕ, ◌+◌, ◌<◌, ◌≤◌, List, ◌++◌, length, take, drop, Some, None, Option}

abbrev pub Written : List ℕ → ℕ → List ℕ → Option ℕ → List ℕ → Type 0
Written bs at was (Some n) now = (n ≡ at + length bs) × (n ≤ length was) × (now ≡ take at was ++ (bs ++ drop n was))
Written bs at was None now = (length was < at + length bs) × (now ≡ was)
