-- The hourly sheet: a column of figures, one for each hour, seat, zone and product. Assumes nothing.
--   row_of P Z s w   the place in the column of seat s at the place w, in the order hour, seat, zone, product
--   reading n        what a number of the column says: kW, or a blank where it is above the limit or there is none
--   hourly_table P Z ns
--                    what an hourly sheet of P seats and Z zones over the column ns means
use Rattle.std.specs.Prelude.{◌≡◌, ℕ, ◌+◌, ◌*◌, cond, List, [], ◌∷◌, Some, None, Option, nat_lt, refl}
use Rattle.std.specs.List.{slice_get}
use Rattle.figures.specs.Limits.{products}
use Rattle.sheet.specs.Limits.{max_award}
use Rattle.sheet.specs.declared.places.Place.{Place}
use Rattle.sheet.specs.Tables.{Table, at, framed}

abbrev pub row_of : ℕ → ℕ → ℕ → Place → ℕ
row_of P Z s w = ((w.hour.0 * P + s) * Z + w.zone.0) * products + w.product.0

abbrev pub reading : Option ℕ → Option ℕ
reading None = None
reading (Some n) = cond (nat_lt max_award n) None (Some n)

abbrev pub hourly_table : ℕ → ℕ → List ℕ → Table
hourly_table P Z ns = framed P Z (λ s w. reading (slice_get ns (row_of P Z s w)))

-- two seats, one zone, hour 0 whole and hour 1 broken off after seat 0's product 0
abbrev example : List ℕ
example = 10 ∷ 11 ∷ 20 ∷ 1000001 ∷ 1000000 ∷ []

product_fastest : (hourly_table 2 1 example).cell 0 (at 0 1 0) ≡ Some 11
product_fastest = refl

then_seat : (hourly_table 2 1 example).cell 1 (at 0 0 0) ≡ Some 20
then_seat = refl

above_limit : (hourly_table 2 1 example).cell 1 (at 0 1 0) ≡ None
above_limit = refl

at_limit : (hourly_table 2 1 example).cell 0 (at 0 0 1) ≡ Some 1000000
at_limit = refl

-- one hour of two seats and two zones: a seat's zones come before the next seat
then_zone : (hourly_table 2 2 (1 ∷ 2 ∷ 3 ∷ 4 ∷ 5 ∷ [])).cell 0 (at 1 0 0) ≡ Some 3
then_zone = refl

next_seat : (hourly_table 2 2 (1 ∷ 2 ∷ 3 ∷ 4 ∷ 5 ∷ [])).cell 1 (at 0 0 0) ≡ Some 5
next_seat = refl

past_the_end : (hourly_table 2 1 example).cell 0 (at 0 1 1) ≡ None
past_the_end = refl
