-- A table of positions: what a sheet means. Assumes nothing.
--   at z p h         the place of zone z, product p and hour h
--   Table            seats, zones, and a cell for each seat and place, which holds kW or is blank
--   on_sheet P Z s z p
--                    seat s, zone z and product p are among P seats, Z zones and the two products
--   within P Z s w   seat s and place w have a cell: the hour, too, is one of a month
--   framed P Z f     the table of P seats and Z zones that holds f within, and blanks outside
--   kilowatts a      the figure that an answer gives, or a blank
--   plus a b         two cells added up, blank where either is
--   added_up f n     the cells of seats 0 to n - 1 added up, blank where one is
--   filled a         the kW of a cell, 0 where it is blank
--   filled_up f n    the filled cells of seats 0 to n - 1 added up
--   total_at t w     the total of all seats at the place w
--   filled_at t w    the filled cells of all seats at the place w added up
--   Bounded t        1 to 16 seats, 1 to 4 zones, blanks outside, and at every place filled cells within the limit:
--                    what every lawful sheet's table keeps
use Rattle.std.specs.Prelude.{◌≡◌, ℕ, zero, suc, ◌+◌, ◌<◌, ◌≤◌, Bool, false, cond, ◌&&◌, Some, None, Option, nat_lt, refl}
use Rattle.figures.specs.Limits.{max_seats, max_zones, products, max_hours}
use Rattle.figures.specs.declared.units.Kw.{Kw}
use Rattle.sheet.specs.Limits.{max_kw}
use Rattle.sheet.specs.declared.places.Place.{Place}

abbrev pub at : ℕ → ℕ → ℕ → Place
at z p h = record { zone = record { 0 = z }; product = record { 0 = p }; hour = record { 0 = h } }

pub record Table : Type 0 where
  pub seats : ℕ
  pub zones : ℕ
  pub cell : ℕ → Place → Option ℕ

abbrev pub on_sheet : ℕ → ℕ → ℕ → ℕ → ℕ → Bool
on_sheet P Z s z p = nat_lt s P && (nat_lt z Z && nat_lt p products)

abbrev pub within : ℕ → ℕ → ℕ → Place → Bool
within P Z s w = on_sheet P Z s w.zone.0 w.product.0 && nat_lt w.hour.0 max_hours

abbrev pub framed : ℕ → ℕ → (ℕ → Place → Option ℕ) → Table
framed P Z f = record { seats = P; zones = Z; cell = λ s w. cond (within P Z s w) (f s w) None }

abbrev pub kilowatts : Option Kw → Option ℕ
kilowatts None = None
kilowatts (Some k) = Some k.0

abbrev pub plus : Option ℕ → Option ℕ → Option ℕ
plus None b = None
plus (Some x) None = None
plus (Some x) (Some y) = Some (x + y)

abbrev pub added_up : (ℕ → Option ℕ) → ℕ → Option ℕ
added_up f zero = Some 0
added_up f (suc n) = plus (added_up f n) (f n)

abbrev pub filled : Option ℕ → ℕ
filled None = 0
filled (Some x) = x

abbrev pub filled_up : (ℕ → Option ℕ) → ℕ → ℕ
filled_up f zero = 0
filled_up f (suc n) = filled_up f n + filled (f n)

abbrev pub total_at : Table → Place → Option ℕ
total_at t w = added_up (λ s. t.cell s w) t.seats

abbrev pub filled_at : Table → Place → ℕ
filled_at t w = filled_up (λ s. t.cell s w) t.seats

pub record Bounded (t : Table) : Type 0 where
  pub some_seats : 0 < t.seats
  pub few_seats : t.seats ≤ max_seats
  pub some_zones : 0 < t.zones
  pub few_zones : t.zones ≤ max_zones
  -- a question outside the table gets a blank
  pub outside : (s : ℕ) (w : Place) → within t.seats t.zones s w ≡ false → t.cell s w ≡ None
  -- the filled cells of a place stay within the limit
  pub small : (w : Place) → filled_at t w ≤ max_kw

-- two seats and one zone; seat 0 holds 7 and seat 1 holds 5, which is blank in hour 3
abbrev example : Table
example = framed 2 1 (λ s w. cond (nat_lt s 1) (Some 7) (cond (nat_lt w.hour.0 3) (Some 5) None))

sum : total_at example (at 0 1 2) ≡ Some 12
sum = refl

blank : total_at example (at 0 1 3) ≡ None
blank = refl

rest : filled_at example (at 0 1 3) ≡ 7
rest = refl

no_such_zone : example.cell 0 (at 1 1 2) ≡ None
no_such_zone = refl

last_hour : example.cell 0 (at 0 1 743) ≡ Some 7
last_hour = refl

past_hour : example.cell 0 (at 0 1 744) ≡ None
past_hour = refl
