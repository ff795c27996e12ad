-- The award sheet: one figure for each seat, zone and product, good for every hour. Assumes nothing.
--   Awards          the column that an award sheet keeps
--   spot_of s z p   the place in it of seat s, zone z and product p
--   award_at xs s z p
--                   the award of that seat, zone and product, if there is one
--   held_at xs s z p
--                   its kW, 0 where there is none
--   award_table P Z xs
--                   what an award sheet of P seats and Z zones means
--   award_grounds P Z xs s z p k
--                   the grounds on which an award of k kW is denied
--   Entered was s z p k now
--                   k kW were awarded to that seat, zone and product, and the award of every other is as it was
--   Granted was s z p k now
--                   the same of the tables: k kW in every hour there, and every other cell as it was
use Rattle.std.specs.Prelude.{◌≡◌, ℕ, ◌+◌, ◌*◌, ◌<◌, Bool, not, List, [], ◌∷◌, replicate, is_some, Some, None, Option, ◌≢◌, nat_lt, slice_index_or, refl}
use Rattle.figures.specs.Limits.{max_zones, products, max_hours}
use Rattle.figures.specs.declared.units.Kw.{Kw}
use Rattle.sheet.specs.Limits.{max_award}
use Rattle.sheet.specs.Tables.{Table, at, framed, on_sheet, kilowatts, filled}
use Rattle.sheet.specs.declared.places.Place.{Place}
use Rattle.sheet.specs.declared.faults.SheetFault.{SheetFault}
use Rattle.sheet.specs.declared.faults.SheetFault.TheVariants.{NoCell, Figure, Awarded}

abbrev pub Awards : Type 0
Awards = List (Option Kw)

abbrev pub spot_of : ℕ → ℕ → ℕ → ℕ
spot_of s z p = s * 8 + z * 2 + p

abbrev pub award_at : Awards → ℕ → ℕ → ℕ → Option Kw
award_at xs s z p = slice_index_or xs (spot_of s z p) None

abbrev pub held_at : Awards → ℕ → ℕ → ℕ → ℕ
held_at xs s z p = filled (kilowatts (award_at xs s z p))

abbrev pub award_table : ℕ → ℕ → Awards → Table
award_table P Z xs = framed P Z (λ s w. Some (held_at xs s w.zone.0 w.product.0))

abbrev pub award_grounds : ℕ → ℕ → Awards → ℕ → ℕ → ℕ → ℕ → List (Bool × SheetFault)
award_grounds P Z xs s z p k =
    (not (on_sheet P Z s z p), NoCell)
    ∷ (nat_lt max_award k, Figure)
    ∷ (is_some (award_at xs s z p), Awarded)
    ∷ []

pub record Entered (was : Awards) (s z p : ℕ) (k : Kw) (now : Awards) : Type 0 where
  pub here : award_at now s z p ≡ Some k
  pub elsewhere : (s' z' p' : ℕ) → z' < max_zones → p' < products → (s' ≡ s → z' ≡ z → p' ≢ p) → award_at now s' z' p' ≡ award_at was s' z' p'

pub record Granted (was : Table) (s z p k : ℕ) (now : Table) : Type 0 where
  pub seats : now.seats ≡ was.seats
  pub zones : now.zones ≡ was.zones
  pub here : (h : ℕ) → h < max_hours → now.cell s (at z p h) ≡ Some k
  pub elsewhere : (s' : ℕ) (w : Place) → (s' ≡ s → w.zone.0 ≡ z → w.product.0 ≢ p) → now.cell s' w ≡ was.cell s' w

-- two seats and one zone; seat 0 was awarded 10,000 kW of product 0
abbrev example : Awards
example = Some (record { 0 = 10000 }) ∷ replicate 127 None

awarded : (award_table 2 1 example).cell 0 (at 0 0 743) ≡ Some 10000
awarded = refl

never_awarded : (award_table 2 1 example).cell 1 (at 0 0 5) ≡ Some 0
never_awarded = refl
