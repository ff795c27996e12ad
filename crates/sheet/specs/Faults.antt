-- Why a sheet denies, and under which ground. Assumes nothing.
--   ground_of e        number, layer and place of a fault
--   missized P Z       P seats or Z zones are beyond their limits
--   size_grounds P Z   the grounds on which a sheet of P seats and Z zones is denied
use Rattle.std.specs.Prelude.{◌≡◌, ℕ, Bool, true, false, ◌||◌, List, [], ◌∷◌, ◌==◌, nat_lt, refl}
use Rattle.figures.specs.Limits.{max_seats, max_zones}
use Rattle.figures.specs.declared.grounds.Ground.{Ground}
use Rattle.figures.specs.declared.grounds.Layer.TheVariants.{Sheet}
use Rattle.sheet.specs.declared.faults.SheetFault.{SheetFault}
use Rattle.sheet.specs.declared.faults.SheetFault.TheVariants.{Size, NoCell, Figure, Awarded}

abbrev pub ground_of : SheetFault → Ground
ground_of Size = record { number = 5; layer = Sheet; place = 0 }
ground_of NoCell = record { number = 6; layer = Sheet; place = 0 }
ground_of Figure = record { number = 7; layer = Sheet; place = 0 }
ground_of Awarded = record { number = 8; layer = Sheet; place = 0 }

abbrev pub missized : ℕ → ℕ → Bool
missized P Z = P == 0 || (nat_lt max_seats P || (Z == 0 || nat_lt max_zones Z))

abbrev pub size_grounds : ℕ → ℕ → List (Bool × SheetFault)
size_grounds P Z = (missized P Z, Size) ∷ []

largest : missized 16 4 ≡ false
largest = refl

no_seat : missized 0 1 ≡ true
no_seat = refl

seats_beyond : missized 17 1 ≡ true
seats_beyond = refl

no_zone : missized 1 0 ≡ true
no_zone = refl

zones_beyond : missized 1 5 ≡ true
zones_beyond = refl
