-- What a sheet reads of its column: an award lies in it, and an hourly figure is within its limit. Assumes nothing.
use Rattle.std.specs.Prelude.{◌≡◌, ℕ, ◌<◌, ◌≤◌, true, false, Some, None, Option, nat_lt}
use Rattle.std.proofs.Common.{arith}
use Rattle.std.proofs.lemmas.Bool.{cond_both, ltb-false}
use Rattle.std.proofs.lemmas.Bool.Decides.{nat_tests}
use Rattle.sheet.specs.Limits.{max_award}
use Rattle.sheet.specs.declared.places.Place.{Place}
use Rattle.sheet.specs.Tables.{within, filled}
use Rattle.sheet.specs.Faults.{missized}
use Rattle.sheet.specs.Awards.{spot_of}
use Rattle.sheet.specs.Hourly.{reading}

pub spot_below : (P Z s : ℕ) (w : Place) → missized P Z ≡ false → within P Z s w ≡ true → spot_of s w.zone.0 w.product.0 < 128
spot_below P Z s w sized inside = grind (arith, nat_tests)

pub reading-le : (o : Option ℕ) → filled (reading o) ≤ max_award
reading-le None = omega arith
reading-le (Some n) = cond_both (nat_lt max_award n) None (Some n) (λ x. filled x ≤ max_award) (λ e. omega arith) (λ e. ltb-false max_award n e)
