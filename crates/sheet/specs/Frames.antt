-- A framed table is bounded where its size is within limits and each of its cells is. Assumes nothing.
use Rattle.std.specs.Prelude.{◌≡◌, ℕ, ◌≤◌, Bool, true, false, cond, None, Option, refl}
use Rattle.std.proofs.Common.{ap, arith}
use Rattle.std.proofs.lemmas.Bool.Decides.{nat_tests}
use Rattle.figures.specs.Limits.{max_seats}
use Rattle.sheet.specs.Limits.{max_award}
use Rattle.sheet.specs.declared.places.Place.{Place}
use Rattle.sheet.specs.Tables.{Bounded, within, framed, filled}
use Rattle.sheet.specs.Faults.{missized}
use Rattle.sheet.specs.Sums.{filled-le}

kept-le : (b : Bool) (o : Option ℕ) (m : ℕ) → (b ≡ true → filled o ≤ m) → filled (cond b o None) ≤ m
kept-le true o m h = h refl
kept-le false o m h = omega arith

pub framed_bounded : (P Z : ℕ) (f : ℕ → Place → Option ℕ) → missized P Z ≡ false → ((s : ℕ) (w : Place) → within P Z s w ≡ true → filled (f s w) ≤ max_award) → Bounded (framed P Z f)
framed_bounded P Z f sized small =
    let few : P ≤ max_seats = grind (arith, nat_tests) in
    record {
      some_seats = grind (arith, nat_tests);
      few_seats = few;
      some_zones = grind (arith, nat_tests);
      few_zones = grind (arith, nat_tests);
      outside = λ s w e. ap (λ (b : Bool). cond b (f s w) None) e;
      small = λ w.
          let each = filled-le (λ s. (framed P Z f).cell s w) max_award (λ s. kept-le (within P Z s w) (f s w) max_award (small s w)) P in
          omega (arith, each, few);
    }
