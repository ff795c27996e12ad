-- What terms within their limits bound: hours, factor, net prices, and the products that credits and penalties are made of.
use Rattle.std.proofs.Common.{◌≡◌, ℕ, ◌*◌, ◌^◌, ◌<◌, ◌≤◌, false, arith}
use Rattle.std.proofs.lemmas.Nat.{mul-le}
use Rattle.std.proofs.lemmas.Bool.Decides.{nat_tests}
use Rattle.figures.specs.Limits.{max_hours, max_price, max_factor}
use Rattle.figures.specs.Prices.{beyond, price_of, net_of}
use Rattle.figures.specs.declared.prices.TermFigures.{TermFigures}

pub record Limits (f : TermFigures) : Type 0 where
  pub some : 0 < f.hours
  pub hours : f.hours ≤ max_hours
  pub tmnsr : f.tmnsr.0 ≤ max_price
  pub tmor : f.tmor.0 ≤ max_price
  pub capacity : f.capacity.0 ≤ max_price
  pub factor : f.factor.0 ≤ max_factor

pub limits : (f : TermFigures) → beyond f ≡ false → Limits f
limits f h = record {
  some = grind (arith, nat_tests);
  hours = grind (arith, nat_tests);
  tmnsr = grind (arith, nat_tests);
  tmor = grind (arith, nat_tests);
  capacity = grind (arith, nat_tests);
  factor = grind (arith, nat_tests);
}

module _ (f : TermFigures) (h : beyond f ≡ false) where
  price-le : (p : ℕ) → price_of f p ≤ max_price
  price-le p = let l = limits f h in grind (arith, nat_tests)

  pub net-le : (p : ℕ) → net_of f p ≤ max_price
  net-le p = let a = price-le p in omega arith

  pub penalty_below : (p k : ℕ) → k < 2 ^ 32 → k * net_of f p * f.factor.0 < 2 ^ 62
  penalty_below p k s =
      let m : k * net_of f p ≤ 8589934590000000 = mul-le k (net_of f p) 4294967295 max_price (omega arith) (net-le p) in
      let n : k * net_of f p * f.factor.0 ≤ 8589934590000000 * max_factor = mul-le (k * net_of f p) f.factor.0 8589934590000000 max_factor m (limits f h).factor in
      omega arith
