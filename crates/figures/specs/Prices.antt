-- The terms of a month, and what a kilowatt earns or costs under them. Assumes nothing.
--   beyond f           a term lies beyond its limit; a month has at least one hour
--   term_grounds f     the grounds on which terms are denied
--   ground_of e        number, layer and place of a fault in the terms
--   price_of f p       the clearing price of product p
--   net_of f p         the net price of product p, in cents for a MW and month
--   credit_of f p k    the credit in cents for k kW of product p in one hour
--   penalty_of f p k   the penalty in cents for k failed kW of product p in one hour
use Rattle.std.specs.Prelude.{◌≡◌, ℕ, ◌-◌, ◌*◌, Bool, false, cond, ◌||◌, List, [], ◌∷◌, ◌==◌, nat_lt, refl}
use Rattle.figures.specs.Limits.{max_hours, max_price, max_factor}
use Rattle.figures.specs.Rounding.{rounded}
use Rattle.figures.specs.declared.grounds.Ground.{Ground}
use Rattle.figures.specs.declared.grounds.Layer.TheVariants.{Month}
use Rattle.figures.specs.declared.prices.TermFigures.{TermFigures}
use Rattle.figures.specs.declared.prices.TermsFault.{TermsFault}
use Rattle.figures.specs.declared.prices.TermsFault.TheVariants.{Beyond}

abbrev pub beyond : TermFigures → Bool
beyond f = f.hours == 0 || (nat_lt max_hours f.hours || (nat_lt max_price f.tmnsr.0 || (nat_lt max_price f.tmor.0 || (nat_lt max_price f.capacity.0 || nat_lt max_factor f.factor.0))))

abbrev pub term_grounds : TermFigures → List (Bool × TermsFault)
term_grounds f = (beyond f, Beyond) ∷ []

abbrev pub ground_of : TermsFault → Ground
ground_of Beyond = record { number = 5; layer = Month; place = 0 }

-- a product that is neither 0 nor 1 has no price
abbrev pub price_of : TermFigures → ℕ → ℕ
price_of f p = cond (p == 0) f.tmnsr.0 (cond (p == 1) f.tmor.0 0)

-- the clearing price less the capacity price; this `-` stops at 0, as a net price does
abbrev pub net_of : TermFigures → ℕ → ℕ
net_of f p = price_of f p - f.capacity.0

abbrev pub credit_of : TermFigures → ℕ → ℕ → ℕ
credit_of f p k = rounded (k * net_of f p) (1000 * f.hours)

abbrev pub penalty_of : TermFigures → ℕ → ℕ → ℕ
penalty_of f p k = rounded (k * net_of f p * f.factor.0) (100000 * f.hours)

-- one hour, clearing prices 3,000 and 1,000, capacity price 2,000, penalty factor 2.50
abbrev example : TermFigures
example = record { hours = 1; tmnsr = record { 0 = 3000 }; tmor = record { 0 = 1000 }; capacity = record { 0 = 2000 }; factor = record { 0 = 250 } }

within : beyond example ≡ false
within = refl

net : net_of example 0 ≡ 1000
net = refl

never_below : net_of example 1 ≡ 0
never_below = refl

-- a cent a kW, and two and a half
credit : credit_of example 0 7 ≡ 7
credit = refl

penalty : penalty_of example 0 7 ≡ 18
penalty = refl
