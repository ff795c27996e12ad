-- The marked figures: worked figures that anyone can check by hand, proved together. Assumes nothing.
use Rattle.std.specs.Prelude.{◌≡◌, ℕ, List, [], ◌∷◌, pos, neg_ℤ, Some, None}
use Rattle.figures.specs.Prices.{net_of, credit_of, penalty_of}
use Rattle.figures.specs.declared.prices.TermFigures.{TermFigures}
use Rattle.division.specs.Rules.{signed_shares}
use Rattle.division.specs.Cut.{cut_of}
use Rattle.division.specs.Remainder.{remainder_of}
use Rattle.sheet.specs.Hourly.{reading}

-- 320 hours, clearing prices 900,000 and 300,000, capacity price 300,000, penalty factor 1.50
abbrev pub terms : TermFigures
terms = record { hours = 320; tmnsr = record { 0 = 900000 }; tmor = record { 0 = 300000 }; capacity = record { 0 = 300000 }; factor = record { 0 = 150 } }

abbrev pub two_loads : List ℕ
two_loads = 100 ∷ 150 ∷ []

pub record MarkedFigures : Type 0 where
  pub net : net_of terms 0 ≡ 600000
  -- 7,500 kW
  pub credit : credit_of terms 0 7500 ≡ 14063
  -- 500 kW failed
  pub penalty : penalty_of terms 0 500 ≡ 1406
  -- the clearing price of product 1 equals the capacity price
  pub no_credit : credit_of terms 1 7500 ≡ 0
  pub cut : cut_of 12657 two_loads ≡ 5062 ∷ 7595 ∷ []
  pub remainder : remainder_of 12657 two_loads ≡ 5063 ∷ 7594 ∷ []
  pub negative_cut : signed_shares cut_of (neg_ℤ (pos 12657)) two_loads ≡ neg_ℤ (pos 5062) ∷ neg_ℤ (pos 7595) ∷ []
  pub one_cut : cut_of 1 (1 ∷ 1 ∷ []) ≡ 0 ∷ 1 ∷ []
  pub one_remainder : remainder_of 1 (1 ∷ 1 ∷ []) ≡ 1 ∷ 0 ∷ []
  -- a number of an hourly column, at the limit and one above it
  pub filled : reading (Some 1000000) ≡ Some 1000000
  pub blank : reading (Some 1000001) ≡ None
