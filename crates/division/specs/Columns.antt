-- The columns of a division as lists of plain numbers. Assumes nothing.
--   tenths loads   the figures of the loads
--   cents_of zs    a column of these figures in cents
--   amounts col    the figures of a column in cents
--   negated c      the opposite amount
use Rattle.std.specs.Prelude.{ℕ, List, map, ℤ, neg_ℤ}
use Rattle.figures.specs.declared.units.Cents.{Cents}
use Rattle.figures.specs.declared.units.Load.{Load}

abbrev pub tenths : List Load → List ℕ
tenths loads = map (λ (l : Load). l.0) loads

abbrev pub cents_of : List ℤ → List Cents
cents_of zs = map (λ z. record { 0 = z }) zs

abbrev pub amounts : List Cents → List ℤ
amounts col = map (λ (c : Cents). c.0) col

abbrev pub negated : Cents → Cents
negated c = record { 0 = neg_ℤ c.0 }
