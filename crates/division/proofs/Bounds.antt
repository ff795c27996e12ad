-- How large the loads of a fair division are together, and its products.
use Rattle.std.proofs.Common.{ℕ, ◌*◌, ◌<◌, ◌≤◌, List, length, get_or, take, sum, arith}
use Rattle.std.proofs.ByRecursion.{All-from_get_or, sum_by_le}
use Rattle.std.proofs.lemmas.List.Sums.{sum_by-take-le}
use Rattle.std.proofs.lemmas.Nat.{mul-le}
use Rattle.figures.specs.declared.units.Load.{Load}
use Rattle.division.specs.Columns.{tenths}
use Rattle.figures.specs.Limits.{max_seats}
use Rattle.division.specs.Limits.{max_total, max_load}
use Rattle.division.specs.Rules.{Fair}
use Rattle.division.proofs.Figures.{none, length-tenths, tenths-at}

module _ (t : ℕ) (ls : List ℕ) (f : Fair t ls) where
  pub sum-le : sum ls ≤ max_seats * max_load
  sum-le =
      let a = sum_by_le (λ x. x) max_load ls (All-from_get_or _ ls 0 f.light) in
      let b = mul-le (length ls) max_load max_seats max_load f.few (omega arith) in
      omega arith

  pub sum-take-le : (s : ℕ) → sum (take s ls) ≤ max_seats * max_load
  sum-take-le s = let a = sum-le in let b = sum_by-take-le (λ x. x) ls s in omega arith

  -- the total by a part of the loads
  pub product_le : (x : ℕ) → x ≤ max_seats * max_load → t * x ≤ max_total * (max_seats * max_load)
  product_le x h = mul-le t x max_total (max_seats * max_load) f.small h

-- one seat's load
pub load-le : (t : ℕ) (loads : List Load) → Fair t (tenths loads) → (s : ℕ) → s < length loads → (get_or loads s none).0 ≤ max_load
load-le t loads f s lt =
    let n = length-tenths loads in
    let a = tenths-at loads s lt in
    let b = f.light s (omega arith) in
    omega arith
