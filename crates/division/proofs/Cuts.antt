-- A turn of the running cut: what it comes to, and that it fits.
use Rattle.std.proofs.Common.{◌≡◌, ℕ, ◌+◌, ◌*◌, ◌/◌, ◌<◌, ◌≤◌, List, length, get_or, take, sum, div-le_self, arith}
use Rattle.figures.specs.Limits.{max_seats}
use Rattle.figures.specs.declared.units.Load.{Load}
use Rattle.division.specs.Limits.{max_total, max_load}
use Rattle.division.specs.Columns.{tenths}
use Rattle.division.specs.Rules.{Fair}
use Rattle.division.specs.Cut.{up_to}
use Rattle.division.specs.Cutting.{up_to_rises}
use Rattle.division.proofs.Bounds.{sum-take-le, product_le}
use Rattle.division.proofs.Figures.{none, length-tenths, sum_more}

-- the next seat has the load w; the loads before it are run, and paid is what their seats have
pub record CutTurn (t : ℕ) (loads : List Load) (s run paid all w : ℕ) : Type 0 where
  pub ran : run + w ≡ sum (take (s + 1) (tenths loads))
  pub reached : t * (run + w) / all ≡ up_to t (tenths loads) (s + 1)
  pub rises : paid ≤ t * (run + w) / all
  pub few : run + w ≤ max_seats * max_load
  pub product : t * (run + w) ≤ max_total * (max_seats * max_load)
  pub share : t * (run + w) / all ≤ max_total * (max_seats * max_load)

pub cut_turn : (t : ℕ) (loads : List Load) (s run paid all w : ℕ) → Fair t (tenths loads) → all ≡ sum (tenths loads) → s < length loads
    → run ≡ sum (take s (tenths loads)) → paid ≡ up_to t (tenths loads) s → w ≡ (get_or loads s none).0 → CutTurn t loads s run paid all w
cut_turn t loads s run paid all w f a lt r p l =
    let ls = tenths loads in
    let n = length-tenths loads in
    let m = sum_more loads s lt in
    let ran : run + w ≡ sum (take (s + 1) ls) = omega arith in
    let q : t * (run + w) / all ≡ up_to t ls (s + 1) = cc in
    let u = up_to_rises t ls f.busy s (omega arith) in
    let b = sum-take-le t ls f (s + 1) in
    let e = product_le t ls f (run + w) (omega arith) in
    let d = div-le_self (t * (run + w)) all in
    record { ran = ran; reached = q; rises = omega arith; few = omega arith; product = e; share = omega arith }
