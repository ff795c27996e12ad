-- The running cut: what its shares add up to, and how near each is.
use Rattle.std.specs.Prelude.{◌≡◌, ℕ, zero, suc, ◌+◌, ◌*◌, ◌/◌, ◌<◌, ◌≤◌, List, length, take, sum, slice_index}
use Rattle.std.proofs.Common.{sym, ap, ◌∙◌, mul-zero, add-mul, mul-add, div-mul-le_self, add-one, arith}
use Rattle.std.proofs.Math.Nat.{zero-div, mul-div_left, lt-div-mul-add}
use Rattle.std.proofs.lemmas.List.{take_all}
use Rattle.std.proofs.lemmas.List.FromFn.{length-map-range_with_len, get_or-map-range_with_len}
use Rattle.std.proofs.lemmas.List.Sums.{sum_by_more}
use Rattle.std.proofs.lemmas.Nat.{le-div, mul-le}
use Rattle.division.specs.Rules.{Fair, Lawful}
use Rattle.division.specs.Cut.{up_to, cut_at, cut_of}
use Rattle.figures.specs.SeatSums.{sum_to, sum_to_suc}

div_mono : (x y k : ℕ) → 0 < k → x ≤ y → x / k ≤ y / k
div_mono x y k p h = le-div (x / k) y k p (let d = div-mul-le_self x k in omega arith)

module _ (t : ℕ) (ls : List ℕ) (p : 0 < sum ls) where
  -- one seat more has no less
  pub up_to_rises : (s : ℕ) → s < length ls → up_to t ls s ≤ up_to t ls (s + 1)
  up_to_rises s lt =
      let e = sum_by_more (λ x. x) ls s 0 lt in
      let m = mul-le t (sum (take s ls)) t (sum (take (s + 1) ls)) (omega arith) (omega arith) in
      div_mono (t * sum (take s ls)) (t * sum (take (s + 1) ls)) (sum ls) p m

  -- the shares of the first n seats are what they have together
  sum-up_to : (n : ℕ) → n ≤ length ls → sum_to (cut_at t ls) n ≡ up_to t ls n
  sum-up_to zero h = sym (rw mul-zero (zero-div (sum ls)))
  sum-up_to (suc n) h =
      let i = sum-up_to n (omega arith) in
      let m = sum_to_suc (cut_at t ls) n in
      let r = up_to_rises n (omega arith) in
      let e = ap (up_to t ls) (add-one n) in
      omega arith

  cut_lawful : Lawful t ls (cut_of t ls)
  cut_lawful = record {
    many = length-map-range_with_len (cut_at t ls) 0 (length ls);
    adds = sum-up_to (length ls) (omega arith) ∙ rw (take_all (length ls) ls (omega arith)) (mul-div_left t p);
    near = λ s lt.
        (let g = get_or-map-range_with_len (cut_at t ls) 0 (length ls) s s 0 lt (omega arith) in
        let r = up_to_rises s lt in
        let n = sum ls in
        let u = up_to t ls s in
        let d = cut_at t ls s in
        let split : up_to t ls (s + 1) * n ≡ d * n + u * n = ap (λ (x : ℕ). x * n) (let q : up_to t ls (s + 1) ≡ d + u = omega arith in q) ∙ add-mul d u n in
        let e : t * sum (take (s + 1) ls) ≡ t * sum (take s ls) + t * slice_index ls s
        = ap (λ (x : ℕ). t * x) (sum_by_more (λ x. x) ls s 0 lt) ∙ mul-add t (sum (take s ls)) (slice_index ls s) in
        let a0 = div-mul-le_self (t * sum (take s ls)) n in
        let a1 = div-mul-le_self (t * sum (take (s + 1) ls)) n in
        let b0 = lt-div-mul-add {a = t * sum (take s ls)} p in
        let b1 = lt-div-mul-add {a = t * sum (take (s + 1) ls)} p in
        rw g (omega arith));
  }

pub cut_keeps : (t : ℕ) (ls : List ℕ) → Fair t ls → Lawful t ls (cut_of t ls)
cut_keeps t ls f = cut_lawful t ls f.busy
