use Rattle.std.proofs.Common.{◌≡◌, ℕ, ◌==◌, ◌&&◌, ◌||◌, ◌^◌, ◌<◌, List, map, length, get_or, sum, nat_lt, sym, ap, ◌∙◌, zero-add, arith, rules, tests}
use mathlib.Core.List.{map-map}
use mir.Val.{bool_byte}
use Rattle.std.specs.List.{range_with_len, enumerate_from}
use Rattle.std.proofs.lemmas.Iterator.{YieldsList-from_slice, YieldsList-from_map}
use Rattle.std.proofs.lemmas.Iterator.Consumers.{YieldsList-from_enumerate, sum_from_yields_List, fits_from_yields_list}
use Rattle.std.proofs.lemmas.List.FromFn.{fill_by_all, length-enumerate_from, get_or-enumerate_from}
use Rattle.division.specs.Remainder.{stands, ahead}
use Rattle.figures.specs.SeatSums.{bit, bool_byte_is, bit_le, sum_to-le, sum_to_same, sum_to_one, count_places}
use Rattle.division.proofs.remainder.ahead_of.Goals as goal

placed : (rs : List ℕ) → enumerate_from 0 rs ≡ map (λ (k : ℕ). (k, get_or rs k 0)) (range_with_len 0 (length rs))
placed rs = fill_by_all (λ (k : ℕ). (k, get_or rs k 0)) (enumerate_from 0 rs) (length rs) (0, 0) (length-enumerate_from 0 rs)
    (λ k h. get_or-enumerate_from 0 rs k (0, 0) h ∙ ap (λ (i : ℕ). (i, get_or rs k 0)) (zero-add k))

-- one for a seat that stands before seat s
abbrev one : List ℕ → ℕ → ℕ × ℕ → ℕ
one rs s p = bool_byte (nat_lt (get_or rs s 0) p.1 || (get_or rs s 0 == p.1 && nat_lt p.0 s))

added : (rs : List ℕ) (s : ℕ) → sum (map (one rs s) (enumerate_from 0 rs)) ≡ ahead rs s
added rs s =
    ap (λ (ps : List (ℕ × ℕ)). sum (map (one rs s) ps)) (placed rs)
    ∙ (ap sum (map-map (one rs s) (λ (k : ℕ). (k, get_or rs k 0)) (range_with_len 0 (length rs)))
    ∙ (sum_to_same (λ k. bool_byte (stands rs k s)) (λ k. bit (stands rs k s)) (length rs) (λ k lt. bool_byte_is (stands rs k s))
    ∙ sym (count_places (λ b. b) (λ (k : ℕ). stands rs k s) (length rs))))

pub sum-requires-clause-fits : goal.sum-requires-clause-fits
sum-requires-clause-fits c =
    let rs = c.args.rests.now in
    let a = added rs c.args.s in
    let n : length rs < 2 ^ 64 = omega arith in
    let b = sum_to-le (λ k. bit (stands rs k c.args.s)) (λ _. 1) (length rs) (λ k lt. bit_le (stands rs k c.args.s)) in
    let o = sum_to_one (length rs) in
    let p = count_places (λ b. b) (λ (k : ℕ). stands rs k c.args.s) (length rs) in
    fits_from_yields_list _ (2 ^ 64)
    (YieldsList-from_map _ (one rs c.args.s) (YieldsList-from_enumerate (YieldsList-from_slice rs cc) cc) c.map.ensures.closure (λ x r q k. search (rules, tests)))
    (omega arith)

pub returns : goal.returns
returns c =
    let rs = c.args.rests.now in
    sum_from_yields_List _ c.sum.result c.sum.ensures.ran
    (YieldsList-from_map _ (one rs c.args.s) (YieldsList-from_enumerate (YieldsList-from_slice rs cc) cc) c.map.ensures.closure (λ x r q k. search (rules, tests)))
    ∙ added rs c.args.s
