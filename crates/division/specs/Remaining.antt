-- The largest-remainder rule: its shares add up to the total, and each is less than a cent off.
use Rattle.std.specs.Prelude.{◌≡◌, ℕ, zero, suc, ◌+◌, ◌-◌, ◌*◌, ◌<◌, ◌≤◌, ◌&&◌, ◌||◌, ltb, ◌⊎◌, List, map, length, take, sum, count_by, ◌==◌, nat_lt, slice_index}
use Rattle.std.proofs.Common.{sym, ap, ◌∙◌, inl, inr, mul-zero, add-mul, mul-add, add-one, arith}
use Rattle.std.specs.List.{range_with_len}
use Rattle.std.proofs.lemmas.Nat.{div-add-mod', mod_below, mul-le}
use Rattle.std.proofs.lemmas.List.FromFn.{length-map-range_with_len, get_or-map-range_with_len}
use Rattle.std.proofs.lemmas.List.{take_all}
use Rattle.std.proofs.lemmas.List.Sums.{sum_by_more}
use Rattle.std.proofs.lemmas.Bool.{cases_lt, lt-ltb, le-ltb, or_left}
use Rattle.std.proofs.lemmas.Bool.Decides.{nat_tests}
use Rattle.figures.specs.Rounding.{apart}
use Rattle.division.specs.Rules.{Fair, Lawful}
use Rattle.division.specs.Remainder.{floor_at, rest_at, rests_of, left_over, stands, ahead, extra_at, remainder_at, remainder_of, LargestRemainders}
use Rattle.division.specs.Ranks.{above, above_falls, ranked, different_made}
use Rattle.figures.specs.SeatSums.{sum_to, bit, sum_to_suc, sum_to_plus, sum_to-le, sum_to_same, sum_to_times, sum_to_one, count_places}

-- the loads of the first n seats, added by place
sum_places : (t : ℕ) (ls : List ℕ) (n : ℕ) → n ≤ length ls → sum_to (λ s. t * slice_index ls s) n ≡ t * sum (take n ls)
sum_places t ls zero h = sym (mul-zero t)
sum_places t ls (suc n) h =
    let i = sum_places t ls n (omega arith) in
    let a = sum_to_suc (λ s. t * slice_index ls s) n in
    let e = ap (λ (x : ℕ). t * sum (take x ls)) (add-one n) in
    let b = ap (λ (x : ℕ). t * x) (sum_by_more (λ x. x) ls n 0 (omega arith)) in
    let d = mul-add t (sum (take n ls)) (slice_index ls n) in
    omega arith

-- the order of the seats as an order of numbers: the remainder first, and then the lower seat
abbrev key_at : ℕ → List ℕ → ℕ → ℕ
key_at t ls s = rest_at t ls s * 16 + (15 - s)

abbrev keys_of : ℕ → List ℕ → List ℕ
keys_of t ls = map (key_at t ls) (range_with_len 0 (length ls))

key_order : (a b k s : ℕ) → k < 16 → s < 16 → (nat_lt a b || (a == b && nat_lt k s)) ≡ nat_lt (a * 16 + (15 - s)) (b * 16 + (15 - k))
key_order a b k s hk hs = grind (arith, nat_tests)

module _ (t : ℕ) (ls : List ℕ) (p : 0 < sum ls) where
  -- floors and remainders make up the whole
  whole : sum_to (floor_at t ls) (length ls) * sum ls + sum_to (rest_at t ls) (length ls) ≡ t * sum ls
  whole =
      let n = length ls in
      let a = sum_to_times (floor_at t ls) (sum ls) n in
      let b = sum_to_plus (λ s. floor_at t ls s * sum ls) (rest_at t ls) n in
      let e = sum_to_same (λ s. floor_at t ls s * sum ls + rest_at t ls s) (λ s. t * slice_index ls s) n (λ s lt. div-add-mod' (t * slice_index ls s) (sum ls)) in
      let d = sum_places t ls n (omega arith) in
      let f = ap (λ (xs : List ℕ). t * sum xs) (take_all n ls (omega arith)) in
      omega arith

  cancel : (a b : ℕ) → a * sum ls ≤ b * sum ls → a ≤ b
  cancel a b h = elim (cases_lt b a) [
    | inl l ↦ absurd (let m = mul-le (b + 1) (sum ls) a (sum ls) (omega arith) (omega arith) in let e = add-mul b 1 (sum ls) in omega arith)
    | inr g ↦ g
  ]

  -- the floors never pass the total, so that what is left over is exact
  pub floors-le : sum_to (floor_at t ls) (length ls) ≤ t
  floors-le = cancel (sum_to (floor_at t ls) (length ls)) t (let w = whole in omega arith)

  left_rests : left_over t ls * sum ls ≡ sum_to (rest_at t ls) (length ls)
  left_rests =
      let f = floors-le in
      let w = whole in
      let e = ap (λ (x : ℕ). x * sum ls) (let q : t ≡ sum_to (floor_at t ls) (length ls) + left_over t ls = omega arith in q) in
      let d = add-mul (sum_to (floor_at t ls) (length ls)) (left_over t ls) (sum ls) in
      omega arith

  rest_lt : (s : ℕ) → rest_at t ls s < sum ls
  rest_lt s = mod_below (t * slice_index ls s) (sum ls) p

  left_le : left_over t ls ≤ length ls
  left_le =
      let a = sum_to-le (rest_at t ls) (λ _. 1 * sum ls) (length ls) (λ s lt. (let r = rest_lt s in omega arith)) in
      let b = sum_to_times (λ _. 1) (sum ls) (length ls) in
      let o = ap (λ (x : ℕ). x * sum ls) (sum_to_one (length ls)) in
      cancel (left_over t ls) (length ls) (let l = left_rests in omega arith)

  -- the remainders, read from their list
  rests_at : (s : ℕ) → s < length ls → slice_index (rests_of t ls) s ≡ rest_at t ls s
  rests_at s lt = get_or-map-range_with_len (rest_at t ls) 0 (length ls) s s 0 lt (omega arith)

  ahead_is : (s : ℕ) → ahead (rests_of t ls) s ≡ sum_to (λ k. bit (stands (rests_of t ls) k s)) (length ls)
  ahead_is s =
      ap (λ (n : ℕ). count_by (λ b. b) (map (λ k. stands (rests_of t ls) k s) (range_with_len 0 n))) (length-map-range_with_len (rest_at t ls) 0 (length ls))
      ∙ count_places (λ b. b) (λ k. stands (rests_of t ls) k s) (length ls)

  -- a seat whose share needs no rounding has no cent more: every seat that does stands before it
  none_more : (s : ℕ) → s < length ls → rest_at t ls s ≡ 0 → left_over t ls ≤ ahead (rests_of t ls) s
  none_more s lt z =
      let b = sum_to-le (rest_at t ls) (λ k. bit (stands (rests_of t ls) k s) * sum ls) (length ls) (λ k l.
      let rk = rests_at k l in
      let rs = rests_at s lt in
      let u = rest_lt k in
      elim (cases_lt 0 (rest_at t ls k)) [
        | inl some ↦
            let y : bit (stands (rests_of t ls) k s) ≡ 1 = ap bit (or_left _ _ (lt-ltb (slice_index (rests_of t ls) s) (slice_index (rests_of t ls) k) (omega arith))) in
            let m = ap (λ (x : ℕ). x * sum ls) y in
            omega arith
        | inr no_rest ↦ omega arith
      ]) in
      let a = ahead_is s in
      let m = ap (λ (x : ℕ). x * sum ls) a in
      let l = left_rests in
      let d = sum_to_times (λ k. bit (stands (rests_of t ls) k s)) (sum ls) (length ls) in
      cancel (left_over t ls) (ahead (rests_of t ls) s) (omega arith)

  ahead_above : (s : ℕ) → length ls ≤ 16 → s < length ls → ahead (rests_of t ls) s ≡ above (keys_of t ls) (key_at t ls s)
  ahead_above s few lt =
      ahead_is s
      ∙ (sum_to_same (λ k. bit (stands (rests_of t ls) k s)) (λ k. bit (nat_lt (key_at t ls s) (key_at t ls k))) (length ls) (λ k l. ap bit
      (ap (λ (x : ℕ). nat_lt x (slice_index (rests_of t ls) k) || (x == slice_index (rests_of t ls) k && nat_lt k s)) (rests_at s lt)
      ∙ (ap (λ (x : ℕ). nat_lt (rest_at t ls s) x || (rest_at t ls s == x && nat_lt k s)) (rests_at k l)
      ∙ key_order (rest_at t ls s) (rest_at t ls k) k s (omega arith) (omega arith))))
      ∙ sym (count_places (λ y. ltb (key_at t ls s) y) (key_at t ls) (length ls)))

  -- as many seats have a cent more as cents are left
  extras : length ls ≤ 16 → sum_to (extra_at t ls) (length ls) ≡ left_over t ls
  extras few =
      sum_to_same (extra_at t ls) (λ s. bit (nat_lt (above (keys_of t ls) (key_at t ls s)) (left_over t ls))) (length ls)
      (λ s lt. ap (λ (x : ℕ). bit (nat_lt x (left_over t ls))) (ahead_above s few lt))
      ∙ (sym (count_places (λ z. ltb (above (keys_of t ls) z) (left_over t ls)) (key_at t ls) (length ls))
      ∙ ranked (keys_of t ls) (left_over t ls) (different_made (key_at t ls) 0 (length ls) (λ i j l u e. omega arith))
      (let n = length-map-range_with_len (key_at t ls) 0 (length ls) in let l = left_le in omega arith))

  near : (s : ℕ) → s < length ls → apart (t * slice_index ls s) (sum ls) (remainder_at t ls s) < sum ls
  near s lt =
      let whole_at = div-add-mod' (t * slice_index ls s) (sum ls) in
      let split = add-mul (floor_at t ls s) (extra_at t ls s) (sum ls) in
      let under = rest_lt s in
      elim (cases_lt (ahead (rests_of t ls) s) (left_over t ls)) [
        | inl l ↦
            let one : extra_at t ls s ≡ 1 = ap bit (lt-ltb (ahead (rests_of t ls) s) (left_over t ls) l) in
            let m = ap (λ (x : ℕ). x * sum ls) one in
            let some : 0 < rest_at t ls s = elim (cases_lt 0 (rest_at t ls s)) [ inl y ↦ y | inr z ↦ absurd (let k = none_more s lt (omega arith) in omega arith) ] in
            omega arith
        | inr g ↦
            let none : extra_at t ls s ≡ 0 = ap bit (le-ltb (ahead (rests_of t ls) s) (left_over t ls) g) in
            let m = ap (λ (x : ℕ). x * sum ls) none in
            omega arith
      ]

  -- who has the cent stands before who has not
  first : length ls ≤ 16 → (s k : ℕ) → s < length ls → k < length ls → extra_at t ls s ≡ 1 → extra_at t ls k ≡ 0
      → (rest_at t ls k < rest_at t ls s) ⊎ ((rest_at t ls k ≡ rest_at t ls s) × (s < k))
  first few s k ls_s ls_k one none =
      let a = ahead_above s few ls_s in
      let b = ahead_above k few ls_k in
      let in_front : ahead (rests_of t ls) s < left_over t ls = elim (cases_lt (ahead (rests_of t ls) s) (left_over t ls)) [
        | inl l ↦ l
        | inr g ↦ absurd (let z = ap bit (le-ltb (ahead (rests_of t ls) s) (left_over t ls) g) in omega arith)
      ] in
      let behind : left_over t ls ≤ ahead (rests_of t ls) k = elim (cases_lt (ahead (rests_of t ls) k) (left_over t ls)) [
        | inl l ↦ absurd (let z = ap bit (lt-ltb (ahead (rests_of t ls) k) (left_over t ls) l) in omega arith)
        | inr g ↦ g
      ] in
      let above_it : key_at t ls k < key_at t ls s = elim (cases_lt (key_at t ls k) (key_at t ls s)) [
        | inl l ↦ l
        | inr g ↦ absurd (let f = above_falls (keys_of t ls) (key_at t ls s) (key_at t ls k) g in omega arith)
      ] in
      elim (cases_lt (rest_at t ls k) (rest_at t ls s)) [
        | inl l ↦ inl l
        | inr g ↦ inr (omega arith, omega arith)
      ]

shares_add : (t : ℕ) (ls : List ℕ) → Fair t ls → sum (remainder_of t ls) ≡ t
shares_add t ls f =
    let a = sum_to_plus (floor_at t ls) (extra_at t ls) (length ls) in
    let b = extras t ls f.busy f.few in
    let d = floors-le t ls f.busy in
    omega arith

share_at : (t : ℕ) (ls : List ℕ) (s : ℕ) → s < length ls → slice_index (remainder_of t ls) s ≡ remainder_at t ls s
share_at t ls s lt = get_or-map-range_with_len (remainder_at t ls) 0 (length ls) s s 0 lt (omega arith)

pub remainder_keeps : (t : ℕ) (ls : List ℕ) → Fair t ls → Lawful t ls (remainder_of t ls)
remainder_keeps t ls f = record {
  many = length-map-range_with_len (remainder_at t ls) 0 (length ls);
  adds = shares_add t ls f;
  near = λ s lt. rw (share_at t ls s lt) (near t ls f.busy s lt);
}

pub largest_first_lem : LargestRemainders
largest_first_lem t ls f = record {
  adds = shares_add t ls f;
  whole = λ s lt.
      (let e = share_at t ls s lt in
      elim (cases_lt (ahead (rests_of t ls) s) (left_over t ls)) [
        | inl l ↦ inr (let z = ap bit (lt-ltb (ahead (rests_of t ls) s) (left_over t ls) l) in omega arith)
        | inr g ↦ inl (let z = ap bit (le-ltb (ahead (rests_of t ls) s) (left_over t ls) g) in omega arith)
      ]);
  order = λ s k lt lk one none.
      (let e = share_at t ls s lt in
      let d = share_at t ls k lk in
      first t ls f.busy f.few s k lt lk (omega arith) (omega arith));
}
