-- The largest-remainder rule. Assumes nothing.
--   floor_at t ls s   the share of seat s of the total t, t × load ÷ all loads, rounded down
--   floors_of t ls    the shares of all seats, rounded down
--   rest_at t ls s    the remainder of that division
--   rests_of t ls     the remainders of all seats
--   left_over t ls    the cents that are left when every seat has its share rounded down
--   stands rs k s     by the remainders rs, seat k stands before seat s: its remainder is larger, or the same and k the lower seat
--   ahead rs s        how many seats stand before seat s
--   extra_at t ls s   one cent more where fewer seats stand before s than cents are left
--   remainder_at t ls s
--                     the share of seat s: rounded down, and that cent
--   remainder_of t ls all shares
--   LargestFirst t ls xs
--                     the shares xs, in the words of the rule: each is rounded down or one cent more, together they are the total, and
--                     where one seat has the cent and another has not, it has the larger remainder, or the same and the lower number
--   LargestRemainders the shares of every fair division are so
use Rattle.std.specs.Prelude.{◌≡◌, ℕ, ◌+◌, ◌-◌, ◌*◌, ◌/◌, ◌%◌, ◌<◌, Bool, cond, ◌&&◌, ◌||◌, ◌⊎◌, List, [], ◌∷◌, map, length, sum, count_by, ◌==◌, nat_lt, slice_index, refl}
use Rattle.std.specs.List.{range_with_len}
use Rattle.division.specs.Rules.{Fair}

abbrev pub floor_at : ℕ → List ℕ → ℕ → ℕ
floor_at t ls s = t * slice_index ls s / sum ls

abbrev pub floors_of : ℕ → List ℕ → List ℕ
floors_of t ls = map (floor_at t ls) (range_with_len 0 (length ls))

abbrev pub rest_at : ℕ → List ℕ → ℕ → ℕ
rest_at t ls s = t * slice_index ls s % sum ls

abbrev pub rests_of : ℕ → List ℕ → List ℕ
rests_of t ls = map (rest_at t ls) (range_with_len 0 (length ls))

abbrev pub left_over : ℕ → List ℕ → ℕ
left_over t ls = t - sum (map (floor_at t ls) (range_with_len 0 (length ls)))

abbrev pub stands : List ℕ → ℕ → ℕ → Bool
stands rs k s = nat_lt (slice_index rs s) (slice_index rs k) || (slice_index rs s == slice_index rs k && nat_lt k s)

abbrev pub ahead : List ℕ → ℕ → ℕ
ahead rs s = count_by (λ b. b) (map (λ k. stands rs k s) (range_with_len 0 (length rs)))

abbrev pub extra_at : ℕ → List ℕ → ℕ → ℕ
extra_at t ls s = cond (nat_lt (ahead (rests_of t ls) s) (left_over t ls)) 1 0

abbrev pub remainder_at : ℕ → List ℕ → ℕ → ℕ
remainder_at t ls s = floor_at t ls s + extra_at t ls s

abbrev pub remainder_of : ℕ → List ℕ → List ℕ
remainder_of t ls = map (remainder_at t ls) (range_with_len 0 (length ls))

pub record LargestFirst (t : ℕ) (ls xs : List ℕ) : Type 0 where
  pub adds : sum xs ≡ t
  pub whole : (s : ℕ) → s < length ls → (slice_index xs s ≡ floor_at t ls s) ⊎ (slice_index xs s ≡ floor_at t ls s + 1)
  pub order : (s k : ℕ) → s < length ls → k < length ls → slice_index xs s ≡ floor_at t ls s + 1 → slice_index xs k ≡ floor_at t ls k
      → (rest_at t ls k < rest_at t ls s) ⊎ ((rest_at t ls k ≡ rest_at t ls s) × (s < k))

abbrev pub LargestRemainders : Type 0
LargestRemainders = (t : ℕ) (ls : List ℕ) → Fair t ls → LargestFirst t ls (remainder_of t ls)

-- 101 cents over loads 1, 2, 1: the floors 25, 50, 25 leave one cent, and the remainder of seat 1 is the largest
middle : remainder_of 101 (1 ∷ 2 ∷ 1 ∷ []) ≡ 25 ∷ 51 ∷ 25 ∷ []
middle = refl

-- 100 cents over three equal loads: the remainders are equal, so the lowest seat has the cent
tied : remainder_of 100 (1 ∷ 1 ∷ 1 ∷ []) ≡ 34 ∷ 33 ∷ 33 ∷ []
tied = refl
