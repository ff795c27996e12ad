-- The running cut. Assumes nothing.
--   up_to t ls s    what the first s seats have together of the total t: t × their loads ÷ all loads, rounded down
--   cut_at t ls s   the share of seat s: what it and the seats before it have, less what the seats before it have
--   cut_of t ls     all shares
use Rattle.std.specs.Prelude.{◌≡◌, ℕ, ◌+◌, ◌-◌, ◌*◌, ◌/◌, List, [], ◌∷◌, map, length, take, sum, refl}
use Rattle.std.specs.List.{range_with_len}

abbrev pub up_to : ℕ → List ℕ → ℕ → ℕ
up_to t ls s = t * sum (take s ls) / sum ls

abbrev pub cut_at : ℕ → List ℕ → ℕ → ℕ
cut_at t ls s = up_to t ls (s + 1) - up_to t ls s

abbrev pub cut_of : ℕ → List ℕ → List ℕ
cut_of t ls = map (cut_at t ls) (range_with_len 0 (length ls))

-- 100 cents over three equal loads
thirds : cut_of 100 (1 ∷ 1 ∷ 1 ∷ []) ≡ 33 ∷ 33 ∷ 34 ∷ []
thirds = refl
