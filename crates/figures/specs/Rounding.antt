-- Rounding a quotient to whole cents: the one place that says how. Assumes nothing.
--   rounded n d     n ÷ d to the nearest whole number, an exact half upward
--   apart n d m     how far the whole number m lies from n ÷ d, in d-ths
--   Nearest n d r   no whole number is nearer to n ÷ d than r, and of two equally near r is the higher
use Rattle.std.specs.Prelude.{◌≡◌, ℕ, ◌+◌, ◌-◌, ◌*◌, ◌/◌, ◌≤◌, refl}

abbrev pub rounded : ℕ → ℕ → ℕ
rounded n d = (2 * n + d) / (2 * d)

abbrev pub apart : ℕ → ℕ → ℕ → ℕ
apart n d m = (n - m * d) + (m * d - n)

abbrev pub Nearest : ℕ → ℕ → ℕ → Type 0
Nearest n d r = (m : ℕ) → (apart n d r ≤ apart n d m) × (apart n d m ≡ apart n d r → m ≤ r)

-- 7 ÷ 2, 5 ÷ 4, 7 ÷ 4
half : rounded 7 2 ≡ 4
half = refl

down : rounded 5 4 ≡ 1
down = refl

up : rounded 7 4 ≡ 2
up = refl
