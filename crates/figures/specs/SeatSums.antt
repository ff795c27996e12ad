-- Adding up over the seats 0 to n - 1, and counting them: lemmas for what stands on the figures. Assumes nothing.
--   sum_to f n   f added up over these seats
--   bit b        one where a test holds
use Rattle.std.specs.Prelude.{◌≡◌, ℕ, zero, suc, ◌+◌, ◌*◌, ◌<◌, ◌≤◌, Bool, true, false, cond, map, sum_by, sum, count_by, refl}
use Rattle.std.proofs.Common.{subst, ap, add-mul, add-one, arith}
use mir.Val.{bool_byte}
use Rattle.std.specs.List.{range_with_len}
use Rattle.std.proofs.lemmas.List.FromFn.{sum_by-map-range_with_len_more}

abbrev pub sum_to : (ℕ → ℕ) → ℕ → ℕ
sum_to f n = sum (map f (range_with_len 0 n))

abbrev pub bit : Bool → ℕ
bit b = cond b 1 0

pub bool_byte_is : (b : Bool) → bool_byte b ≡ bit b
bool_byte_is true = refl
bool_byte_is false = refl

pub bit_le : (b : Bool) → bit b ≤ 1
bit_le true = omega arith
bit_le false = omega arith

-- one seat more, of a sum over what f gives
pub sum_by_suc : {X : Type 0} (g : X → ℕ) (f : ℕ → X) (n : ℕ) → sum_by g (map f (range_with_len 0 (suc n))) ≡ sum_by g (map f (range_with_len 0 n)) + g (f n)
sum_by_suc g f n = subst (λ (m : ℕ). sum_by g (map f (range_with_len 0 m)) ≡ sum_by g (map f (range_with_len 0 n)) + g (f n)) (add-one n) (sum_by-map-range_with_len_more g f 0 n n (omega arith))

pub sum_to_suc : (f : ℕ → ℕ) (n : ℕ) → sum_to f (suc n) ≡ sum_to f n + f n
sum_to_suc f n = sum_by_suc (λ x. x) f n

pub sum_to_plus : (f g : ℕ → ℕ) (n : ℕ) → sum_to (λ s. f s + g s) n ≡ sum_to f n + sum_to g n
sum_to_plus f g zero = refl
sum_to_plus f g (suc n) =
    let i = sum_to_plus f g n in
    omega (arith, sum_to_suc f n, sum_to_suc g n, sum_to_suc (λ s. f s + g s) n)

pub sum_to-le : (f g : ℕ → ℕ) (n : ℕ) → ((s : ℕ) → s < n → f s ≤ g s) → sum_to f n ≤ sum_to g n
sum_to-le f g zero h = omega arith
sum_to-le f g (suc n) h =
    let i = sum_to-le f g n (λ s lt. h s (omega arith)) in
    omega (arith, sum_to_suc f n, sum_to_suc g n, h n (omega arith))

pub sum_to_same : (f g : ℕ → ℕ) (n : ℕ) → ((s : ℕ) → s < n → f s ≡ g s) → sum_to f n ≡ sum_to g n
sum_to_same f g zero h = refl
sum_to_same f g (suc n) h =
    let i = sum_to_same f g n (λ s lt. h s (omega arith)) in
    omega (arith, sum_to_suc f n, sum_to_suc g n, h n (omega arith))

pub sum_to_times : (f : ℕ → ℕ) (k n : ℕ) → sum_to (λ s. f s * k) n ≡ sum_to f n * k
sum_to_times f k zero = omega arith
sum_to_times f k (suc n) =
    let i = sum_to_times f k n in
    let a = ap (λ (x : ℕ). x * k) (sum_to_suc f n) in
    let b = add-mul (sum_to f n) (f n) k in
    omega (arith, sum_to_suc (λ s. f s * k) n)

pub sum_to_one : (n : ℕ) → sum_to (λ _. 1) n ≡ n
sum_to_one zero = refl
sum_to_one (suc n) = let i = sum_to_one n in omega (arith, sum_to_suc (λ _. 1) n)

-- how many of what f gives pass a test
pub count_places : {X : Type 0} (p : X → Bool) (f : ℕ → X) (n : ℕ) → count_by p (map f (range_with_len 0 n)) ≡ sum_to (λ s. bit (p (f s))) n
count_places p f zero = refl
count_places p f (suc n) =
    let i = count_places p f n in
    omega (arith, sum_by_suc (λ x. bit (p x)) f n, sum_to_suc (λ s. bit (p (f s))) n)
