-- Half-up rounding gives the nearest whole number, and of two equally near the higher.
use Rattle.std.proofs.Common.{◌≡◌, ℕ, ◌+◌, ◌*◌, ◌<◌, ◌≤◌, ap, inl, inr, mul_assoc, mul_comm, add-mul, div-mul-le_self, arith}
use native.Mathlib.Nat.{lt-div-mul-add}
use Rattle.std.proofs.lemmas.Bool.{cases_order}
use Rattle.std.proofs.lemmas.Nat.{mul-le}
use Rattle.figures.specs.Rounding.{rounded, Nearest}

-- one whole number more is d more
step : (m r d : ℕ) → m < r → m * d + d ≤ r * d
step m r d h =
    let a = mul-le (m + 1) d r d (omega arith) (omega arith) in
    let b = add-mul m 1 d in
    omega arith

pub nearest : (n d : ℕ) → 0 < d → Nearest n d (rounded n d)
nearest n d p m =
    let r = rounded n d in
    let twice : r * (2 * d) ≡ 2 * (r * d) = (let a = mul_assoc r 2 d in let b = ap (λ (x : ℕ). x * d) (mul_comm r 2) in let e = mul_assoc 2 r d in omega arith) in
    let low = div-mul-le_self (2 * n + d) (2 * d) in
    let high = lt-div-mul-add {a = 2 * n + d} {b = 2 * d} (omega arith) in
    elim (cases_order m r) [
      | inl e ↦ let q = ap (λ (x : ℕ). x * d) e in (omega arith, λ _. omega arith)
      | inr o ↦ elim o [
        | inl l ↦ let s = step m r d l in (omega arith, λ _. omega arith)
        | inr g ↦ let s = step r m d g in (omega arith, λ h. omega arith)
      ]
    ]
