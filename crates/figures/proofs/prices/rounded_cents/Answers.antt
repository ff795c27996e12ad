-- The clause `nearest` by the theorem, which holds of all n and d.
use Rattle.std.proofs.Common.{◌≡◌, ◌+◌, ◌*◌, ◌^◌, ◌<◌, ℤ, pos, nat_abs, sym, subst, arith, w64, to_z}
use Rattle.std.proofs.lemmas.Nat.{div_below}
use Rattle.std.proofs.lemmas.Int.{ints}
use Rattle.figures.specs.Rounding.{rounded, Nearest}
use Rattle.figures.proofs.Nearest.{nearest}
use Rattle.figures.proofs.prices.rounded_cents.Goals as goal

pub returns-clause-nearest : goal.returns-clause-nearest
returns-clause-nearest c =
    let n = c.args.n in
    let d = c.args.d in
    let small : rounded n d < 2 ^ 63 = div_below (2 * n + d) (2 * d) (2 ^ 63) (omega arith) (omega arith) in
    let z : to_z w64 c.half_up.result ≡ pos (rounded n d) = omega (arith, ints) in
    subst (λ (x : ℤ). Nearest n d (nat_abs x)) (sym z) (nearest n d c.requires.some)
