use Rattle.std.proofs.Common.{◌≡◌, ◌*◌, ◌^◌, ◌<◌, arith, rules}
use Rattle.figures.specs.Prices.{net_of}
use Rattle.figures.proofs.Limits.{limits, penalty_below}
use Rattle.figures.proofs.prices.Terms.penalty.Goals as goal
use Rattle.figures.proofs.prices.Terms.penalty.Goals.{After-from-3}

-- the amount to be rounded
amount : (c : After-from-3) → c.from.result * c.from-2.result * c.from-3.result < 2 ^ 62
amount c =
    let f = c.args.self.now.figures in
    let k : c.args.failed.0 < 2 ^ 32 = search rules in
    let b = penalty_below f c.args.self.now.within c.args.product.0 c.args.failed.0 k in
    let e : c.from.result * c.from-2.result * c.from-3.result ≡ c.args.failed.0 * net_of f c.args.product.0 * f.factor.0 = cc in
    omega arith

pub overflow_mul-amount-2 : goal.overflow_mul-amount-2
overflow_mul-amount-2 c = let a = amount c in omega arith

pub rounded_cents-requires : goal.rounded_cents-requires
rounded_cents-requires c =
    let l = limits c.args.self.now.figures c.args.self.now.within in
    record { some = omega arith; amount = amount c; divisor = omega arith }
