use Rattle.std.proofs.Common.{◌≡◌, pos, ◌-ℤ◌, nat_abs, ◌<ℤ◌, ◌≤◌, arith, w64, to_z, of_z}
use Rattle.std.specs.declared.cmp.Ordering.TheVariants.{Less, Equal, Greater}
use Rattle.std.proofs.lemmas.Cmp.{int_ranked}
use Rattle.std.proofs.lemmas.Grind.{common_steps}
use Rattle.std.proofs.lemmas.Int.{ints}
use Rattle.std.proofs.lemmas.Bool.Decides.{nat_tests}
use Rattle.division.specs.Limits.{max_total}
use Rattle.division.specs.Columns.{tenths}
use Rattle.division.proofs.Figures.{not_below}
use Rattle.division.proofs.Signs.{by_zero, by_rule, by_opposite}
use Rattle.division.proofs.signed.divide_signed.Goals as goal

pub returns-in-Equal : goal.returns-in-Equal
returns-in-Equal g c =
    by_zero (g.R.DivisionRule.shares c.args.rule.now) (tenths c.args.loads.now) (λ t h. g.met.R.DivisionRule.keeps c.args.rule.now t _ h)
    c.args.out.now c.args.total.0 c.give_nothing.result c.give_nothing.new.out (int_ranked c.args.total.0 (pos 0) Equal c.in-Equal.ensures) c.give_nothing.ensures

pub returns-in-Greater : goal.returns-in-Greater
returns-in-Greater g c =
    by_rule (g.R.DivisionRule.shares c.args.rule.now) (tenths c.args.loads.now) (λ t h. g.met.R.DivisionRule.keeps c.args.rule.now t _ h)
    c.args.out.now c.args.total.0 c.divide.result c.divide.new.out (int_ranked c.args.total.0 (pos 0) Greater c.in-Greater.ensures) c.divide.ensures

pub negate-requires : goal.negate-requires
negate-requires g c = not_below _ c.divide-in-Less.new.out c.in_ok-divide-in-Less.ensures.column

pub returns-in_err-divide-in-Less : goal.returns-in_err-divide-in-Less
returns-in_err-divide-in-Less g c =
    let below : c.args.total.0 <ℤ pos 0 = int_ranked c.args.total.0 (pos 0) Less c.in-Less.ensures in
    grind (arith, nat_tests, ints, common_steps)

pub returns-in_ok-divide-in-Less : goal.returns-in_ok-divide-in-Less
returns-in_ok-divide-in-Less g c =
    let z = c.args.total.0 in
    let m = to_z w64 (of_z w64 (pos 0 -ℤ to_z w64 (of_z w64 z))) in
    let below : z <ℤ pos 0 = int_ranked z (pos 0) Less c.in-Less.ensures in
    let within : nat_abs z ≤ max_total = grind (arith, nat_tests, ints) in
    let e : m ≡ pos (nat_abs z) = omega (arith, ints) in
    by_opposite (g.R.DivisionRule.shares c.args.rule.now) (tenths c.args.loads.now) (λ t h. g.met.R.DivisionRule.keeps c.args.rule.now t _ h)
    c.args.out.now z m c.divide-in-Less.new.out c.negate.new.out below e c.in_ok-divide-in-Less.ensures c.negate.ensures
