use Rattle.std.proofs.Common.{◌≡◌, ℕ, nat_abs, None, subst, arith}
use Rattle.std.proofs.lemmas.Bool.Decides.{nat_tests}
use Rattle.std.proofs.lemmas.Int.{ints}
use Rattle.std.proofs.lemmas.Grind.{common_steps}
use Rattle.figures.specs.Grounds.{first_of}
use Rattle.division.specs.Columns.{tenths}
use Rattle.division.specs.Rules.{rule_grounds, Fair}
use Rattle.division.proofs.Asked.{fair}
use Rattle.division.proofs.rules.Division.new.Goals as goal

pub invariant_of-result : goal.invariant_of-result
invariant_of-result c =
    let ls = tenths c.args.loads.now in
    let passed : first_of (rule_grounds c.args.total.0 ls c.args.room) ≡ None = grind (arith, nat_tests, ints, common_steps) in
    let f = (fair c.args.total.0 ls c.args.room passed).0 in
    let small = f.small in
    let size : nat_abs c.args.total.0 ≡ c.unsigned_abs.result = omega (arith, ints) in
    record {
      fair = subst (λ (t : ℕ). Fair t ls) size f;
      added = c.in_ok-all.ensures.1;
    }
