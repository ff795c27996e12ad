use Rattle.std.proofs.Common.{◌≡◌, ℕ, length, ℤ, pos, sym, ◌∙◌, rules, arith}
use mathlib.Core.List.{map-map}
use Rattle.std.proofs.lemmas.Simd.{splat_is_map}
use Rattle.std.proofs.lemmas.Bool.Decides.{nat_tests}
use Rattle.division.specs.Columns.{tenths}
use Rattle.division.proofs.Figures.{nothing}
use Rattle.division.proofs.signed.give_nothing.Goals as goal

pub returns : goal.returns
returns c =
    let ls = tenths c.args.loads.now in
    let l : length ls ≡ length c.args.out.now = grind (arith, nat_tests) in
    record {
      judged = grind (arith, nat_tests);
      column =
          c.fill.ensures.after (λ y k. search rules)
          ∙ (splat_is_map ls (length c.args.out.now) nothing l
          ∙ sym (map-map (λ (z : ℤ). record { 0 = z }) (λ (_ : ℕ). pos 0) ls));
    }
