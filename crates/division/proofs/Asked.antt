-- What the grounds of a division test, as facts.
use Rattle.std.proofs.Common.{◌≡◌, ℕ, zero, suc, ◌<◌, ◌≤◌, false, List, [], ◌∷◌, length, get_or, ℤ, nat_abs, None, arith}
use Rattle.std.proofs.lemmas.Bool.Decides.{nat_tests}
use Rattle.std.proofs.lemmas.Bool.{or_parts, ltb-false}
use Rattle.figures.specs.Grounds.{first_of}
use Rattle.division.specs.Limits.{max_load}
use Rattle.division.specs.Rules.{heavy, rule_grounds, Fair}

pub heavy_light : (ls : List ℕ) → heavy ls ≡ false → (s : ℕ) → s < length ls → get_or ls s 0 ≤ max_load
heavy_light [] h s lt = absurd (omega arith)
heavy_light (l ∷ ls) h zero lt = ltb-false max_load l (or_parts _ _ h).0
heavy_light (l ∷ ls) h (suc s) lt = heavy_light ls (or_parts _ _ h).1 s (omega arith)

-- what no ground denies is a fair division
pub fair : (z : ℤ) (ls : List ℕ) (n : ℕ) → first_of (rule_grounds z ls n) ≡ None → Fair (nat_abs z) ls × (n ≡ length ls)
fair z ls n h = (
  record {
    small = grind (arith, nat_tests);
    some = grind (arith, nat_tests);
    few = grind (arith, nat_tests);
    light = heavy_light ls (grind (arith, nat_tests));
    busy = grind (arith, nat_tests);
  },
  grind (arith, nat_tests),
)
