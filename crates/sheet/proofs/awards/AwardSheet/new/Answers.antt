use Rattle.std.proofs.Common.{◌≤◌, None, Option, sym, subst, arith}
use Rattle.std.proofs.lemmas.List.{get_or-replicate}
use Rattle.figures.specs.declared.units.Kw.{Kw}
use Rattle.sheet.specs.Limits.{max_award}
use Rattle.sheet.specs.Tables.{filled, kilowatts}
use Rattle.sheet.proofs.awards.AwardSheet.new.Goals as goal

pub invariant_of-result : goal.invariant_of-result
invariant_of-result c = record { small = λ k lt. subst (λ (o : Option Kw). filled (kilowatts o) ≤ max_award) (sym (get_or-replicate 128 k None None lt)) (omega arith) }
