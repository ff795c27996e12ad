use Rattle.std.proofs.Common.{◌≡◌, map, length, vec_items}
use Rattle.bill.specs.Fields.{Values}
use Rattle.bill.proofs.fields.read_figures.Given as goal

abbrev pub invariant-loop-field : goal.invariant-loop-field
invariant-loop-field l = (length (vec_items l.values) ≡ length l.yielded) × Values (map (λ x. x.now) l.yielded) (vec_items l.values)
