use Rattle.std.proofs.Common.{◌≡◌, ◌≤◌, length, map}
use Rattle.assembly.proofs.fields.first_fields.Given as goal

abbrev pub invariant-loop-field : goal.invariant-loop-field
invariant-loop-field l = (map (λ f. f.now) l.fields.items ≡ map (λ f. f.now) l.yielded) × (length l.fields.items ≤ 10)
