use Rattle.std.proofs.Common.{◌≡◌, ◌-◌, ◌≤◌, length, take, vec_items}
use Rattle.records.specs.Tapes.{tape_of}
use Rattle.records.proofs.tapes.read_all.Given as goal

abbrev pub invariant-loop-entry : goal.invariant-loop-entry
invariant-loop-entry l = (l.bytes ≤ length l.tape) × (tape_of (vec_items l.entries) ≡ take l.bytes l.tape)

abbrev pub decreases-loop-entry : goal.decreases-loop-entry
decreases-loop-entry l = length l.tape - l.bytes
