use Rattle.records.proofs.Stepping.{stepped}
use Rattle.records.proofs.tapes.entry_at.Goals as goal

pub returns-in-Ok-Some : goal.returns-in-Ok-Some
returns-in-Ok-Some c = stepped c.args.tape.now c.args.place c.in-Ok-Some.record c.entry.result c.requires (rw c.in-Ok-Some.field-0-is at c.in-Ok-Some.ensures) c.entry.ensures
