use Rattle.std.proofs.Common.{List, ℕ, subst, ap, ◌∙◌, map, Bor}
use Rattle.words.specs.Fields.{fields_of}
use Rattle.assembly.specs.Lines.{IsEntryOf}
use Rattle.assembly.proofs.Taking.{taken}
use Rattle.assembly.proofs.lines.entry_of.Goals as goal

pub returns : goal.returns
returns c =
    taken (fields_of c.args.line.now) c.read.result
    (subst (λ (fs : List (List ℕ)). IsEntryOf fs c.read.result) (ap (map (λ (f : Bor (List ℕ)). f.now)) c.deref.ensures.0 ∙ c.first_fields.ensures) c.read.ensures)
