-- What is said of a line that cannot be read. Assumes nothing.
use Rattle.std.specs.Prelude.{ℕ, List, ◌++◌, codes, decimal}
use Rattle.bill.specs.declared.fields.LineFault.{LineFault}
use Rattle.bill.specs.declared.fields.LineFault.TheVariants.{Blank, NotFigure, NoMemory}

abbrev pub message_of : LineFault → List ℕ
message_of Blank = codes "no figures: expected a total in cents, then the loads"
message_of (NotFigure k) = codes "field " ++ (decimal k ++ codes " is not a whole number: expected a total in cents, then the loads")
message_of NoMemory = codes "no memory to read it"
