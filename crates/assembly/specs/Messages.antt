-- What is said of a line that is no record. Assumes nothing.
use Rattle.std.specs.Prelude.{ℕ, List, ◌++◌, codes, decimal}
use Rattle.assembly.specs.declared.faults.LineFault.{LineFault}
use Rattle.assembly.specs.declared.faults.LineFault.TheVariants.{Unknown, Count, Field}

abbrev pub message_of : LineFault → List ℕ
message_of Unknown = codes "unknown kind: expected one of the letters M A O C X H T L E B, then its fields"
message_of (Count n) = codes "wrong count of fields: expected " ++ (decimal n ++ codes " after the kind letter")
message_of (Field k m) = codes "field " ++ (decimal k ++ (codes " does not fit: expected a whole number from 0 to " ++ decimal m))
