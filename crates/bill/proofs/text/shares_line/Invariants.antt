use Rattle.std.proofs.Common.{◌≡◌, ◌∷◌, ◌++◌, take, string_bytes}
use Rattle.std.specs.List.{flat_map}
use Rattle.std.specs.Fmt.{signed_decimal}
use Rattle.division.specs.Columns.{amounts}
use Rattle.bill.proofs.text.shares_line.Given as goal

abbrev pub invariant-loop-share : goal.invariant-loop-share
invariant-loop-share l = string_bytes l.line ≡ string_bytes l.initial.line ++ flat_map (λ z. 32 ∷ signed_decimal z) (amounts (take l.share-index l.shares))
