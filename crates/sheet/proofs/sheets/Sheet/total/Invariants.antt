use Rattle.std.proofs.Common.{◌≡◌, Some}
use Rattle.sheet.specs.Tables.{added_up}
use Rattle.sheet.proofs.sheets.Sheet.total.Given as goal

abbrev pub invariant-loop-seat : goal.invariant-loop-seat
invariant-loop-seat g l = g.Self.Sheet.lawful l.self → added_up (λ s. (g.Self.Sheet.table l.self).cell s l.place) l.seat ≡ Some l.sum
