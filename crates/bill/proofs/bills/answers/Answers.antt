use Rattle.std.proofs.Common.{vec_items, string_bytes}
use Rattle.division.specs.Columns.{tenths}
use Rattle.words.specs.Fields.{fields_of}
use Rattle.bill.proofs.Clipping.{both}
use Rattle.bill.proofs.bills.answers.Goals as goal

pub returns : goal.returns
returns c =
    both (fields_of c.args.line.now) c.in_ok-bill.bill.total.0 (tenths (vec_items c.in_ok-bill.bill.loads))
    (string_bytes c.in_ok-format.field-0) (string_bytes c.in_ok-cut.cut) (string_bytes c.in_ok-remainder.remainder)
    c.in_ok-bill.ensures c.in_ok-cut.ensures c.in_ok-remainder.ensures c.in_ok-format.ensures.ok
