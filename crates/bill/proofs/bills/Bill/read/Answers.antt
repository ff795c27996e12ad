use Rattle.std.proofs.Common.{ℤ, vec_items, sym, ◌∙◌, subst, w64, SFits, rules}
use Rattle.std.proofs.lemmas.Int.{to_z-of_z}
use Rattle.division.specs.Columns.{tenths}
use Rattle.words.specs.Fields.{fields_of}
use Rattle.bill.specs.Bills.{ReadAs}
use Rattle.bill.proofs.Answering.{read_as}
use Rattle.bill.proofs.bills.Bill.read.Goals as goal

pub returns : goal.returns
returns c =
    let z = c.in-Some.total.now in
    let fits : SFits w64 z = search rules in
    subst (λ (y : ℤ). ReadAs (fields_of c.args.line.now) y (tenths (vec_items c.in_ok-loads.loads))) (sym (to_z-of_z w64 z fits))
    (read_as (fields_of c.args.line.now) (vec_items c.in_ok-values.values) z c.in-Some.rest.now (tenths (vec_items c.in_ok-loads.loads))
    c.in_ok-values.ensures (sym c.deref.ensures.value ∙ c.in-Some.ensures.cases.0) c.in_ok-loads.ensures)
