use Rattle.std.proofs.Common.{rules, refl}
use Rattle.assembly.specs.Kinds.{month_limits}
use Rattle.assembly.specs.declared.faults.LineFault.TheVariants.{Field}
use Rattle.assembly.proofs.Spread.{fault_from, numbers_from}
use Rattle.assembly.proofs.kinds.month.Goals as goal

pub returns-in_err-four-2 : goal.returns-in_err-four-2
returns-in_err-four-2 c =
    let fault = fault_from month_limits c.args.fields.now 7 (Field 5 4294967295) c.in-len7.len_at_least c.in-len7.len_below
    (rw (c.in_ok-one.ensures.2, c.in_ok-one-2.ensures.2, c.in_ok-two.ensures.2, c.in_ok-four.ensures.2, c.in_err-four-2.ensures.1) refl) in
    search (rules, fault)

pub returns-in_err-four-3 : goal.returns-in_err-four-3
returns-in_err-four-3 c =
    let fault = fault_from month_limits c.args.fields.now 7 (Field 6 4294967295) c.in-len7.len_at_least c.in-len7.len_below
    (rw (c.in_ok-one.ensures.2, c.in_ok-one-2.ensures.2, c.in_ok-two.ensures.2, c.in_ok-four.ensures.2, c.in_ok-four-2.ensures.2, c.in_err-four-3.ensures.1) refl) in
    search (rules, fault)

pub returns-in_err-two-2 : goal.returns-in_err-two-2
returns-in_err-two-2 c =
    let fault = fault_from month_limits c.args.fields.now 7 (Field 7 65535) c.in-len7.len_at_least c.in-len7.len_below
    (rw (c.in_ok-one.ensures.2, c.in_ok-one-2.ensures.2, c.in_ok-two.ensures.2, c.in_ok-four.ensures.2, c.in_ok-four-2.ensures.2, c.in_ok-four-3.ensures.2, c.in_err-two-2.ensures.1) refl) in
    search (rules, fault)

pub returns : goal.returns
returns c =
    numbers_from c.args.fields.now 7 _ c.in-len7.len_at_least c.in-len7.len_below
    (rw (c.in_ok-one.ensures.0, c.in_ok-one-2.ensures.0, c.in_ok-two.ensures.0, c.in_ok-four.ensures.0, c.in_ok-four-2.ensures.0, c.in_ok-four-3.ensures.0, c.in_ok-two-2.ensures.0) refl)
