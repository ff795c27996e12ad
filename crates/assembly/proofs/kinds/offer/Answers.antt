use Rattle.std.proofs.Common.{rules, refl}
use Rattle.assembly.specs.Kinds.{offer_limits}
use Rattle.assembly.specs.declared.faults.LineFault.TheVariants.{Field}
use Rattle.assembly.proofs.Spread.{fault_from, numbers_from}
use Rattle.assembly.proofs.kinds.offer.Goals as goal

pub returns-in_err-one-4 : goal.returns-in_err-one-4
returns-in_err-one-4 c =
    let fault = fault_from offer_limits c.args.fields.now 8 (Field 5 255) c.in-len8.len_at_least c.in-len8.len_below
    (rw (c.in_ok-two.ensures.2, c.in_ok-one.ensures.2, c.in_ok-one-2.ensures.2, c.in_ok-one-3.ensures.2, c.in_err-one-4.ensures.1) refl) in
    search (rules, fault)

pub returns-in_err-two-2 : goal.returns-in_err-two-2
returns-in_err-two-2 c =
    let fault = fault_from offer_limits c.args.fields.now 8 (Field 6 65535) c.in-len8.len_at_least c.in-len8.len_below
    (rw (c.in_ok-two.ensures.2, c.in_ok-one.ensures.2, c.in_ok-one-2.ensures.2, c.in_ok-one-3.ensures.2, c.in_ok-one-4.ensures.2, c.in_err-two-2.ensures.1) refl) in
    search (rules, fault)

pub returns-in_err-two-3 : goal.returns-in_err-two-3
returns-in_err-two-3 c =
    let fault = fault_from offer_limits c.args.fields.now 8 (Field 7 65535) c.in-len8.len_at_least c.in-len8.len_below
    (rw (c.in_ok-two.ensures.2, c.in_ok-one.ensures.2, c.in_ok-one-2.ensures.2, c.in_ok-one-3.ensures.2, c.in_ok-one-4.ensures.2, c.in_ok-two-2.ensures.2, c.in_err-two-3.ensures.1) refl) in
    search (rules, fault)

pub returns-in_err-four : goal.returns-in_err-four
returns-in_err-four c =
    let fault = fault_from offer_limits c.args.fields.now 8 (Field 8 4294967295) c.in-len8.len_at_least c.in-len8.len_below
    (rw (c.in_ok-two.ensures.2, c.in_ok-one.ensures.2, c.in_ok-one-2.ensures.2, c.in_ok-one-3.ensures.2, c.in_ok-one-4.ensures.2, c.in_ok-two-2.ensures.2, c.in_ok-two-3.ensures.2, c.in_err-four.ensures.1) refl) in
    search (rules, fault)

pub returns : goal.returns
returns c =
    numbers_from c.args.fields.now 8 _ c.in-len8.len_at_least c.in-len8.len_below
    (rw (c.in_ok-two.ensures.0, c.in_ok-one.ensures.0, c.in_ok-one-2.ensures.0, c.in_ok-one-3.ensures.0, c.in_ok-one-4.ensures.0, c.in_ok-two-2.ensures.0, c.in_ok-two-3.ensures.0, c.in_ok-four.ensures.0) refl)
