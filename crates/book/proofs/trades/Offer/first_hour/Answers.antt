use Rattle.std.proofs.Common.{◌+◌, true, false, sym, ◌∙◌, arith}
use Rattle.book.proofs.Firsts.{first_here, first_next, first_past}
use Rattle.book.proofs.trades.Offer.first_hour.Goals as goal
use Rattle.book.proofs.trades.Offer.first_hour.Goals.{else-loop-hour-test, then-loop-hour-test+else-test+else-hour-hour-end}

pub returns-then-test : goal.returns-then-test
returns-then-test g c p agree =
    let is = agree c.loop-hour.hour true c.if-test.ensures in
    sym (first_here p c.loop-hour.hour (c.args.self.now.last.0 + 1) (omega arith) (sym is)) ∙ c.loop-hour.invariant p agree

pub loop-hour-preserved : goal.loop-hour-preserved
loop-hour-preserved g c p agree =
    let is = agree c.loop-hour.hour false c.if-test.ensures in
    sym (first_next p c.loop-hour.hour (c.args.self.now.last.0 + 1) (omega arith) (sym is)) ∙ c.loop-hour.invariant p agree

pub returns : goal.returns
returns g c p agree =
    let h = c.loop-hour.hour in
    let u = c.args.self.now.last.0 + 1 in
    elim c.loop-hour-test.branch [
      | else-loop-hour-test w ↦ sym (first_past p h u (omega arith)) ∙ c.loop-hour.invariant p agree
      | then-loop-hour-test+else-test+else-hour-hour-end w ↦
          let is = agree h false w.if-test.ensures in
          sym (first_past p (h + 1) u (omega arith)) ∙ sym (first_next p h u (omega arith) (sym is)) ∙ c.loop-hour.invariant p agree
    ]
