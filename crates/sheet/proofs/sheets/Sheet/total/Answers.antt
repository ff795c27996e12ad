use Rattle.std.proofs.Common.{◌≡◌, ℕ, ◌+◌, ◌<◌, Some, Option, sym, ap, ◌∙◌, arith}
use Rattle.sheet.specs.Sums.{added_next, added_fits}
use Rattle.sheet.proofs.sheets.Sheet.total.Goals as goal

pub loop-seat-preserved : goal.loop-seat-preserved
loop-seat-preserved g c ok =
    let t = g.Self.Sheet.table c.args.self.now in
    let f : ℕ → Option ℕ = λ s. t.cell s c.args.place in
    let kw = c.in_ok-cell.field-0.0 in
    let lt : c.loop-seat.seat < t.seats = omega (arith, c.seats-seats.ensures ok, c.loop-seat-test.true) in
    let here : f c.loop-seat.seat ≡ Some kw = sym (c.in_ok-cell.ensures ok) in
    let fit = added_fits f c.loop-seat.seat t.seats c.loop-seat.sum kw lt (c.loop-seat.invariant ok) here in
    let b = (g.met.Self.Sheet.bounded c.args.self.now ok).small c.args.place in
    let e : c.saturating_add-sum.result ≡ c.loop-seat.sum + kw = omega arith in
    added_next f c.loop-seat.seat _ _ (c.loop-seat.invariant ok) here ∙ ap (λ (n : ℕ). Some n) (sym e)
