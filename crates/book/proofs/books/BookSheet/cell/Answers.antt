use Rattle.std.proofs.Common.{◌≡◌, ℕ, ◌+◌, ◌-◌, Some, vec_items, sym, ap, ◌∙◌, arith}
use Rattle.sheet.proofs.Cells.{cell_small}
use Rattle.book.specs.Trades.{bought_at, sold_at, shifted}
use Rattle.book.proofs.books.BookSheet.cell.Goals as goal

pub returns : goal.returns
returns g c ok =
    let w = c.args.place in
    let t = g.S.Sheet.table c.args.self.now.below in
    let rs = vec_items c.args.self.now.ledger.trades in
    let b = bought_at c.args.seat.0 w rs in
    let d = sold_at c.args.seat.0 w rs in
    let here : t.cell c.args.seat.0 w ≡ Some c.in_ok-kw.kw.0 = sym (c.in_ok-kw.ensures ok.under) in
    let le = cell_small t (g.met.S.Sheet.bounded c.args.self.now.below ok.under) c.args.seat.0 w c.in_ok-kw.kw.0 here in
    let e : c.saturating_sub.result ≡ (c.in_ok-kw.kw.0 + b) - d = omega (arith, le, c.moved-moved.ensures.bought, c.moved-moved.ensures.most, c.moved-moved.ensures.sold) in
    ap (λ (n : ℕ). Some n) e ∙ sym (ap (shifted b d) here)
