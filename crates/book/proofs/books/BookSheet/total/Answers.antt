use Rattle.std.proofs.Common.{vec_items, sym, ◌∙◌}
use Rattle.book.specs.Totals.{over_total}
use Rattle.book.proofs.books.BookSheet.total.Goals as goal

pub returns : goal.returns
returns g c ok = c.total.ensures ok.under ∙ sym (over_total (g.S.Sheet.table c.args.self.now.below) (vec_items c.args.self.now.ledger.trades) c.args.place ok.trades)
