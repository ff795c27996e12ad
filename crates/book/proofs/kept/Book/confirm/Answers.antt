use Rattle.std.proofs.Common.{List, Ok, vec_items, refl}
use Rattle.std.proofs.lemmas.Result.{err_from_is_err_and}
use Rattle.sheet.specs.Tables.{Table}
use Rattle.book.specs.declared.deals.Deal.TheVariants.{Done}
use Rattle.book.specs.declared.trades.Trade.{Trade}
use Rattle.book.specs.Trades.{over}
use Rattle.book.specs.Deals.{trade_of, find_grounds, cover_grounds, confirmed_in, confirm_answer, confirm_answer_from}
use Rattle.book.proofs.Calls.{plain, only_done, same_call}
use Rattle.book.proofs.kept.Book.confirm.Goals as goal

pub returns-in_err-confirm_from : goal.returns-in_err-confirm_from
returns-in_err-confirm_from g c =
    let p = err_from_is_err_and c.from_residual.result c.from_residual.ensures.1 in
    rw (p.1, p.2) (same_call g.S.Sheet.table g.S.Sheet.lawful (confirm_answer_from 0 c.args.number.0 c.args.seat.0) (confirm_answer c.args.number.0 c.args.seat.0) (λ (rs : List Trade). confirmed_in rs c.args.number.0) c.args.self.now _ _ _ (λ (t : Table) (rs : List Trade). plain (find_grounds t rs c.args.number.0 c.args.seat.0) (cover_grounds (over t rs) (trade_of rs c.args.number.0).offer) (trade_of rs c.args.number.0).offer) refl c.in_err-confirm_from.ensures.call)

pub returns : goal.returns
returns g c = same_call g.S.Sheet.table g.S.Sheet.lawful (confirm_answer_from 0 c.args.number.0 c.args.seat.0) (confirm_answer c.args.number.0 c.args.seat.0) (λ (rs : List Trade). confirmed_in rs c.args.number.0) c.args.self.now _ (Ok Done) _ (λ (t : Table) (rs : List Trade). plain (find_grounds t rs c.args.number.0 c.args.seat.0) (cover_grounds (over t rs) (trade_of rs c.args.number.0).offer) (trade_of rs c.args.number.0).offer) (only_done _ (trade_of (vec_items c.args.self.now.ledger.trades) c.args.number.0).offer c.in_ok-confirm_from.ensures.held) c.in_ok-confirm_from.ensures.call
