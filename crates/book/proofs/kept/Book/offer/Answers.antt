use Rattle.std.proofs.Common.{List, [], Ok, refl}
use Rattle.std.proofs.lemmas.Result.{err_from_is_err_and}
use Rattle.sheet.specs.Tables.{Table}
use Rattle.book.specs.declared.deals.Deal.TheVariants.{Done}
use Rattle.book.specs.declared.trades.Trade.{Trade}
use Rattle.book.specs.Deals.{offer_grounds, offered, offer_answer, offer_answer_from}
use Rattle.book.proofs.Calls.{plain, only_done, same_call}
use Rattle.book.proofs.kept.Book.offer.Goals as goal

pub returns-in_err-offer_from : goal.returns-in_err-offer_from
returns-in_err-offer_from g c =
    let p = err_from_is_err_and c.from_residual.result c.from_residual.ensures.1 in
    rw (p.1, p.2) (same_call g.S.Sheet.table g.S.Sheet.lawful (offer_answer_from 0 c.args.offer) (offer_answer c.args.offer) (λ (rs : List Trade). offered rs c.args.offer) c.args.self.now _ _ _ (λ (t : Table) (rs : List Trade). plain (offer_grounds t rs c.args.offer) [] c.args.offer) refl c.in_err-offer_from.ensures.call)

pub returns : goal.returns
returns g c = same_call g.S.Sheet.table g.S.Sheet.lawful (offer_answer_from 0 c.args.offer) (offer_answer c.args.offer) (λ (rs : List Trade). offered rs c.args.offer) c.args.self.now _ (Ok Done) _ (λ (t : Table) (rs : List Trade). plain (offer_grounds t rs c.args.offer) [] c.args.offer) (only_done _ c.args.offer c.in_ok-offer_from.ensures.held) c.in_ok-offer_from.ensures.call
