use Rattle.std.proofs.Common.{Bool, List, [], vec_items, refl}
use Rattle.std.proofs.lemmas.Result.{err_from_is_err_and}
use Rattle.sheet.specs.Tables.{Table}
use Rattle.book.specs.declared.faults.BookFault.{BookFault}
use Rattle.book.specs.declared.trades.Offer.{Offer}
use Rattle.book.specs.declared.trades.Trade.{Trade}
use Rattle.book.specs.Deals.{offer_grounds, offered, begins_before}
use Rattle.book.proofs.Balances.{offer_keeps}
use Rattle.book.proofs.Calls.{begun, denied_at_first, held_back, done, offer_sound}
use Rattle.book.proofs.kept.Book.offer_from.Goals as goal

-- the grounds of an offer, all before the layer above judges
abbrev first : Offer → Table → List Trade → List (Bool × BookFault)
first o t rs = offer_grounds t rs o

abbrev rest : Table → List Trade → List (Bool × BookFault)
rest t rs = []

abbrev new : Offer → List Trade → List Trade
new o rs = offered rs o

pub returns-in_err-admits-clause-call : goal.returns-in_err-admits-clause-call
returns-in_err-admits-clause-call g c =
    let p = err_from_is_err_and c.from_residual.result c.from_residual.ensures.1 in
    let o = c.args.offer in
    rw (p.1, p.2) (denied_at_first g.S.Sheet.table g.S.Sheet.lawful (first o) rest (λ _. begins_before o c.args.from.0) (new o) c.args.self.now c.in_err-admits.field-0.0 c.in_err-admits.ensures.judged)

pub returns-then-lt-clause-call : goal.returns-then-lt-clause-call
returns-then-lt-clause-call g c =
    let o = c.args.offer in
    held_back g.S.Sheet.table g.S.Sheet.lawful (first o) rest (λ _. begins_before o c.args.from.0) (new o) c.args.self.now c.in_ok-admits.ensures.judged (begun o o c.args.from.0 _ refl c.if-lt.ensures)

pub returns-clause-call : goal.returns-clause-call
returns-clause-call g c =
    let o = c.args.offer in
    let b = c.args.self.now in
    let t = g.S.Sheet.table b.below in
    let rs = vec_items b.ledger.trades in
    let none = c.in_ok-admits.ensures.judged in
    done g.S.Sheet.table g.S.Sheet.lawful (first o) rest (λ _. begins_before o c.args.from.0) (new o) b none (begun o o c.args.from.0 _ refl c.if-lt.ensures) (λ ok. refl)
    _ refl c.enter.ensures (λ ok. offer_keeps t rs o (offer_sound t rs o (none ok)) ok.trades)
