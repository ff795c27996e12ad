use Rattle.std.proofs.Common.{◌≡◌, ℕ, Bool, List, get_or, set, Some, None, vec_items, refl, ap, ◌∙◌, subst}
use Rattle.std.proofs.lemmas.Result.{err_from_is_err_and}
use Rattle.figures.specs.Grounds.{first_of}
use Rattle.sheet.specs.Tables.{Table}
use Rattle.book.specs.declared.faults.BookFault.{BookFault}
use Rattle.book.specs.declared.trades.Trade.{Trade}
use Rattle.book.specs.declared.trades.TradeState.TheVariants.{Offered}
use Rattle.book.specs.Trades.{no_trade, confirmed, over}
use Rattle.book.specs.Deals.{trade_of, find_grounds, cover_grounds, confirmed_in, begins_before}
use Rattle.book.specs.Books.{Lawful}
use Rattle.book.proofs.Calls.{begun, denied_at_first, held_back, denied_at_rest, done}
use Rattle.book.proofs.Stays.{confirm_stays}
use Rattle.book.proofs.kept.Book.confirm_from.Goals as goal

-- the grounds of a confirm before the layer above judges, and those after
abbrev first : ℕ → ℕ → Table → List Trade → List (Bool × BookFault)
first n s t rs = find_grounds t rs n s

abbrev rest : ℕ → Table → List Trade → List (Bool × BookFault)
rest n t rs = cover_grounds (over t rs) (trade_of rs n).offer

abbrev late : ℕ → ℕ → List Trade → Bool
late n h rs = begins_before (trade_of rs n).offer h

abbrev new : ℕ → List Trade → List Trade
new n rs = confirmed_in rs n

pub returns-in_err-found-clause-call : goal.returns-in_err-found-clause-call
returns-in_err-found-clause-call g c =
    let p = err_from_is_err_and c.from_residual.result c.from_residual.ensures.1 in
    let n = c.args.number.0 in
    rw (p.1, p.2) (denied_at_first g.S.Sheet.table g.S.Sheet.lawful (first n c.args.seat.0) (rest n) (late n c.args.from.0) (new n) c.args.self.now c.in_err-found.field-0.0 c.in_err-found.ensures.judged)

pub returns-then-lt-clause-call : goal.returns-then-lt-clause-call
returns-then-lt-clause-call g c =
    let n = c.args.number.0 in
    let found = c.in_ok-found.ensures in
    let is = begun _ _ c.args.from.0 _ (ap (λ (r : Trade). r.offer) found.found.0.trade) c.if-lt.ensures in
    held_back g.S.Sheet.table g.S.Sheet.lawful (first n c.args.seat.0) (rest n) (late n c.args.from.0) (new n) c.args.self.now found.judged is

pub returns-in_err-check_cover-clause-call : goal.returns-in_err-check_cover-clause-call
returns-in_err-check_cover-clause-call g c =
    let p = err_from_is_err_and c.from_residual-in_err-check_cover.result c.from_residual-in_err-check_cover.ensures.1 in
    let n = c.args.number.0 in
    let b = c.args.self.now in
    let found = c.in_ok-found.ensures in
    let is = begun _ _ c.args.from.0 _ (ap (λ (r : Trade). r.offer) found.found.0.trade) c.if-lt.ensures in
    let e = c.in_err-check_cover.field-0.0 in
    let v = over (g.S.Sheet.table b.below) (vec_items b.ledger.trades) in
    rw (p.1, p.2) (denied_at_rest g.S.Sheet.table g.S.Sheet.lawful (first n c.args.seat.0) (rest n) (late n c.args.from.0) (new n) b found.judged is e (λ ok. subst (λ (r : Trade). first_of (cover_grounds v r.offer) ≡ Some e) found.found.0.trade (c.in_err-check_cover.ensures ok)))

pub returns-clause-call : goal.returns-clause-call
returns-clause-call g c =
    let n = c.args.number.0 in
    let b = c.args.self.now in
    let t = g.S.Sheet.table b.below in
    let rs = vec_items b.ledger.trades in
    let found = c.in_ok-found.ensures in
    let is = begun _ _ c.args.from.0 _ (ap (λ (r : Trade). r.offer) found.found.0.trade) c.if-lt.ensures in
    let none : Lawful g.S.Sheet.table g.S.Sheet.lawful b → first_of (rest n t rs) ≡ None = λ ok. subst (λ (r : Trade). first_of (cover_grounds (over t rs) r.offer) ≡ None) found.found.0.trade (c.in_ok-check_cover.ensures ok) in
    let items = c.stand.ensures.trades ∙ ap (λ (k : ℕ). set rs k (confirmed (get_or rs k no_trade))) found.found.0.index in
    let offered = subst (λ (r : Trade). r.state ≡ Offered) found.found.0.trade found.found.1 in
    done g.S.Sheet.table g.S.Sheet.lawful (first n c.args.seat.0) (rest n) (late n c.args.from.0) (new n) b found.judged is
    none _ refl items
    (λ ok. confirm_stays t rs n found.found.0.here ok.trades offered (none ok))
