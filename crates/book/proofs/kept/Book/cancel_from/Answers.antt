use Rattle.std.proofs.Common.{◌≡◌, ℕ, Bool, List, Some, None, vec_items, refl, ap, ◌∙◌, subst}
use Rattle.std.proofs.lemmas.Result.{err_from_is_err_and}
use Rattle.std.specs.List.{remove}
use Rattle.figures.specs.Grounds.{first_of}
use Rattle.sheet.specs.Tables.{Table}
use Rattle.book.specs.declared.faults.BookFault.{BookFault}
use Rattle.book.specs.declared.trades.Trade.{Trade}
use Rattle.book.specs.Trades.{over}
use Rattle.book.specs.Deals.{trade_of, known_grounds, undo_grounds, cancelled_in, begins_before}
use Rattle.book.specs.Books.{Lawful}
use Rattle.book.proofs.Calls.{begun, denied_at_first, held_back, denied_at_rest, done}
use Rattle.book.proofs.Stays.{cancel_stays}
use Rattle.book.proofs.kept.Book.cancel_from.Goals as goal

-- the grounds of a cancel before the layer above judges, and those after
abbrev first : ℕ → Table → List Trade → List (Bool × BookFault)
first n t rs = known_grounds rs n

abbrev rest : ℕ → Table → List Trade → List (Bool × BookFault)
rest n t rs = undo_grounds (over t rs) (trade_of rs n)

abbrev late : ℕ → ℕ → List Trade → Bool
late n h rs = begins_before (trade_of rs n).offer h

abbrev new : ℕ → List Trade → List Trade
new n rs = cancelled_in rs n

pub returns-in_err-found-clause-call : goal.returns-in_err-found-clause-call
returns-in_err-found-clause-call g c =
    let p = err_from_is_err_and c.from_residual.result c.from_residual.ensures.1 in
    let n = c.args.number.0 in
    rw (p.1, p.2) (denied_at_first g.S.Sheet.table g.S.Sheet.lawful (first n) (rest n) (late n c.args.from.0) (new n) c.args.self.now c.in_err-found.field-0.0 (λ ok. c.in_err-found.ensures.judged))

pub returns-then-lt-clause-call : goal.returns-then-lt-clause-call
returns-then-lt-clause-call g c =
    let n = c.args.number.0 in
    let found = c.in_ok-found.ensures in
    let is = begun _ _ c.args.from.0 _ (ap (λ (r : Trade). r.offer) found.found.trade) c.if-lt.ensures in
    held_back g.S.Sheet.table g.S.Sheet.lawful (first n) (rest n) (late n c.args.from.0) (new n) c.args.self.now (λ ok. found.judged) is

pub returns-in_err-spares-clause-call : goal.returns-in_err-spares-clause-call
returns-in_err-spares-clause-call g c =
    let p = err_from_is_err_and c.from_residual-in_err-spares.result c.from_residual-in_err-spares.ensures.1 in
    let n = c.args.number.0 in
    let b = c.args.self.now in
    let found = c.in_ok-found.ensures in
    let is = begun _ _ c.args.from.0 _ (ap (λ (r : Trade). r.offer) found.found.trade) c.if-lt.ensures in
    let e = c.in_err-spares.field-0.0 in
    let v = over (g.S.Sheet.table b.below) (vec_items b.ledger.trades) in
    rw (p.1, p.2) (denied_at_rest g.S.Sheet.table g.S.Sheet.lawful (first n) (rest n) (late n c.args.from.0) (new n) b (λ ok. found.judged) is e (λ ok. subst (λ (r : Trade). first_of (undo_grounds v r) ≡ Some e) found.found.trade (c.in_err-spares.ensures ok)))

pub returns-clause-call : goal.returns-clause-call
returns-clause-call g c =
    let n = c.args.number.0 in
    let b = c.args.self.now in
    let t = g.S.Sheet.table b.below in
    let rs = vec_items b.ledger.trades in
    let found = c.in_ok-found.ensures in
    let is = begun _ _ c.args.from.0 _ (ap (λ (r : Trade). r.offer) found.found.trade) c.if-lt.ensures in
    let none : Lawful g.S.Sheet.table g.S.Sheet.lawful b → first_of (rest n t rs) ≡ None = λ ok. subst (λ (r : Trade). first_of (undo_grounds (over t rs) r) ≡ None) found.found.trade (c.in_ok-spares.ensures ok) in
    let items = c.strike.ensures ∙ ap (remove rs) found.found.index in
    done g.S.Sheet.table g.S.Sheet.lawful (first n) (rest n) (late n c.args.from.0) (new n) b (λ ok. found.judged) is
    none _ refl items
    (λ ok. cancel_stays t rs n found.found.here ok.trades (none ok))
