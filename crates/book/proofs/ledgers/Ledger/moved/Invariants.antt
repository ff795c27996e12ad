use Rattle.std.proofs.Common.{◌≡◌, ◌*◌, ◌≤◌, take}
use Rattle.sheet.specs.Limits.{max_kw}
use Rattle.book.specs.Trades.{bought_at, sold_at}
use Rattle.book.proofs.ledgers.Ledger.moved.Given as goal

abbrev pub invariant-loop-trade : goal.invariant-loop-trade
invariant-loop-trade l =
    (l.all.bought ≤ max_kw * l.trade-index)
    × (l.all.sold ≤ max_kw * l.trade-index)
    × (l.all.bought ≡ bought_at l.seat.0 l.place (take l.trade-index l.trade-items))
    × (l.all.sold ≡ sold_at l.seat.0 l.place (take l.trade-index l.trade-items))
