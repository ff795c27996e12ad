-- Trades, and what those that stand do to a table. Assumes nothing.
--   no_trade         what a list of trades is read as beyond its end
--   confirmed r      the trade r, confirmed
--   is_confirmed g   the state g is that of a confirmed trade
--   turn_of g e      what the event e is to a trade in the state g: it is confirmed once; cancelled, it is withdrawn while
--                    offered and undone once confirmed
--   after_turn r e   the trade r when the event e has happened to it; one that is cancelled leaves the book as it is
--   covers o h       the hour h is one of those of the offer o, the first and the last among them
--   reaches o w      the offer o is of the zone and product of the place w, and covers its hour
--   stands w r       the trade r is confirmed and reaches the place w
--   buys s w r       the kW that the trade r, if it stands there, brings to the seat s at the place w
--   sells s w r      the kW that it takes from it
--   bought_at s w rs the standing purchases of a seat at a place
--   sold_at s w rs   the standing sales
--   shifted b s a    a cell with b kW bought and s kW sold; a blank stays a blank
--   over t rs        the table t under the trades rs
--   Each P rs        P holds of each of the trades rs
--   Fit o            the offer's kW are 1 to the limit, and its hours are in order and within the limit
--   Apart rs         no two of the trades rs have one number
--   Sound t o        the parties of the offer o are two seats of the table
--   Balanced t rs    the trades rs are sound on the table t: no seat has sold more than it holds and has bought, and
--                    nothing is traded in a blank cell
use Rattle.std.specs.Prelude.{◌≡◌, ℕ, ◌+◌, ◌-◌, ◌<◌, ◌≤◌, Bool, true, false, cond, ◌&&◌, List, [], ◌∷◌, length, Some, None, Ok, Err, sum_by, Option, Result, ◌==◌, ◌≢◌, nat_le, slice_index_or, refl}
use Rattle.figures.specs.Limits.{max_hours}
use Rattle.sheet.specs.Limits.{max_kw}
use Rattle.sheet.specs.declared.places.Place.{Place}
use Rattle.sheet.specs.Tables.{Table, at, framed, filled}
use Rattle.book.specs.declared.faults.BookFault.{BookFault}
use Rattle.book.specs.declared.faults.BookFault.TheVariants.{NotConfirmable}
use Rattle.book.specs.declared.trades.Offer.{Offer}
use Rattle.book.specs.declared.trades.Trade.{Trade}
use Rattle.book.specs.declared.trades.TradeEvent.{TradeEvent}
use Rattle.book.specs.declared.trades.TradeEvent.TheVariants.{Confirm, Cancel}
use Rattle.book.specs.declared.trades.TradeState.{TradeState}
use Rattle.book.specs.declared.trades.TradeState.TheVariants.{Offered, Confirmed}
use Rattle.book.specs.declared.trades.Turn.{Turn}
use Rattle.book.specs.declared.trades.Turn.TheVariants.{Stands, Withdrawn, Undone}

abbrev pub no_trade : Trade
no_trade = record { offer = record { number = record { 0 = 0 }; seller = record { 0 = 0 }; buyer = record { 0 = 0 }; zone = record { 0 = 0 }; product = record { 0 = 0 }; first = record { 0 = 0 }; last = record { 0 = 0 }; kw = record { 0 = 0 } }; state = Offered }

abbrev pub confirmed : Trade → Trade
confirmed r = record { offer = r.offer; state = Confirmed }

abbrev pub is_confirmed : TradeState → Bool
is_confirmed Offered = false
is_confirmed Confirmed = true

abbrev pub turn_of : TradeState → TradeEvent → Result Turn BookFault
turn_of Offered Confirm = Ok Stands
turn_of Confirmed Confirm = Err NotConfirmable
turn_of Offered Cancel = Ok Withdrawn
turn_of Confirmed Cancel = Ok Undone

abbrev pub after_turn : Trade → TradeEvent → Trade
after_turn r Confirm = confirmed r
after_turn r Cancel = r

abbrev pub covers : Offer → ℕ → Bool
covers o h = nat_le o.first.0 h && nat_le h o.last.0

abbrev pub reaches : Offer → Place → Bool
reaches o w = o.zone.0 == w.zone.0 && (o.product.0 == w.product.0 && covers o w.hour.0)

abbrev pub stands : Place → Trade → Bool
stands w r = is_confirmed r.state && reaches r.offer w

abbrev pub buys : ℕ → Place → Trade → ℕ
buys s w r = cond (stands w r && r.offer.buyer.0 == s) r.offer.kw.0 0

abbrev pub sells : ℕ → Place → Trade → ℕ
sells s w r = cond (stands w r && r.offer.seller.0 == s) r.offer.kw.0 0

abbrev pub bought_at : ℕ → Place → List Trade → ℕ
bought_at s w rs = sum_by (buys s w) rs

abbrev pub sold_at : ℕ → Place → List Trade → ℕ
sold_at s w rs = sum_by (sells s w) rs

-- on a balanced book this `-` never stops at 0
abbrev pub shifted : ℕ → ℕ → Option ℕ → Option ℕ
shifted b s None = None
shifted b s (Some x) = Some ((x + b) - s)

abbrev pub over : Table → List Trade → Table
over t rs = record { seats = t.seats; zones = t.zones; cell = λ s w. shifted (bought_at s w rs) (sold_at s w rs) (t.cell s w) }

abbrev pub Each : (Trade → Type 0) → List Trade → Type 0
Each P rs = (k : ℕ) → k < length rs → P (slice_index_or rs k no_trade)

abbrev pub Fit : Offer → Type 0
Fit o = (0 < o.kw.0) × (o.kw.0 ≤ max_kw) × (o.first.0 ≤ o.last.0) × (o.last.0 < max_hours)

abbrev pub Apart : List Trade → Type 0
Apart rs = (j k : ℕ) → (j < k) × (k < length rs) → (slice_index_or rs j no_trade).offer.number.0 ≢ (slice_index_or rs k no_trade).offer.number.0

pub record Sound (t : Table) (o : Offer) : Type 0 where
  pub seller : o.seller.0 < t.seats
  pub buyer : o.buyer.0 < t.seats
  pub apart : o.seller.0 ≡ o.buyer.0 → ⊥

pub record Balanced (t : Table) (rs : List Trade) : Type 0 where
  pub parties : Each (λ r. Sound t r.offer) rs
  pub covered : (s : ℕ) (w : Place) → sold_at s w rs ≤ filled (t.cell s w) + bought_at s w rs
  pub untouched : (s : ℕ) (w : Place) → t.cell s w ≡ None → (sold_at s w rs ≡ 0) × (bought_at s w rs ≡ 0)

-- three seats that hold 10 kW each; seat 0 sells 4 kW of product 0 in zone 0 to seat 1, in the hours 2 and 3
abbrev example : TradeState → Trade
example g = record { offer = record { number = record { 0 = 7 }; seller = record { 0 = 0 }; buyer = record { 0 = 1 }; zone = record { 0 = 0 }; product = record { 0 = 0 }; first = record { 0 = 2 }; last = record { 0 = 3 }; kw = record { 0 = 4 } }; state = g }

abbrev tens : Table
tens = framed 3 1 (λ s w. Some 10)

sold : (over tens (example Confirmed ∷ [])).cell 0 (at 0 0 2) ≡ Some 6
sold = refl

bought : (over tens (example Confirmed ∷ [])).cell 1 (at 0 0 3) ≡ Some 14
bought = refl

hour_before : (over tens (example Confirmed ∷ [])).cell 0 (at 0 0 1) ≡ Some 10
hour_before = refl

hour_after : (over tens (example Confirmed ∷ [])).cell 0 (at 0 0 4) ≡ Some 10
hour_after = refl

other_product : (over tens (example Confirmed ∷ [])).cell 0 (at 0 1 2) ≡ Some 10
other_product = refl

other_seat : (over tens (example Confirmed ∷ [])).cell 2 (at 0 0 2) ≡ Some 10
other_seat = refl

only_offered : (over tens (example Offered ∷ [])).cell 0 (at 0 0 2) ≡ Some 10
only_offered = refl
