-- The calls of a book: on which grounds they are denied and what they make of the trades. Assumes nothing.
-- Here t is the table below the book, and v the book's own, with the trades that stand.
--   ground_of e          number, layer and place of a fault
--   is_number n r        the trade r has the number n
--   index_of rs n        the index among rs of the trade with the number n, their length where there is none
--   in_book rs n         some trade has the number n
--   trade_of rs n        that trade
--   IsFound rs n f       f is that trade, which is there, and its index
--   first_hour p a n     the first of n hours from hour a on at which p holds
--   first_of_hours o p   the same over the hours of the offer o
--   is_blank a           the cell a is blank
--   lacks k a            the cell a holds less than k kW, or is blank
--   blank_at v o h       in hour h the cell of the offer's seller or of its buyer is blank
--   short_at v s o h     in hour h the seat s holds less than the offer's kW
--   first_blank v o      the first hour of the offer at which a party's cell is blank
--   first_short v s o    the first hour of the offer at which the seat s is short
--   hour_of h            the number of an hour, if there is one
--   at_hour e h          a ground that is met where there is such an hour, and names it
--   beyond t o           a seat, zone, product or hour of the offer is beyond the book
--   misfigured o         its kW are beyond their limits
--   void o               it has one seat on both sides, or its first hour after its last
--   offer_grounds t rs o the grounds on which an offer is denied
--   find_grounds t rs n s
--                        the first grounds on which a confirm of the trade n by the seat s is denied
--   cover_grounds v o    the grounds that remain: on which a trade offered as o is not covered
--   known_grounds rs n   the first ground on which a cancel of the trade n is denied
--   undo_grounds v r     the ground that remains: the buyer holds less than a confirmed trade r
--   begins_before o h    the offer begins before hour h
--   denied_by e r        a denial by the fault e, if there is one, and else the answer r
--   decided gs           the answer to a call under the grounds gs: a denial by the first one met, else it is done
--   decided_from gs b hs the same where a layer above holds the call back if b: after the grounds gs, before hs
--   offer_answer o, confirm_answer n s, cancel_answer n
--                        what a book by itself answers, over the table below and its trades
--   offer_answer_from h o, confirm_answer_from h n s, cancel_answer_from h n
--                        the same where a layer above holds back what begins before hour h
--   deal_of r            a plain answer among those of a call that may be held back
--   after r new was      new where the call was done, and else was
--   NotDone r P          P, where the call was not done
--   IfHeld r P           P, where the call was held back
--   offered rs o         the trades rs with the offer o entered
--   confirmed_in rs n    the trades rs with the trade n confirmed
--   cancelled_in rs n    the trades rs without the trade n
use Rattle.std.specs.Prelude.{◌≡◌, ℕ, zero, suc, ◌+◌, ◌-◌, ◌<◌, Bool, true, false, cond, not, ◌||◌, List, [], ◌∷◌, ◌++◌, length, Some, None, Ok, Err, Option, Result, ◌==◌, nat_le, nat_lt, slice_index_or, slice_set, refl}
use Rattle.std.specs.List.{position_or_len, remove}
use Rattle.figures.specs.Grounds.{first_of}
use Rattle.figures.specs.Limits.{products, max_hours}
use Rattle.figures.specs.declared.grounds.Ground.{Ground}
use Rattle.figures.specs.declared.grounds.Layer.TheVariants.{Book}
use Rattle.figures.specs.declared.units.Hour.{Hour}
use Rattle.sheet.specs.Limits.{max_kw}
use Rattle.sheet.specs.Tables.{Table, at, framed}
use Rattle.book.specs.Limits.{max_trades}
use Rattle.book.specs.Trades.{no_trade, confirmed, is_confirmed, over}
use Rattle.book.specs.declared.deals.Deal.{Deal}
use Rattle.book.specs.declared.deals.Deal.TheVariants.{Done, Held}
use Rattle.book.specs.declared.faults.BookFault.{BookFault}
use Rattle.book.specs.declared.faults.BookFault.TheVariants.{Beyond, Figure, Void, Known, Full, NoTrade, NotConfirmable, Blank, Short, Spent}
use Rattle.book.specs.declared.finds.Found.{Found}
use Rattle.book.specs.declared.trades.Offer.{Offer}
use Rattle.book.specs.declared.trades.Trade.{Trade}
use Rattle.book.specs.declared.trades.TradeState.TheVariants.{Offered, Confirmed}

abbrev pub ground_of : BookFault → Ground
ground_of Beyond = record { number = 6; layer = Book; place = 0 }
ground_of Figure = record { number = 7; layer = Book; place = 0 }
ground_of Void = record { number = 9; layer = Book; place = 0 }
ground_of Known = record { number = 10; layer = Book; place = 0 }
ground_of Full = record { number = 11; layer = Book; place = 0 }
ground_of NoTrade = record { number = 12; layer = Book; place = 0 }
ground_of NotConfirmable = record { number = 13; layer = Book; place = 0 }
ground_of (Blank h) = record { number = 16; layer = Book; place = h.0 }
ground_of (Short h) = record { number = 17; layer = Book; place = h.0 }
ground_of (Spent h) = record { number = 18; layer = Book; place = h.0 }

abbrev pub is_number : ℕ → Trade → Bool
is_number n r = r.offer.number.0 == n

abbrev pub index_of : List Trade → ℕ → ℕ
index_of rs n = position_or_len (is_number n) rs

abbrev pub in_book : List Trade → ℕ → Bool
in_book rs n = nat_lt (index_of rs n) (length rs)

abbrev pub trade_of : List Trade → ℕ → Trade
trade_of rs n = slice_index_or rs (index_of rs n) no_trade

pub record IsFound (rs : List Trade) (n : ℕ) (f : Found) : Type 0 where
  pub index : f.index ≡ index_of rs n
  pub here : index_of rs n < length rs
  pub trade : f.trade ≡ trade_of rs n

abbrev pub first_hour : (ℕ → Bool) → ℕ → ℕ → Option ℕ
first_hour p a zero = None
first_hour p a (suc n) = cond (p a) (Some a) (first_hour p (a + 1) n)

abbrev pub first_of_hours : Offer → (ℕ → Bool) → Option ℕ
first_of_hours o p = first_hour p o.first.0 ((o.last.0 + 1) - o.first.0)

abbrev pub is_blank : Option ℕ → Bool
is_blank None = true
is_blank (Some x) = false

abbrev pub lacks : ℕ → Option ℕ → Bool
lacks k None = true
lacks k (Some x) = nat_lt x k

abbrev pub blank_at : Table → Offer → ℕ → Bool
blank_at v o h = is_blank (v.cell o.seller.0 (at o.zone.0 o.product.0 h)) || is_blank (v.cell o.buyer.0 (at o.zone.0 o.product.0 h))

abbrev pub short_at : Table → ℕ → Offer → ℕ → Bool
short_at v s o h = lacks o.kw.0 (v.cell s (at o.zone.0 o.product.0 h))

abbrev pub first_blank : Table → Offer → Option ℕ
first_blank v o = first_of_hours o (blank_at v o)

abbrev pub first_short : Table → ℕ → Offer → Option ℕ
first_short v s o = first_of_hours o (short_at v s o)

abbrev pub hour_of : Option Hour → Option ℕ
hour_of None = None
hour_of (Some h) = Some h.0

abbrev pub at_hour : (Hour → BookFault) → Option ℕ → Bool × BookFault
at_hour e None = (false, e (record { 0 = 0 }))
at_hour e (Some h) = (true, e (record { 0 = h }))

abbrev pub beyond : Table → Offer → Bool
beyond t o = nat_le t.seats o.seller.0 || (nat_le t.seats o.buyer.0 || (nat_le t.zones o.zone.0 || (nat_le products o.product.0 || (nat_le max_hours o.first.0 || nat_le max_hours o.last.0))))

abbrev pub misfigured : Offer → Bool
misfigured o = o.kw.0 == 0 || nat_lt max_kw o.kw.0

abbrev pub void : Offer → Bool
void o = o.seller.0 == o.buyer.0 || nat_lt o.last.0 o.first.0

abbrev pub offer_grounds : Table → List Trade → Offer → List (Bool × BookFault)
offer_grounds t rs o = (beyond t o, Beyond) ∷ (misfigured o, Figure) ∷ (void o, Void) ∷ (in_book rs o.number.0, Known) ∷ (nat_le max_trades (length rs), Full) ∷ []

abbrev pub find_grounds : Table → List Trade → ℕ → ℕ → List (Bool × BookFault)
find_grounds t rs n s =
    (nat_le t.seats s, Beyond)
    ∷ (not (in_book rs n), NoTrade)
    ∷ (not ((trade_of rs n).offer.buyer.0 == s) || is_confirmed (trade_of rs n).state, NotConfirmable)
    ∷ []

abbrev pub cover_grounds : Table → Offer → List (Bool × BookFault)
cover_grounds v o = at_hour Blank (first_blank v o) ∷ at_hour Short (first_short v o.seller.0 o) ∷ []

abbrev pub known_grounds : List Trade → ℕ → List (Bool × BookFault)
known_grounds rs n = (not (in_book rs n), NoTrade) ∷ []

abbrev pub undo_grounds : Table → Trade → List (Bool × BookFault)
undo_grounds v r = cond (is_confirmed r.state) (at_hour Spent (first_short v r.offer.buyer.0 r.offer) ∷ []) []

abbrev pub begins_before : Offer → ℕ → Bool
begins_before o h = nat_lt o.first.0 h

abbrev pub denied_by : Option BookFault → Result Deal BookFault → Result Deal BookFault
denied_by (Some e) r = Err e
denied_by None r = r

abbrev pub decided : List (Bool × BookFault) → Result Deal BookFault
decided gs = denied_by (first_of gs) (Ok Done)

abbrev pub decided_from : List (Bool × BookFault) → Bool → List (Bool × BookFault) → Result Deal BookFault
decided_from gs b hs = denied_by (first_of gs) (cond b (Ok Held) (decided hs))

abbrev pub offer_answer : Offer → Table → List Trade → Result Deal BookFault
offer_answer o t rs = decided (offer_grounds t rs o)

abbrev pub confirm_answer : ℕ → ℕ → Table → List Trade → Result Deal BookFault
confirm_answer n s t rs = decided (find_grounds t rs n s ++ cover_grounds (over t rs) (trade_of rs n).offer)

abbrev pub cancel_answer : ℕ → Table → List Trade → Result Deal BookFault
cancel_answer n t rs = decided (known_grounds rs n ++ undo_grounds (over t rs) (trade_of rs n))

abbrev pub offer_answer_from : ℕ → Offer → Table → List Trade → Result Deal BookFault
offer_answer_from h o t rs = decided_from (offer_grounds t rs o) (begins_before o h) []

abbrev pub confirm_answer_from : ℕ → ℕ → ℕ → Table → List Trade → Result Deal BookFault
confirm_answer_from h n s t rs = decided_from (find_grounds t rs n s) (begins_before (trade_of rs n).offer h) (cover_grounds (over t rs) (trade_of rs n).offer)

abbrev pub cancel_answer_from : ℕ → ℕ → Table → List Trade → Result Deal BookFault
cancel_answer_from h n t rs = decided_from (known_grounds rs n) (begins_before (trade_of rs n).offer h) (undo_grounds (over t rs) (trade_of rs n))

abbrev pub deal_of : Result Unit BookFault → Result Deal BookFault
deal_of (Ok x) = Ok Done
deal_of (Err e) = Err e

abbrev pub after : {X : Type 0} → Result Deal BookFault → X → X → X
after (Ok Done) new was = new
after (Ok Held) new was = was
after (Err e) new was = was

abbrev pub NotDone : Result Deal BookFault → Type 0 → Type 0
NotDone (Ok Done) P = Unit
NotDone (Ok Held) P = P
NotDone (Err e) P = P

abbrev pub IfHeld : Result Deal BookFault → Type 0 → Type 0
IfHeld (Ok Done) P = Unit
IfHeld (Ok Held) P = P
IfHeld (Err e) P = Unit

abbrev pub offered : List Trade → Offer → List Trade
offered rs o = rs ++ record { offer = o; state = Offered } ∷ []

abbrev pub confirmed_in : List Trade → ℕ → List Trade
confirmed_in rs n = slice_set rs (index_of rs n) (confirmed (trade_of rs n))

abbrev pub cancelled_in : List Trade → ℕ → List Trade
cancelled_in rs n = remove rs (index_of rs n)

-- two seats that hold 10 kW each, but seat 0 holds 6 in hour 3, and seat 1's cell is blank from hour 5 on
abbrev cells : Table
cells = framed 2 1 (λ s w. cond (s == 0) (Some (cond (w.hour.0 == 3) 6 10)) (cond (nat_lt w.hour.0 5) (Some 10) None))

-- seat 0 offers seat 1 k kW of product 0 in zone 0, from hour 2 to hour l
abbrev sale : ℕ → ℕ → Offer
sale l k = record { number = record { 0 = 7 }; seller = record { 0 = 0 }; buyer = record { 0 = 1 }; zone = record { 0 = 0 }; product = record { 0 = 0 }; first = record { 0 = 2 }; last = record { 0 = l }; kw = record { 0 = k } }

-- seat 1 sells on k kW in hour 4 alone, and that stands
abbrev resale : ℕ → Trade
resale k = record { offer = record { number = record { 0 = 8 }; seller = record { 0 = 1 }; buyer = record { 0 = 0 }; zone = record { 0 = 0 }; product = record { 0 = 0 }; first = record { 0 = 4 }; last = record { 0 = 4 }; kw = record { 0 = k } }; state = Confirmed }

taken : offer_answer (sale 743 16000000) cells [] ≡ Ok Done
taken = refl

past_the_month : offer_answer (sale 744 1) cells [] ≡ Err Beyond
past_the_month = refl

nothing : offer_answer (sale 4 0) cells [] ≡ Err Figure
nothing = refl

too_much : offer_answer (sale 4 16000001) cells [] ≡ Err Figure
too_much = refl

backward : offer_answer (sale 1 1) cells [] ≡ Err Void
backward = refl

twice : offer_answer (sale 4 1) cells (offered [] (sale 3 1)) ≡ Err Known
twice = refl

covered : confirm_answer 7 1 cells (offered [] (sale 4 6)) ≡ Ok Done
covered = refl

short : confirm_answer 7 1 cells (offered [] (sale 4 7)) ≡ Err (Short (record { 0 = 3 }))
short = refl

-- a blank is met before a seller that is short, in whichever hour
blank : confirm_answer 7 1 cells (offered [] (sale 6 7)) ≡ Err (Blank (record { 0 = 5 }))
blank = refl

by_the_seller : confirm_answer 7 0 cells (offered [] (sale 4 6)) ≡ Err NotConfirmable
by_the_seller = refl

begun : confirm_answer_from 3 7 1 cells (offered [] (sale 4 7)) ≡ Ok Held
begun = refl

no_such_trade : cancel_answer 9 cells (offered [] (sale 4 6)) ≡ Err NoTrade
no_such_trade = refl

-- seat 1 has 16 kW in hour 4 by the trade, and still 6 when it sold on 10
spared : cancel_answer 7 cells (resale 10 ∷ confirmed_in (offered [] (sale 4 6)) 7) ≡ Ok Done
spared = refl

spent : cancel_answer 7 cells (resale 11 ∷ confirmed_in (offered [] (sale 4 6)) 7) ≡ Err (Spent (record { 0 = 4 }))
spent = refl
