-- A trade that meets no ground leaves a book balanced when it is confirmed or cancelled. Assumes nothing.
use Rattle.std.proofs.Common.{◌≡◌, ℕ, ◌<◌, Bool, cond, List, [], ◌∷◌, length, Some, None, Option, refl}
use Rattle.figures.specs.Grounds.{first_of}
use Rattle.figures.specs.declared.units.Hour.{Hour}
use Rattle.sheet.specs.Tables.{Table}
use Rattle.book.specs.declared.faults.BookFault.{BookFault}
use Rattle.book.specs.declared.faults.BookFault.TheVariants.{Blank, Short, Spent}
use Rattle.book.specs.declared.trades.Trade.{Trade}
use Rattle.book.specs.declared.trades.TradeState.{TradeState}
use Rattle.book.specs.declared.trades.TradeState.TheVariants.{Offered, Confirmed}
use Rattle.book.specs.Trades.{is_confirmed, over, Balanced}
use Rattle.book.specs.Deals.{index_of, trade_of, first_blank, first_short, at_hour, cover_grounds, undo_grounds, confirmed_in, cancelled_in}
use Rattle.book.proofs.Balances.{confirm_keeps, withdraw_keeps, undo_keeps}
use Rattle.book.proofs.Calls.{some_none}

no_hour : (e : Hour → BookFault) (x : Option ℕ) (gs : List (Bool × BookFault)) → first_of (at_hour e x ∷ gs) ≡ None → (x ≡ None) × (first_of gs ≡ None)
no_hour e None gs q = (refl, q)
no_hour e (Some h) gs q = absurd (some_none (e (record { 0 = h })) q)

module _ (t : Table) (rs : List Trade) (n : ℕ) (lt : index_of rs n < length rs) (b : Balanced t rs) where
  pub confirm_stays : (trade_of rs n).state ≡ Offered → first_of (cover_grounds (over t rs) (trade_of rs n).offer) ≡ None → Balanced t (confirmed_in rs n)
  confirm_stays g q =
      let o = (trade_of rs n).offer in
      let filled = no_hour Blank (first_blank (over t rs) o) (at_hour Short (first_short (over t rs) o.seller.0 o) ∷ []) q in
      let holds = no_hour Short (first_short (over t rs) o.seller.0 o) [] filled.1 in
      confirm_keeps t rs (index_of rs n) lt b g filled.0 holds.0

  pub cancel_stays : first_of (undo_grounds (over t rs) (trade_of rs n)) ≡ None → Balanced t (cancelled_in rs n)
  cancel_stays q =
      let o = (trade_of rs n).offer in
      let short = first_short (over t rs) o.buyer.0 o in
      let go : (g : TradeState) → (trade_of rs n).state ≡ g → first_of (cond (is_confirmed g) (at_hour Spent short ∷ []) []) ≡ None → Balanced t (cancelled_in rs n)
      = λ g. elim g as (λ g. (trade_of rs n).state ≡ g → first_of (cond (is_confirmed g) (at_hour Spent short ∷ []) []) ≡ None → Balanced t (cancelled_in rs n)) [
        | Offered ↦ λ is k. withdraw_keeps t rs (index_of rs n) lt b is
        | Confirmed ↦ λ is k. undo_keeps t rs (index_of rs n) lt b is (no_hour Spent short [] k).0
      ]
      in go (trade_of rs n).state refl q
