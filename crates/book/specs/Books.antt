-- A book over a sheet: what it means, when it is lawful, and what one call of it is. Assumes nothing.
--   table_of b   what a book means: the table of the sheet below, under the trades
--   Lawful b     the sheet below is lawful and the trades are balanced on it
--   AddsUp b     at every place all seats together hold in the book what they hold below
--   Called answer new b r c
--                a call of the book b answered r and left c; answer says what it answers over the table below and the
--                trades, and new what becomes of the trades where it is done
use Rattle.std.specs.Prelude.{◌≡◌, List, vec_items, Result}
use Rattle.sheet.specs.declared.places.Place.{Place}
use Rattle.sheet.specs.Tables.{Table, total_at}
use Rattle.book.specs.Trades.{over, Balanced}
use Rattle.book.specs.Deals.{after, NotDone}
use Rattle.book.specs.declared.kept.Book.{Book}
use Rattle.book.specs.declared.deals.Deal.{Deal}
use Rattle.book.specs.declared.faults.BookFault.{BookFault}
use Rattle.book.specs.declared.trades.Trade.{Trade}

module _ {S : Type 0} (table : S → Table) where
  abbrev pub table_of : Book S → Table
  table_of b = over (table b.below) (vec_items b.ledger.trades)

  abbrev pub AddsUp : Book S → Type 0
  AddsUp b = (w : Place) → total_at (table_of b) w ≡ total_at (table b.below) w

  pub record Lawful (lawful : S → Type 0) (b : Book S) : Type 0 where
    pub under : lawful b.below
    pub trades : Balanced (table b.below) (vec_items b.ledger.trades)

module _ {S : Type 0} (table : S → Table) (lawful : S → Type 0) where
  pub record Called (answer : Table → List Trade → Result Deal BookFault) (new : List Trade → List Trade) (b : Book S) (r : Result Deal BookFault) (c : Book S) : Type 0 where
    pub below : c.below ≡ b.below
    pub trades : vec_items c.ledger.trades ≡ after r (new (vec_items b.ledger.trades)) (vec_items b.ledger.trades)
    -- a call that is not done leaves the whole book equal
    pub unaltered : NotDone r (c ≡ b)
    pub answers : Lawful table lawful b → r ≡ answer (table b.below) (vec_items b.ledger.trades)
    pub stays : Lawful table lawful b → Lawful table lawful c
    pub adds_up : Lawful table lawful b → AddsUp table c
