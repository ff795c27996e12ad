-- The fields of each kind. Assumes nothing.
--   month_limits, amount_limits, offer_limits, confirm_limits, word_limits, load_limits
--                  the most that each number may be, in order, of an M, of an A or a T, of an O, of a C, of an X or an H, and of an L
--   limits_of k    the same, by the letter k; none where there is no such kind
--   month_figures m, amount_figures a, offer_figures o, confirm_figures c, load_figures l
--                  the numbers that each says, in the same order
--   figures_of e   the numbers that the entry e says
use Rattle.std.specs.Prelude.{◌≡◌, ℕ, cond, List, [], ◌∷◌, Some, None, Option, ◌==◌, refl}
use Rattle.book.specs.declared.trades.Offer.{Offer as Sale}
use Rattle.records.specs.declared.entries.Amount.{Amount}
use Rattle.records.specs.declared.entries.Confirmation.{Confirmation}
use Rattle.records.specs.declared.entries.LoadSet.{LoadSet}
use Rattle.records.specs.declared.entries.MonthSet.{MonthSet}
use Rattle.records.specs.declared.entries.Entry.{Entry}
use Rattle.records.specs.declared.entries.Entry.TheVariants.{Month, Award, Offer, Confirm, Cancel, Open, Tell, Load, Close, Abandon}

abbrev pub month_limits : List ℕ
month_limits = 255 ∷ 255 ∷ 65535 ∷ 4294967295 ∷ 4294967295 ∷ 4294967295 ∷ 65535 ∷ []

abbrev pub amount_limits : List ℕ
amount_limits = 255 ∷ 255 ∷ 255 ∷ 4294967295 ∷ []

abbrev pub offer_limits : List ℕ
offer_limits = 65535 ∷ 255 ∷ 255 ∷ 255 ∷ 255 ∷ 65535 ∷ 65535 ∷ 4294967295 ∷ []

abbrev pub confirm_limits : List ℕ
confirm_limits = 65535 ∷ 255 ∷ []

abbrev pub word_limits : List ℕ
word_limits = 65535 ∷ []

abbrev pub load_limits : List ℕ
load_limits = 255 ∷ 4294967295 ∷ []

abbrev pub limits_of : ℕ → Option (List ℕ)
limits_of k =
    cond (k == 77) (Some month_limits)
    (cond (k == 65) (Some amount_limits)
    (cond (k == 79) (Some offer_limits)
    (cond (k == 67) (Some confirm_limits)
    (cond (k == 88) (Some word_limits)
    (cond (k == 72) (Some word_limits)
    (cond (k == 84) (Some amount_limits)
    (cond (k == 76) (Some load_limits)
    (cond (k == 69) (Some [])
    (cond (k == 66) (Some []) None)))))))))

abbrev pub month_figures : MonthSet → List ℕ
month_figures m = m.seats ∷ m.zones ∷ m.terms.hours ∷ m.terms.tmnsr.0 ∷ m.terms.tmor.0 ∷ m.terms.capacity.0 ∷ m.terms.factor.0 ∷ []

abbrev pub amount_figures : Amount → List ℕ
amount_figures a = a.seat.0 ∷ a.zone.0 ∷ a.product.0 ∷ a.kw.0 ∷ []

abbrev pub offer_figures : Sale → List ℕ
offer_figures o = o.number.0 ∷ o.seller.0 ∷ o.buyer.0 ∷ o.zone.0 ∷ o.product.0 ∷ o.first.0 ∷ o.last.0 ∷ o.kw.0 ∷ []

abbrev pub confirm_figures : Confirmation → List ℕ
confirm_figures c = c.number.0 ∷ c.seat.0 ∷ []

abbrev pub load_figures : LoadSet → List ℕ
load_figures l = l.seat.0 ∷ l.load.0 ∷ []

abbrev pub figures_of : Entry → List ℕ
figures_of (Month m) = month_figures m
figures_of (Award a) = amount_figures a
figures_of (Offer o) = offer_figures o
figures_of (Confirm c) = confirm_figures c
figures_of (Cancel n) = n.0 ∷ []
figures_of (Open h) = h.0 ∷ []
figures_of (Tell a) = amount_figures a
figures_of (Load l) = load_figures l
figures_of Close = []
figures_of Abandon = []

-- C 7 1
confirm : figures_of (Confirm (record { number = record { 0 = 7 }; seat = record { 0 = 1 } })) ≡ 7 ∷ 1 ∷ []
confirm = refl
