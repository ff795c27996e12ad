-- How records stand on a tape. Assumes nothing.
--   two n, four n   the number n in two bytes, or in four, the high byte first
--   month_body m, amount_body a, offer_body o, confirm_body c, load_body l
--                   the bodies of an M, of an A or a T, of an O, of a C and of an L
--   kind_of e       the letter of the entry e
--   body_of e       its body
--   bytes_of e      its record: the letter, then the body
--   width_of k      how long the body of a record of the kind k is; none where there is no such kind
use Rattle.std.specs.Prelude.{◌≡◌, ℕ, cond, List, [], ◌∷◌, ◌++◌, Some, None, Option, ◌==◌, refl}
use Rattle.std.specs.Int.{w16, w32, to_be_bytes}
use Rattle.book.specs.declared.trades.Offer.{Offer as Sale}
use Rattle.records.specs.declared.entries.Amount.{Amount}
use Rattle.records.specs.declared.entries.Confirmation.{Confirmation}
use Rattle.records.specs.declared.entries.LoadSet.{LoadSet}
use Rattle.records.specs.declared.entries.MonthSet.{MonthSet}
use Rattle.records.specs.declared.entries.Entry.{Entry}
use Rattle.records.specs.declared.entries.Entry.TheVariants.{Month, Award, Offer, Confirm, Cancel, Open, Tell, Load, Close, Abandon}

abbrev pub two : ℕ → List ℕ
two n = to_be_bytes w16 n

abbrev pub four : ℕ → List ℕ
four n = to_be_bytes w32 n

abbrev pub kind_of : Entry → ℕ
kind_of (Month m) = 77
kind_of (Award a) = 65
kind_of (Offer o) = 79
kind_of (Confirm c) = 67
kind_of (Cancel n) = 88
kind_of (Open h) = 72
kind_of (Tell a) = 84
kind_of (Load l) = 76
kind_of Close = 69
kind_of Abandon = 66

abbrev pub amount_body : Amount → List ℕ
amount_body a = a.seat.0 ∷ a.zone.0 ∷ a.product.0 ∷ four a.kw.0

abbrev pub month_body : MonthSet → List ℕ
month_body m = m.seats ∷ m.zones ∷ (two m.terms.hours ++ (four m.terms.tmnsr.0 ++ (four m.terms.tmor.0 ++ (four m.terms.capacity.0 ++ two m.terms.factor.0))))

abbrev pub offer_body : Sale → List ℕ
offer_body o = two o.number.0 ++ (o.seller.0 ∷ o.buyer.0 ∷ o.zone.0 ∷ o.product.0 ∷ (two o.first.0 ++ (two o.last.0 ++ four o.kw.0)))

abbrev pub confirm_body : Confirmation → List ℕ
confirm_body c = two c.number.0 ++ (c.seat.0 ∷ [])

abbrev pub load_body : LoadSet → List ℕ
load_body l = l.seat.0 ∷ four l.load.0

abbrev pub body_of : Entry → List ℕ
body_of (Month m) = month_body m
body_of (Award a) = amount_body a
body_of (Offer o) = offer_body o
body_of (Confirm c) = confirm_body c
body_of (Cancel n) = two n.0
body_of (Open h) = two h.0
body_of (Tell a) = amount_body a
body_of (Load l) = load_body l
body_of Close = []
body_of Abandon = []

abbrev pub bytes_of : Entry → List ℕ
bytes_of e = kind_of e ∷ body_of e

abbrev pub width_of : ℕ → Option ℕ
width_of k =
    cond (k == 77) (Some 18)
    (cond (k == 65) (Some 7)
    (cond (k == 79) (Some 14)
    (cond (k == 67) (Some 3)
    (cond (k == 88) (Some 2)
    (cond (k == 72) (Some 2)
    (cond (k == 84) (Some 7)
    (cond (k == 76) (Some 5)
    (cond (k == 69) (Some 0)
    (cond (k == 66) (Some 0) None)))))))))

-- C 7 1
confirm : bytes_of (Confirm (record { number = record { 0 = 7 }; seat = record { 0 = 1 } })) ≡ 67 ∷ 0 ∷ 7 ∷ 1 ∷ []
confirm = refl

-- L 1 300000: the high byte first
load : bytes_of (Load (record { seat = record { 0 = 1 }; load = record { 0 = 300000 } })) ≡ 76 ∷ 1 ∷ 0 ∷ 4 ∷ 147 ∷ 224 ∷ []
load = refl
