-- Records taken apart: the inverse of how they stand on a tape. Assumes nothing.
--   two_at b i, four_at b i   the number in two bytes, or in four, of the body b from its byte i on
--   entry_of bs               what the record bs says, if its letter is a kind
--   Fits e                    each field of the entry e is within its width
use Rattle.std.specs.Prelude.{◌≡◌, ℕ, ◌+◌, ◌^◌, ◌<◌, cond, List, [], ◌∷◌, Some, None, Option, ◌==◌, slice_index, refl}
use Rattle.std.specs.Int.{w16, w32, from_be_bytes}
use Rattle.records.specs.declared.entries.Amount.{Amount}
use Rattle.records.specs.declared.entries.Entry.{Entry}
use Rattle.records.specs.declared.entries.Entry.TheVariants.{Month, Award, Offer, Confirm, Cancel, Open, Tell, Load, Close, Abandon}

abbrev pub two_at : List ℕ → ℕ → ℕ
two_at b i = from_be_bytes w16 (slice_index b i ∷ slice_index b (i + 1) ∷ [])

abbrev pub four_at : List ℕ → ℕ → ℕ
four_at b i = from_be_bytes w32 (slice_index b i ∷ slice_index b (i + 1) ∷ slice_index b (i + 2) ∷ slice_index b (i + 3) ∷ [])

abbrev pub amount_at : List ℕ → Amount
amount_at b = record { seat = record { 0 = slice_index b 0 }; zone = record { 0 = slice_index b 1 }; product = record { 0 = slice_index b 2 }; kw = record { 0 = four_at b 3 } }

abbrev pub fields_of : ℕ → List ℕ → Option Entry
fields_of k b =
    cond (k == 77) (Some (Month (record { seats = slice_index b 0; zones = slice_index b 1; terms = record { hours = two_at b 2; tmnsr = record { 0 = four_at b 4 }; tmor = record { 0 = four_at b 8 }; capacity = record { 0 = four_at b 12 }; factor = record { 0 = two_at b 16 } } })))
    (cond (k == 65) (Some (Award (amount_at b)))
    (cond (k == 79) (Some (Offer (record { number = record { 0 = two_at b 0 }; seller = record { 0 = slice_index b 2 }; buyer = record { 0 = slice_index b 3 }; zone = record { 0 = slice_index b 4 }; product = record { 0 = slice_index b 5 }; first = record { 0 = two_at b 6 }; last = record { 0 = two_at b 8 }; kw = record { 0 = four_at b 10 } })))
    (cond (k == 67) (Some (Confirm (record { number = record { 0 = two_at b 0 }; seat = record { 0 = slice_index b 2 } })))
    (cond (k == 88) (Some (Cancel (record { 0 = two_at b 0 })))
    (cond (k == 72) (Some (Open (record { 0 = two_at b 0 })))
    (cond (k == 84) (Some (Tell (amount_at b)))
    (cond (k == 76) (Some (Load (record { seat = record { 0 = slice_index b 0 }; load = record { 0 = four_at b 1 } })))
    (cond (k == 69) (Some Close)
    (cond (k == 66) (Some Abandon) None)))))))))

abbrev pub entry_of : List ℕ → Option Entry
entry_of [] = None
entry_of (k ∷ b) = fields_of k b

abbrev pub Fits : Entry → Type 0
Fits (Month m) = (m.terms.hours < 2 ^ 16) × (m.terms.tmnsr.0 < 2 ^ 32) × (m.terms.tmor.0 < 2 ^ 32) × (m.terms.capacity.0 < 2 ^ 32) × (m.terms.factor.0 < 2 ^ 16)
Fits (Award a) = a.kw.0 < 2 ^ 32
Fits (Offer o) = (o.number.0 < 2 ^ 16) × (o.first.0 < 2 ^ 16) × (o.last.0 < 2 ^ 16) × (o.kw.0 < 2 ^ 32)
Fits (Confirm c) = c.number.0 < 2 ^ 16
Fits (Cancel n) = n.0 < 2 ^ 16
Fits (Open h) = h.0 < 2 ^ 16
Fits (Tell a) = a.kw.0 < 2 ^ 32
Fits (Load l) = l.load.0 < 2 ^ 32
Fits Close = Unit {0}
Fits Abandon = Unit {0}

confirm : entry_of (67 ∷ 0 ∷ 7 ∷ 1 ∷ []) ≡ Some (Confirm (record { number = record { 0 = 7 }; seat = record { 0 = 1 } }))
confirm = refl
