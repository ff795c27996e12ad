-- Reading a tape. Assumes nothing.
--   ground_of e     number, layer and place of a fault
--   letter_at r     the kind letter of the record r
--   body_at r       its body
--   place_of r      the byte where it starts
--   Begins w body bs
--                   the bytes bs begin with a body of the length w
--   Lacks w bs      the bytes bs are fewer than w
--   RecordOf k bs p a
--                   a is what the letter k, with the bytes bs after it, makes of a record at the byte p
--   ReadAt bs p a   a is what reading the tape bs at its byte p answers: none at the end of the tape; a record that stands there,
--                   its letter and then a body of the length of its kind; the fault of an unknown letter; or the fault of a
--                   tape that ends inside the body
use Rattle.std.specs.Prelude.{◌≡◌, ℕ, ◌<◌, List, [], ◌∷◌, length, take, drop, Some, None, Ok, Err, Option, Result}
use Rattle.figures.specs.declared.grounds.Ground.{Ground}
use Rattle.figures.specs.declared.grounds.Layer.TheVariants.{Tape}
use Rattle.records.specs.Layout.{width_of}
use Rattle.records.specs.declared.faults.TapeFault.{TapeFault}
use Rattle.records.specs.declared.faults.TapeFault.TheVariants.{Unknown, Short}
use Rattle.records.specs.declared.reading.Record.{Record}
use Rattle.records.specs.declared.reading.Record.TheVariants.{Month, Award, Offer, Confirm, Cancel, Open, Tell, Load, Close, Abandon}

abbrev pub ground_of : TapeFault → Ground
ground_of (Unknown p) = record { number = 2; layer = Tape; place = p }
ground_of (Short p) = record { number = 3; layer = Tape; place = p }

abbrev pub letter_at : Record → ℕ
letter_at (Month b) = 77
letter_at (Award b) = 65
letter_at (Offer b) = 79
letter_at (Confirm b) = 67
letter_at (Cancel b) = 88
letter_at (Open b) = 72
letter_at (Tell b) = 84
letter_at (Load b) = 76
letter_at (Close p) = 69
letter_at (Abandon p) = 66

abbrev pub body_at : Record → List ℕ
body_at (Month b) = b.bytes.now
body_at (Award b) = b.bytes.now
body_at (Offer b) = b.bytes.now
body_at (Confirm b) = b.bytes.now
body_at (Cancel b) = b.bytes.now
body_at (Open b) = b.bytes.now
body_at (Tell b) = b.bytes.now
body_at (Load b) = b.bytes.now
body_at (Close p) = []
body_at (Abandon p) = []

abbrev pub place_of : Record → ℕ
place_of (Month b) = b.place
place_of (Award b) = b.place
place_of (Offer b) = b.place
place_of (Confirm b) = b.place
place_of (Cancel b) = b.place
place_of (Open b) = b.place
place_of (Tell b) = b.place
place_of (Load b) = b.place
place_of (Close p) = p
place_of (Abandon p) = p

abbrev pub Begins : Option ℕ → List ℕ → List ℕ → Type 0
Begins None body bs = ⊥
Begins (Some n) body bs = (length body ≡ n) × (take n bs ≡ body)

abbrev pub Lacks : Option ℕ → List ℕ → Type 0
Lacks None bs = ⊥
Lacks (Some n) bs = length bs < n

abbrev pub RecordOf : ℕ → List ℕ → ℕ → Result Record TapeFault → Type 0
RecordOf k bs p (Ok r) = (place_of r ≡ p) × (letter_at r ≡ k) × Begins (width_of k) (body_at r) bs
RecordOf k bs p (Err (Unknown q)) = (q ≡ p) × (width_of k ≡ None)
RecordOf k bs p (Err (Short q)) = (q ≡ p) × Lacks (width_of k) bs

abbrev pub ReadAt : List ℕ → ℕ → Result (Option Record) TapeFault → Type 0
ReadAt bs p (Ok None) = drop p bs ≡ []
ReadAt bs p (Ok (Some r)) = (k : ℕ) × (rest : List ℕ) × (drop p bs ≡ k ∷ rest) × RecordOf k rest p (Ok r)
ReadAt bs p (Err e) = (k : ℕ) × (rest : List ℕ) × (drop p bs ≡ k ∷ rest) × RecordOf k rest p (Err e)
