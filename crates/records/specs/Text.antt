-- The text of a statement. Assumes nothing.
--   line_text l        a line: hour, seat, credits, penalties and charge in decimal, with a space between, and byte 10
--   denial_text n g    a denial of the record n under the ground g: '?', n, the ground's number, the letter of its layer
--   letter_text c      the letter that heads a statement
--   abandoned_text h   that the tape ended with the hour h open: '!' and the hour
use Rattle.std.specs.Prelude.{◌≡◌, ℕ, List, [], ◌∷◌, ◌++◌, codes, pos, negsuc, decimal, refl}
use Rattle.std.proofs.Math.Utf8.{encode}
use Rattle.std.specs.Fmt.{signed_decimal, digits}
use Rattle.figures.specs.Grounds.{ground_text}
use Rattle.figures.specs.declared.grounds.Ground.{Ground}
use Rattle.figures.specs.declared.grounds.Layer.TheVariants.{Month}
use Rattle.figures.specs.declared.lines.StatementLine.{StatementLine}
use Rattle.figures.specs.declared.units.Hour.{Hour}

abbrev pub line_text : StatementLine → List ℕ
line_text l = decimal l.hour.0 ++ (32 ∷ (decimal l.seat.0 ++ (32 ∷ (signed_decimal l.credits.0 ++ (32 ∷ (signed_decimal l.penalties.0 ++ (32 ∷ (signed_decimal l.charge.0 ++ (10 ∷ [])))))))))

abbrev pub denial_text : ℕ → Ground → List ℕ
denial_text n g = 63 ∷ 32 ∷ (decimal n ++ (32 ∷ (ground_text g ++ (10 ∷ []))))

abbrev pub letter_text : ℕ → List ℕ
letter_text c = encode c ++ (10 ∷ [])

abbrev pub abandoned_text : Hour → List ℕ
abandoned_text h = 33 ∷ 32 ∷ (decimal h.0 ++ (10 ∷ []))

line : line_text (record { hour = record { 0 = 0 }; seat = record { 0 = 1 }; credits = record { 0 = pos 3750 }; penalties = record { 0 = pos 5156 }; charge = record { 0 = negsuc 16 } }) ≡ codes "0 1 3750 5156 -17" ++ (10 ∷ [])
unfolding digits
line = refl

denial : denial_text 12 (record { number = 14; layer = Month; place = 0 }) ≡ codes "? 12 14 m" ++ (10 ∷ [])
unfolding digits
denial = refl

abandoned : abandoned_text (record { 0 = 743 }) ≡ codes "! 743" ++ (10 ∷ [])
unfolding digits
abandoned = refl
