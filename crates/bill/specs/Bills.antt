-- An hour's bill: its line read, and the answers to it as text. Assumes nothing.
--   load_of z         the load that a figure gives; one below 0 is beyond its limit, as is the largest and one more
--   Billed fs z ls    the fields fs are a bill: the first writes the total z, the others the loads ls, of any size
--   Answered fs bs    the fields are a bill, and bs is what the running cut answers to it, and then the largest remainder, a line each
--   Unread fs e       the fault e is right of the fields fs
--   answer_text c f z ls
--                     what the rule with the letter c and the meaning f answers: its shares of the signed total z, or its denial
--   answered c o zs   the same, where the ground o was met or none, and the shares are zs
--   carried z         a figure of 64 bits as a load of 32: one that no load holds as the largest
--   ReadAs fs t ls    t and ls are what is carried of the figures that the fields fs write
use Rattle.std.specs.Prelude.{◌≡◌, ℕ, suc, min, List, [], ◌∷◌, ◌++◌, map, length, ℤ, pos, negsuc, Some, None, codes, Option, refl}
use Rattle.std.proofs.Math.Utf8.{encode}
use Rattle.std.specs.Int.{saturate_to_bits}
use Rattle.std.specs.Option.{option_map}
use Rattle.std.specs.Fmt.{digits}
use Rattle.figures.specs.Grounds.{first_of}
use Rattle.division.specs.Limits.{max_load}
use Rattle.division.specs.Rules.{signed_grounds, signed_shares, ground_of}
use Rattle.division.specs.Cut.{cut_of}
use Rattle.division.specs.Remainder.{remainder_of}
use Rattle.division.specs.declared.rules.DivisionFault.{DivisionFault}
use Rattle.bill.specs.Figures.{figure_of}
use Rattle.words.specs.Fields.{fields_of}
use Rattle.bill.specs.Fields.{Failing}
use Rattle.bill.specs.Lines.{shares_text, denied_text}
use Rattle.bill.specs.declared.fields.LineFault.{LineFault}
use Rattle.bill.specs.declared.fields.LineFault.TheVariants.{Blank, NotFigure, NoMemory}

abbrev pub load_of : ℤ → ℕ
load_of (pos n) = n
load_of (negsuc n) = suc max_load

abbrev pub Billed : List (List ℕ) → ℤ → List ℕ → Type 0
Billed [] z ls = ⊥
Billed (f ∷ fs) z ls = (figure_of f ≡ Some z) × (map (λ g. option_map load_of (figure_of g)) fs ≡ map Some ls)

abbrev pub Unread : List (List ℕ) → LineFault → Type 0
Unread fs Blank = fs ≡ []
Unread fs (NotFigure k) = Failing fs (NotFigure k)
Unread fs NoMemory = Unit {0}

abbrev pub answered : ℕ → Option DivisionFault → List ℤ → List ℕ
answered c None zs = shares_text c zs
answered c (Some e) zs = denied_text c (ground_of e)

abbrev pub answer_text : ℕ → (ℕ → List ℕ → List ℕ) → ℤ → List ℕ → List ℕ
answer_text c f z ls = answered c (first_of (signed_grounds z ls (length ls))) (signed_shares f z ls)

abbrev pub Answered : List (List ℕ) → List ℕ → Type 0
Answered fs bs = (z : ℤ) × (ls : List ℕ) × Billed fs z ls × (bs ≡ answer_text 82 cut_of z ls ++ (10 ∷ (answer_text 76 remainder_of z ls ++ (10 ∷ []))))

abbrev pub carried : ℤ → ℕ
carried (pos n) = min n 4294967295
carried (negsuc n) = 4294967295

abbrev pub ReadAs : List (List ℕ) → ℤ → List ℕ → Type 0
ReadAs fs t ls = (z : ℤ) × (zs : List ℤ) × (map figure_of fs ≡ map Some (z ∷ zs)) × (t ≡ saturate_to_bits 63 z) × (ls ≡ map (λ y. carried (saturate_to_bits 63 y)) zs)

bill : Billed (fields_of (codes "-12657 100 150")) (negsuc 12656) (100 ∷ 150 ∷ [])
bill = (refl, refl)

done : answer_text 82 cut_of (pos 12657) (100 ∷ 150 ∷ []) ≡ codes "R 5062 7595"
unfolding encode digits
done = refl

idle : answer_text 82 cut_of (pos 1) (0 ∷ 0 ∷ []) ≡ codes "R ? 22 r"
unfolding encode digits
idle = refl
