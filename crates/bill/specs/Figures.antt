-- A figure: an integer as a field writes it, of any size. Assumes nothing.
--   figure_of bs        the integer that bs writes: a number, or '-' and a number
use Rattle.std.specs.Prelude.{◌≡◌, ℕ, cond, List, [], ◌∷◌, ℤ, pos, negsuc, neg_ℤ, Some, None, codes, Option, ◌==◌, refl}
use Rattle.std.specs.Option.{option_map}
use Rattle.words.specs.Numbers.{number_of}

abbrev pub figure_of : List ℕ → Option ℤ
figure_of [] = None
figure_of (b ∷ bs) = cond (b == 45) (option_map (λ n. neg_ℤ (pos n)) (number_of bs)) (option_map pos (number_of (b ∷ bs)))

plain : figure_of (codes "5062") ≡ Some (pos 5062)
plain = refl

negative : figure_of (codes "-17") ≡ Some (negsuc 16)
negative = refl

zero_less : figure_of (codes "-0") ≡ Some (pos 0)
zero_less = refl

plus : figure_of (codes "+1") ≡ None
plus = refl

bare : figure_of (codes "-") ≡ None
bare = refl
