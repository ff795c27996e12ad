-- Grounds for denial: what a fault says of itself, and how a list of grounds is judged. Assumes nothing.
--   letter_of l   the letter that stands for a layer
--   first_of gs   the fault of the first ground that is met, in the order of the list
--   Judged gs r   the answer r is what the grounds gs call for: a denial by the first one met, and else none
use Rattle.std.specs.Prelude.{◌≡◌, ℕ, Bool, true, false, cond, List, [], ◌∷◌, ◌++◌, decimal, Some, None, Ok, Err, Option, Result, refl}
use Rattle.figures.specs.declared.grounds.Ground.{Ground}
use Rattle.figures.specs.declared.grounds.Layer.{Layer}
use Rattle.figures.specs.declared.grounds.Layer.TheVariants.{Tape, Sheet, Book, Month, Rule}

-- t, s, b, m, r
abbrev pub letter_of : Layer → ℕ
letter_of Tape = 116
letter_of Sheet = 115
letter_of Book = 98
letter_of Month = 109
letter_of Rule = 114

abbrev pub layer_text : Layer → List ℕ
layer_text l = letter_of l ∷ []

abbrev pub ground_text : Ground → List ℕ
ground_text g = decimal g.number ++ (32 ∷ layer_text g.layer)

abbrev pub first_of : {F : Type 0} → List (Bool × F) → Option F
first_of [] = None
first_of (g ∷ gs) = cond g.0 (Some g.1) (first_of gs)

abbrev pub Judged : {T F : Type 0} → List (Bool × F) → Result T F → Type 0
Judged gs (Ok x) = first_of gs ≡ None
Judged gs (Err e) = first_of gs ≡ Some e

-- the first ground that is met, and not a later one
second : first_of {F = ℕ} ((false, 1) ∷ (true, 2) ∷ (true, 3) ∷ []) ≡ Some 2
second = refl
