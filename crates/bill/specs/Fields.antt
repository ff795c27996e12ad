-- The fields of a line, and what reading them answers. Assumes nothing.
--   value_of f          the value of the figure that f writes, carried as the nearest i64
--   Values fs zs        each of the fields fs is a figure, and zs are their values in order
--   Failing fs e        the fault e is right of the fields fs: at NotFigure k the first k - 1 are figures and the k-th is none;
--                       a blank line is no fault here, since it gives no figures; NoMemory says nothing
use Rattle.std.specs.Prelude.{◌≡◌, ℕ, ◌-◌, ◌<◌, ◌≤◌, true, List, [], ◌∷◌, map, length, take, ℤ, pos, negsuc, is_some, Some, None, codes, Option, slice_index_or, refl}
use Rattle.std.proofs.Common.{lit<, lit≤}
use Rattle.std.specs.Int.{saturate_to_bits}
use Rattle.std.specs.Option.{option_map}
use Rattle.std.specs.List.{list_all}
use Rattle.words.specs.Fields.{fields_of}
use Rattle.bill.specs.Figures.{figure_of}
use Rattle.bill.specs.declared.fields.LineFault.{LineFault}
use Rattle.bill.specs.declared.fields.LineFault.TheVariants.{Blank, NotFigure, NoMemory}

abbrev pub value_of : List ℕ → Option ℤ
value_of f = option_map (saturate_to_bits 63) (figure_of f)

abbrev pub Values : List (List ℕ) → List ℤ → Type 0
Values fs zs = map value_of fs ≡ map Some zs

abbrev pub Failing : List (List ℕ) → LineFault → Type 0
Failing fs (NotFigure k) = (0 < k) × (k ≤ length fs) × (list_all (λ f. is_some (figure_of f)) (take (k - 1) fs) ≡ true) × (figure_of (slice_index_or fs (k - 1) []) ≡ None)
Failing fs Blank = ⊥
Failing fs NoMemory = Unit {0}

values : Values (fields_of (codes "12 -3")) (pos 12 ∷ negsuc 2 ∷ [])
values = refl

far : value_of (codes "9223372036854775808") ≡ Some (pos 9223372036854775807)
far = refl

second : Failing (fields_of (codes "12 x -3")) (NotFigure 2)
second = (lit< tt, lit≤ tt, refl, refl)
