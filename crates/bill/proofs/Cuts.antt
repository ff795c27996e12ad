-- Reading the figures of a line one by one. Assumes nothing.
use Rattle.std.proofs.Common.{◌≡◌, ℕ, ◌+◌, ◌-◌, ◌<◌, true, List, [], ◌∷◌, map, length, get_or, take, ℤ, is_some, Some, None, Option, sym, refl, ap, ◌∙◌, arith}
use Rattle.std.specs.Int.{saturate_to_bits}
use Rattle.std.specs.Option.{option_map}
use Rattle.std.specs.List.{list_all}
use Rattle.bill.specs.Figures.{figure_of}
use Rattle.bill.specs.Fields.{value_of, Values, Failing}
use Rattle.bill.specs.declared.fields.LineFault.TheVariants.{NotFigure}

some_from : (o : Option ℤ) (z : ℤ) → option_map (saturate_to_bits 63) o ≡ Some z → is_some o ≡ true
some_from None z e = cc
some_from (Some x) z e = refl

none_from : (o : Option ℤ) → option_map (saturate_to_bits 63) o ≡ None → o ≡ None
none_from None e = refl
none_from (Some x) e = cc

all_figures : (fs : List (List ℕ)) (zs : List ℤ) → Values fs zs → list_all (λ f. is_some (figure_of f)) fs ≡ true
all_figures [] zs e = refl
all_figures (f ∷ fs) [] e = let w : ◌≡◌ {A = ℕ} 0 1 = cc in absurd (omega arith)
all_figures (f ∷ fs) (z ∷ zs) e =
    let head : value_of f ≡ Some z = cc in
    let tail : map value_of fs ≡ map Some zs = cc in
    rw (some_from (figure_of f) z head, all_figures fs zs tail)

-- the first n fields are read, and the next is no figure
pub fails : (fs : List (List ℕ)) (zs : List ℤ) (n : ℕ) → n < length fs → Values (take n fs) zs → None ≡ value_of (get_or fs n []) → Failing fs (NotFigure (n + 1))
fails fs zs n l h v =
    let back : n + 1 - 1 ≡ n = omega arith in (
      omega arith,
      omega arith,
      ap (λ (k : ℕ). list_all (λ f. is_some (figure_of f)) (take k fs)) back ∙ all_figures (take n fs) zs h,
      ap (λ (k : ℕ). figure_of (get_or fs k [])) back ∙ none_from (figure_of (get_or fs n [])) (sym v),
    )
