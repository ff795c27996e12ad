-- The fields of a line are the pieces between its blanks that are not empty. Assumes nothing.
use Rattle.std.proofs.Common.{◌≡◌, ℕ, ◌<◌, Bool, true, false, List, [], ◌∷◌, ◌++◌, filter, length, sym, refl, ap, ◌∙◌, inl, inr, append_assoc, append-nil, arith}
use Rattle.std.specs.List.{slice_split, onto_first}
use Rattle.std.proofs.lemmas.List.Splits.{length-slice_split}
use Rattle.std.proofs.lemmas.Bool.{cases_Bool, cond-true, cond-false}
use Rattle.words.specs.Fields.{blank, closed, fields_after, fields_of}

-- a piece that is a field
abbrev pub some : List ℕ → Bool
some [] = false
some (b ∷ f) = true

-- the pieces, with f put before the first
abbrev begun : List ℕ → List (List ℕ) → List (List ℕ)
begun f [] = f ∷ []
begun f (g ∷ gs) = (f ++ g) ∷ gs

begun_none : (gs : List (List ℕ)) → 0 < length gs → begun [] gs ≡ gs
begun_none [] h = absurd (omega arith)
begun_none (g ∷ gs) h = refl

begun_more : (f : List ℕ) (b : ℕ) (gs : List (List ℕ)) → begun (f ++ b ∷ []) gs ≡ begun f (onto_first b gs)
begun_more f b [] = refl
begun_more f b (g ∷ gs) = ap (λ (h : List ℕ). h ∷ gs) (append_assoc f (b ∷ []) g)

ended : (f : List ℕ) (gs : List (List ℕ)) → filter some ((f ++ []) ∷ gs) ≡ closed f (filter some gs)
ended [] gs = refl
ended (b ∷ f) gs = ap (λ (g : List ℕ). (b ∷ g) ∷ filter some gs) (append-nil f)

cut : (f bs : List ℕ) → fields_after f bs ≡ filter some (begun f (slice_split blank bs))
cut f [] = sym (ended f [])
cut f (b ∷ bs) =
    let gs = slice_split blank bs in
    let n = length-slice_split blank bs in
    elim (cases_Bool (blank b)) [
      | inl e ↦
          cond-true (blank b) _ _ e ∙ (ap (closed f) (cut [] bs ∙ ap (filter some) (begun_none gs (omega arith))) ∙ (sym (ended f gs)
          ∙ sym (ap (λ (hs : List (List ℕ)). filter some (begun f hs)) (cond-true (blank b) _ _ e))))
      | inr e ↦
          cond-false (blank b) _ _ e ∙ (cut (f ++ b ∷ []) bs ∙ (ap (filter some) (begun_more f b gs)
          ∙ sym (ap (λ (hs : List (List ℕ)). filter some (begun f hs)) (cond-false (blank b) _ _ e))))
    ]

pub pieces : (bs : List ℕ) → fields_of bs ≡ filter some (slice_split blank bs)
pieces bs = cut [] bs ∙ ap (filter some) (let n = length-slice_split blank bs in begun_none (slice_split blank bs) (omega arith))
