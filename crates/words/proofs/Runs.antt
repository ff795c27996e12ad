-- The first field of a line begins after the blanks in front, and ends before the next blank. Assumes nothing.
use Rattle.std.proofs.Common.{◌≡◌, ℕ, zero, suc, ◌<◌, ◌≤◌, Bool, true, false, List, [], ◌∷◌, ◌++◌, length, get_or, take, drop, sym, refl, ap, ◌∙◌, append_assoc, append-nil, arith}
use Rattle.std.proofs.lemmas.Bool.{cond-true, cond-false}
use Rattle.std.proofs.lemmas.List.{drop_all, get_or-drop, length-drop, length-take}
use Rattle.words.specs.Fields.{blank, closed, fields_after, fields_of}

-- the first n bytes of bs are all blank, or none is
abbrev pub Run : Bool → ℕ → List ℕ → Type 0
Run kind n bs = (n ≤ length bs) × ((k : ℕ) → k < n → blank (get_or bs k 0) ≡ kind)

skipped : (n : ℕ) (bs : List ℕ) → Run true n bs → fields_of bs ≡ fields_of (drop n bs)
skipped zero bs h = refl
skipped (suc n) [] h = absurd (let l = h.0 in omega arith)
skipped (suc n) (b ∷ bs) h =
    cond-true (blank b) _ _ (h.1 0 (omega arith)) ∙ skipped n bs (let l = h.0 in omega arith, λ k l. h.1 (suc k) (omega arith))

begun : (f : List ℕ) (n : ℕ) (bs : List ℕ) → Run false n bs → fields_after f bs ≡ fields_after (f ++ take n bs) (drop n bs)
begun f zero bs h = ap (λ (g : List ℕ). fields_after g bs) (sym (append-nil f))
begun f (suc n) [] h = absurd (let l = h.0 in omega arith)
begun f (suc n) (b ∷ bs) h =
    cond-false (blank b) _ _ (h.1 0 (omega arith)) ∙ (begun (f ++ b ∷ []) n bs (let l = h.0 in omega arith, λ k l. h.1 (suc k) (omega arith))
    ∙ ap (λ (g : List ℕ). fields_after g (drop n bs)) (append_assoc f (b ∷ []) (take n bs)))

ended : (f bs : List ℕ) → (0 < length bs → blank (get_or bs 0 0) ≡ true) → fields_after f bs ≡ closed f (fields_of bs)
ended f [] h = refl
ended f (b ∷ bs) h =
    let e = h (omega arith) in
    cond-true (blank b) _ _ e ∙ sym (ap (closed f) (cond-true (blank b) (fields_of bs) (fields_after (b ∷ []) bs) e))

closed_some : (f : List ℕ) (fs : List (List ℕ)) → 0 < length f → closed f fs ≡ f ∷ fs
closed_some [] fs h = absurd (omega arith)
closed_some (b ∷ f) fs h = refl

pub none : (n : ℕ) (bs : List ℕ) → length bs ≡ n → Run true n bs → fields_of bs ≡ []
none n bs e h = skipped n bs h ∙ ap fields_of (drop_all n bs (omega arith))

-- the field that n blanks stand before, of m bytes, and the fields of what follows it
pub first : (n m : ℕ) (bs : List ℕ) → Run true n bs → n < length bs → blank (get_or bs n 0) ≡ false → Run false m (drop n bs) → (m < length (drop n bs) → blank (get_or (drop n bs) m 0) ≡ true)
    → fields_of bs ≡ take m (drop n bs) ∷ fields_of (drop m (drop n bs))
first n m bs h l b k e =
    let some : 0 < m = grind (arith, get_or-drop, length-drop) in
    let t = length-take m (drop n bs) in
    skipped n bs h ∙ (begun [] m (drop n bs) k ∙ (ended (take m (drop n bs)) (drop m (drop n bs)) (λ p. grind (arith, get_or-drop, length-drop))
    ∙ closed_some (take m (drop n bs)) _ (let j = k.0 in omega arith)))
