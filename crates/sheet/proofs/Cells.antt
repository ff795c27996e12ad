-- A filled cell of a bounded table is within the limit. Assumes nothing.
use Rattle.std.proofs.Common.{◌≡◌, ℕ, ◌+◌, ◌<◌, ◌≤◌, false, Some, None, Option, sym, ap, ◌∙◌, ⊎_elim, add-one, arith}
use Rattle.std.proofs.lemmas.Bool.{and_left, le-ltb, cases_lt}
use Rattle.sheet.specs.Limits.{max_kw}
use Rattle.sheet.specs.declared.places.Place.{Place}
use Rattle.sheet.specs.Tables.{Table, within, filled, filled_up, filled_at, total_at, Bounded}
use Rattle.sheet.specs.Sums.{steps_on, filled_rises, added_blank}

cell-le : (t : Table) (s : ℕ) (w : Place) (v : ℕ) → s < t.seats → t.cell s w ≡ Some v → v ≤ filled_at t w
cell-le t s w v lt e =
    let f : ℕ → Option ℕ = λ n. t.cell n w in
    let on = steps_on (s + 1) t.seats (omega arith) in
    let up = filled_rises f (s + 1) on.0 in
    let one : filled_up f (s + 1) ≡ filled_up f s + filled (f s) = rw add-one in
    let is : filled (f s) ≡ v = ap filled e in
    rw on.1 (omega arith)

pub cell_small : (t : Table) → Bounded t → (s : ℕ) (w : Place) (v : ℕ) → t.cell s w ≡ Some v → v ≤ max_kw
cell_small t b s w v e = ⊎_elim
    (λ (lt : s < t.seats). omega (arith, cell-le t s w v lt e, b.small w))
    (λ (ge : t.seats ≤ s).
    let out : within t.seats t.zones s w ≡ false = and_left _ _ (and_left _ _ (le-ltb s t.seats ge)) in
    let is : Some v ≡ None = sym e ∙ b.outside s w out in
    let z : ◌≡◌ {A = ℕ} 0 1 = cc in absurd (omega (arith, z)))
    (cases_lt s t.seats)

-- one seat's blank makes the total blank
pub blank_total : (t : Table) (w : Place) (s : ℕ) → s < t.seats → t.cell s w ≡ None → total_at t w ≡ None
blank_total t w s lt e = added_blank (λ (n : ℕ). t.cell n w) s t.seats lt e
