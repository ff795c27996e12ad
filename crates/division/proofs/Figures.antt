-- The loads of a slice and their figures, and a share column, place by place.
use Rattle.std.proofs.Common.{◌≡◌, ℕ, ◌+◌, ◌-◌, ◌<◌, List, [], ◌∷◌, ◌++◌, map, length, get_or, set, take, drop, ℤ, pos, ◌≤ℤ◌, sum, sym, ap, ◌∙◌, arith}
use mathlib.Core.List.{map-map}
use Rattle.std.specs.List.{range_with_len}
use Rattle.std.proofs.lemmas.List.{length-map, get_or-map, length-take-le, get_or-append_right, get_or-drop, take_more_set}
use Rattle.std.proofs.lemmas.Int.{ints}
use Rattle.std.proofs.lemmas.List.Sums.{sum_by_more}
use Rattle.std.proofs.lemmas.List.FromFn.{map-range_with_len_more}
use Rattle.figures.specs.declared.units.Cents.{Cents}
use Rattle.figures.specs.declared.units.Load.{Load}
use Rattle.division.specs.Columns.{tenths, cents_of}

-- a load of 0, and an amount of 0: what a column gives past its end
abbrev pub none : Load
none = record { 0 = 0 }

abbrev pub nothing : Cents
nothing = record { 0 = pos 0 }

pub length-tenths : (loads : List Load) → length (tenths loads) ≡ length loads
length-tenths loads = length-map loads (λ (l : Load). l.0)

pub tenths-at : (loads : List Load) (s : ℕ) → s < length loads → get_or (tenths loads) s 0 ≡ (get_or loads s none).0
tenths-at loads s lt = get_or-map (λ (l : Load). l.0) loads s none 0 lt

pub sum_more : (loads : List Load) (s : ℕ) → s < length loads
    → sum (take (s + 1) (tenths loads)) ≡ sum (take s (tenths loads)) + (get_or loads s none).0
sum_more loads s lt =
    let n = length-tenths loads in
    let e = sum_by_more (λ x. x) (tenths loads) s 0 (omega arith) in
    let a = tenths-at loads s lt in
    omega arith

-- a column that holds f before place s, and then there too
pub one_more : {X : Type 0} (f : ℕ → X) (out : List X) (s : ℕ) (v : X) → s < length out → v ≡ f s → take s out ≡ map f (range_with_len 0 s)
    → take (s + 1) (set out s v) ≡ map f (range_with_len 0 (s + 1))
one_more {X} f out s v lt here before =
    take_more_set out s v lt
    ∙ (ap (λ (xs : List X). xs ++ v ∷ []) before
    ∙ (ap (λ (y : X). map f (range_with_len 0 s) ++ y ∷ []) here
    ∙ sym (map-range_with_len_more f 0 s s (omega arith))))

-- the figures f of n seats, in cents
pub in_cents : (f : ℕ → ℕ) (n : ℕ) → map (λ (s : ℕ). record { 0 = pos (f s) }) (range_with_len 0 n) ≡ cents_of (map pos (map f (range_with_len 0 n)))
in_cents f n =
    sym (ap cents_of (map-map pos f (range_with_len 0 n)) ∙ map-map (λ (z : ℤ). record { 0 = z }) (λ s. pos (f s)) (range_with_len 0 n))

-- a column of shares that are not below 0
pub not_below : (xs : List ℕ) (out : List Cents) → out ≡ cents_of (map pos xs) → (s : ℕ) → s < length out → pos 0 ≤ℤ (get_or out s nothing).0
not_below xs out e s lt =
    let n = ap length e ∙ (length-map (map pos xs) (λ (z : ℤ). record { 0 = z }) ∙ length-map xs pos) in
    let a = ap (λ (col : List Cents). (get_or col s nothing).0) e in
    let b = ap (λ (c : Cents). c.0) (get_or-map (λ (z : ℤ). record { 0 = z }) (map pos xs) s (pos 0) nothing (let m = length-map xs pos in omega arith)) in
    let d = get_or-map pos xs s 0 (pos 0) (omega arith) in
    omega (arith, ints)

-- a loop that writes f over each element: what it has yet to come to is as it was
pub kept_at : (f : Cents → Cents) (xs ys : List Cents) (i : ℕ) → i < length xs → ys ≡ map f (take i xs) ++ drop i xs → get_or ys i nothing ≡ get_or xs i nothing
kept_at f xs ys i lt e =
    let n : length (map f (take i xs)) ≡ i = length-map (take i xs) f ∙ length-take-le i xs (omega arith) in
    ap (λ (zs : List Cents). get_or zs i nothing) e
    ∙ (get_or-append_right (map f (take i xs)) (drop i xs) i i nothing n (omega arith)
    ∙ (get_or-drop i xs (i - i) nothing ∙ ap (λ (k : ℕ). get_or xs k nothing) (let q : i + (i - i) ≡ i = omega arith in q)))
