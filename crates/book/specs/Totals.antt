-- A balanced book's totals are those of the sheet below, and its table is as bounded. Assumes nothing.
use Rattle.std.specs.Prelude.{◌≡◌, ℕ, zero, suc, ◌+◌, ◌≤◌, Bool, true, false, cond, ◌&&◌, List, Some, None, Option, refl}
use Rattle.std.proofs.Common.{sym, ap, ◌∙◌, arith}
use Rattle.sheet.specs.declared.places.Place.{Place}
use Rattle.sheet.specs.Tables.{Table, plus, added_up, filled, filled_up, total_at, filled_at, Bounded}
use Rattle.book.specs.declared.trades.Trade.{Trade}
use Rattle.book.specs.Trades.{bought_at, sold_at, shifted, over, Balanced}
use Rattle.figures.specs.SeatSums.{sum_to, sum_to_suc}
use Rattle.book.specs.Sums.{cancel_out}

abbrev is_filled : Option ℕ → Bool
is_filled None = false
is_filled (Some x) = true

abbrev all_filled : (ℕ → Option ℕ) → ℕ → Bool
all_filled f zero = true
all_filled f (suc n) = all_filled f n && is_filled (f n)

join : (b : Bool) (s : ℕ) (o : Option ℕ) → plus (cond b (Some s) None) o ≡ cond (b && is_filled o) (Some (s + filled o)) None
join true s None = refl
join true s (Some x) = refl
join false s o = refl

added_is : (f : ℕ → Option ℕ) (n : ℕ) → added_up f n ≡ cond (all_filled f n) (Some (filled_up f n)) None
added_is f zero = refl
added_is f (suc n) = ap (λ o. plus o (f n)) (added_is f n) ∙ join (all_filled f n) (filled_up f n) (f n)

shifted_filled : (b s : ℕ) (o : Option ℕ) → s ≤ filled o + b → (o ≡ None → (s ≡ 0) × (b ≡ 0)) → filled (shifted b s o) + s ≡ filled o + b
shifted_filled b s None h e = let p = e refl in omega arith
shifted_filled b s (Some x) h e = omega arith

shifted_blank : (b s : ℕ) (o : Option ℕ) → is_filled (shifted b s o) ≡ is_filled o
shifted_blank b s None = refl
shifted_blank b s (Some x) = refl

module _ (t : Table) (rs : List Trade) (w : Place) where
  abbrev old : ℕ → Option ℕ
  old s = t.cell s w

  abbrev new : ℕ → Option ℕ
  new s = (over t rs).cell s w

  up : Balanced t rs → (n : ℕ) → filled_up new n + sum_to (λ s. sold_at s w rs) n ≡ filled_up old n + sum_to (λ s. bought_at s w rs) n
  up b zero = refl
  up b (suc n) = omega (arith, up b n, sum_to_suc (λ s. sold_at s w rs) n, sum_to_suc (λ s. bought_at s w rs) n, shifted_filled (bought_at n w rs) (sold_at n w rs) (old n) (b.covered n w) (b.untouched n w))

  same_blank : (n : ℕ) → all_filled new n ≡ all_filled old n
  same_blank zero = refl
  same_blank (suc n) = ap (λ x. x && is_filled (new n)) (same_blank n) ∙ ap (λ x. all_filled old n && x) (shifted_blank (bought_at n w rs) (sold_at n w rs) (old n))

  over_filled : Balanced t rs → filled_at (over t rs) w ≡ filled_at t w
  over_filled b = omega (arith, up b t.seats, cancel_out t rs w b)

  pub over_total : Balanced t rs → total_at (over t rs) w ≡ total_at t w
  over_total b = added_is new t.seats ∙ ap (λ x. cond x (Some (filled_up new t.seats)) None) (same_blank t.seats) ∙ ap (λ x. cond (all_filled old t.seats) (Some x) None) (over_filled b) ∙ sym (added_is old t.seats)

pub over_bounded : (t : Table) (rs : List Trade) → Balanced t rs → Bounded t → Bounded (over t rs)
over_bounded t rs b k = record {
  some_seats = k.some_seats;
  few_seats = k.few_seats;
  some_zones = k.some_zones;
  few_zones = k.few_zones;
  outside = λ s w e. ap (shifted (bought_at s w rs) (sold_at s w rs)) (k.outside s w e);
  small = λ w. omega (arith, over_filled t rs w b, k.small w);
}
