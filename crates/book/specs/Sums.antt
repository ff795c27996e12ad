-- Purchases and sales cancel: each standing trade is bought once and sold once. Assumes nothing.
use Rattle.std.specs.Prelude.{◌≡◌, ℕ, zero, suc, ◌+◌, ◌<◌, Bool, true, false, cond, ◌&&◌, List, [], ◌∷◌, length, sum_by, ◌==◌, nat_lt, slice_index_or, refl}
use Rattle.std.proofs.Common.{sym, ap, ◌∙◌, arith, lt-ltb}
use Rattle.std.proofs.Math.Bool.{and-true}
use Rattle.std.proofs.lemmas.List.Sums.{sum_by-cons}
use Rattle.std.proofs.lemmas.Bool.Decides.{nat_tests}
use Rattle.figures.specs.SeatSums.{sum_to, sum_to_suc, sum_to_plus, sum_to_same}
use Rattle.sheet.specs.declared.places.Place.{Place}
use Rattle.sheet.specs.Tables.{Table}
use Rattle.book.specs.declared.trades.Trade.{Trade}
use Rattle.book.specs.Trades.{no_trade, stands, bought_at, sold_at, Balanced}

to_zero : (n : ℕ) → ◌≡◌ {A = ℕ} (sum_to (λ s. 0) n) 0
to_zero zero = refl
to_zero (suc n) = omega (arith, to_zero n, sum_to_suc (λ _. 0) n)

-- a trade counts for one seat alone
one_more : (b : Bool) (a k n : ℕ) → cond (b && nat_lt a n) k 0 + cond (b && a == n) k 0 ≡ cond (b && nat_lt a (suc n)) k 0
one_more true a k n = grind (arith, nat_tests)
one_more false a k n = refl

none_yet : (b : Bool) (a k : ℕ) → ◌≡◌ {A = ℕ} 0 (cond (b && nat_lt a 0) k 0)
none_yet true a k = grind (arith, nat_tests)
none_yet false a k = refl

to_up : (b : Bool) (a k n : ℕ) → sum_to (λ s. cond (b && a == s) k 0) n ≡ cond (b && nat_lt a n) k 0
to_up b a k zero = none_yet b a k
to_up b a k (suc n) = omega (arith, to_up b a k n, one_more b a k n, sum_to_suc (λ s. cond (b && a == s) k 0) n)

to_one : (b : Bool) (a k n : ℕ) → a < n → sum_to (λ s. cond (b && a == s) k 0) n ≡ cond b k 0
to_one b a k n h = to_up b a k n ∙ ap (λ (x : Bool). cond (b && x) k 0) (lt-ltb a n h) ∙ ap (λ (x : Bool). cond x k 0) (and-true b)

module _ (who : Trade → ℕ) (w : Place) (n : ℕ) where
  abbrev part : ℕ → Trade → ℕ
  part s r = cond (stands w r && who r == s) r.offer.kw.0 0

  abbrev whole : Trade → ℕ
  whole r = cond (stands w r) r.offer.kw.0 0

  each_once : (rs : List Trade) → ((k : ℕ) → k < length rs → who (slice_index_or rs k no_trade) < n) → sum_to (λ s. sum_by (part s) rs) n ≡ sum_by whole rs
  each_once [] p = to_zero n
  each_once (r ∷ rs) p =
      let rest = each_once rs (λ k l. p (suc k) (omega arith)) in
      let here : sum_to (λ s. part s r) n ≡ whole r = to_one (stands w r) (who r) r.offer.kw.0 n (p 0 (omega arith)) in
      let split : sum_to (λ s. sum_by (part s) (r ∷ rs)) n ≡ sum_to (λ s. part s r + sum_by (part s) rs) n = sum_to_same (λ s. sum_by (part s) (r ∷ rs)) (λ s. part s r + sum_by (part s) rs) n (λ s l. sum_by-cons (part s) r rs) in
      omega (arith, split, sum_to_plus (λ s. part s r) (λ s. sum_by (part s) rs) n, here, rest, sum_by-cons whole r rs)

pub cancel_out : (t : Table) (rs : List Trade) (w : Place) → Balanced t rs → sum_to (λ s. sold_at s w rs) t.seats ≡ sum_to (λ s. bought_at s w rs) t.seats
cancel_out t rs w b = each_once (λ r. r.offer.seller.0) w t.seats rs (λ k l. (b.parties k l).seller) ∙ sym (each_once (λ r. r.offer.buyer.0) w t.seats rs (λ k l. (b.parties k l).buyer))
