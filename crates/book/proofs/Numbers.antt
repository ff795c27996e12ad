-- The numbers of a book's trades stay apart. Assumes nothing.
use Rattle.std.proofs.Common.{◌≡◌, ℕ, ◌<◌, ◌≤◌, false, not, List, [], ◌∷◌, ◌++◌, length, get_or, sym, ap, ◌∙◌, ⊎_elim, arith}
use Rattle.std.proofs.lemmas.List.Sums.{prefix_len_passes}
use Rattle.std.proofs.lemmas.List.{get_or_push, get_or_append_left, length-append}
use Rattle.std.proofs.lemmas.Bool.{ltb-false, not-true, eqb-false, cases_lt}
use Rattle.book.specs.declared.trades.Trade.{Trade}
use Rattle.book.specs.Trades.{no_trade, Apart}
use Rattle.book.specs.Deals.{is_number, index_of, in_book}

abbrev number_at : List Trade → ℕ → ℕ
number_at rs k = (get_or rs k no_trade).offer.number.0

not_there : (rs : List Trade) (n k : ℕ) → in_book rs n ≡ false → k < length rs → number_at rs k ≡ n → ⊥
not_there rs n k e lt =
    let far = ltb-false (index_of rs n) (length rs) e in
    let p = prefix_len_passes (λ r. not (is_number n r)) rs k no_trade (omega arith) in
    eqb-false (number_at rs k) n (not-true (is_number n (get_or rs k no_trade)) p)

module _ (rs : List Trade) (apart : Apart rs) where
  pub apart_push : (y : Trade) → in_book rs y.offer.number.0 ≡ false → Apart (rs ++ y ∷ [])
  apart_push y new = λ j k l e.
      let n = length-append rs (y ∷ []) in
      let left : (i : ℕ) → i < length rs → number_at (rs ++ y ∷ []) i ≡ number_at rs i = λ i h. ap (λ (r : Trade). r.offer.number.0) (get_or_append_left rs (y ∷ []) no_trade i h) in
      let at : j < length rs = omega (arith, n, l.0, l.1) in
      ⊎_elim
      (λ (b : k < length rs). apart j k (l.0, b) (sym (left j at) ∙ e ∙ left k b))
      (λ (b : length rs ≤ k).
      let last = ap (λ (r : Trade). r.offer.number.0) (get_or_push rs y no_trade k (omega (arith, n, l.1))) in
      not_there rs y.offer.number.0 j new at (sym (left j at) ∙ e ∙ last))
      (cases_lt k (length rs))
