-- What holds of each trade still does when one is added, changed or removed. Assumes nothing.
use Rattle.std.proofs.Common.{◌≡◌, ℕ, ◌+◌, ◌<◌, ◌≤◌, ◌≢◌, List, [], ◌∷◌, ◌++◌, length, get_or, set, sym, ap, ◌∙◌, subst, ⊎_elim, arith}
use Rattle.std.specs.List.{remove}
use Rattle.std.proofs.lemmas.List.Edits.{length-remove, get_or-remove_below, get_or-remove_above}
use Rattle.std.proofs.lemmas.List.{get_or-set_same, get_or-set_other, length-set, get_or_push, get_or_append_left, length-append}
use Rattle.std.proofs.lemmas.Bool.{cases_eq, cases_lt}
use Rattle.book.specs.declared.trades.Trade.{Trade}
use Rattle.book.specs.Trades.{no_trade, Each}

module _ (P : Trade → Type 0) (rs : List Trade) where
  pub each_push : (y : Trade) → Each P rs → P y → Each P (rs ++ y ∷ [])
  each_push y all here = λ k l. ⊎_elim
      (λ (q : k < length rs). subst P (sym (get_or_append_left rs (y ∷ []) no_trade k q)) (all k q))
      (λ (q : length rs ≤ k). subst P (sym (get_or_push rs y no_trade k (omega (arith, length-append rs (y ∷ []))))) here)
      (cases_lt k (length rs))

  pub each_set : (i : ℕ) (y : Trade) → i < length rs → Each P rs → P y → Each P (set rs i y)
  each_set i y lt all here = λ k l. ⊎_elim
      (λ (q : k ≡ i). subst P (sym (get_or-set_same rs i y no_trade lt) ∙ ap (λ (n : ℕ). get_or (set rs i y) n no_trade) (sym q)) here)
      (λ (q : k ≢ i). subst P (sym (get_or-set_other rs i k y no_trade q)) (all k (omega (arith, length-set rs i y))))
      (cases_eq k i)

  pub each_removed : (i : ℕ) → i < length rs → Each P rs → Each P (remove rs i)
  each_removed i lt all = λ k l.
      let n = length-remove rs i lt in
      ⊎_elim
      (λ (q : k < i). subst P (sym (get_or-remove_below rs i no_trade k q lt)) (all k (omega arith)))
      (λ (q : i ≤ k). subst P (sym (get_or-remove_above rs i no_trade k q lt)) (all (k + 1) (omega (arith, n))))
      (cases_lt k i)
