-- The first hour at which a test holds. Assumes nothing.
use Rattle.std.proofs.Common.{◌≡◌, ℕ, zero, suc, ◌+◌, ◌-◌, ◌<◌, ◌≤◌, Bool, true, false, cond, ◌||◌, Some, None, Option, sym, refl, ap, ◌∙◌, subst, ⊎_elim, arith}
use Rattle.std.proofs.lemmas.Bool.{cases_eq, cases_Bool, or_parts}
use Rattle.book.specs.declared.trades.Offer.{Offer}
use Rattle.book.specs.Deals.{first_hour, first_of_hours}

module _ (p : ℕ → Bool) where
  unrolled : (a n m : ℕ) → n ≡ suc m → first_hour p a n ≡ cond (p a) (Some a) (first_hour p (a + 1) m)
  unrolled a n m e = ap (first_hour p a) e

  pub first_here : (a u : ℕ) → a < u → p a ≡ true → first_hour p a (u - a) ≡ Some a
  first_here a u h e = unrolled a (u - a) (u - (a + 1)) (omega arith) ∙ ap (λ (b : Bool). cond b (Some a) (first_hour p (a + 1) (u - (a + 1)))) e

  pub first_next : (a u : ℕ) → a < u → p a ≡ false → first_hour p a (u - a) ≡ first_hour p (a + 1) (u - (a + 1))
  first_next a u h e = unrolled a (u - a) (u - (a + 1)) (omega arith) ∙ ap (λ (b : Bool). cond b (Some a) (first_hour p (a + 1) (u - (a + 1)))) e

  pub first_past : (a u : ℕ) → u ≤ a → first_hour p a (u - a) ≡ None
  first_past a u h = (let e : u - a ≡ 0 = omega arith in ap (first_hour p a) e)

  none_here : (a : ℕ) (o : Option ℕ) → cond (p a) (Some a) o ≡ None → (p a ≡ false) × (o ≡ None)
  none_here a o e = ⊎_elim
      (λ k. (let w : cond (p a) (Some a) o ≡ Some a = ap (λ (b : Bool). cond b (Some a) o) k in let z : ◌≡◌ {A = ℕ} 0 1 = cc in absurd (omega (arith, z))))
      (λ k. (k, sym (ap (λ (b : Bool). cond b (Some a) o) k) ∙ e))
      (cases_Bool (p a))

  none_each : (n a h : ℕ) → first_hour p a n ≡ None → a ≤ h → h < a + n → p h ≡ false
  none_each zero a h e l m = absurd (omega arith)
  none_each (suc n) a h e l m =
      let k = none_here a (first_hour p (a + 1) n) e in
      ⊎_elim
      (λ (q : a ≡ h). subst (λ (x : ℕ). p x ≡ false) q k.0)
      (λ (q : a ≡ h → ⊥). none_each n (a + 1) h k.1 (omega (arith, q)) (omega arith))
      (cases_eq a h)

  pub first_none : (a u h : ℕ) → first_hour p a (u - a) ≡ None → a ≤ h → h < u → p h ≡ false
  first_none a u h e l m = none_each (u - a) a h e l (omega arith)

  none_at : (a : ℕ) (o : Option ℕ) → p a ≡ false → o ≡ None → cond (p a) (Some a) o ≡ None
  none_at a o e n = ap (λ (b : Bool). cond b (Some a) o) e ∙ n

-- where neither of two tests holds at any hour, each of them holds at none
module _ (p q : ℕ → Bool) where
  left : (n a : ℕ) → first_hour (λ h. p h || q h) a n ≡ None → first_hour p a n ≡ None
  left zero a e = refl
  left (suc n) a e =
      let k = none_here (λ h. p h || q h) a (first_hour (λ h. p h || q h) (a + 1) n) e in
      none_at p a (first_hour p (a + 1) n) (or_parts (p a) (q a) k.0).0 (left n (a + 1) k.1)

  right : (n a : ℕ) → first_hour (λ h. p h || q h) a n ≡ None → first_hour q a n ≡ None
  right zero a e = refl
  right (suc n) a e =
      let k = none_here (λ h. p h || q h) a (first_hour (λ h. p h || q h) (a + 1) n) e in
      none_at q a (first_hour q (a + 1) n) (or_parts (p a) (q a) k.0).1 (right n (a + 1) k.1)

pub either_left : (o : Offer) (p q : ℕ → Bool) → first_of_hours o (λ h. p h || q h) ≡ None → first_of_hours o p ≡ None
either_left o p q e = left p q ((o.last.0 + 1) - o.first.0) o.first.0 e

pub either_right : (o : Offer) (p q : ℕ → Bool) → first_of_hours o (λ h. p h || q h) ≡ None → first_of_hours o q ≡ None
either_right o p q e = right p q ((o.last.0 + 1) - o.first.0) o.first.0 e
