-- Adding up cells, seat by seat. Assumes nothing.
use Rattle.std.specs.Prelude.{◌≡◌, ℕ, zero, suc, ◌+◌, ◌-◌, ◌*◌, ◌<◌, ◌≤◌, Some, None, Option, refl}
use Rattle.std.proofs.Common.{ap, add-zero, add-suc, add-one, arith}
use Rattle.sheet.specs.Tables.{plus, added_up, filled, filled_up}

blank_right : (o : Option ℕ) → plus o None ≡ None
blank_right None = refl
blank_right (Some x) = refl

-- what lies n steps on
pub steps_on : (i n : ℕ) → i ≤ n → (k : ℕ) × (n ≡ i + k)
steps_on i n h = (n - i, omega arith)

module _ (f : ℕ → Option ℕ) where
  filled_is : (n x : ℕ) → added_up f n ≡ Some x → filled_up f n ≡ x
  filled_is zero x e = cc
  filled_is (suc n) x e =
      let go : (p q : Option ℕ) → added_up f n ≡ p → f n ≡ q → plus p q ≡ Some x → filled_up f n + filled (f n) ≡ x
      = λ p q. elim p as (λ p. added_up f n ≡ p → f n ≡ q → plus p q ≡ Some x → filled_up f n + filled (f n) ≡ x) [
        | None ↦ λ a b k. (let z : ◌≡◌ {A = ℕ} 0 1 = cc in absurd (omega (arith, z)))
        | Some u ↦ elim q as (λ q. added_up f n ≡ Some u → f n ≡ q → plus (Some u) q ≡ Some x → filled_up f n + filled (f n) ≡ x) [
          | None ↦ λ a b k. (let z : ◌≡◌ {A = ℕ} 0 1 = cc in absurd (omega (arith, z)))
          | Some v ↦ λ a b k. (let r = filled_is n u a in let s : filled (f n) ≡ v = ap filled b in let w : u + v ≡ x = cc in omega arith)
        ]
      ]
      in go (added_up f n) (f n) refl refl e

  pub filled_rises : (n k : ℕ) → filled_up f n ≤ filled_up f (n + k)
  filled_rises n zero = rw add-zero (omega arith)
  filled_rises n (suc k) = rw add-suc (let r = filled_rises n k in omega arith)

  blank_stays : (n k : ℕ) → added_up f n ≡ None → added_up f (n + k) ≡ None
  blank_stays n zero e = rw add-zero e
  blank_stays n (suc k) e = rw add-suc (let r = blank_stays n k e in ap (λ o. plus o (f (n + k))) r)

  -- one more seat, whose cell is filled
  pub added_next : (i s x : ℕ) → added_up f i ≡ Some s → f i ≡ Some x → added_up f (i + 1) ≡ Some (s + x)
  added_next i s x a b = rw add-one (rw a (rw b))

  pub added_fits : (i n s x : ℕ) → i < n → added_up f i ≡ Some s → f i ≡ Some x → s + x ≤ filled_up f n
  added_fits i n s x h a b =
      let w = steps_on (i + 1) n (omega arith) in
      let r = filled_rises (i + 1) w.0 in
      let e = filled_is (i + 1) (s + x) (added_next i s x a b) in
      rw w.1 (omega arith)

  -- one seat's blank makes the whole blank
  pub added_blank : (i n : ℕ) → i < n → f i ≡ None → added_up f n ≡ None
  added_blank i n h b =
      let w = steps_on (i + 1) n (omega arith) in
      let e : added_up f (i + 1) ≡ None = rw add-one (rw b (blank_right (added_up f i))) in
      rw w.1 (blank_stays (i + 1) w.0 e)

  pub filled-le : (m : ℕ) → ((s : ℕ) → filled (f s) ≤ m) → (n : ℕ) → filled_up f n ≤ n * m
  filled-le m h zero = omega arith
  filled-le m h (suc n) = omega (arith, filled-le m h n, h n)
