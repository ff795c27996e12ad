-- A signed total: its grounds are those of its size, and its shares keep the law where those of its size do.
use Rattle.std.proofs.Common.{◌≡◌, ℕ, zero, suc, ◌+◌, ◌-◌, ◌*◌, ◌≢◌, List, [], ◌∷◌, map, length, get_or, ℤ, pos, negsuc, ◌+ℤ◌, ◌-ℤ◌, ◌*ℤ◌, neg_ℤ, nat_abs, ◌<ℤ◌, None, Ok, Err, fold, sum, Result, sym, refl, ap, ◌∙◌, subst, arith}
use mathlib.Core.List.{map-map}
use lib.IntN.{+ℤ_idr, zero-*ℤ, negsuc-*ℤ-pos}
use Rattle.std.proofs.lemmas.List.{length-map, get_or-map, map-id}
use Rattle.std.proofs.lemmas.Int.{ints}
use Rattle.std.proofs.lemmas.List.Sums.{sum_by-cons}
use Rattle.std.proofs.lemmas.Bool.Decides.{nat_tests}
use Rattle.figures.specs.Grounds.{first_of}
use Rattle.figures.specs.Rounding.{apart}
use Rattle.figures.specs.declared.units.Cents.{Cents}
use Rattle.division.specs.Columns.{cents_of, amounts, negated}
use Rattle.division.specs.Rules.{rule_grounds, signed_grounds, signed_shares, sum_ℤ, Fair, Lawful, Balanced, Divided, SignedDivided}
use Rattle.division.specs.declared.rules.DivisionFault.{DivisionFault}
use Rattle.division.proofs.Asked.{fair}

pub amounts_cents : (zs : List ℤ) → amounts (cents_of zs) ≡ zs
amounts_cents zs = map-map (λ (c : Cents). c.0) (λ (z : ℤ). record { 0 = z }) zs ∙ map-id zs

pub negated_cents : (xs : List ℕ) → map negated (cents_of (map pos xs)) ≡ cents_of (map (λ x. neg_ℤ (pos x)) xs)
negated_cents xs =
    ap (map negated) (map-map (λ (z : ℤ). record { 0 = z }) pos xs)
    ∙ (map-map negated (λ (x : ℕ). record { 0 = pos x }) xs
    ∙ sym (map-map (λ (z : ℤ). record { 0 = z }) (λ (x : ℕ). neg_ℤ (pos x)) xs))

-- the grounds of a signed total that is not 0 are those of its size
pub size_grounds_lem : (z : ℤ) (ls : List ℕ) (n : ℕ) → nat_abs z ≢ 0 → first_of (signed_grounds z ls n) ≡ first_of (rule_grounds (pos (nat_abs z)) ls n)
size_grounds_lem z ls n h = grind (arith, nat_tests)

sum_none : (ls : List ℕ) → sum_ℤ (map (λ (_ : ℕ). pos 0) ls) ≡ pos 0
sum_none [] = refl
sum_none (l ∷ ls) = sum_none ls

sum_up : (a : ℤ) (xs : List ℕ) → fold ◌+ℤ◌ a (map pos xs) ≡ a +ℤ pos (sum xs)
sum_up a [] = sym (+ℤ_idr a)
sum_up a (x ∷ xs) = let i = sum_up (a +ℤ pos x) xs in let e = sum_by-cons (λ (y : ℕ). y) x xs in omega (arith, ints, i)

sum_down : (a : ℤ) (xs : List ℕ) → fold ◌+ℤ◌ a (map (λ x. neg_ℤ (pos x)) xs) ≡ a +ℤ neg_ℤ (pos (sum xs))
sum_down a [] = sym (+ℤ_idr a)
sum_down a (x ∷ xs) = let i = sum_down (a +ℤ neg_ℤ (pos x)) xs in let e = sum_by-cons (λ (y : ℕ). y) x xs in omega (arith, ints, i)

neg-mul : (x n : ℕ) → neg_ℤ (pos x) *ℤ pos n ≡ neg_ℤ (pos (x * n))
neg-mul zero n = (let z = zero-*ℤ (pos n) in z) ∙ ap (λ (k : ℕ). neg_ℤ (pos k)) (let e : 0 ≡ 0 * n = omega arith in e)
neg-mul (suc x) n = negsuc-*ℤ-pos x n

off : (a b : ℕ) → nat_abs (pos a -ℤ pos b) ≡ (b - a) + (a - b)
off a b = omega (arith, ints)

off_down : (a b : ℕ) → nat_abs (neg_ℤ (pos a) -ℤ neg_ℤ (pos b)) ≡ (b - a) + (a - b)
off_down a b = omega (arith, ints)

level : (ls : List ℕ) → Balanced (pos 0) ls (map (λ _. pos 0) ls)
level ls = record {
  many = length-map ls (λ (_ : ℕ). pos 0);
  adds = sum_none ls;
  near = λ s lt busy.
      (let v = get_or-map (λ (_ : ℕ). pos 0) ls s 0 (pos 0) lt in
      let e = ap (λ (y : ℤ). nat_abs (y *ℤ pos (sum ls) -ℤ pos 0 *ℤ pos (get_or ls s 0))) v ∙ off (0 * sum ls) (0 * get_or ls s 0) in
      omega arith);
}

module _ (f : ℕ → List ℕ → List ℕ) (ls : List ℕ) (law : (t : ℕ) → Fair t ls → Lawful t ls (f t ls)) where
  up : (t : ℕ) → Fair t ls → Balanced (pos t) ls (map pos (f t ls))
  up t h =
      let l = law t h in
      record {
        many = length-map (f t ls) pos ∙ l.many;
        adds = sum_up (pos 0) (f t ls) ∙ ap pos (let e : 0 + sum (f t ls) ≡ t = (let a = l.adds in omega arith) in e);
        near = λ s lt busy.
            (let v = get_or-map pos (f t ls) s 0 (pos 0) (let m = l.many in omega arith) in
            let e : nat_abs (get_or (map pos (f t ls)) s (pos 0) *ℤ pos (sum ls) -ℤ pos t *ℤ pos (get_or ls s 0)) ≡ apart (t * get_or ls s 0) (sum ls) (get_or (f t ls) s 0)
            = ap (λ (y : ℤ). nat_abs (y *ℤ pos (sum ls) -ℤ pos t *ℤ pos (get_or ls s 0))) v ∙ off (get_or (f t ls) s 0 * sum ls) (t * get_or ls s 0) in
            let k = l.near s lt in
            omega arith);
      }

  down : (t : ℕ) → Fair t ls → Balanced (neg_ℤ (pos t)) ls (map (λ x. neg_ℤ (pos x)) (f t ls))
  down t h =
      let l = law t h in
      record {
        many = length-map (f t ls) (λ (x : ℕ). neg_ℤ (pos x)) ∙ l.many;
        adds = sum_down (pos 0) (f t ls) ∙ (let a = l.adds in omega (arith, ints));
        near = λ s lt busy.
            (let v = get_or-map (λ (x : ℕ). neg_ℤ (pos x)) (f t ls) s 0 (pos 0) (let m = l.many in omega arith) in
            let e : nat_abs (get_or (map (λ x. neg_ℤ (pos x)) (f t ls)) s (pos 0) *ℤ pos (sum ls) -ℤ neg_ℤ (pos t) *ℤ pos (get_or ls s 0)) ≡ apart (t * get_or ls s 0) (sum ls) (get_or (f t ls) s 0)
            = ap (λ (y : ℤ). nat_abs (y *ℤ pos (sum ls) -ℤ neg_ℤ (pos t) *ℤ pos (get_or ls s 0))) v
            ∙ (ap (λ (y : ℤ). nat_abs (y -ℤ neg_ℤ (pos t) *ℤ pos (get_or ls s 0))) (neg-mul (get_or (f t ls) s 0) (sum ls))
            ∙ (ap (λ (y : ℤ). nat_abs (neg_ℤ (pos (get_or (f t ls) s 0 * sum ls)) -ℤ y)) (neg-mul t (get_or ls s 0))
            ∙ off_down (get_or (f t ls) s 0 * sum ls) (t * get_or ls s 0))) in
            let k = l.near s lt in
            omega arith);
      }

  -- the shares of a signed total that no ground denies
  pub balanced : (z : ℤ) (n : ℕ) → first_of (signed_grounds z ls n) ≡ None → Balanced z ls (signed_shares f z ls)
  balanced (pos zero) n h = level ls
  balanced (pos (suc m)) n h = up (suc m) (fair (pos (suc m)) ls n (sym (size_grounds_lem (pos (suc m)) ls n (omega arith)) ∙ h)).0
  balanced (negsuc m) n h = down (suc m) (fair (pos (suc m)) ls n (sym (size_grounds_lem (negsuc m) ls n (omega arith)) ∙ h)).0

  module _ (was : List Cents) where
    -- a call that was done, with the signed shares in its column
    pub done : (z : ℤ) (out : List Cents) → first_of (signed_grounds z ls (length was)) ≡ None → out ≡ cents_of (signed_shares f z ls)
        → SignedDivided f z ls was (Ok tt) out
    done z out h e = record {
      judged = h;
      column = e;
      balanced = subst (λ (zs : List ℤ). Balanced z ls zs) (sym (ap amounts e ∙ amounts_cents (signed_shares f z ls))) (balanced z (length was) h);
    }

    -- an answer of the rule itself, where the total is above 0
    pub by_rule : (z : ℤ) (r : Result Unit DivisionFault) (out : List Cents) → pos 0 <ℤ z
        → Divided (rule_grounds z ls (length was)) (cents_of (map pos (f (nat_abs z) ls))) was r out → SignedDivided f z ls was r out
    by_rule (pos zero) r out h d = absurd (omega (arith, ints))
    by_rule (pos (suc m)) (Ok u) out h d = done (pos (suc m)) out (size_grounds_lem (pos (suc m)) ls (length was) (omega arith) ∙ d.judged) d.column
    by_rule (pos (suc m)) (Err e) out h d = record {
      judged = size_grounds_lem (pos (suc m)) ls (length was) (omega arith) ∙ d.judged;
      column = d.column;
      balanced = tt;
    }
    by_rule (negsuc m) r out h d = absurd (omega (arith, ints))

    -- an answer to a total of 0
    pub by_zero : (z : ℤ) (r : Result Unit DivisionFault) (out : List Cents) → z ≡ pos 0
        → Divided (signed_grounds (pos 0) ls (length was)) (cents_of (map (λ _. pos 0) ls)) was r out → SignedDivided f z ls was r out
    by_zero (pos zero) (Ok u) out h d = done (pos 0) out d.judged d.column
    by_zero (pos zero) (Err e) out h d = record { judged = d.judged; column = d.column; balanced = tt }
    by_zero (pos (suc m)) r out h d = absurd (omega (arith, ints))
    by_zero (negsuc m) r out h d = absurd (omega (arith, ints))

    -- the shares of the opposite m, negated
    pub by_opposite : (z m : ℤ) (parts out : List Cents) → z <ℤ pos 0 → m ≡ pos (nat_abs z)
        → Divided (rule_grounds m ls (length was)) (cents_of (map pos (f (nat_abs m) ls))) was (Ok tt) parts → out ≡ map negated parts → SignedDivided f z ls was (Ok tt) out
    by_opposite (pos n) m parts out h e d w = absurd (omega (arith, ints))
    by_opposite (negsuc n) m parts out h e d w =
        done (negsuc n) out
        (size_grounds_lem (negsuc n) ls (length was) (omega arith) ∙ (ap (λ (y : ℤ). first_of (rule_grounds y ls (length was))) (sym e) ∙ d.judged))
        (w ∙ (ap (map negated) (d.column ∙ ap (λ (y : ℤ). cents_of (map pos (f (nat_abs y) ls))) e) ∙ negated_cents (f (suc n) ls)))
