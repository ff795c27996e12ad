-- Of numbers that are all different, exactly m have fewer than m others above them.
use Rattle.std.specs.Prelude.{◌≡◌, ℕ, zero, suc, ◌+◌, ◌-◌, ◌<◌, ◌≤◌, Bool, ltb, ◌≢◌, ◌⊎◌, List, [], ◌∷◌, map, length, count_by, nat_lt, refl}
use Rattle.std.proofs.Common.{sym, ap, ◌∙◌, inl, inr, arith}
use Rattle.std.specs.List.{range_with_len}
use Rattle.std.proofs.lemmas.List.Sums.{sum_by-cons, count_by-le-length}
use Rattle.std.proofs.lemmas.Bool.{lt-ltb, le-ltb, cases_lt, cases_order}
use Rattle.figures.specs.SeatSums.{bit}

-- z is among xs
abbrev pub Among : ℕ → List ℕ → Type 0
Among z [] = ⊥
Among z (x ∷ xs) = (z ≡ x) ⊎ Among z xs

abbrev pub Different : List ℕ → Type 0
Different [] = Unit {0}
Different (x ∷ xs) = ((z : ℕ) → Among z xs → z ≢ x) × Different xs

-- how many of xs are above z
abbrev pub above : List ℕ → ℕ → ℕ
above xs z = count_by (λ y. ltb z y) xs

count_cons : (p : ℕ → Bool) (x : ℕ) (xs : List ℕ) → count_by p (x ∷ xs) ≡ bit (p x) + count_by p xs
count_cons p x xs = sum_by-cons (λ y. bit (p y)) x xs

bit_yes : (a b : ℕ) → a < b → bit (nat_lt a b) ≡ 1
bit_yes a b h = ap bit (lt-ltb a b h)

bit_no : (a b : ℕ) → b ≤ a → bit (nat_lt a b) ≡ 0
bit_no a b h = ap bit (le-ltb a b h)

-- two tests that hold together
same_bit : (a m b n : ℕ) → (a < m → b < n) → (b < n → a < m) → bit (nat_lt a m) ≡ bit (nat_lt b n)
same_bit a m b n f g = elim (cases_lt a m) [
  | inl l ↦ bit_yes a m l ∙ sym (bit_yes b n (f l))
  | inr h ↦ elim (cases_lt b n) [
    | inl l ↦ absurd (let k = g l in omega arith)
    | inr i ↦ bit_no a m h ∙ sym (bit_no b n i)
  ]
]

same_count : (p q : ℕ → Bool) (xs : List ℕ) → ((z : ℕ) → Among z xs → bit (p z) ≡ bit (q z)) → count_by p xs ≡ count_by q xs
same_count p q [] h = refl
same_count p q (x ∷ xs) h =
    let i = same_count p q xs (λ z a. h z (inr a)) in
    omega (arith, h x (inl refl), count_cons p x xs, count_cons q x xs)

-- the lower of two numbers has no fewer above it
pub above_falls : (xs : List ℕ) (z x : ℕ) → z ≤ x → above xs x ≤ above xs z
above_falls [] z x h = omega arith
above_falls (y ∷ xs) z x h =
    let i = above_falls xs z x h in
    let a = count_cons (λ v. ltb x v) y xs in
    let b = count_cons (λ v. ltb z v) y xs in
    elim (cases_lt x y) [
      | inl l ↦ let u = bit_yes x y l in let w = bit_yes z y (omega arith) in omega arith
      | inr g ↦ let u = bit_no x y g in omega arith
    ]

-- and one more where the higher is among them
above_more : (xs : List ℕ) (z x : ℕ) → x < z → Among z xs → above xs z < above xs x
above_more [] z x h w = absurd w
above_more (y ∷ xs) z x h w =
    let a = count_cons (λ v. ltb x v) y xs in
    let b = count_cons (λ v. ltb z v) y xs in
    elim w [
      | inl e ↦
          let i = above_falls xs x z (omega arith) in
          let u = bit_yes x y (omega arith) in
          let v = bit_no z y (omega arith) in
          omega arith
      | inr k ↦
          let i = above_more xs z x h k in
          elim (cases_lt z y) [
            | inl l ↦ let u = bit_yes x y (omega arith) in let v = bit_yes z y l in omega arith
            | inr g ↦ let v = bit_no z y g in omega arith
          ]
    ]

pub ranked : (xs : List ℕ) (m : ℕ) → Different xs → m ≤ length xs → count_by (λ z. ltb (above xs z) m) xs ≡ m
ranked [] m d h = omega arith
ranked (x ∷ xs) m d h =
    let front = count_cons (λ z. ltb (above (x ∷ xs) z) m) x xs in
    let own : above (x ∷ xs) x ≡ above xs x = (let c = count_cons (λ y. ltb x y) x xs in let n = bit_no x x (omega arith) in omega arith) in
    elim (cases_lt (above xs x) m) [
      | inl l ↦
          let in_front = bit_yes (above (x ∷ xs) x) m (omega arith) in
          let others = same_count (λ z. ltb (above (x ∷ xs) z) m) (λ z. ltb (above xs z) (m - 1)) xs (λ z w.
          let c = count_cons (λ y. ltb z y) x xs in
          elim (cases_order z x) [
            | inl e ↦ absurd (d.0 z w e)
            | inr o ↦ elim o [
              | inl under ↦ let b = bit_yes z x under in same_bit (above (x ∷ xs) z) m (above xs z) (m - 1) (λ q. omega arith) (λ q. omega arith)
              | inr over ↦ let b = bit_no z x (omega arith) in let s = above_more xs z x over w in
                  same_bit (above (x ∷ xs) z) m (above xs z) (m - 1) (λ q. omega arith) (λ q. omega arith)
            ]
          ]) in
          let i = ranked xs (m - 1) d.1 (omega arith) in
          omega arith
      | inr g ↦
          let behind = bit_no (above (x ∷ xs) x) m (omega arith) in
          let others = same_count (λ z. ltb (above (x ∷ xs) z) m) (λ z. ltb (above xs z) m) xs (λ z w.
          let c = count_cons (λ y. ltb z y) x xs in
          elim (cases_order z x) [
            | inl e ↦ absurd (d.0 z w e)
            | inr o ↦ elim o [
              | inl under ↦ let b = bit_yes z x under in let s = above_falls xs z x (omega arith) in
                  same_bit (above (x ∷ xs) z) m (above xs z) m (λ q. omega arith) (λ q. omega arith)
              | inr over ↦ let b = bit_no z x (omega arith) in
                  same_bit (above (x ∷ xs) z) m (above xs z) m (λ q. omega arith) (λ q. omega arith)
            ]
          ]) in
          let i = ranked xs m d.1 (let n = count_by-le-length (λ y. ltb x y) xs in omega arith) in
          omega arith
    ]

-- a list made by a function that differs at different seats
among_made : (f : ℕ → ℕ) (a n z : ℕ) → Among z (map f (range_with_len a n)) → (k : ℕ) × (a ≤ k) × (k < a + n) × (z ≡ f k)
among_made f a zero z w = absurd w
among_made f a (suc n) z w = elim w [
  | inl e ↦ (a, omega arith, omega arith, e)
  | inr v ↦ let i = among_made f (a + 1) n z v in (i.0, omega (arith, i.1), omega (arith, i.2), i.3)
]

pub different_made : (f : ℕ → ℕ) (a n : ℕ) → ((i j : ℕ) → i < j → j < a + n → f i ≢ f j) → Different (map f (range_with_len a n))
different_made f a zero h = tt
different_made f a (suc n) h = (
  λ z w e. (let i = among_made f (a + 1) n z w in h a i.0 (omega (arith, i.1)) (omega (arith, i.2)) (sym e ∙ i.3)),
  different_made f (a + 1) n (λ i j l u. h i j l (omega arith)),
)
