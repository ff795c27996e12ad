-- Fields of a known count, written out one by one. Assumes nothing.
use Rattle.std.proofs.Common.{◌≡◌, ℕ, suc, ◌<◌, ◌≤◌, List, [], length, get_or, map, Some, Option, Bor, subst, arith}
use Rattle.std.specs.List.{range_with_len}
use Rattle.std.proofs.lemmas.List.{ext_get_or}
use Rattle.std.proofs.lemmas.List.FromFn.{length-map-range_with_len, get_or-map-range_with_len}
use Rattle.words.specs.Numbers.{number_of}
use Rattle.assembly.specs.Lines.{fault_of}
use Rattle.assembly.specs.declared.faults.LineFault.{LineFault}

-- what a read past the end would give
abbrev pub past : Bor (List ℕ)
past = record { ref_ptr = (0, 0); now = [] }

-- the first n of xs, each by its index
abbrev pub listed : List (Bor (List ℕ)) → ℕ → List (Bor (List ℕ))
listed xs n = map (λ i. get_or xs i past) (range_with_len 0 n)

spread : (xs : List (Bor (List ℕ))) (n : ℕ) → n ≤ length xs → length xs < suc n → listed xs n ≡ xs
spread xs n least below =
    let f : ℕ → Bor (List ℕ) = λ i. get_or xs i past in
    let many = length-map-range_with_len f 0 n in
    let same : length (map f (range_with_len 0 n)) ≡ length xs = omega (arith, many, least, below) in
    ext_get_or past (map f (range_with_len 0 n)) xs same (λ i lt. get_or-map-range_with_len f 0 n i i past (omega (arith, many, lt)) (omega arith))

-- their fault, and what they write, read off the list that is written out
pub fault_from : (ms : List ℕ) (xs : List (Bor (List ℕ))) (n : ℕ) (e : LineFault) → n ≤ length xs → length xs < suc n
    → fault_of ms (map (λ f. f.now) (listed xs n)) ≡ Some e → fault_of ms (map (λ f. f.now) xs) ≡ Some e
fault_from ms xs n e least below h = subst (λ (ys : List (Bor (List ℕ))). fault_of ms (map (λ f. f.now) ys) ≡ Some e) (spread xs n least below) h

pub numbers_from : (xs : List (Bor (List ℕ))) (n : ℕ) (os : List (Option ℕ)) → n ≤ length xs → length xs < suc n
    → map number_of (map (λ f. f.now) (listed xs n)) ≡ os → map number_of (map (λ f. f.now) xs) ≡ os
numbers_from xs n os least below h = subst (λ (ys : List (Bor (List ℕ))). map number_of (map (λ f. f.now) ys) ≡ os) (spread xs n least below) h
