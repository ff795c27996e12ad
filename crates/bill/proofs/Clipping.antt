-- A bill that is carried in 64 and 32 bits is answered as the bill itself: what does not fit is beyond its limit either way.
use Rattle.std.proofs.Common.{◌≡◌, ℕ, suc, Bool, true, false, ◌||◌, ltb, List, [], ◌∷◌, ◌++◌, map, length, ℤ, pos, negsuc, nat_abs, Some, Option, sym, refl, ap, ◌∙◌, inl, inr, arith}
use mathlib.Core.List.{map-map}
use Rattle.std.specs.Int.{saturate_to_bits}
use Rattle.std.specs.Option.{option_map}
use Rattle.std.proofs.lemmas.Bool.{cases_Bool, or_parts, ltb-false}
use Rattle.std.proofs.lemmas.Bool.Decides.{nat_tests}
use Rattle.figures.specs.Grounds.{first_of}
use Rattle.division.specs.Limits.{max_total, max_load}
use Rattle.division.specs.Rules.{heavy, signed_grounds, signed_shares, ground_of}
use Rattle.division.specs.declared.rules.DivisionFault.{DivisionFault}
use Rattle.division.specs.declared.rules.DivisionFault.TheVariants.{Beyond}
use Rattle.division.specs.Cut.{cut_of}
use Rattle.division.specs.Remainder.{remainder_of}
use Rattle.bill.specs.Figures.{figure_of}
use Rattle.bill.specs.Lines.{denied_text}
use Rattle.bill.specs.Bills.{load_of, carried, Billed, ReadAs, Answered, answered, answer_text}

-- a load as it is carried
abbrev pub held : ℤ → ℕ
held y = carried (saturate_to_bits 63 y)

same_test : (y : ℤ) → ltb max_load (held y) ≡ ltb max_load (load_of y)
same_test (pos n) = grind (arith, nat_tests)
same_test (negsuc n) = refl

same_load : (y : ℤ) → ltb max_load (load_of y) ≡ false → held y ≡ load_of y
same_load (pos n) h = let l = ltb-false max_load n h in omega arith
same_load (negsuc n) h = let l = ltb-false max_load (suc max_load) h in absurd (omega arith)

same_heavy : (zs : List ℤ) → heavy (map held zs) ≡ heavy (map load_of zs)
same_heavy [] = refl
same_heavy (z ∷ zs) = ap (λ (b : Bool). b || heavy (map held zs)) (same_test z) ∙ ap (λ (b : Bool). ltb max_load (load_of z) || b) (same_heavy zs)

same_loads : (zs : List ℤ) → heavy (map load_of zs) ≡ false → map held zs ≡ map load_of zs
same_loads [] h = refl
same_loads (z ∷ zs) h =
    let p = or_parts _ _ h in
    ap (λ (n : ℕ). n ∷ map held zs) (same_load z p.0) ∙ ap (λ (ns : List ℕ). load_of z ∷ ns) (same_loads zs p.1)

same_size : (z : ℤ) → ltb max_total (nat_abs (saturate_to_bits 63 z)) ≡ ltb max_total (nat_abs z)
same_size (pos n) = grind (arith, nat_tests)
same_size (negsuc n) = grind (arith, nat_tests)

same_total : (z : ℤ) → ltb max_total (nat_abs z) ≡ false → saturate_to_bits 63 z ≡ z
same_total (pos n) h = let l = ltb-false max_total n h in ap pos (omega arith)
same_total (negsuc n) h = let l = ltb-false max_total (suc n) h in ap negsuc (omega arith)

module _ (code : ℕ) (f : ℕ → List ℕ → List ℕ) where
  -- a figure beyond its limit is denied, whatever it is
  beyond_text : (z : ℤ) (ls : List ℕ) → (ltb max_total (nat_abs z) || heavy ls) ≡ true → answer_text code f z ls ≡ denied_text code (ground_of Beyond)
  beyond_text z ls h =
      let e : first_of (signed_grounds z ls (length ls)) ≡ Some Beyond = grind (arith, nat_tests) in
      ap (λ (o : Option DivisionFault). answered code o (signed_shares f z ls)) e

  pub clipped : (z : ℤ) (zs : List ℤ) → answer_text code f (saturate_to_bits 63 z) (map held zs) ≡ answer_text code f z (map load_of zs)
  clipped z zs = elim (cases_Bool (ltb max_total (nat_abs z) || heavy (map load_of zs))) [
    | inl far ↦
        let same = ap (λ (b : Bool). b || heavy (map held zs)) (same_size z) ∙ ap (λ (b : Bool). ltb max_total (nat_abs z) || b) (same_heavy zs) in
        beyond_text (saturate_to_bits 63 z) (map held zs) (same ∙ far) ∙ sym (beyond_text z (map load_of zs) far)
    | inr within ↦
        let p = or_parts _ _ within in
        ap (λ (y : ℤ). answer_text code f y (map held zs)) (same_total z p.0) ∙ ap (λ (ls : List ℕ). answer_text code f z ls) (same_loads zs p.1)
  ]

billed : (fs : List (List ℕ)) (z : ℤ) (zs : List ℤ) → map figure_of fs ≡ map Some (z ∷ zs) → Billed fs z (map load_of zs)
billed [] z zs e = let w : ◌≡◌ {A = ℕ} 0 1 = cc in absurd (omega arith)
billed (f ∷ fs) z zs e =
    let head : figure_of f ≡ Some z = cc in
    let tail : map figure_of fs ≡ map Some zs = cc in (
      head,
      sym (map-map (option_map load_of) figure_of fs) ∙ (ap (map (option_map load_of)) tail ∙ (map-map (option_map load_of) Some zs ∙ sym (map-map Some load_of zs))),
    )

-- the two lines, from what was read and what each rule answered to it
pub both : (fs : List (List ℕ)) (t : ℤ) (ls bs cut rest : List ℕ) → ReadAs fs t ls → cut ≡ answer_text 82 cut_of t ls → rest ≡ answer_text 76 remainder_of t ls
    → bs ≡ cut ++ (10 ∷ (rest ++ (10 ∷ []))) → Answered fs bs
both fs t ls bs cut rest r c l e =
    let z = r.0 in
    let zs = r.1 in
    let carry : (code : ℕ) (f : ℕ → List ℕ → List ℕ) → answer_text code f t ls ≡ answer_text code f z (map load_of zs)
    = λ code f. ap (λ (y : ℤ). answer_text code f y ls) r.3 ∙ (ap (λ (ns : List ℕ). answer_text code f (saturate_to_bits 63 z) ns) r.4 ∙ clipped code f z zs) in (
      z,
      map load_of zs,
      billed fs z zs r.2,
      e
          ∙ (ap (λ (xs : List ℕ). xs ++ (10 ∷ (rest ++ (10 ∷ [])))) (c ∙ carry 82 cut_of)
          ∙ ap (λ (xs : List ℕ). answer_text 82 cut_of z (map load_of zs) ++ (10 ∷ (xs ++ (10 ∷ [])))) (l ∙ carry 76 remainder_of)),
    )
