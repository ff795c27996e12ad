-- A bill from its fields, and an answer's text from what a division answered.
use Rattle.std.proofs.Common.{◌≡◌, ℕ, List, [], ◌∷◌, map, length, ℤ, Some, None, Ok, Option, sym, refl, ap, ◌∙◌, arith}
use mathlib.Core.List.{map-map}
use Rattle.std.specs.Int.{saturate_to_bits}
use Rattle.std.specs.Option.{option_map}
use Rattle.std.proofs.lemmas.List.{length-map, nil_from_length}
use Rattle.figures.specs.Grounds.{first_of}
use Rattle.figures.specs.declared.units.Cents.{Cents}
use Rattle.division.specs.Columns.{amounts}
use Rattle.division.specs.Rules.{signed_grounds, signed_shares, SignedDivided}
use Rattle.division.specs.declared.rules.DivisionFault.{DivisionFault}
use Rattle.division.proofs.Signs.{amounts_cents}
use Rattle.bill.specs.Figures.{figure_of}
use Rattle.bill.specs.Fields.{value_of, Values}
use Rattle.bill.specs.Lines.{shares_text}
use Rattle.bill.specs.Bills.{carried, ReadAs, answered, answer_text}

-- what the figures are that were carried as the nearest of 64 bits
exact : (fs : List (List ℕ)) (vs : List ℤ) → Values fs vs → (zs : List ℤ) × (map figure_of fs ≡ map Some zs) × (vs ≡ map (saturate_to_bits 63) zs)
exact [] [] e = ([], refl, refl)
exact [] (v ∷ vs) e = let w : ◌≡◌ {A = ℕ} 0 1 = cc in absurd (omega arith)
exact (f ∷ fs) [] e = let w : ◌≡◌ {A = ℕ} 0 1 = cc in absurd (omega arith)
exact (f ∷ fs) (v ∷ vs) e =
    let head : value_of f ≡ Some v = cc in
    let tail : map value_of fs ≡ map Some vs = cc in
    let i = exact fs vs tail in
    let go : (o : Option ℤ) → figure_of f ≡ o → option_map (saturate_to_bits 63) o ≡ Some v → (zs : List ℤ) × (map figure_of (f ∷ fs) ≡ map Some zs) × (v ∷ vs ≡ map (saturate_to_bits 63) zs)
    = λ o. elim o as (λ p. figure_of f ≡ p → option_map (saturate_to_bits 63) p ≡ Some v → (zs : List ℤ) × (map figure_of (f ∷ fs) ≡ map Some zs) × (v ∷ vs ≡ map (saturate_to_bits 63) zs)) [
      | None ↦ λ h k. (let w : ◌≡◌ {A = ℕ} 0 1 = cc in absurd (omega arith))
      | Some z ↦ λ h k. (z ∷ i.0, (let q = i.1 in cc), (let q = i.2 in let r : v ≡ saturate_to_bits 63 z = cc in cc))
    ]
    in go (figure_of f) refl head

-- a line's figures, as they are carried
pub read_as : (fs : List (List ℕ)) (vs : List ℤ) (t : ℤ) (rest : List ℤ) (ls : List ℕ) → Values fs vs → vs ≡ t ∷ rest → ls ≡ map carried rest → ReadAs fs t ls
read_as fs vs t rest ls v s c =
    let e = exact fs vs v in
    let go : (zs : List ℤ) → map figure_of fs ≡ map Some zs → t ∷ rest ≡ map (saturate_to_bits 63) zs → ReadAs fs t ls
    = λ zs. elim zs as (λ ys. map figure_of fs ≡ map Some ys → t ∷ rest ≡ map (saturate_to_bits 63) ys → ReadAs fs t ls) [
      | [] ↦ λ h k. (let w : ◌≡◌ {A = ℕ} 0 1 = cc in absurd (omega arith))
      | z ∷ ys ↦ λ h k.
          (let top : t ≡ saturate_to_bits 63 z = cc in
          let down : rest ≡ map (saturate_to_bits 63) ys = cc in
          (z, ys, h, top, c ∙ (ap (map carried) down ∙ map-map carried (saturate_to_bits 63) ys)))
    ]
    in go e.0 e.1 (sym s ∙ e.2)

pub no_fields : (fs : List (List ℕ)) (zs : List ℤ) → Values fs zs → length zs ≡ 0 → fs ≡ []
no_fields fs zs v n = nil_from_length fs (sym (length-map fs value_of) ∙ (ap length v ∙ (length-map zs Some ∙ n)))

module _ (code : ℕ) (f : ℕ → List ℕ → List ℕ) (z : ℤ) (ls : List ℕ) (was out : List Cents) (n : length was ≡ length ls) where
  grounds : (o : Option DivisionFault) → first_of (signed_grounds z ls (length was)) ≡ o → answer_text code f z ls ≡ answered code o (signed_shares f z ls)
  grounds o j = ap (λ (p : Option DivisionFault). answered code p (signed_shares f z ls)) (ap (λ (k : ℕ). first_of (signed_grounds z ls k)) (sym n) ∙ j)

  pub shares_text_lem : SignedDivided f z ls was (Ok tt) out → answer_text code f z ls ≡ shares_text code (amounts out)
  shares_text_lem d = grounds None d.judged ∙ ap (shares_text code) (sym (ap amounts d.column ∙ amounts_cents (signed_shares f z ls)))
