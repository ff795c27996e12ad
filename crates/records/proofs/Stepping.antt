-- A record that was read is the next part of the tape. Assumes nothing.
use Rattle.std.proofs.Common.{◌≡◌, ℕ, suc, ◌+◌, ◌≤◌, List, ◌∷◌, ◌++◌, length, take, drop, Some, None, Ok, Option, sym, ap, ◌∙◌, subst, arith}
use Rattle.std.proofs.Math.Seq.{take-append-add}
use Rattle.std.proofs.lemmas.List.{length-take, length-take-le, length-drop, take-append-drop}
use Rattle.records.specs.Layout.{width_of, bytes_of}
use Rattle.records.specs.Reading.{Begins, ReadAt, letter_at, body_at}
use Rattle.records.specs.Tapes.{Next}
use Rattle.records.specs.declared.entries.Entry.{Entry}
use Rattle.records.specs.declared.reading.Record.{Record}

begun : (w : Option ℕ) (body rest : List ℕ) → Begins w body rest → (length body ≤ length rest) × (take (length body) rest ≡ body)
begun None body rest h = absurd h
begun (Some n) body rest h =
    let t : length (take n rest) ≡ length body = ap length h.1 in
    (omega (arith, t, h.0, length-take n rest), ap (λ (m : ℕ). take m rest) h.0 ∙ h.1)

cut : (bs : List ℕ) (p m : ℕ) → p ≤ length bs → take (p + m) bs ≡ take p bs ++ take m (drop p bs)
cut bs p m h =
    let whole = take-append-drop p bs in
    let n = length-take-le p bs h in
    subst (λ (xs : List ℕ). take (p + m) xs ≡ take p bs ++ take m (drop p bs)) whole
    (subst (λ (k : ℕ). take (k + m) (take p bs ++ drop p bs) ≡ take p bs ++ take m (drop p bs)) n (take-append-add (take p bs) (drop p bs) m))

pub stepped : (bs : List ℕ) (p : ℕ) (r : Record) (e : Entry) → p ≤ length bs → ReadAt bs p (Ok (Some r)) → bytes_of e ≡ letter_at r ∷ body_at r → Next bs p e
stepped bs p r e h a q =
    let k = a.0 in
    let rest = a.1 in
    let at : drop p bs ≡ k ∷ rest = a.2 in
    let body = begun (width_of k) (body_at r) rest a.3.2 in
    let long : length (bytes_of e) ≡ suc (length (body_at r)) = ap length q in
    let left : length (drop p bs) ≡ suc (length rest) = ap length at in
    let here : take (length (bytes_of e)) (drop p bs) ≡ bytes_of e =
    subst (λ (n : ℕ). take n (drop p bs) ≡ bytes_of e) (sym long)
    (subst (λ (xs : List ℕ). take (suc (length (body_at r))) xs ≡ bytes_of e) (sym at)
    (ap (λ (xs : List ℕ). k ∷ xs) body.1 ∙ ap (λ (x : ℕ). x ∷ body_at r) (sym a.3.1) ∙ sym q)) in
    record {
      within = omega (arith, long, left, body.0, length-drop p bs, h);
      exact = cut bs p (length (bytes_of e)) h ∙ ap (λ (xs : List ℕ). take p bs ++ xs) here;
    }
