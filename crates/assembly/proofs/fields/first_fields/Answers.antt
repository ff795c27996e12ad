use Rattle.std.proofs.Common.{◌≡◌, ℕ, ◌<◌, List, map, length, take, Option, Some, None, Bor, sym, ap, ◌∙◌, subst, rules, tests, arith}
use Rattle.std.specs.Iterator.{Yields}
use Rattle.std.specs.Iterator.Adapters.{filter_source, filter_callee}
use Rattle.std.specs.Slice.Iter.{split_callee}
use Rattle.std.proofs.lemmas.Iterator.{YieldsList}
use Rattle.std.proofs.lemmas.Iterator.Consumers.{YieldsList-from_filter, YieldsList-turn, YieldsList-so_far, YieldsList-end}
use Rattle.std.proofs.lemmas.Iterator.Splits.{YieldsList-from_slice_split}
use Rattle.std.proofs.lemmas.List.{length-map, take_all}
use Rattle.words.specs.Fields.{blank, fields_of}
use Rattle.words.proofs.Cuts.{some, pieces}
use Rattle.assembly.proofs.fields.first_fields.Goals as goal
use Rattle.assembly.proofs.fields.first_fields.Goals.{After-next}

-- what the list fs has after the items xs: the next of it, or nothing
abbrev Left : List (List ℕ) → List (Bor (List ℕ)) → Option (Bor (List ℕ)) → Type 0
Left fs xs r =
    ((x : Bor (List ℕ)) → r ≡ Some x → (length xs < length fs) × (map (λ (y : Bor (List ℕ)). y.now) xs ≡ take (length xs) fs))
    × (r ≡ None → map (λ (y : Bor (List ℕ)). y.now) xs ≡ fs)

turn : {S : Type 0} {steps : S → Option (Bor (List ℕ)) → S → Type 0} {s : S} {all fs : List (List ℕ)} → fs ≡ all → YieldsList steps (λ x. x.now) s all
    → (xs : List (Bor (List ℕ))) (t : S) → Yields steps s xs t → (r : Option (Bor (List ℕ))) (u : S) → steps t r u → Left fs xs r
turn {S} {steps} {s} {all} {fs} p listed xs t y r u k =
    let e = subst (λ (gs : List (List ℕ)). YieldsList steps (λ x. x.now) s gs) (sym p) listed in (
      λ x i. (let n = YieldsList-turn e xs t y r u x i k in (n.0, YieldsList-so_far e xs t y)),
      λ i. (YieldsList-end e xs t y r u i k).0,
    )

-- the loop goes over the pieces of the line that are not empty, which are its fields
seen : (c : After-next) → Left (fields_of c.args.line.now) c.loop-field.yielded c.next.result
seen c =
    let line = c.args.line.now in
    let callee : filter_callee c.into_iter-field-iterator.result ≡ filter_callee c.filter-field-items.result = cc in
    let split : split_callee (filter_source c.into_iter-field-iterator.result) ≡ split_callee c.split.result = cc in
    turn (pieces line)
    (YieldsList-from_filter {s = c.into_iter-field-iterator.result} _ some
    (YieldsList-from_slice_split _ blank line (cc) (cc) (split ∙ c.split.ensures.closure) (λ x b q k. search (rules, tests)))
    (callee ∙ c.filter-field-items.ensures.closure) (λ x b q k. search (rules, tests))) c.loop-field.yielded _ c.loop-field.yielded_by c.next.result _ c.next.ensures.steps

pub returns-in-None : goal.returns-in-None
returns-in-None c =
    let fs = fields_of c.args.line.now in
    let e : map (λ (f : Bor (List ℕ)). f.now) c.loop-field.fields.items ≡ fs
    = c.loop-field.invariant.0 ∙ (seen (goal.at.returns-in-None c).After-next).1 c.in-None.is in
    let n = length-map c.loop-field.fields.items (λ (f : Bor (List ℕ)). f.now) in
    let m : length (map (λ (f : Bor (List ℕ)). f.now) c.loop-field.fields.items) ≡ length fs = ap length e in
    e ∙ sym (take_all 10 fs (omega (arith, n, m, c.loop-field.invariant.1)))

pub returns-then-is_full : goal.returns-then-is_full
returns-then-is_full c =
    let t = (seen (goal.at.returns-then-is_full c).After-next).0 c.in-Some.field c.in-Some.is in
    let e = c.loop-field.invariant.0 in
    let full : length c.loop-field.fields.items ≡ 10 = grind arith in
    let n = length-map c.loop-field.fields.items (λ (f : Bor (List ℕ)). f.now) in
    let m = length-map c.loop-field.yielded (λ (f : Bor (List ℕ)). f.now) in
    let same : length (map (λ (f : Bor (List ℕ)). f.now) c.loop-field.fields.items) ≡ length (map (λ (f : Bor (List ℕ)). f.now) c.loop-field.yielded) = ap length e in
    let ten : length c.loop-field.yielded ≡ 10 = omega arith in
    e ∙ (t.1 ∙ ap (λ (k : ℕ). take k (fields_of c.args.line.now)) ten)
