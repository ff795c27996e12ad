use Rattle.std.proofs.Common.{◌≡◌, ℕ, ◌+◌, List, [], length, take, vec_items, sym, ap, ◌∙◌, subst}
use Rattle.std.proofs.lemmas.Iterator.Consumers.{YieldsList-from_first, YieldsList-turn, YieldsList-so_far, YieldsList-end}
use Rattle.std.proofs.lemmas.List.{get_or_default}
use Rattle.words.specs.Fields.{fields_of}
use Rattle.bill.specs.Fields.{value_of, Values, Failing}
use Rattle.bill.specs.declared.fields.LineFault.TheVariants.{NotFigure}
use Rattle.bill.proofs.Cuts.{fails}
use Rattle.bill.proofs.fields.read_figures.Goals as goal

pub returns-in_default : goal.returns-in_default
returns-in_default c =
    let fs = fields_of c.args.line.now in
    let zs = vec_items c.loop-field.values in
    let xs = c.loop-field.yielded in
    let m = length xs in
    let x = c.in-Some.field in
    let e = YieldsList-from_first (λ x. x.now) (λ s. s) fs (c.into_iter-field-iterator.ensures.into_iter_gives ∙ c.split_fields-field-items.ensures) in
    let t = YieldsList-turn e xs _ c.loop-field.yielded_by c.next.result _ x c.in-Some.is c.next.ensures.steps in
    let so_far = YieldsList-so_far e xs _ c.loop-field.yielded_by in
    let this = t.1 ∙ get_or_default fs m x.now [] t.0 in
    let n : m ≡ c.len.result = sym c.loop-field.invariant.0 ∙ sym (c.len.ensures ∙ c.loop-field.values.ok.0) in
    let read : Values (take m fs) zs = subst (λ (gs : List (List ℕ)). Values gs zs) so_far c.loop-field.invariant.1 in
    subst (λ (k : ℕ). Failing fs (NotFigure (k + 1))) n (fails fs zs m t.0 read (c.in_default.ensures ∙ ap value_of this))

pub returns : goal.returns
returns c =
    let e = YieldsList-from_first (λ x. x.now) (λ s. s) (fields_of c.args.line.now) (c.into_iter-field-iterator.ensures.into_iter_gives ∙ c.split_fields-field-items.ensures) in
    let t = YieldsList-end e c.loop-field.yielded _ c.loop-field.yielded_by c.next.result _ c.in-None.is c.next.ensures.steps in
    subst (λ (fs : List (List ℕ)). Values fs (vec_items c.loop-field.values)) t.0 c.loop-field.invariant.1
