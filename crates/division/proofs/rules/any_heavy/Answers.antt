use Rattle.std.proofs.Common.{◌≡◌, Bool, ◌||◌, nat_lt, ◌∙◌, refl, rules, tests}
use Rattle.std.specs.List.{list_any}
use Rattle.std.proofs.lemmas.Iterator.{YieldsList-from_slice}
use Rattle.std.proofs.lemmas.Iterator.Search.{any_from_yields_List}
use Rattle.std.proofs.lemmas.List.Recursion.{same_from_clauses}
use Rattle.figures.specs.declared.units.Load.{Load}
use Rattle.division.specs.Limits.{max_load}
use Rattle.division.specs.Columns.{tenths}
use Rattle.division.specs.Rules.{heavy}
use Rattle.division.proofs.rules.any_heavy.Goals as goal

pub returns : goal.returns
returns c =
    let loads = c.args.loads.now in
    let over : Load → Bool = λ (l : Load). nat_lt max_load l.0 in
    let any : c.any.result ≡ list_any over loads = any_from_yields_List over _ _ _ c.any.ensures.ran (YieldsList-from_slice loads cc) (λ x b q k. search (rules, tests)) in
    any ∙ same_from_clauses (list_any over) (λ ls. heavy (tenths ls)) (λ l b. over l || b) refl (λ _ _. refl) (λ _ _. refl) loads
