use Rattle.std.proofs.Common.{◌≡◌, map, ℤ, vec_items, ap, ◌∙◌, rules, tests}
use mathlib.Core.List.{map-map}
use Rattle.std.proofs.lemmas.Iterator.{items_from_collect, YieldsList-from_map, YieldsList-from_slice}
use Rattle.std.proofs.lemmas.Result.{IfOk-weaker}
use Rattle.figures.specs.declared.units.Load.{Load}
use Rattle.division.specs.Columns.{tenths}
use Rattle.bill.specs.Bills.{carried}
use Rattle.bill.proofs.bills.loads_of.Goals as goal

abbrev load : ℤ → Load
load z = record { 0 = carried z }

pub returns : goal.returns
returns c =
    let zs = c.args.figures.now in
    IfOk-weaker c.collect.result (λ v. vec_items v ≡ map load zs) (λ v. tenths (vec_items v) ≡ map carried zs)
    (λ v e. ap tenths e ∙ map-map (λ (l : Load). l.0) load zs)
    (items_from_collect c.collect.result c.collect.ensures.ran
    (YieldsList-from_map _ load (YieldsList-from_slice zs cc) c.map.ensures.closure (λ x r q k. search (rules, tests))))
