use Rattle.std.proofs.Common.{rules, ◌≡◌, ◌<◌, length, get_or, drop, true, false, arith, sym, ap, ◌∙◌}
use Rattle.words.specs.Fields.{blank}
use Rattle.words.proofs.Runs.{Run, none, first}
use Rattle.words.proofs.SplitFieldsIterator.next.Goals as goal

pub returns-then-is_empty-clause-steps : goal.returns-then-is_empty-clause-steps
returns-then-is_empty-clause-steps c =
    let line = c.self.inside.rest.now in
    let n = c.unwrap_or-start.result in
    let before : Run true n line = (search rules, λ k l. search rules) in
    let end : length line ≡ n = search rules in
    let left = sym c.self.view_is ∙ none n line end before in
    (left, left)

-- what the state shows is the field, and what is left after it
pub returns-clause-steps : goal.returns-clause-steps
returns-clause-steps c =
    let line = c.self.inside.rest.now in
    let n = c.unwrap_or-start.result in
    let m = c.unwrap_or-end.result in
    let l : n < length line = search rules in
    let b : blank (get_or line n 0) ≡ false = search rules in
    let e : (m < length (drop n line) → blank (get_or (drop n line) m 0) ≡ true) = λ i. search rules in
    let f = first n m line (omega arith, λ k l. search rules) l b (search rules) e in
    sym c.self.view_is ∙ (f ∙ cc)

pub returns-clause-goes : goal.returns-clause-goes
returns-clause-goes c =
    record { on = λ _. (tt, tt, omega (arith, ap length (returns-clause-steps c))); keeps = tt; rests = λ _. tt }
