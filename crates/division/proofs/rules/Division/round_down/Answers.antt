use Rattle.std.proofs.Common.{◌≡◌, ℕ, zero, suc, ◌+◌, ◌*◌, ◌/◌, ◌%◌, ◌<◌, ◌≤◌, inl, inr, List, map, length, get_or, ℤ, pos, sym, ap, ◌∙◌, div-le_self, arith, w64, to_z}
use Rattle.std.specs.List.{range_with_len}
use Rattle.std.proofs.lemmas.Bool.{cases_lt}
use Rattle.std.proofs.lemmas.Int.{ints}
use Rattle.std.proofs.lemmas.List.{length-set}
use Rattle.std.proofs.lemmas.List.FromFn.{sum_by-map-range_with_len_more}
use Rattle.figures.specs.SeatSums.{sum_to, sum_to_suc}
use Rattle.division.specs.Columns.{tenths}
use Rattle.division.specs.Remainder.{floor_at, rest_at}
use Rattle.division.specs.Remaining.{floors-le}
use Rattle.division.proofs.Bounds.{load-le}
use Rattle.division.proofs.Figures.{length-tenths, tenths-at, one_more, in_cents}
use Rattle.division.proofs.rules.Division.round_down.Goals as goal
use Rattle.division.proofs.rules.Division.round_down.Goals.{After-due-due}

-- a sum over more seats is no smaller
rises : (f : ℕ → ℕ) (s n : ℕ) → s ≤ n → sum_to f s ≤ sum_to f n
rises f s zero h = let e : s ≡ 0 = omega arith in omega (arith, ap (sum_to f) e)
rises f s (suc n) h = elim (cases_lt s (suc n)) [
  | inl l ↦ let i = rises f s n (omega arith) in omega (arith, sum_to_suc f n)
  | inr g ↦ let e : s ≡ suc n = omega arith in omega (arith, ap (sum_to f) e)
]

-- this seat's share rounded down, which is among the cents that are left
record Turn (t : ℕ) (ls : List ℕ) (s left floor : ℕ) : Type 0 where
  pub here : floor ≡ floor_at t ls s
  pub more : sum_to (floor_at t ls) (s + 1) ≡ sum_to (floor_at t ls) s + floor
  pub fits : floor ≤ left

turn : (c : After-due-due) → Turn c.args.self.now.total (tenths c.args.self.now.loads.now) c.loop-s.s c.loop-s.left (c.due-due.result / c.args.self.now.all)
turn c =
    let d = c.args.self.now in
    let ls = tenths d.loads.now in
    let s = c.loop-s.s in
    let n = length-tenths d.loads.now in
    let e : c.due-due.result ≡ d.total * get_or ls s 0 = c.due-due.ensures.value ∙ ap (λ (x : ℕ). d.total * x) (sym (tenths-at d.loads.now s c.loop-s-test.true)) in
    let a = d.added in
    let here : c.due-due.result / d.all ≡ floor_at d.total ls s = cc in
    let m = sum_by-map-range_with_len_more (λ x. x) (floor_at d.total ls) 0 s s (omega arith) in
    let r = rises (floor_at d.total ls) (s + 1) (length ls) (omega arith) in
    let l = floors-le d.total ls d.fair.busy in
    record { here = here; more = omega arith; fits = omega arith }

pub due-due-requires : goal.due-due-requires
due-due-requires c = load-le c.args.self.now.total c.args.self.now.loads.now c.args.self.now.fair c.loop-s.s c.loop-s-test.true

pub overflow_sub-left : goal.overflow_sub-left
overflow_sub-left c = let t = turn (goal.at.overflow_sub-left c).After-due-due in omega arith

pub loop-s-preserved : goal.loop-s-preserved
loop-s-preserved c =
    let d = c.args.self.now in
    let ls = tenths d.loads.now in
    let s = c.loop-s.s in
    let t = turn (goal.at.loop-s-preserved c).After-due-due in
    let v = c.due-due.result / d.all in
    let n = length-tenths d.loads.now in
    let few = d.fair.few in
    let small = c.due-due.ensures.small in
    let below = div-le_self c.due-due.result d.all in
    let z : to_z w64 v ≡ pos v = omega (arith, ints) in
    let e : c.due-due.result ≡ d.total * get_or ls s 0 = c.due-due.ensures.value ∙ ap (λ (x : ℕ). d.total * x) (sym (tenths-at d.loads.now s c.loop-s-test.true)) in
    let a = d.added in
    let rest : c.due-due.result % d.all ≡ rest_at d.total ls s = cc in
    let lt : s < length c.loop-s.shares = omega arith in
    let lt2 : s < length c.loop-s.rests = omega arith in (
      length-set c.loop-s.shares s _ ∙ c.loop-s.invariant.0,
      length-set c.loop-s.rests s _ ∙ c.loop-s.invariant.1,
      omega arith,
      one_more (λ (k : ℕ). record { 0 = pos (floor_at d.total ls k) }) c.loop-s.shares s _ lt (ap (λ (x : ℤ). record { 0 = x }) (z ∙ ap pos t.here)) c.loop-s.invariant.3,
      one_more (rest_at d.total ls) c.loop-s.rests s _ lt2 rest c.loop-s.invariant.4,
    )

pub returns : goal.returns
returns c =
    let d = c.args.self.now in
    let ls = tenths d.loads.now in
    let n = length-tenths d.loads.now in
    let e : c.loop-s.s ≡ length ls = omega arith in
    let h : length d.loads.now ≡ c.loop-s.s = omega arith in
    record {
      shares = rw h (c.loop-s.invariant.3
          ∙ (ap (λ (k : ℕ). map (λ (j : ℕ). record { 0 = pos (floor_at d.total ls j) }) (range_with_len 0 k)) e
          ∙ in_cents (floor_at d.total ls) (length ls)));
      rests = rw h (c.loop-s.invariant.4 ∙ ap (λ (k : ℕ). map (rest_at d.total ls) (range_with_len 0 k)) e);
      left = (let q = ap (sum_to (floor_at d.total ls)) e in omega arith);
    }
