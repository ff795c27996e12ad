use Rattle.std.proofs.Common.{◌≡◌, ℕ, ◌+◌, ◌-◌, ◌*◌, ◌/◌, ◌<◌, map, length, ℤ, pos, ap, ◌∙◌, arith, w64, to_z}
use Rattle.std.specs.List.{range_with_len}
use Rattle.std.proofs.lemmas.Int.{ints}
use Rattle.std.proofs.lemmas.List.{length-set}
use Rattle.division.specs.Columns.{tenths}
use Rattle.division.specs.Cut.{cut_at}
use Rattle.division.proofs.Cuts.{CutTurn, cut_turn}
use Rattle.division.proofs.Figures.{length-tenths, one_more, in_cents}
use Rattle.division.proofs.cut.RunningCutDivisionRule.share_out.Goals as goal
use Rattle.division.proofs.cut.RunningCutDivisionRule.share_out.Goals.{After-from-run}

turn : (c : After-from-run) → CutTurn c.args.division.now.total c.args.division.now.loads.now c.loop-s.s c.loop-s.run c.loop-s.paid c.args.division.now.all c.from-run.result
turn c =
    let d = c.args.division.now in
    let i = c.loop-s.invariant in
    cut_turn d.total d.loads.now c.loop-s.s c.loop-s.run c.loop-s.paid d.all c.from-run.result d.fair d.added c.loop-s-test.true i.1 i.2 c.from-run.ensures

pub overflow_add-run : goal.overflow_add-run
overflow_add-run c = let t = turn c in omega arith

pub overflow_mul-upto : goal.overflow_mul-upto
overflow_mul-upto c = let t = turn (goal.at.overflow_mul-upto c).After-from-run in omega arith

pub overflow_cast-shares : goal.overflow_cast-shares
overflow_cast-shares c = let t = turn (goal.at.overflow_cast-shares c).After-from-run in omega (arith, ints)

pub loop-s-preserved : goal.loop-s-preserved
loop-s-preserved c =
    let d = c.args.division.now in
    let s = c.loop-s.s in
    let v = d.total * (c.loop-s.run + c.from-run.result) / d.all - c.loop-s.paid in
    let t = turn (goal.at.loop-s-preserved c).After-from-run in
    let z : to_z w64 v ≡ pos v = omega (arith, ints) in
    let n = length-tenths d.loads.now in
    let few = d.fair.few in
    let lt : s < length c.loop-s.shares = omega arith in
    let here : v ≡ cut_at d.total (tenths d.loads.now) s = omega arith in (
      length-set c.loop-s.shares s _ ∙ c.loop-s.invariant.0,
      t.ran,
      t.reached,
      one_more (λ (k : ℕ). record { 0 = pos (cut_at d.total (tenths d.loads.now) k) }) c.loop-s.shares s _ lt (ap (λ (x : ℤ). record { 0 = x }) (z ∙ ap pos here)) c.loop-s.invariant.3,
    )

pub returns : goal.returns
returns c =
    let d = c.args.division.now in
    let n = length-tenths d.loads.now in
    let e : c.loop-s.s ≡ length (tenths d.loads.now) = omega arith in
    let h : length d.loads.now ≡ c.loop-s.s = omega arith in
    rw h (c.loop-s.invariant.3
    ∙ (ap (λ (k : ℕ). map (λ (j : ℕ). record { 0 = pos (cut_at d.total (tenths d.loads.now) j) }) (range_with_len 0 k)) e
    ∙ in_cents (cut_at d.total (tenths d.loads.now)) (length (tenths d.loads.now))))
