use Rattle.std.proofs.Common.{◌≡◌, ℕ, ◌*◌, ◌<◌, ◌≤◌, ◌≢◌, List, map, length, get_or, take, sum, ℤ, pos, ◌+ℤ◌, sym, ap, ◌∙◌, nat_lt, div-le_self, arith, get_or-set_other, get_or-set_same, w64, to_z, of_z, below_more}
use Rattle.std.specs.List.{range_with_len}
use Rattle.std.proofs.lemmas.Int.{ints}
use Rattle.std.proofs.lemmas.Nat.{mul-le}
use Rattle.std.proofs.lemmas.List.{length-set, take-append-le, take_all}
use Rattle.std.proofs.lemmas.List.FromFn.{fill_by_all, length-map-range_with_len, get_or-map-range_with_len}
use Rattle.figures.specs.SeatSums.{bit, bool_byte_is, bit_le}
use Rattle.figures.specs.declared.units.Cents.{Cents}
use Rattle.figures.specs.declared.units.Load.{Load}
use Rattle.division.specs.Limits.{max_total, max_load}
use Rattle.division.specs.Columns.{tenths}
use Rattle.division.specs.Remainder.{floor_at, rest_at, rests_of, left_over, ahead, extra_at, remainder_at}
use Rattle.division.proofs.Figures.{nothing, length-tenths, in_cents}
use Rattle.division.proofs.remainder.LargestRemainderDivisionRule.share_out.Goals as goal
use Rattle.division.proofs.remainder.LargestRemainderDivisionRule.share_out.Goals.{After-from}

-- as many remainders as loads
many : (t : ℕ) (loads : List Load) (rests : List ℕ) → take (length loads) rests ≡ rests_of t (tenths loads) → length (take (length loads) rests) ≡ length loads
many t loads rests e = ap length e ∙ (length-map-range_with_len (rest_at t (tenths loads)) 0 (length (tenths loads)) ∙ length-tenths loads)

pub loop-s-init : goal.loop-s-init
loop-s-init c =
    let d = c.args.division.now in
    let n = length d.loads.now in
    let f : ℕ → Cents = λ (k : ℕ). record { 0 = pos (floor_at d.total (tenths d.loads.now) k) } in
    let m = many d.total d.loads.now c.round_down-left.new.rests c.round_down-left.ensures.rests in
    let e : take (length (take n c.round_down-left.new.rests)) c.round_down-left.new.shares ≡ map f (range_with_len 0 n)
    = ap (λ (k : ℕ). take k c.round_down-left.new.shares) m
    ∙ (c.round_down-left.ensures.shares
    ∙ (sym (in_cents (floor_at d.total (tenths d.loads.now)) (length (tenths d.loads.now)))
    ∙ ap (λ (k : ℕ). map f (range_with_len 0 k)) (length-tenths d.loads.now))) in (
      ap length e ∙ length-map-range_with_len f 0 n,
      λ k h. absurd (omega arith),
      λ k _ h. ap (λ (xs : List Cents). get_or xs k nothing) e ∙ get_or-map-range_with_len f 0 n k k nothing h (omega arith),
    )

-- a turn: the seat's place has its share rounded down, and one cent more or none comes to it
record Turn (t : ℕ) (ls : List ℕ) (s : ℕ) (was more : ℤ) : Type 0 where
  pub had : was ≡ pos (floor_at t ls s)
  pub extra : more ≡ pos (extra_at t ls s)
  pub small : floor_at t ls s ≤ max_total * max_load
  pub one : extra_at t ls s ≤ 1

turn : (c : After-from) → Turn c.args.division.now.total (tenths c.args.division.now.loads.now) c.loop-s.s (get_or c.loop-s.share-items c.loop-s.s nothing).0 c.from.result
turn c =
    let d = c.args.division.now in
    let ls = tenths d.loads.now in
    let s = c.loop-s.s in
    let n = length-tenths d.loads.now in
    let m = many d.total d.loads.now c.round_down-left.new.rests c.round_down-left.ensures.rests in
    let light = d.fair.light s (omega arith) in
    let product = mul-le d.total (get_or ls s 0) max_total max_load d.fair.small light in
    let below = div-le_self (d.total * get_or ls s 0) (sum ls) in
    record {
      had = ap (λ (x : Cents). x.0) (c.loop-s.invariant.2 s (omega arith) (omega arith));
      extra = c.from.ensures
          ∙ ap pos (bool_byte_is (nat_lt c.ahead_of.result c.round_down-left.result)
          ∙ (ap (λ (k : ℕ). bit (nat_lt k c.round_down-left.result)) (c.ahead_of.ensures ∙ ap (λ (rs : List ℕ). ahead rs s) c.round_down-left.ensures.rests)
          ∙ ap (λ (k : ℕ). bit (nat_lt (ahead (rests_of d.total ls) s) k)) c.round_down-left.ensures.left));
      small = omega arith;
      one = bit_le (nat_lt (ahead (rests_of d.total ls) s) (left_over d.total ls));
    }

pub overflow_add-share : goal.overflow_add-share
overflow_add-share c = let t = turn (goal.at.overflow_add-share c).After-from in omega (arith, ints)

pub loop-s-preserved : goal.loop-s-preserved
loop-s-preserved c =
    let d = c.args.division.now in
    let ls = tenths d.loads.now in
    let s = c.loop-s.s in
    let t = turn (goal.at.loop-s-preserved c).After-from in
    let was = (get_or c.loop-s.share-items s nothing).0 in
    let v = to_z w64 (of_z w64 (to_z w64 (of_z w64 was) +ℤ to_z w64 (of_z w64 c.from.result))) in
    let here : v ≡ pos (remainder_at d.total ls s) = omega (arith, ints) in
    let m = many d.total d.loads.now c.round_down-left.new.rests c.round_down-left.ensures.rests in
    let lt : s < length c.loop-s.share-items = omega arith in (
      length-set c.loop-s.share-items s _ ∙ c.loop-s.invariant.0,
      below_more _ _
          (λ k h. let ne : k ≢ s = omega arith in rw get_or-set_other (c.loop-s.invariant.1 k h))
          (rw get_or-set_same (ap (λ (x : ℤ). record { 0 = x }) here)),
      λ k from h. (let ne : k ≢ s = omega arith in rw get_or-set_other (c.loop-s.invariant.2 k (omega arith) h)),
    )

pub returns : goal.returns
returns c =
    let d = c.args.division.now in
    let ls = tenths d.loads.now in
    let n = length-tenths d.loads.now in
    let m = many d.total d.loads.now c.round_down-left.new.rests c.round_down-left.ensures.rests in
    let f : ℕ → Cents = λ (k : ℕ). record { 0 = pos (remainder_at d.total ls k) } in
    let few : length d.loads.now ≤ length c.loop-s.share-items = omega arith in
    rw take-append-le
    (take_all (length d.loads.now) c.loop-s.share-items (omega arith)
    ∙ (fill_by_all f c.loop-s.share-items (length d.loads.now) nothing c.loop-s.invariant.0 (λ k h. c.loop-s.invariant.1 k (omega arith))
    ∙ (ap (λ (k : ℕ). map f (range_with_len 0 k)) (sym n)
    ∙ in_cents (remainder_at d.total ls) (length ls))))
