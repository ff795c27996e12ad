use Rattle.std.proofs.Common.{◌≡◌, ℕ, ◌<◌, List, ◌++◌, map, length, take, drop, get_or, set, ℤ, pos, ◌-ℤ◌, neg_ℤ, ◌≤ℤ◌, ap, ◌∙◌, arith, w64, to_z, of_z}
use Rattle.std.proofs.lemmas.List.Edits.{map_over_more}
use Rattle.std.proofs.lemmas.List.{get_or_default}
use Rattle.std.proofs.lemmas.Int.{ints}
use Rattle.figures.specs.declared.units.Cents.{Cents}
use Rattle.division.specs.Columns.{negated}
use Rattle.division.proofs.Figures.{nothing, kept_at}
use Rattle.division.proofs.signed.negate.Goals as goal

-- the share that this turn comes to
share : (was out : List Cents) (i : ℕ) → i < length was → out ≡ map negated (take i was) ++ drop i was
    → ((s : ℕ) → s < length was → pos 0 ≤ℤ (get_or was s nothing).0) → pos 0 ≤ℤ (get_or out i nothing).0
share was out i lt e h =
    let k = ap (λ (x : Cents). x.0) (kept_at negated was out i lt e) in
    let p = h i lt in
    omega (arith, ints)

pub loop-share-preserved : goal.loop-share-preserved
loop-share-preserved c =
    let i = c.loop-share.share-index in
    let x = get_or c.loop-share.out i nothing in
    let s = share c.args.out.now c.loop-share.out c.loop-share.share-index c.loop-share-test.true c.loop-share.invariant c.requires in
    let v : to_z w64 (of_z w64 (pos 0 -ℤ to_z w64 (of_z w64 x.0))) ≡ neg_ℤ x.0 = omega (arith, ints) in
    ap (λ (z : ℤ). set c.loop-share.out i (record { 0 = z })) v
    ∙ map_over_more negated c.args.out.now c.loop-share.out i x c.loop-share-test.true c.loop-share.invariant
    (get_or_default c.loop-share.out i nothing x (omega arith))
