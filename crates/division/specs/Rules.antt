-- What a rule that divides a total among seats by their loads owes. Assumes nothing.
--   heavy ls               some load is above its limit
--   unfit ls n             the loads, or a share column of length n, are not what a division takes
--   rule_grounds z ls n    the grounds on which a rule denies the total z
--   signed_grounds z ls n
--                          the same for the division of a signed total
--   ground_of e            number, layer and place of a fault
--   after r new was        new where the answer r is not a denial, and else was
--   Divided gs new was r out
--                          under the grounds gs a call answered r; its share column, was before it, is out after it:
--                          new where the call was done, and else unaltered
--   RuleDivided f z ls was r out
--                          the same of a rule that means f, asked for the shares of the total z over the loads ls
--   Fair t ls              a total and loads that a rule divides
--   Lawful t ls xs         the shares xs keep the law of a rule
--   signed_shares f z ls   the shares of a signed total, f giving those of its size
--   sum_ℤ zs               the sum of signed shares
--   Balanced z ls zs       signed shares keep the law
--   SignedDivided f z ls was r out
--                          the same of a division of the signed total z by a rule that means f; the shares keep the law
use Rattle.std.specs.Prelude.{◌≡◌, ℕ, zero, suc, ◌*◌, ◌<◌, ◌≤◌, Bool, not, ◌&&◌, ◌||◌, List, [], ◌∷◌, map, length, ℤ, pos, negsuc, ◌+ℤ◌, ◌-ℤ◌, ◌*ℤ◌, neg_ℤ, IfOk, Some, None, Ok, Err, fold, sum, Result, ◌==◌, int_lt, nat_lt, slice_index, slice_index_or, unsigned_abs, refl}
use Rattle.std.specs.List.{list_any}
use Rattle.figures.specs.Grounds.{first_of, Judged}
use Rattle.figures.specs.Rounding.{apart}
use Rattle.figures.specs.declared.grounds.Ground.{Ground}
use Rattle.figures.specs.declared.grounds.Layer.TheVariants.{Rule}
use Rattle.figures.specs.declared.units.Cents.{Cents}
use Rattle.figures.specs.Limits.{max_seats}
use Rattle.division.specs.Limits.{max_total, max_load}
use Rattle.division.specs.Columns.{cents_of, amounts}
use Rattle.division.specs.declared.rules.DivisionFault.{DivisionFault}
use Rattle.division.specs.declared.rules.DivisionFault.TheVariants.{Beyond, NoLoad}

abbrev pub heavy : List ℕ → Bool
heavy ls = list_any (nat_lt max_load) ls

abbrev pub unfit : List ℕ → ℕ → Bool
unfit ls n = length ls == 0 || (nat_lt max_seats (length ls) || (heavy ls || not (n == length ls)))

abbrev pub rule_grounds : ℤ → List ℕ → ℕ → List (Bool × DivisionFault)
rule_grounds z ls n = (int_lt z (pos 0) || (nat_lt max_total (unsigned_abs z) || unfit ls n), Beyond) ∷ ((sum ls == 0), NoLoad) ∷ []

abbrev pub signed_grounds : ℤ → List ℕ → ℕ → List (Bool × DivisionFault)
signed_grounds z ls n = (nat_lt max_total (unsigned_abs z) || unfit ls n, Beyond) ∷ (not (unsigned_abs z == 0) && (sum ls == 0), NoLoad) ∷ []

abbrev pub ground_of : DivisionFault → Ground
ground_of Beyond = record { number = 21; layer = Rule; place = 0 }
ground_of NoLoad = record { number = 22; layer = Rule; place = 0 }

abbrev pub after : {T F X : Type 0} → Result T F → X → X → X
after (Ok x) new was = new
after (Err e) new was = was

pub record Divided {F X : Type 0} (gs : List (Bool × F)) (new was : List X) (r : Result Unit F) (out : List X) : Type 0 where
  pub judged : Judged gs r
  pub column : out ≡ after r new was

abbrev pub RuleDivided : (ℕ → List ℕ → List ℕ) → ℤ → List ℕ → List Cents → Result Unit DivisionFault → List Cents → Type 0
RuleDivided f z ls was r out = Divided (rule_grounds z ls (length was)) (cents_of (map pos (f (unsigned_abs z) ls))) was r out

pub record Fair (t : ℕ) (ls : List ℕ) : Type 0 where
  pub small : t ≤ max_total
  pub some : 0 < length ls
  pub few : length ls ≤ max_seats
  pub light : (s : ℕ) → s < length ls → slice_index ls s ≤ max_load
  pub busy : 0 < sum ls

-- one share a seat; together the total; each less than a cent from total × load ÷ all loads
pub record Lawful (t : ℕ) (ls xs : List ℕ) : Type 0 where
  pub many : length xs ≡ length ls
  pub adds : sum xs ≡ t
  pub near : (s : ℕ) → s < length ls → apart (t * slice_index ls s) (sum ls) (slice_index xs s) < sum ls

-- a total of 0 gives 0 to each; a negative one is divided as its opposite, and every share negated
abbrev pub signed_shares : (ℕ → List ℕ → List ℕ) → ℤ → List ℕ → List ℤ
signed_shares f (pos zero) ls = map (λ _. pos 0) ls
signed_shares f (pos (suc n)) ls = map pos (f (suc n) ls)
signed_shares f (negsuc n) ls = map (λ x. neg_ℤ (pos x)) (f (suc n) ls)

abbrev pub sum_ℤ : List ℤ → ℤ
sum_ℤ zs = fold ◌+ℤ◌ (pos 0) zs

pub record Balanced (z : ℤ) (ls : List ℕ) (zs : List ℤ) : Type 0 where
  pub many : length zs ≡ length ls
  pub adds : sum_ℤ zs ≡ z
  pub near : (s : ℕ) → s < length ls → 0 < sum ls → unsigned_abs (slice_index_or zs s (pos 0) *ℤ pos (sum ls) -ℤ z *ℤ pos (slice_index ls s)) < sum ls

pub record SignedDivided (f : ℕ → List ℕ → List ℕ) (z : ℤ) (ls : List ℕ) (was : List Cents) (r : Result Unit DivisionFault) (out : List Cents) : Type 0 where
  pub judged : Judged (signed_grounds z ls (length was)) r
  pub column : out ≡ after r (cents_of (signed_shares f z ls)) was
  pub balanced : IfOk r (λ _. Balanced z ls (amounts out))

-- a column of two for two loads
accepted : first_of (rule_grounds (pos 7) (0 ∷ 300000 ∷ []) 2) ≡ None
accepted = refl

too_heavy : first_of (rule_grounds (pos 7) (0 ∷ 300001 ∷ []) 2) ≡ Some Beyond
too_heavy = refl

no_load : first_of (rule_grounds (pos 7) (0 ∷ 0 ∷ []) 2) ≡ Some NoLoad
no_load = refl

-- a signed total may be below 0, and one of 0 needs no load
owed : first_of (signed_grounds (negsuc 6) (0 ∷ 1 ∷ []) 2) ≡ None
owed = refl

nothing : first_of (signed_grounds (pos 0) (0 ∷ 0 ∷ []) 2) ≡ None
nothing = refl
