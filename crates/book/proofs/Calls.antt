-- From what the code found to what a call promises. Assumes nothing.
use Rattle.std.proofs.Common.{◌≡◌, ℕ, Bool, true, false, cond, eqb, leb, List, [], ◌∷◌, ◌++◌, Some, None, Ok, Err, vec_items, Option, Result, sym, refl, ap, ◌∙◌, subst, arith}
use Rattle.std.specs.Ordering.{is_lt, nat_cmp}
use Rattle.std.specs.Prelude.{nat_lt}
use Rattle.std.proofs.lemmas.Grind.{common_steps}
use Rattle.std.proofs.lemmas.Bool.{le-ltb, ltb-true, or_parts, leb-false, eqb-false}
use Rattle.figures.specs.Grounds.{first_of}
use Rattle.sheet.specs.Tables.{Table}
use Rattle.book.specs.declared.deals.Deal.{Deal}
use Rattle.book.specs.declared.deals.Deal.TheVariants.{Done, Held}
use Rattle.book.specs.declared.faults.BookFault.{BookFault}
use Rattle.book.specs.declared.faults.BookFault.TheVariants.{Beyond, Figure, Void}
use Rattle.book.specs.declared.kept.Book.{Book}
use Rattle.book.specs.declared.trades.Offer.{Offer}
use Rattle.book.specs.declared.trades.Trade.{Trade}
use Rattle.book.specs.Trades.{Sound, Balanced}
use Rattle.book.specs.Deals.{begins_before, IfHeld, beyond, misfigured, void, offer_grounds, denied_by, decided, decided_from}
use Rattle.book.specs.Books.{Lawful, AddsUp, Called}
use Rattle.book.specs.Totals.{over_total}

-- what a derived order says of the numbers inside
before_is : (a k : ℕ) → is_lt (nat_cmp a k) ≡ nat_lt a k
before_is a k = grind (arith, common_steps)

-- the test of the layer above, made on the offer o that was found
pub begun : (o x : Offer) (h : ℕ) (b : Bool) → o ≡ x → b ≡ is_lt (nat_cmp o.first.0 h) → begins_before x h ≡ b
begun o x h b e q = ap (λ (y : Offer). begins_before y h) (sym e) ∙ sym (before_is o.first.0 h) ∙ sym q

pub some_none : (e : BookFault) → Some e ≡ None → ⊥
some_none e q = (let z : ◌≡◌ {A = ℕ} 0 1 = cc in omega (arith, z))

-- grounds one after the other
pick : (b : Bool) (e : BookFault) (x y : Option BookFault) (r : Result Deal BookFault) → denied_by x r ≡ denied_by y (Ok Done) → denied_by (cond b (Some e) x) r ≡ denied_by (cond b (Some e) y) (Ok Done)
pick true e x y r k = refl
pick false e x y r k = k

joined : (gs hs : List (Bool × BookFault)) → denied_by (first_of gs) (decided hs) ≡ decided (gs ++ hs)
joined [] hs = refl
joined (g ∷ gs) hs = pick g.0 g.1 (first_of gs) (first_of (gs ++ hs)) (decided hs) (joined gs hs)

-- with hour 0 nothing is held back
pub plain : (gs hs : List (Bool × BookFault)) (o : Offer) → decided_from gs (begins_before o 0) hs ≡ decided (gs ++ hs)
plain gs hs o = ap (λ (b : Bool). denied_by (first_of gs) (cond b (Ok Held) (decided hs))) (le-ltb o.first.0 0 (omega arith)) ∙ joined gs hs

pub only_done : (d : Deal) (o : Offer) → IfHeld (Ok d) (begins_before o 0 ≡ true) → ◌≡◌ {A = Result Deal BookFault} (Ok d) (Ok Done)
only_done Done o h = refl
only_done Held o h = (let lt = ltb-true o.first.0 0 h in absurd (omega arith))

module _ (gs hs : List (Bool × BookFault)) where
  module _ (b : Bool) where
    abbrev rest : Result Deal BookFault
    rest = cond b (Ok Held) (decided hs)

    pub denied_first_from : (e : BookFault) → first_of gs ≡ Some e → Err e ≡ decided_from gs b hs
    denied_first_from e q = sym (ap (λ o. denied_by o rest) q)

    pub held_from : first_of gs ≡ None → b ≡ true → Ok Held ≡ decided_from gs b hs
    held_from q k = sym (ap (λ o. denied_by o rest) q ∙ ap (λ (x : Bool). cond x (Ok Held) (decided hs)) k)

    passed : first_of gs ≡ None → b ≡ false → decided hs ≡ decided_from gs b hs
    passed q k = sym (ap (λ o. denied_by o rest) q ∙ ap (λ (x : Bool). cond x (Ok Held) (decided hs)) k)

    pub denied_later_from : (e : BookFault) → first_of gs ≡ None → b ≡ false → first_of hs ≡ Some e → Err e ≡ decided_from gs b hs
    denied_later_from e q k l = sym (ap (λ o. denied_by o (Ok Done)) l) ∙ passed q k

    pub accepted_from : first_of gs ≡ None → b ≡ false → first_of hs ≡ None → Ok Done ≡ decided_from gs b hs
    accepted_from q k l = sym (ap (λ o. denied_by o (Ok Done)) l) ∙ passed q k

not_met : (b : Bool) (e : BookFault) (x : Option BookFault) → cond b (Some e) x ≡ None → (b ≡ false) × (x ≡ None)
not_met true e x q = absurd (some_none e q)
not_met false e x q = (refl, q)

pub offer_sound : (t : Table) (rs : List Trade) (o : Offer) → first_of (offer_grounds t rs o) ≡ None → Sound t o
offer_sound t rs o q =
    let on = not_met (beyond t o) Beyond _ q in
    let figure = not_met (misfigured o) Figure _ on.1 in
    let two = not_met (void o) Void _ figure.1 in
    let seller = or_parts (leb t.seats o.seller.0) _ on.0 in
    let buyer = or_parts (leb t.seats o.buyer.0) _ seller.1 in
    record {
      seller = leb-false t.seats o.seller.0 seller.0;
      buyer = leb-false t.seats o.buyer.0 buyer.0;
      apart = eqb-false o.seller.0 o.buyer.0 (or_parts (eqb o.seller.0 o.buyer.0) _ two.0).0;
    }

module _ {S : Type 0} (table : S → Table) (lawful : S → Type 0) (answer : Table → List Trade → Result Deal BookFault) (new : List Trade → List Trade) (b : Book S) where
  adds : (c : Book S) → Lawful table lawful c → AddsUp table c
  adds c ok = λ w. over_total (table c.below) (vec_items c.ledger.trades) w ok.trades

  pub denied_call : (e : BookFault) → (Lawful table lawful b → Err e ≡ answer (table b.below) (vec_items b.ledger.trades)) → Called table lawful answer new b (Err e) b
  denied_call e a = record { below = refl; trades = refl; unaltered = refl; answers = a; stays = λ ok. ok; adds_up = adds b }

  pub held_call : (Lawful table lawful b → Ok Held ≡ answer (table b.below) (vec_items b.ledger.trades)) → Called table lawful answer new b (Ok Held) b
  held_call a = record { below = refl; trades = refl; unaltered = refl; answers = a; stays = λ ok. ok; adds_up = adds b }

  pub done_call : (c : Book S) → c.below ≡ b.below → vec_items c.ledger.trades ≡ new (vec_items b.ledger.trades) → (Lawful table lawful b → (Ok Done ≡ answer (table b.below) (vec_items b.ledger.trades)) × Balanced (table b.below) (new (vec_items b.ledger.trades))) → Called table lawful answer new b (Ok Done) c
  done_call c s e k =
      let stays : Lawful table lawful b → Lawful table lawful c = λ ok. record {
        under = subst lawful (sym s) ok.under;
        trades = subst (λ (x : S). Balanced (table x) (vec_items c.ledger.trades)) (sym s) (subst (λ (x : List Trade). Balanced (table b.below) x) (sym e) (k ok).1);
      } in
      record { below = s; trades = e; unaltered = tt; answers = λ ok. (k ok).0; stays = stays; adds_up = λ ok. adds c (stays ok) }

-- a call that a layer above may hold back: grounds, then the layer's test, then the grounds that remain
module _ {S : Type 0} (table : S → Table) (lawful : S → Type 0) (first rest : Table → List Trade → List (Bool × BookFault)) (late : List Trade → Bool) (new : List Trade → List Trade) (b : Book S) where
  abbrev pub answer : Table → List Trade → Result Deal BookFault
  answer t rs = decided_from (first t rs) (late rs) (rest t rs)

  abbrev t : Table
  t = table b.below

  abbrev rs : List Trade
  rs = vec_items b.ledger.trades

  pub denied_at_first : (e : BookFault) → (Lawful table lawful b → first_of (first t rs) ≡ Some e) → Called table lawful answer new b (Err e) b
  denied_at_first e q = denied_call table lawful answer new b e (λ ok. denied_first_from (first t rs) (rest t rs) (late rs) e (q ok))

  module _ (pass : Lawful table lawful b → first_of (first t rs) ≡ None) where
    pub held_back : late rs ≡ true → Called table lawful answer new b (Ok Held) b
    held_back k = held_call table lawful answer new b (λ ok. held_from (first t rs) (rest t rs) (late rs) (pass ok) k)

    pub denied_at_rest : late rs ≡ false → (e : BookFault) → (Lawful table lawful b → first_of (rest t rs) ≡ Some e) → Called table lawful answer new b (Err e) b
    denied_at_rest k e q = denied_call table lawful answer new b e (λ ok. denied_later_from (first t rs) (rest t rs) (late rs) e (pass ok) k (q ok))

    pub done : late rs ≡ false → (Lawful table lawful b → first_of (rest t rs) ≡ None) → (c : Book S) → c.below ≡ b.below → vec_items c.ledger.trades ≡ new rs → (Lawful table lawful b → Balanced t (new rs)) → Called table lawful answer new b (Ok Done) c
    done k q c s e keeps = done_call table lawful answer new b c s e (λ ok. (accepted_from (first t rs) (rest t rs) (late rs) (pass ok) k (q ok), keeps ok))

-- a call under grounds that say the same
pub same_call : {S : Type 0} (table : S → Table) (lawful : S → Type 0) (one other : Table → List Trade → Result Deal BookFault) (new : List Trade → List Trade) (b : Book S) (r s : Result Deal BookFault) (c : Book S)
    → ((t : Table) (rs : List Trade) → one t rs ≡ other t rs) → r ≡ s → Called table lawful one new b r c → Called table lawful other new b s c
same_call table lawful one other new b r s c same e k = subst (λ (x : Result Deal BookFault). Called table lawful other new b x c) e (record {
  below = k.below;
  trades = k.trades;
  unaltered = k.unaltered;
  answers = λ ok. k.answers ok ∙ same (table b.below) (vec_items b.ledger.trades);
  stays = k.stays;
  adds_up = k.adds_up;
})
