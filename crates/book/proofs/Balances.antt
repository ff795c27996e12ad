-- Each call keeps a book balanced. Assumes nothing.
use Rattle.std.proofs.Common.{◌≡◌, ℕ, ◌+◌, ◌-◌, ◌<◌, ◌≤◌, Bool, true, false, cond, ◌&&◌, eqb, leb, List, [], ◌∷◌, ◌++◌, length, get_or, set, Some, None, Option, refl, ap, subst, arith}
use Rattle.std.specs.List.{remove}
use Rattle.std.proofs.lemmas.List.Sums.{sum_by-remove, sum_by-set, sum_by_push}
use Rattle.std.proofs.lemmas.Bool.{and_parts, leb-true, ltb-false, eqb-true}
use Rattle.sheet.specs.declared.places.Place.{Place}
use Rattle.sheet.specs.Tables.{Table, at, filled}
use Rattle.book.specs.declared.trades.Offer.{Offer}
use Rattle.book.specs.declared.trades.Trade.{Trade}
use Rattle.book.specs.declared.trades.TradeState.{TradeState}
use Rattle.book.specs.declared.trades.TradeState.TheVariants.{Offered, Confirmed}
use Rattle.book.specs.Trades.{no_trade, confirmed, is_confirmed, reaches, buys, sells, bought_at, sold_at, shifted, over, Sound, Balanced}
use Rattle.book.specs.Deals.{first_of_hours, is_blank, lacks, first_blank, first_short}
use Rattle.book.proofs.Each.{each_push, each_set, each_removed}
use Rattle.book.proofs.Firsts.{first_none, either_left, either_right}

-- a part that is added stays within n
part-le : (a b : Bool) (k m n : ℕ) → m ≤ n → ((a && b) ≡ true → k + m ≤ n) → m + cond (a && b) k 0 ≤ n
part-le true true k m n h e = omega (arith, e refl)
part-le true false k m n h e = omega arith
part-le false b k m n h e = omega arith

part_none : (a b : Bool) (k : ℕ) → ((a && b) ≡ true → ⊥) → ◌≡◌ {A = ℕ} (cond (a && b) k 0) 0
part_none true true k e = absurd (e refl)
part_none true false k e = refl
part_none false b k e = refl

-- a purchase that is taken back leaves the sales covered
part_back : (a b : Bool) (k s' s f b' b₀ : ℕ) → b' + cond (a && b) k 0 ≡ b₀ → s' ≤ s → s ≤ f + b₀ → ((a && b) ≡ true → k + s ≤ f + b₀) → s' ≤ f + b'
part_back true true k s' s f b' b₀ e l m q = omega (arith, q refl)
part_back true false k s' s f b' b₀ e l m q = omega arith
part_back false b k s' s f b' b₀ e l m q = omega arith

-- what a trade counts for, by its state
sells_as : (r : Trade) (g : TradeState) (s : ℕ) (w : Place) → r.state ≡ g → sells s w r ≡ cond ((is_confirmed g && reaches r.offer w) && eqb r.offer.seller.0 s) r.offer.kw.0 0
sells_as r g s w e = ap (λ (x : TradeState). cond ((is_confirmed x && reaches r.offer w) && eqb r.offer.seller.0 s) r.offer.kw.0 0) e

buys_as : (r : Trade) (g : TradeState) (s : ℕ) (w : Place) → r.state ≡ g → buys s w r ≡ cond ((is_confirmed g && reaches r.offer w) && eqb r.offer.buyer.0 s) r.offer.kw.0 0
buys_as r g s w e = ap (λ (x : TradeState). cond ((is_confirmed x && reaches r.offer w) && eqb r.offer.buyer.0 s) r.offer.kw.0 0) e

-- a cell that does not lack n kW, and one that is not blank
held_cell : (b s n : ℕ) (o : Option ℕ) → s ≤ filled o + b → lacks n (shifted b s o) ≡ false → n + s ≤ filled o + b
held_cell b s n None l e = (let z : ◌≡◌ {A = ℕ} 0 1 = cc in absurd (omega (arith, z)))
held_cell b s n (Some x) l e = omega (arith, ltb-false ((x + b) - s) n e)

blank_cell : (b s : ℕ) (o : Option ℕ) → o ≡ None → is_blank (shifted b s o) ≡ false → ⊥
blank_cell b s None q e = (let z : ◌≡◌ {A = ℕ} 0 1 = cc in omega (arith, z))
blank_cell b s (Some x) q e = (let z : ◌≡◌ {A = ℕ} 0 1 = cc in omega (arith, z))

-- what is known of every hour of an offer is known at a place that it reaches
reached : (o : Offer) (p : ℕ → Place → Bool) (x s : ℕ) (w : Place) → first_of_hours o (λ h. p x (at o.zone.0 o.product.0 h)) ≡ None → (reaches o w && eqb x s) ≡ true → p s w ≡ false
reached o p x s w e k =
    let r = and_parts (reaches o w) (eqb x s) k in
    let z = and_parts (eqb o.zone.0 w.zone.0) _ r.0 in
    let d = and_parts (eqb o.product.0 w.product.0) _ z.1 in
    let h = and_parts (leb o.first.0 w.hour.0) _ d.1 in
    let lo = leb-true o.first.0 w.hour.0 h.0 in
    let hi = leb-true w.hour.0 o.last.0 h.1 in
    let m = first_none (λ h. p x (at o.zone.0 o.product.0 h)) o.first.0 (o.last.0 + 1) w.hour.0 e lo (omega arith) in
    subst (λ (q : ℕ). p q w ≡ false) (eqb-true x s r.1)
    (subst (λ (q : ℕ). p x (at q w.product.0 w.hour.0) ≡ false) (eqb-true o.zone.0 w.zone.0 z.0)
    (subst (λ (q : ℕ). p x (at o.zone.0 q w.hour.0) ≡ false) (eqb-true o.product.0 w.product.0 d.0) m))

module _ (t : Table) (rs : List Trade) where
  -- at a place that an offer reaches, a seat that is short in none of its hours holds its kW, and no party's cell is blank
  holds_there : (o : Offer) (x s : ℕ) (w : Place) → first_short (over t rs) x o ≡ None → (reaches o w && eqb x s) ≡ true → lacks o.kw.0 (shifted (bought_at s w rs) (sold_at s w rs) (t.cell s w)) ≡ false
  holds_there o x s w e k = reached o (λ y v. lacks o.kw.0 ((over t rs).cell y v)) x s w e k

  seller_filled : (o : Offer) → first_blank (over t rs) o ≡ None → first_of_hours o (λ h. is_blank ((over t rs).cell o.seller.0 (at o.zone.0 o.product.0 h))) ≡ None
  seller_filled o e = either_left o (λ h. is_blank ((over t rs).cell o.seller.0 (at o.zone.0 o.product.0 h))) (λ h. is_blank ((over t rs).cell o.buyer.0 (at o.zone.0 o.product.0 h))) e

  buyer_filled : (o : Offer) → first_blank (over t rs) o ≡ None → first_of_hours o (λ h. is_blank ((over t rs).cell o.buyer.0 (at o.zone.0 o.product.0 h))) ≡ None
  buyer_filled o e = either_right o (λ h. is_blank ((over t rs).cell o.seller.0 (at o.zone.0 o.product.0 h))) (λ h. is_blank ((over t rs).cell o.buyer.0 (at o.zone.0 o.product.0 h))) e

  filled_there : (o : Offer) (x s : ℕ) (w : Place) → first_of_hours o (λ h. is_blank ((over t rs).cell x (at o.zone.0 o.product.0 h))) ≡ None → (reaches o w && eqb x s) ≡ true → is_blank (shifted (bought_at s w rs) (sold_at s w rs) (t.cell s w)) ≡ false
  filled_there o x s w e k = reached o (λ y v. is_blank ((over t rs).cell y v)) x s w e k

  module _ (i : ℕ) (lt : i < length rs) (b : Balanced t rs) where
    abbrev was : Trade
    was = get_or rs i no_trade

    abbrev offer : Offer
    offer = was.offer

    pub confirm_keeps : was.state ≡ Offered → first_blank (over t rs) offer ≡ None → first_short (over t rs) offer.seller.0 offer ≡ None → Balanced t (set rs i (confirmed was))
    confirm_keeps o f e =
        let y = confirmed was in
        let sold : (s : ℕ) (w : Place) → sold_at s w (set rs i y) ≡ sold_at s w rs + sells s w y = λ s w. omega (arith, sum_by-set (sells s w) rs i y no_trade lt, sells_as was Offered s w o) in
        let bought : (s : ℕ) (w : Place) → bought_at s w (set rs i y) ≡ bought_at s w rs + buys s w y = λ s w. omega (arith, sum_by-set (buys s w) rs i y no_trade lt, buys_as was Offered s w o) in
        record {
          parties = each_set (λ r. Sound t r.offer) rs i (confirmed was) lt b.parties (b.parties i lt);
          covered = λ s w. omega (
            arith,
            sold s w,
            bought s w,
            part-le (reaches offer w) (eqb offer.seller.0 s) offer.kw.0 (sold_at s w rs) (filled (t.cell s w) + bought_at s w rs) (b.covered s w)
                (λ k. held_cell (bought_at s w rs) (sold_at s w rs) offer.kw.0 (t.cell s w) (b.covered s w) (holds_there offer offer.seller.0 s w e k)),
          );
          untouched = λ s w q.
              let z = b.untouched s w q in
              let zs : sells s w y ≡ 0 = part_none (reaches offer w) (eqb offer.seller.0 s) offer.kw.0 (λ k. blank_cell (bought_at s w rs) (sold_at s w rs) (t.cell s w) q (filled_there offer offer.seller.0 s w (seller_filled offer f) k)) in
              let zb : buys s w y ≡ 0 = part_none (reaches offer w) (eqb offer.buyer.0 s) offer.kw.0 (λ k. blank_cell (bought_at s w rs) (sold_at s w rs) (t.cell s w) q (filled_there offer offer.buyer.0 s w (buyer_filled offer f) k)) in
              (omega (arith, sold s w, z.0, zs), omega (arith, bought s w, z.1, zb));
        }

    -- an offered trade leaves and had moved nothing
    pub withdraw_keeps : was.state ≡ Offered → Balanced t (remove rs i)
    withdraw_keeps o =
        let sold : (s : ℕ) (w : Place) → sold_at s w (remove rs i) ≡ sold_at s w rs = λ s w. omega (arith, sum_by-remove (sells s w) rs i no_trade lt, sells_as was Offered s w o) in
        let bought : (s : ℕ) (w : Place) → bought_at s w (remove rs i) ≡ bought_at s w rs = λ s w. omega (arith, sum_by-remove (buys s w) rs i no_trade lt, buys_as was Offered s w o) in
        record {
          parties = each_removed (λ r. Sound t r.offer) rs i lt b.parties;
          covered = λ s w. omega (arith, sold s w, bought s w, b.covered s w);
          untouched = λ s w q. (let z = b.untouched s w q in (omega (arith, sold s w, z.0), omega (arith, bought s w, z.1)));
        }

    -- a confirmed trade leaves and its buyer holds it still
    pub undo_keeps : was.state ≡ Confirmed → first_short (over t rs) offer.buyer.0 offer ≡ None → Balanced t (remove rs i)
    undo_keeps o e =
        let sold : (s : ℕ) (w : Place) → sold_at s w (remove rs i) + sells s w was ≡ sold_at s w rs = λ s w. sum_by-remove (sells s w) rs i no_trade lt in
        let bought : (s : ℕ) (w : Place) → bought_at s w (remove rs i) + cond (reaches offer w && eqb offer.buyer.0 s) offer.kw.0 0 ≡ bought_at s w rs = λ s w. omega (arith, sum_by-remove (buys s w) rs i no_trade lt, buys_as was Confirmed s w o) in
        record {
          parties = each_removed (λ r. Sound t r.offer) rs i lt b.parties;
          covered = λ s w. part_back (reaches offer w) (eqb offer.buyer.0 s) offer.kw.0 (sold_at s w (remove rs i)) (sold_at s w rs) (filled (t.cell s w)) (bought_at s w (remove rs i)) (bought_at s w rs) (bought s w) (omega (arith, sold s w)) (b.covered s w)
              (λ k. held_cell (bought_at s w rs) (sold_at s w rs) offer.kw.0 (t.cell s w) (b.covered s w) (holds_there offer offer.buyer.0 s w e k));
          untouched = λ s w q. (let z = b.untouched s w q in (omega (arith, sold s w, z.0), omega (arith, bought s w, z.1)));
        }

  pub offer_keeps : (o : Offer) → Sound t o → Balanced t rs → Balanced t (rs ++ record { offer = o; state = Offered } ∷ [])
  offer_keeps o ok b =
      let y : Trade = record { offer = o; state = Offered } in
      record {
        parties = each_push (λ r. Sound t r.offer) rs y b.parties ok;
        covered = λ s w. omega (arith, sum_by_push (sells s w) rs y, sum_by_push (buys s w) rs y, b.covered s w);
        untouched = λ s w q. (let z = b.untouched s w q in (omega (arith, sum_by_push (sells s w) rs y, z.0), omega (arith, sum_by_push (buys s w) rs y, z.1)));
      }
