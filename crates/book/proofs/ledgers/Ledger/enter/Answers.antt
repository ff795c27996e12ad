use Rattle.std.proofs.Common.{List, vec_items, sym, subst, arith}
use Rattle.book.specs.declared.trades.Trade.{Trade}
use Rattle.book.specs.declared.trades.TradeState.TheVariants.{Offered}
use Rattle.book.specs.Trades.{Each, Fit, Apart}
use Rattle.book.proofs.Each.{each_push}
use Rattle.book.proofs.Numbers.{apart_push}
use Rattle.book.proofs.ledgers.Ledger.enter.Goals as goal

pub invariant_of-self : goal.invariant_of-self
invariant_of-self c =
    let rs = vec_items c.args.self.now.trades in
    let y : Trade = record { offer = c.args.offer; state = Offered } in
    let fits : Trade → Type 0 = λ r. Fit r.offer in
    record {
      few = omega arith;
      room = omega arith;
      fit = subst (λ (xs : List Trade). Each fits xs) (sym c.push_reserved.ensures.items) (each_push fits rs y c.args.self.now.fit c.requires.fit);
      apart = subst Apart (sym c.push_reserved.ensures.items) (apart_push rs c.args.self.now.apart y c.requires.new);
    }
