use Rattle.std.proofs.Common.{◌≡◌, ℕ, List, length, vec_items, string_bytes, sym, ap, ◌∙◌, arith}
use Rattle.std.proofs.lemmas.Result.{IfOk-weaker}
use Rattle.division.specs.Columns.{tenths, amounts}
use Rattle.division.proofs.Figures.{length-tenths}
use Rattle.bill.specs.Lines.{shares_text}
use Rattle.bill.specs.Bills.{answer_text}
use Rattle.bill.proofs.Answering.{shares_text_lem}
use Rattle.bill.proofs.bills.answer.Goals as goal

pub returns-in-Ok : goal.returns-in-Ok
returns-in-Ok g c =
    let f = g.R.DivisionRule.shares c.args.rule.now in
    let z = c.args.bill.now.total.0 in
    let ls = tenths c.deref.result.now in
    let l : length c.deref.result.now ≡ length (vec_items c.args.bill.now.loads) = ap length c.deref.ensures.value in
    let n : length c.as_mut_slice-shares.result.now ≡ length ls =
    (let m = length-tenths c.deref.result.now in let a = ap length c.as_mut_slice-shares.ensures.value in let o = c.in_ok-column.column.ok.0 in let p = c.args.bill.now.loads.ok.0 in let k = c.in_ok-column.ensures.len in let q = c.len.ensures in omega arith) in
    let t = shares_text_lem g.R.DivisionRule.LETTER f z ls c.as_mut_slice-shares.result.now c.divide_signed.new.out n c.in-Ok.ensures in
    IfOk-weaker c.shares_line.result
    (λ s. string_bytes s ≡ shares_text c.LETTER.result (amounts c.divide_signed.new.out))
    (λ s. string_bytes s ≡ answer_text g.R.DivisionRule.LETTER f z (tenths (vec_items c.args.bill.now.loads)))
    (λ s e. e ∙ (ap (λ (k : ℕ). shares_text k (amounts c.divide_signed.new.out)) c.LETTER.ensures ∙ (sym t ∙ ap (λ (ks : List _). answer_text g.R.DivisionRule.LETTER f z (tenths ks)) c.deref.ensures.value)))
    c.shares_line.ensures
