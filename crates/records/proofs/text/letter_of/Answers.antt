use Rattle.std.proofs.Common.{length, ap, arith}
use Rattle.std.proofs.lemmas.List.{length-append}
use Rattle.std.proofs.Math.Utf8.{encode}
use Rattle.std.proofs.lemmas.Str.{length-encode, len_utf8_bounds}
use Rattle.records.proofs.text.letter_of.Goals as goal

pub push-requires : goal.push-requires
push-requires c = let n = ap length c.new-text.ensures in let e = length-encode c.args.letter in let b = len_utf8_bounds c.args.letter in (omega arith, omega arith)

pub push-requires-2 : goal.push-requires-2
push-requires-2 c =
    let n = ap length c.new-text.ensures in
    let e = length-encode c.args.letter in
    let b = len_utf8_bounds c.args.letter in
    let f = length-encode 10 in
    let d = len_utf8_bounds 10 in
    let m = ap length c.push.ensures.bytes in
    let l = length-append c.new-text.result.bytes (encode c.args.letter) in
    (omega arith, omega arith)
