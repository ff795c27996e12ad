use Rattle.std.proofs.Common.{w64, ap, ◌∙◌}
use Rattle.std.specs.Fmt.{signed_decimal}
use Rattle.std.proofs.lemmas.Fmt.{parse-signed_decimal}
use Rattle.std.proofs.lemmas.Int.{to_z-of_z}
use Rattle.records.proofs.theorems.figure_back.Goals as goal

pub returns : goal.returns
returns c =
    let text = c.as_str.ensures.value ∙ c.figure_of.ensures ∙ ap signed_decimal (to_z-of_z w64 c.args.n c.ranges.n) in
    parse-signed_decimal w64 c.args.n c.as_str.result.now c.parse.result c.ranges.n c.ranges.n.sfits text c.parse.ensures.value.0
