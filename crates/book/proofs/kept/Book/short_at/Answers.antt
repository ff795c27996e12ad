use Rattle.std.proofs.Common.{ap, ◌∙◌}
use Rattle.sheet.specs.declared.places.Place.{Place}
use Rattle.book.specs.Deals.{lacks}
use Rattle.book.specs.Books.{table_of}
use Rattle.book.proofs.kept.Book.short_at.Goals as goal

pub returns : goal.returns
returns g c ok =
    let kw = c.args.offer.now.kw.0 in
    c.lacks.ensures ∙ ap (lacks kw) (c.cell.ensures ok) ∙ ap (λ (w : Place). lacks kw ((table_of g.S.Sheet.table c.args.self.now).cell c.args.seat.0 w)) c.place.ensures
