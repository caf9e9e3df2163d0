use Rattle.std.proofs.Common.{sym, ◌∙◌, arith}
use Rattle.std.proofs.lemmas.Bool.{and_parts}
use Rattle.tariff.specs.Ranges.{within, between_parts}
use Rattle.stores.specs.TableLaws.{offset_within}
use Rattle.stores.proofs.full_table.FullTable.find.Goals as goal

pub returns-clause-bound : goal.returns-clause-bound
returns-clause-bound c =
    let s = c.args.self.now in
    let (wp, wd) = and_parts (within s.extent.points c.args.point) (within s.extent.days c.args.day) (sym c.has.ensures ∙ c.if-not-has.false) in
    let (p1, pn) = between_parts 1 s.extent.points c.args.point wp in
    let (d1, dn) = between_parts 1 s.extent.days c.args.day wd in
    omega (arith, offset_within s.extent.points s.extent.days c.args.point c.args.day p1 pn d1 dn, s.fits)
