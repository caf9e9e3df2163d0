use Rattle.std.proofs.Common.{◌≡◌, Some, sym, ap, ◌∙◌, rules}
use Rattle.tariff.specs.Ranges.{within}
use Rattle.stores.proofs.TablePosts.{table_reading}
use Rattle.stores.proofs.full_table.store.FullTableReadings.reading.Goals as goal

pub returns : goal.returns
returns c =
    let s = c.args.self.now in
    let hour : c.contains.result ≡ within 24 c.args.hour = search rules in
    ap Some c.decode.ensures
    ∙ sym (table_reading s.extent.points s.extent.days s.words.now c.args.point c.args.day c.args.hour c.in_ok-start.start s.fits
    c.in_ok-start.ensures.value c.if-self-start.false (sym hour ∙ c.if-not-contains.false))
