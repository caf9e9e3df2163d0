use Rattle.std.proofs.Common.{◌++◌, length, take, ap, ◌∙◌, arith}
use Rattle.std.specs.List.{flat_map}
use Rattle.std.proofs.lemmas.List.{at_drop_all, take_all}
use Rattle.listing.specs.Rows.{line_text}
use Rattle.listing.proofs.Passing.{lengths_at, front_more, back_more}
use Rattle.listing.proofs.listing.put_lines.Goals as goal

pub loop-line-preserved : goal.loop-line-preserved
loop-line-preserved c =
    let ls = c.args.lines.now in
    let i = c.loop-line.line-index in
    let here = lengths_at ls i _ _ c.line_text.ensures c.loop-line-test.true in (
      omega arith,
      front_more ls i _ _ c.line_text.ensures c.loop-line-test.true _ _ _ c.loop-line.invariant.1 c.put-at.ensures.front,
      back_more c.args.out.now c.loop-line.out c.put-at.new.out c.loop-line.at _ c.put-at.result c.put-at.ensures.place c.loop-line.invariant.2 c.put-at.ensures.back,
    )
