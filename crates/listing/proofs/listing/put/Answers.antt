use Rattle.std.proofs.Common.{◌+◌, ◌++◌, length, take, ap, ◌∙◌, arith}
use Rattle.std.proofs.lemmas.Slice.{take-put_mid, drop-put_mid}
use Rattle.listing.proofs.listing.put.Goals as goal

pub returns : goal.returns
returns c =
    let out = c.args.out.now in
    let at = c.args.at in
    let part = c.copy_from_slice.new.self in
    let is = c.copy_from_slice.ensures.after ∙ c.as_bytes.ensures in
    let long = ap length is in
    record {
      place = ap (λ n. at + n) c.len.ensures.0;
      front = take-put_mid at _ out part _ (omega arith) (omega arith) ∙ ap (λ l. take at out ++ l) is;
      back = drop-put_mid at _ out part _ (omega arith) (omega arith) (omega arith);
    }
