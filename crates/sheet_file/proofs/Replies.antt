-- What a call answered, read back.
use Rattle.std.proofs.Common.{◌≡◌, Some, None, Option, refl}
use Rattle.std.specs.Option.{ok_or}
use Rattle.std.specs.Result.{result_ok}

pub part_from_okOr : {X E : Type 0} (o : Option X) (e : E) → result_ok (ok_or o e) ≡ o
part_from_okOr None e = refl
part_from_okOr (Some x) e = refl
