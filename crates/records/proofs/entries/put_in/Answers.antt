use Rattle.std.proofs.Common.{◌≡◌, ◌-◌, take, sym, ap, ◌∙◌, arith}
use Rattle.std.specs.List.{insert}
use Rattle.records.specs.Books.{place, put}
use Rattle.records.proofs.Entering.{within, replaced, new_here, new_last, gives_set, gives_inserted, gives_none}
use Rattle.records.proofs.entries.put_in.Given as given
use Rattle.records.proofs.entries.put_in.Goals as goal
use Rattle.records.proofs.entries.put_in.Goals.{After-place_of-at, Joined-else-at-used, else-at-used-via-then-at-used+else-stands_at, else-at-used-via-else-at-used}

-- the place that the entry has in the list
found : (g : given.Over) (c : After-place_of-at g) →
    c.place_of-at.result ≡ place (take c.args.used c.args.entries.now) c.args.entry.subject c.args.entry.from_day
found g c =
    let z : c.args.used - 0 ≡ c.args.used = omega arith in
    c.place_of-at.ensures ∙ ap (λ n. place (take n c.args.entries.now) c.args.entry.subject c.args.entry.from_day) z

-- where no entry with the subject and the day stands there, the list has the entry between others
is_new : (g : given.Over) (c : Joined-else-at-used g) →
    c.place_of-at.result ≡ place (take c.args.used c.args.entries.now) c.args.entry.subject c.args.entry.from_day →
    put (take c.args.used c.args.entries.now) c.args.entry
    ≡ insert (take c.args.used c.args.entries.now) c.place_of-at.result c.args.entry
is_new g c at =
    elim c.else-at-used.branch [
      | else-at-used-via-then-at-used+else-stands_at w ↦
          new_here c.args.entries.now c.args.used c.args.entry c.place_of-at.result c.if-used-len.false at _
          w.if-at-used.true (sym w.if-stands_at.ensures)
      | else-at-used-via-else-at-used w ↦
          new_last c.args.entries.now c.args.used c.args.entry c.place_of-at.result c.if-used-len.false at w.if-at-used.false
    ]

pub returns-then-stands_at : goal.returns-then-stands_at
returns-then-stands_at g c =
    let m = c.args.entries.now in
    let u = c.args.used in
    let e = c.args.entry in
    let p = c.place_of-at.result in
    let at = found g (goal.at.returns-then-stands_at g c).After-place_of-at in
    let is = replaced m u e p c.if-used-len.false at _ c.if-at-used.true (sym c.if-stands_at.ensures) in
    let gives = gives_set m u e p c.if-used-len.false at c.if-at-used.true is in
    record { answer = gives.0; entered = gives.1 }

pub returns-then-used-len-2 : goal.returns-then-used-len-2
returns-then-used-len-2 g c =
    let m = c.args.entries.now in
    let u = c.args.used in
    let e = c.args.entry in
    let at = found g (goal.at.returns-then-used-len-2 g c).After-place_of-at in
    let is = is_new g (goal.at.returns-then-used-len-2 g c).Joined-else-at-used at in
    let gives = gives_none m u e c.place_of-at.result c.if-used-len.false at (omega arith) is in
    record { answer = gives.0; entered = gives.1 }

pub insert_at-requires : goal.insert_at-requires
insert_at-requires g c = (
  within c.args.entries.now c.args.used c.args.entry c.place_of-at.result c.if-used-len.false
      (found g (goal.at.insert_at-requires g c).After-place_of-at),
  omega arith,
)

pub returns : goal.returns
returns g c =
    let m = c.args.entries.now in
    let u = c.args.used in
    let e = c.args.entry in
    let at = found g (goal.at.returns g c).After-place_of-at in
    let is = is_new g (goal.at.returns g c).Joined-else-at-used at in
    let gives = gives_inserted m u e c.place_of-at.result c.if-used-len.false at (omega arith) is in
    record { answer = gives.0; entered = c.insert_at.ensures ∙ gives.1 }
