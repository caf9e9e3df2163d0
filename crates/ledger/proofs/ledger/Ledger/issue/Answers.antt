use Rattle.std.proofs.Common.{◌≡◌, ◌+◌, true, sym, refl, subst, rules}
use Rattle.std.specs.List.{AllByRecursion}
use Rattle.tariff.specs.Shelves.{Shelf, items}
use Rattle.ledger.specs.declared.line.Line.{Line}
use Rattle.ledger.specs.Dues.{all_facts}
use Rattle.ledger.specs.Issues.{Settled, Unmoved}
use Rattle.ledger.specs.Ledgers.{shelf_of, sound_ledger, issue_answer, issued}
use Rattle.ledger.proofs.Issuing.{ok_is, issued_sound, issued_settled, issued_unmoved, dues_sound}
use Rattle.ledger.proofs.ledger.Ledger.issue.Goals as goal

pub returns : goal.returns
returns c =
    let g : Shelf Line = shelf_of c.args.self.now in
    let s = c.args.statement in
    let dues = all_facts c.args.dues.now in
    let ok = ok_is (issue_answer g s dues) c.in_ok-count.count c.in_ok-count.ensures.answer in
    let after : ◌≡◌ {A = Shelf Line} (record { memory = c.write_issue.new.memory; used = g.used + c.in_ok-count.count }) (issued g s dues) = search rules in
    record {
      answer = c.in_ok-count.ensures.answer;
      after = after;
      lender = refl;
      written = refl;
      sound = λ _. subst (λ z. sound_ledger z ≡ true) (sym after) (issued_sound g s dues ok (dues_sound c.args.dues.now));
      settled = λ _ e. subst (λ z. AllByRecursion (Settled (items z)) dues) (sym after) (issued_settled g s dues ok e);
      unmoved = λ _. subst (λ z. Unmoved dues (items g) (items z)) (sym after) (issued_unmoved g s dues ok);
    }
