use Rattle.std.proofs.Common.{◌∷◌, [], ap, ◌∙◌}
use Rattle.text.specs.Format.{before, after}
use Rattle.job.proofs.Getting.{get_value}
use Rattle.job.proofs.parse.first_six.Goals as goal

pub returns : goal.returns
returns c =
    let xs = c.args.rest.now in
    let past-1 = c.cut.ensures.back in
    let past-2 = c.cut-2.ensures.back ∙ ap (after 124) past-1 in
    let past-3 = c.cut-3.ensures.back ∙ ap (after 124) past-2 in
    let past-4 = c.cut-4.ensures.back ∙ ap (after 124) past-3 in
    let past-5 = c.cut-5.ensures.back ∙ ap (after 124) past-4 in
    let first = c.cut.ensures.front ∙ get_value 0 xs in
    let second = c.cut-2.ensures.front ∙ ap (before 124) past-1 ∙ get_value 1 xs in
    let third = c.cut-3.ensures.front ∙ ap (before 124) past-2 ∙ get_value 2 xs in
    let fourth = c.cut-4.ensures.front ∙ ap (before 124) past-3 ∙ get_value 3 xs in
    let fifth = c.cut-5.ensures.front ∙ ap (before 124) past-4 ∙ get_value 4 xs in
    let sixth = c.cut-6.ensures.front ∙ ap (before 124) past-5 ∙ get_value 5 xs in
    λ i. first i ∷ second i ∷ third i ∷ fourth i ∷ fifth i ∷ sixth i ∷ []
