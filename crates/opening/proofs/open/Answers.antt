-- `opening::open` meets its contract: it is refused with the first number that fails, and else fills the tables.
-- Assumes nothing.
use mathlib.Core.Path.{refl, sym, ap, ◌∙◌}
use Rattle.definitions.specs.Sizes.{ids, places}
use Rattle.order.specs.Order.{sentinel, link_count}
use Rattle.tables.specs.declared.Control.{Control}
use Rattle.tables.specs.declared.Answered.{Answered}
use Rattle.definitions.specs.declared.Answer.TheVariants.{Accepted}
use Rattle.definitions.specs.Answers.{is_accepted}
use Rattle.definitions.proofs.Laws.Refused.{number_of_some}
use Rattle.tables.proofs.Promises.{in_place, with_places}
use Rattle.opening.proofs.OpenPromise.{open_refused, open_refused_counts, open_accepted, open_counts}
use Rattle.opening.proofs.open.Goals as goal

pub returns-in-Err : goal.returns-in-Err
returns-in-Err c =
    let a = c.args in
    in_place refl refl
    (open_refused_counts a.control _ c.requires a.threshold a.discipline a.seed c.refused.result _ c.refused.ensures)
    (open_refused a.control _ c.requires a.threshold a.discipline a.seed
    c.refused.result _ c.refused.ensures (c.number.ensures ∙ c.in-Err.ensures)
    (λ e. number_of_some c.in-Err.refusal (sym c.number.ensures ∙ e)))

-- what an accepted call gives, by the control after it
abbrev accepting : Control → Answered
accepting d = record { control = d; answer = Accepted }

pub returns : goal.returns
unfolding ids places sentinel link_count is_accepted
returns c =
    let a = c.args in
    let answered = c.accepted.ensures ∙ ap accepting c.control_of.ensures in
    with_places c.accepted.ensures refl
    (open_counts a.control _ c.requires a.threshold a.discipline a.seed c.accepted.result answered)
    (open_accepted a.control _ c.requires a.threshold a.discipline a.seed c.accepted.result answered
    (sym c.in_default.ensures))
