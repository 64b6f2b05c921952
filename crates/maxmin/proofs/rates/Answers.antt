-- What is refused, and what the room holds where rates are given.
use Rattle.std.proofs.Common.{sym, ◌∙◌}
use Rattle.maxmin.proofs.RatesGiven.{accepted_few, refused_list, refused_room, found_low, found_fits, given}
use Rattle.maxmin.proofs.rates.Goals as goal
use Rattle.maxmin.proofs.rates.Goals.{then-not-is_acceptable-via-then-not-is_acceptable, then-not-is_acceptable-via-else-not-is_acceptable+then-rates-demands}

pub returns-then-not-is_acceptable : goal.returns-then-not-is_acceptable
returns-then-not-is_acceptable c =
    rw c.number.ensures
    elim c.then-not-is_acceptable.branch [
      | then-not-is_acceptable-via-then-not-is_acceptable w ↦ refused_list _ _ _ _ (sym c.is_acceptable.ensures ∙ w.if-not-is_acceptable.true)
      | then-not-is_acceptable-via-else-not-is_acceptable+then-rates-demands w ↦
          refused_room _ _ _ _ (sym c.is_acceptable.ensures ∙ w.if-not-is_acceptable.false) w.if-rates-demands.true
    ]

pub fair_level-level-requires : goal.fair_level-level-requires
fair_level-level-requires c = accepted_few _ _ _ (sym c.is_acceptable.ensures ∙ c.if-not-is_acceptable.false)

pub cut_sum-requires : goal.cut_sum-requires
cut_sum-requires c =
    (accepted_few _ _ _ (sym c.is_acceptable.ensures ∙ c.if-not-is_acceptable.false), found_low _ _ c.fair_level-level.ensures)

pub overflow_sub-left : goal.overflow_sub-left
overflow_sub-left c = found_fits _ _ c.fair_level-level.ensures c.cut_sum.ensures

pub put_rates-requires : goal.put_rates-requires
put_rates-requires c = (c.if-rates-demands.false, found_low _ _ c.fair_level-level.ensures)

pub returns : goal.returns
returns c =
    given _ _ _
    (sym c.is_acceptable.ensures ∙ c.if-not-is_acceptable.false)
    c.if-rates-demands.false
    c.fair_level-level.ensures
    c.cut_sum.ensures
    c.put_rates.ensures
