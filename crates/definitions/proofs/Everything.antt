-- Every shut definition of the calls under one name: a proof that computes with concrete calls unfolds this one.
use Rattle.definitions.specs.Sizes.{ids, places, pool_limit, shares, burst_limit, shortest, longest, indifferent_kind, private_kind, throws, first_come, weighted_draw}
use Rattle.definitions.specs.Generator.{xor_left, xor_right, stepped}
use Rattle.definitions.specs.Sample.{even_span, sample_from, sample}
use Rattle.definitions.specs.Draw.{sum_below, first_from, drawn_at, draw}
use Rattle.definitions.specs.Client.{kind_of, joining, retuned, changed, charged, refilled}
use Rattle.definitions.specs.Stock.{loaded, queued, spent}
use Rattle.definitions.specs.State.{fresh, updated, put, stocked, without, without_first, emptied, earliest}
use Rattle.definitions.specs.Answers.{number, values, word, shown, is_accepted, bears, is_departure}
use Rattle.definitions.specs.Checks.{checked, within, active_rate, rates, burst_fits, open_checks, term_checks, join_checks, active_checks, change_checks, leave_checks, load_checks, arrive_checks}
use Rattle.definitions.specs.Calls.{on_open, on_join, side_after_change, on_change, on_leave, on_load, order_after_arrival, side_after_arrival, on_arrive}
use Rattle.definitions.specs.Tick.{any_below, contends, rule_of, contender_rate, private_rate, first_turn, turn_by, turn, padding, sent, outcome_by, stocks_after, order_after, side_after, refill_all, slotted, on_tick}
use Rattle.definitions.specs.Core.{step}
use Rattle.definitions.specs.History.{calls, client_of, stock_of, generator_of}

unfoldable pub everything : Type 0
unfolding ids places pool_limit shares burst_limit shortest longest indifferent_kind private_kind throws first_come weighted_draw
    xor_left xor_right stepped even_span sample_from sample sum_below first_from drawn_at draw
    kind_of joining retuned changed charged refilled loaded queued spent
    fresh updated put stocked emptied without without_first earliest
    number values word shown is_accepted bears is_departure
    checked within active_rate rates burst_fits
    open_checks term_checks join_checks active_checks change_checks leave_checks load_checks arrive_checks
    on_open on_join side_after_change on_change on_leave on_load order_after_arrival side_after_arrival on_arrive
    any_below contends rule_of contender_rate private_rate first_turn turn_by turn
    padding sent outcome_by stocks_after order_after side_after refill_all slotted on_tick
    step calls client_of stock_of generator_of
everything = Unit {0}
