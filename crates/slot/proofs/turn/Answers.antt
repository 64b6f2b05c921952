-- Each way through it is the rule of the definitions whose test the marks have passed.
use Rattle.std.proofs.Common.{refl, sym, ◌∙◌}
use Rattle.definitions.specs.Sizes.{places}
use Rattle.slot.proofs.ChosenTurn.{held_by_both, chosen_contender, chosen_earliest, chosen_private, chosen_nobody}
use Rattle.slot.proofs.turn.Goals as goal

pub returns-then-control-ne-FIRST_COME : goal.returns-then-control-ne-FIRST_COME
returns-then-control-ne-FIRST_COME c k h l n core =
    chosen_contender _ _ core c.both-contenders.result c.both-contenders.ensures (sym c.any.ensures ∙ c.if-any.true)
    c.if-control-ne-FIRST_COME.true c.draw_among.result c.draw_among.ensures

pub returns-then-any : goal.returns-then-any
unfolding places
returns-then-any c k h l n core =
    chosen_earliest _ _ core c.both-contenders.result c.both-contenders.ensures (sym c.any.ensures ∙ c.if-any.true)
    c.if-control-ne-FIRST_COME.false c.front.result (c.front.ensures.by_index _ core.shape.ordered) _ refl refl c.undrawn.ensures

pub private_total-total-requires : goal.private_total-total-requires
private_total-total-requires c = held_by_both _ _ c.requires.4

pub returns-then-any-2 : goal.returns-then-any-2
returns-then-any-2 c k h l n core =
    chosen_private _ _ core c.both-contenders.result c.both-contenders.ensures (sym c.any.ensures ∙ c.if-any.false)
    (sym c.any-2.ensures ∙ c.if-any-2.true) c.draw_among-then-any-2.result c.draw_among-then-any-2.ensures

pub returns : goal.returns
returns c k h l n core =
    chosen_nobody _ _ core c.both-contenders.result c.both-contenders.ensures (sym c.any.ensures ∙ c.if-any.false)
    (sym c.any-2.ensures ∙ c.if-any-2.false) _ refl refl c.undrawn-2.ensures
