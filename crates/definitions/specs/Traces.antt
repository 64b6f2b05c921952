-- What is read off a trace, whoever made it (paper 01, "Two histories"): which calls set up, arrive and tick, whom they name, and who is
-- indifferent at a place.
use Rattle.std.specs.Prelude.{ℕ, Bool, true, false, cond, eqb}
use Rattle.definitions.specs.Event.{Event, Open, Join, Change, Leave, Load, Arrive, Tick}
use Rattle.definitions.specs.Sizes.{indifferent_kind}
use Rattle.definitions.specs.Answers.{is_accepted}
use Rattle.definitions.specs.History.{Trace, begin, ◌and◌}

-- the calls that set a client or the core up: open, join, change and leave
unfoldable pub is_setting : Event → Bool
is_setting (Open threshold discipline seed) = true
is_setting (Join id kind rate burst) = true
is_setting (Change id kind rate burst) = true
is_setting (Leave id) = true
is_setting (Load id dummies) = false
is_setting (Arrive id packet) = false
is_setting Tick = false

unfoldable pub is_tick : Event → Bool
is_tick (Open threshold discipline seed) = false
is_tick (Join id kind rate burst) = false
is_tick (Change id kind rate burst) = false
is_tick (Leave id) = false
is_tick (Load id dummies) = false
is_tick (Arrive id packet) = false
is_tick Tick = true

unfoldable pub is_arrival : Event → Bool
is_arrival (Open threshold discipline seed) = false
is_arrival (Join id kind rate burst) = false
is_arrival (Change id kind rate burst) = false
is_arrival (Leave id) = false
is_arrival (Load id dummies) = false
is_arrival (Arrive id packet) = true
is_arrival Tick = false

-- a client's own calls: those that name it
unfoldable pub names : ℕ → Event → Bool
names id (Open threshold discipline seed) = false
names id (Join other kind rate burst) = eqb other id
names id (Change other kind rate burst) = eqb other id
names id (Leave other) = eqb other id
names id (Load other dummies) = eqb other id
names id (Arrive other packet) = eqb other id
names id Tick = false

-- whether an id is indifferent after an accepted call, given whether it was before
unfoldable pub indifferent_by : ℕ → Event → Bool → Bool
indifferent_by id (Open threshold discipline seed) was = false
indifferent_by id (Join other kind rate burst) was = cond (eqb other id) (eqb kind indifferent_kind) was
indifferent_by id (Change other kind rate burst) was = cond (eqb other id) (eqb kind indifferent_kind) was
indifferent_by id (Leave other) was = cond (eqb other id) false was
indifferent_by id (Load other dummies) was = was
indifferent_by id (Arrive other packet) was = was
indifferent_by id Tick was = was

-- whether an id is indifferent behind some calls, given whether it was before the first
unfoldable pub indifferent_since : Bool → ℕ → Trace → Bool
indifferent_since was id begin = was
indifferent_since was id (t and d) =
    cond (is_accepted d.answer) (indifferent_by id d.event (indifferent_since was id t)) (indifferent_since was id t)

-- "An id is indifferent there if, since the last accepted open before it, its last accepted join or change gave type 1
-- and no accepted leave of it came later."
abbrev pub indifferent_at : ℕ → Trace → Bool
indifferent_at = indifferent_since false
