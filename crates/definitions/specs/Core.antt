-- The core: any call on any core (paper 01, "The calls").
-- "every call but open | 19 | core unopened"
use Rattle.definitions.specs.Event.{Event, Open, Join, Change, Leave, Load, Arrive, Tick}
use Rattle.definitions.specs.State.{State, Core, unopened, running}
use Rattle.definitions.specs.Checks.{Result, refused}
use Rattle.definitions.specs.Calls.{on_open, on_join, on_change, on_leave, on_load, on_arrive}
use Rattle.definitions.specs.Tick.{on_tick}

abbrev pub when_opened : Core → (State → Result) → Result
when_opened unopened call = refused 19 unopened
when_opened (running s) call = call s

unfoldable pub step : Core → Event → Result
step core (Open threshold discipline seed) = on_open core threshold discipline seed
step core (Join id kind rate burst) = when_opened core (λ s. on_join s id kind rate burst)
step core (Change id kind rate burst) = when_opened core (λ s. on_change s id kind rate burst)
step core (Leave id) = when_opened core (λ s. on_leave s id)
step core (Load id dummies) = when_opened core (λ s. on_load s id dummies)
step core (Arrive id packet) = when_opened core (λ s. on_arrive s id packet)
step core Tick = when_opened core on_tick
