-- The call that a form stands for, as an event of a history (paper 01, "The calls").
use Rattle.definitions.specs.Event.{Event}
use Rattle.grammar.specs.declared.Call.{Call}
use Rattle.grammar.specs.declared.Call.TheVariants.{Open, Join, Change, Leave, Load, Arrive, Tick}

abbrev pub event_of : Call → Event
event_of (Open threshold discipline seed) = Event.Open threshold discipline seed
event_of (Join id kind rate burst) = Event.Join id kind rate burst
event_of (Change id kind rate burst) = Event.Change id kind rate burst
event_of (Leave id) = Event.Leave id
event_of (Load id dummies) = Event.Load id dummies
event_of (Arrive id packet) = Event.Arrive id packet
event_of Tick = Event.Tick
