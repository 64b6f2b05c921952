-- What stands in places where no packet waits is never seen (paper 02, S-3): "two cores that differ only in places where no
-- packet waits give the same answers and printed lines to the same calls". Each call need only keep its promise. So the two may
-- write the places differently on the way: the claim is about all that can be asked of them. The printed lines: crates/script,
-- UnseenOnPaper.
use Rattle.std.specs.Prelude.{ℕ, ◌<◌, ◌≡◌, true}
use Rattle.definitions.specs.Sizes.{ids, places}
use Rattle.definitions.specs.declared.Answer.TheVariants.{Accepted}
use Rattle.definitions.specs.Event.{Event, Open}
use Rattle.definitions.specs.History.{Trace}
use Rattle.order.specs.Order.{Sound}
use Rattle.tables.specs.declared.Control.{Control}
use Rattle.tables.specs.declared.Answered.{Answered}
use Rattle.tables.specs.declared.Tables.{Tables}
use Rattle.tables.specs.Tables.{head_at}
use Rattle.tables.specs.Meaning.{core_of, counts_of}
use Rattle.tables.specs.Invariant.{Sized, Valid}
use Rattle.tables.specs.Promise.{Meets}
use Rattle.tables.specs.Places.{Promised}
use Rattle.tables.specs.Run.{calls_of}
use Rattle.tables.specs.CallsFrom.{CallsFrom}
use Rattle.tables.specs.Unused.{DifferUnused, Unused, overwritten}

-- nothing that can be asked of two cores tells them apart: what they mean, and whatever is called on both, all that the calls get
-- (answers, picks and draws) and what the cores mean then
pub record Indistinct (c : Control) (t : Tables) (d : Control) (u : Tables) : Type 0 where
  pub core : core_of d u ≡ core_of c t
  pub call : {call : Event} {r q : Answered} {v w : Tables}
      → Meets call c t r v
      → Meets call d u q w
      → (q.answer ≡ r.answer) × (core_of q.control w ≡ core_of r.control v)
  pub calls : {first second : Trace} {e f : Control} {v w : Tables}
      → CallsFrom Meets c t first e v
      → CallsFrom Meets d u second f w
      → calls_of second ≡ calls_of first
      → (second ≡ first) × (core_of f w ≡ core_of e v)

-- the tables are laid out so that no index leaves them
pub record Laid (t : Tables) : Type 0 where
  pub sizes : Sized t
  pub heads : (id : ℕ) → id < ids → head_at t.stocks id < places
  pub sound : Sound t.links

pub record UnusedUnseen : Type 0 where
  pub indistinct : (c : Control) (t u : Tables) → Valid c t → DifferUnused c t u → Indistinct c t c u
  -- and on the other core, too, any call may be made
  pub valid : (c : Control) (t u : Tables) → Valid c t → DifferUnused c t u → (c.opened ≡ true → Laid u) → Valid c u
  -- there are such cores: any numbers may stand at a place where no packet waits
  pub overwriting : (c : Control) (t : Tables) (place handle length : ℕ)
      → Valid c t
      → Unused t place
      → DifferUnused c t (overwritten t place handle length) × Valid c (overwritten t place handle length)
  -- nor do the counts tell them apart, whatever is called on both
  pub counts : {c e f : Control} {t u v w : Tables} {first second : Trace} → Valid c t → DifferUnused c t u
      → CallsFrom Promised c t first e v
      → CallsFrom Promised c u second f w
      → calls_of second ≡ calls_of first
      → counts_of f w ≡ counts_of e v
  -- whatever two cores were, and whatever their tables hold: the same open, if it is accepted, leaves nothing to tell them apart
  pub opened : {threshold discipline seed : ℕ} {c d : Control} {t u v w : Tables} {r q : Answered}
      → Meets (Open threshold discipline seed) c t r v
      → Meets (Open threshold discipline seed) d u q w
      → r.answer ≡ Accepted
      → Indistinct r.control v q.control w
