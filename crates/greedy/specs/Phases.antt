-- The phases of a run with a greedy client (docs/LONG_RUNS.md, "With a greedy client"): "The phase says which call comes next",
-- and how the counts stand then. "All are numbers of 32 bits".
use Rattle.std.specs.Prelude.{ℕ, ◌+◌, ◌%◌, ◌^◌, false, cond, ◌||◌, ◌==◌}
use Rattle.definitions.specs.declared.Answer.{Answer}
use Rattle.definitions.specs.declared.Answer.TheVariants.{Accepted, Refused, Slot}
use Rattle.definitions.specs.Sizes.{shares, indifferent_kind}
use Rattle.definitions.specs.Stretch.{tokens}
use Rattle.grammar.specs.declared.Call.{Call}
use Rattle.grammar.specs.declared.Call.TheVariants.{Open, Join, Arrive, Tick}
use Rattle.runs.specs.Calls.{packet_of, call_at}
use Rattle.greedy.specs.declared.Counts.{Counts}

-- "client 9"
abbrev pub greedy : ℕ
greedy = 9

-- the phases; 4 to 7 are of other clients' calls
abbrev pub opening : ℕ
opening = 0

abbrev pub joining : ℕ
joining = 1

abbrev pub pausing : ℕ
pausing = 2

abbrev pub offering : ℕ
offering = 3

abbrev pub others : ℕ
others = 4

abbrev pub ticking : ℕ
ticking = 8

-- what an arrival is refused with where every place is taken, and where the bucket has no packet left
abbrev pub no_place : ℕ
no_place = 14

abbrev pub no_token : ℕ
no_token = 15

-- "a count begins again at 0 behind 4294967295"
unfoldable pub risen : ℕ → ℕ
risen n = (n + 1) % 2 ^ 32

-- "rate 1 + c mod 1024"
unfoldable pub rate_from : ℕ → ℕ
rate_from c = 1 + c % shares

-- the column "call" of the table; the calls of the others are "of a busy time"
unfoldable pub call_in : ℕ → ℕ → ℕ → ℕ → ℕ → Call
call_in phase a b c d =
    cond (phase == opening) (Open shares (c % 2) d)
    (cond (phase == joining) (Join greedy indifferent_kind (rate_from c) (2 + d % 63))
    (cond (phase == pausing || phase == ticking) Tick
    (cond (phase == offering) (Arrive greedy (packet_of c d))
    (call_at false (1 + a % 15600) (b % 65536) c d))))

abbrev pub in_phase : Counts → ℕ → Counts
in_phase k phase = record {
  phase = phase;
  rate = k.rate;
  level = k.level;
  ticks = k.ticks;
  accepted = k.accepted;
  offerings = k.offerings;
  exact = k.exact;
}

-- phase 1: "R becomes that rate; phase 2"
unfoldable pub joined : Counts → ℕ → Counts
joined k c = record {
  phase = pausing;
  rate = rate_from c;
  level = k.level;
  ticks = k.ticks;
  accepted = k.accepted;
  offerings = k.offerings;
  exact = k.exact;
}

-- "the stretch starts: L becomes the level of client 9 after this tick, n and g become 0, phase 3"
abbrev pub started : Counts → ℕ → Counts
started k level = record {
  phase = offering;
  rate = k.rate;
  level = level;
  ticks = 0;
  accepted = 0;
  offerings = k.offerings;
  exact = k.exact;
}

-- phase 2: "if d mod 64 is 0 the stretch starts ..; else phase 2"
unfoldable pub paused : Counts → ℕ → ℕ → Counts
paused k d level = cond (d % 64 == 0) (started k level) k

-- "(L + n · R) / 1024": what was bought up to here
unfoldable pub bought : Counts → ℕ
bought k = tokens k.level k.rate k.ticks

-- "the offering ends: F + 1; E + 1 if g = (L + n · R) / 1024; phase 4"
unfoldable pub ended : Counts → Counts
ended k = record {
  phase = others;
  rate = k.rate;
  level = k.level;
  ticks = k.ticks;
  accepted = k.accepted;
  offerings = risen k.offerings;
  exact = cond (k.accepted == bought k) (risen k.exact) k.exact;
}

-- "if it was accepted, g + 1 and phase 3"
abbrev pub given : Counts → Counts
given k = record {
  phase = k.phase;
  rate = k.rate;
  level = k.level;
  ticks = k.ticks;
  accepted = risen k.accepted;
  offerings = k.offerings;
  exact = k.exact;
}

-- "If it was refused with 15 the offering ends .. If with 14, phase 0; else phase 3"
unfoldable pub refused_with : Counts → ℕ → Counts
refused_with k number = cond (number == no_token) (ended k) (cond (number == no_place) (in_phase k opening) k)

-- phase 3: an arrival is accepted or refused
unfoldable pub offered : Counts → Answer → Counts
offered k Accepted = given k
offered k (Refused number) = refused_with k number
offered k (Slot outcome) = k

-- phase 8: "n + 1; phase 0 if d mod 1024 is 0, else phase 3"
unfoldable pub ticked : Counts → ℕ → Counts
ticked k d = record {
  phase = cond (d % 1024 == 0) opening offering;
  rate = k.rate;
  level = k.level;
  ticks = risen k.ticks;
  accepted = k.accepted;
  offerings = k.offerings;
  exact = k.exact;
}

-- the column "then" of the table, by the call's answer, its draws c and d, and the level that it left client 9; behind 0 as
-- behind 4 to 7 it is "the next phase"
unfoldable pub turned : Counts → Answer → ℕ → ℕ → ℕ → Counts
turned k answer c d level =
    cond (k.phase == joining) (joined k c)
    (cond (k.phase == pausing) (paused k d level)
    (cond (k.phase == offering) (offered k answer)
    (cond (k.phase == ticking) (ticked k d)
    (in_phase k (risen k.phase)))))
