-- When rates are given, and what the room then holds. Assumes nothing.
use Prim.Native.Nat.{ℕ, ◌-◌, ◌≤◌, ◌<◌}
use mathlib.Core.Path.{◌≡◌, ◌∙◌}
use mathlib.Core.Bool.{true, false}
use mathlib.Core.List.{List}
use lib.ListN.{length}
use lib.Seq.{sets}
use borrow.Author.Tests.{le-leb, lt-leb}
use Rattle.definitions.specs.declared.Answer.TheVariants.{Accepted, Refused}
use Rattle.definitions.specs.Sizes.{ids, shares}
use Rattle.definitions.specs.FairRates.{cut_sum, fair_level, rates_at, fair_rates, acceptable}
use Rattle.definitions.proofs.Fairness.Level.{level_top, level-fits}
use Rattle.definitions.proofs.Fairness.Claims.{accepted_parts}
use Rattle.maxmin.specs.Shared.{granted, room_after, Shared}

-- a level that was found is within the shares, and what is cut to it fits
pub found_low : (threshold : ℕ) (ds : List ℕ) {level : ℕ} → level ≡ fair_level threshold ds → level ≤ shares
found_low threshold ds found = rw found (level_top threshold ds)

pub found_fits : (threshold : ℕ) (ds : List ℕ) {level sum : ℕ}
    → level ≡ fair_level threshold ds
    → sum ≡ cut_sum level ds
    → sum ≤ threshold
found_fits threshold ds found cut = rw (cut, found) (level-fits threshold ds)

module _ (threshold : ℕ) (is ds : List ℕ) where
  -- a list that is accepted has at most a demand to an id
  pub accepted_few : acceptable threshold is ds ≡ true → length ds ≤ ids
  accepted_few e = (accepted_parts threshold is ds (rw e tt)).0

  pub refused_list : (room : List ℕ) → acceptable threshold is ds ≡ false → Shared threshold is ds room (Refused 22) room
  unfolding granted room_after
  refused_list room e = record { said = rw e; room = rw e }

  pub refused_room : (room : List ℕ) → acceptable threshold is ds ≡ true → length room < length ds
      → Shared threshold is ds room (Refused 22) room
  unfolding granted room_after
  refused_room room e short =
      let small = lt-leb (length ds) (length room) short in
      record { said = rw (e, small); room = rw (e, small) }

  pub given : {room after : List ℕ} {level sum : ℕ}
      → acceptable threshold is ds ≡ true
      → length ds ≤ length room
      → level ≡ fair_level threshold ds
      → sum ≡ cut_sum level ds
      → after ≡ sets room 0 (rates_at level (threshold - sum) ds)
      → Shared threshold is ds room Accepted after
  unfolding granted room_after fair_rates
  given {room} e fits found cut written =
      let enough = le-leb (length ds) (length room) fits in
      record { said = rw (e, enough); room = rw (e, enough) (written ∙ rw (cut, found)) }
