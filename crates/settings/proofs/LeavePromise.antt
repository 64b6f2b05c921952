-- A leave: what the id had to send is emptied, and nobody is put in its place. Nobody is what a client of no kind, rate 0 and
-- burst 0 would be. Assumes nothing.
use Prim.Native.Nat.{ℕ, ◌<◌}
use mathlib.Core.Path.{◌≡◌, refl, ap, ◌∙◌}
use mathlib.Core.Logic.{◌≢◌}
use mathlib.Core.Bool.{true}
use mathlib.Core.List.{List}
use native.Mathlib.Omega.{arith}
use borrow.Author.Tests.{ltb-true}
use Rattle.definitions.specs.Event.{Leave}
use Rattle.definitions.specs.declared.Answer.TheVariants.{Accepted, Refused}
use Rattle.definitions.specs.Sizes.{ids, indifferent_kind, private_kind}
use Rattle.definitions.specs.Client.{absent, Client, nobody, kind_of, joining}
use Rattle.definitions.specs.Counts.{anew, entry_of_accepted, entry_of_refused}
use Rattle.definitions.specs.State.{updated, put, emptied}
use Rattle.definitions.specs.Checks.{active_checks, leave_checks}
use Rattle.definitions.proofs.Laws.Checked.{Passed}
use Rattle.definitions.proofs.Laws.Rates.{held}
use Rattle.counts.specs.CountTable.{for_one, Entered}
use Rattle.tables.specs.declared.Control.{Control}
use Rattle.tables.specs.declared.Answered.{Answered}
use Rattle.tables.specs.declared.Tables.{Tables}
use Rattle.tables.specs.Tables.{tables}
use Rattle.tables.specs.Controls.{with_rates}
use Rattle.tables.specs.Meaning.{state_of}
use Rattle.tables.specs.Invariant.{SoundCore, Valid}
use Rattle.tables.specs.Numbers.{refusal}
use Rattle.tables.specs.Promise.{Meets}
use Rattle.tables.specs.Counting.{Counts}
use Rattle.tables.proofs.Countings.{counts_refused, counts_accepted}
use Rattle.tables.proofs.Promises.{refused_with_lem, opened, all_passed, sound_before, accepted_with}
use Rattle.tables.proofs.Checkings.{leaves}
use Rattle.settings.specs.Writes.{Room, Ready, rates_after, Recast, Emptied, Empties}
use Rattle.settings.proofs.Bounds.{room, ready}
use Rattle.settings.proofs.Placing.{placed_tables, Placement, placed_shape, placed_opened, placed_state}

nobody_joins : joining 0 0 0 ≡ nobody
unfolding joining kind_of indifferent_kind private_kind
nobody_joins = refl

none-held : held nobody ≡ 0
unfolding held
none-held = refl

module _ (c : Control) (t : Tables) (valid : Valid c t) (id : ℕ) where
  pub leave_refused : (r : Answered) (n : ℕ) → r ≡ record { control = c; answer = Refused n }
      → n ≡ refusal c t (λ s. leave_checks s id) → n ≢ 0 → Meets (Leave id) c t r t
  unfolding leaves
  leave_refused = refused_with_lem (Leave id) (leaves id) c t valid

  pub leave_refused_counts : (r : Answered) (n : ℕ) → r ≡ record { control = c; answer = Refused n } → Counts (Leave id) c t r t
  unfolding entry_of_refused
  leave_refused_counts r n e = counts_refused n e refl (λ j indifferent waiting. refl)

  module _ (none : refusal c t (λ s. leave_checks s id) ≡ 0) where
    passed : Passed (leave_checks (state_of c t) id)
    unfolding leaves
    passed = all_passed (Leave id) (leaves id) c t valid none

    sound : SoundCore c t
    unfolding leaves
    sound = sound_before (Leave id) (leaves id) c t valid none

    pub leave_below : id < ids
    unfolding leave_checks active_checks
    leave_below = ltb-true id ids passed.0

    pub leave_ready : Ready t.stocks t.links id
    leave_ready = ready c t sound id leave_below

    module _ (b : Control) (stocks links : List ℕ) (empties : Empties c t.stocks t.links id b stocks links) where
      bare : Emptied c t id b (tables t.terms stocks t.handles t.lengths links t.counts)
      bare = empties t.terms t.handles t.lengths t.counts sound.shape

      pub leave_room : Room b t.terms id 0
      leave_room = room c t sound id leave_below b bare.rest 0 (omega arith)

      module _ (d : Control) (cast : Recast (with_rates b (rates_after b t.terms id 0)) d id absent) where
        placement : Placement c t id 0 0 0 b stocks links d
        unfolding kind_of indifferent_kind private_kind
        placement = record {
          sound = sound;
          below = leave_below;
          bare = bare;
          holds = ap held nobody_joins ∙ none-held;
          cast = cast;
        }

        opened_after : d.opened ≡ true
        unfolding leaves
        opened_after = placed_opened c t id 0 0 0 b stocks links d placement ∙ opened (Leave id) (leaves id) c t valid none

        -- the sheet of the client goes with it
        pub leave_counts : (r : Answered) (u : Tables) → r ≡ record { control = d; answer = Accepted }
            → Entered (for_one id anew) t.counts u.counts
            → Counts (Leave id) c t r u
        unfolding leaves entry_of_accepted
        leave_counts r u e after =
            counts_accepted id anew valid (opened (Leave id) (leaves id) c t valid none) opened_after leave_below e after (λ j. refl)

        pub leave_accepted : (r : Answered) → r ≡ record { control = d; answer = Accepted }
            → Meets (Leave id) c t r (placed_tables (tables t.terms stocks t.handles t.lengths links t.counts) id 0 0)
        unfolding leaves
        leave_accepted r e =
            accepted_with (Leave id) (leaves id) c t valid none r d
            (placed_tables (tables t.terms stocks t.handles t.lengths links t.counts) id 0 0) e opened_after
            (placed_state c t id 0 0 0 b stocks links d placement
            ∙ ap (λ (x : Client). updated (state_of c t) (put (state_of c t).clients id x) (emptied (state_of c t).side id))
            nobody_joins)
            (placed_shape c t id 0 0 0 b stocks links d placement)
