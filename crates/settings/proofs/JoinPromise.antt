-- A join: a new client is put in the place of nobody, who has no packet in the order. Assumes nothing.
use Prim.Native.Nat.{ℕ, ◌<◌}
use mathlib.Core.Path.{◌≡◌, refl, sym, ap, ◌∙◌}
use mathlib.Core.Logic.{◌≢◌}
use mathlib.Core.Bool.{true, false}
use mathlib.Core.List.{[]}
use borrow.Author.Tests.{lt-ltb, ltb-true, not-true}
use Rattle.definitions.specs.Event.{Join}
use Rattle.definitions.specs.declared.Answer.TheVariants.{Accepted, Refused}
use Rattle.definitions.specs.Sizes.{ids}
use Rattle.definitions.specs.Client.{Kind, absent, indifferent, private, kind_of, is_active, is_indifferent, joining}
use Rattle.definitions.specs.Counts.{anew, entry_of_accepted, entry_of_refused}
use Rattle.definitions.specs.Stock.{bare}
use Rattle.definitions.specs.State.{updated, put, stocked, without, emptied}
use Rattle.definitions.specs.Checks.{rates, join_checks}
use Rattle.definitions.proofs.Laws.Tests.{true-false}
use Rattle.definitions.proofs.Laws.Checked.{Passed}
use Rattle.counts.specs.CountTable.{for_one, Entered}
use Rattle.order.specs.Owner.{places_of}
use Rattle.tables.specs.declared.Control.{Control}
use Rattle.tables.specs.declared.Answered.{Answered}
use Rattle.tables.specs.declared.Tables.{Tables}
use Rattle.tables.specs.Controls.{with_rates}
use Rattle.tables.specs.Meaning.{kind_at, client_at, clients_of, side_of, state_of}
use Rattle.tables.specs.Invariant.{SoundCore, Valid}
use Rattle.tables.specs.Numbers.{refusal}
use Rattle.tables.specs.Promise.{Meets}
use Rattle.tables.specs.Counting.{Counts}
use Rattle.tables.proofs.Countings.{counts_refused, counts_accepted}
use Rattle.tables.proofs.Promises.{refused_with_lem, opened, all_passed, sound_before, accepted_with}
use Rattle.tables.proofs.Checkings.{joins}
use Rattle.settings.specs.Writes.{Room, rates_after, with_bare, Recast, Quiet, Withdrawn}
use Rattle.settings.proofs.Withdrawing.{order_without, withdrawn_none}
use Rattle.settings.proofs.Bounds.{Fitting, terms_fit, fitting_holds, room}
use Rattle.settings.proofs.Emptying.{order_means, emptied_tables, emptied_by}
use Rattle.settings.proofs.Placing.{placed_tables, Placement, placed_shape, placed_opened, placed_state}

inactive : (k : Kind) → is_active k ≡ false → is_indifferent k ≡ false
inactive absent e = refl
inactive indifferent e = true-false refl e
inactive private e = refl

module _ (c : Control) (t : Tables) (valid : Valid c t) (id kind rate burst : ℕ) where
  pub join_refused : (r : Answered) (n : ℕ) → r ≡ record { control = c; answer = Refused n }
      → n ≡ refusal c t (λ s. join_checks s id kind rate burst) → n ≢ 0 → Meets (Join id kind rate burst) c t r t
  unfolding joins
  join_refused = refused_with_lem (Join id kind rate burst) (joins id kind rate burst) c t valid

  pub join_refused_counts : (r : Answered) (n : ℕ) → r ≡ record { control = c; answer = Refused n }
      → Counts (Join id kind rate burst) c t r t
  unfolding entry_of_refused
  join_refused_counts r n e = counts_refused n e refl (λ j indifferent waiting. refl)

  module _ (none : refusal c t (λ s. join_checks s id kind rate burst) ≡ 0) where
    passed : Passed (join_checks (state_of c t) id kind rate burst)
    unfolding joins
    passed = all_passed (Join id kind rate burst) (joins id kind rate burst) c t valid none

    sound : SoundCore c t
    unfolding joins
    sound = sound_before (Join id kind rate burst) (joins id kind rate burst) c t valid none

    pub join_below : id < ids
    unfolding join_checks
    join_below = ltb-true id ids passed.0

    fits : Fitting kind rate burst
    unfolding join_checks
    fits = terms_fit (state_of c t).threshold (rates (state_of c t).clients) kind rate burst passed.1.1

    dull : is_indifferent (kind_at c id) ≡ false
    unfolding join_checks state_of clients_of client_at
    dull = inactive (kind_at c id) (not-true _ (rw (lt-ltb id ids join_below) at passed.1.0))

    unplaced : places_of id sound.shape.order ≡ []
    unplaced = rw dull at (sound.shape.placed id join_below)

    away : Withdrawn t.links id sound.shape.order
    away = withdrawn_none t.links id sound.shape.order sound.shape.ordered unplaced

    -- there is nothing of the id in the order to empty
    side_made : emptied (state_of c t).side id ≡ stocked (state_of c t).side id bare
    unfolding state_of side_of emptied stocked
    side_made =
        let o = order_means t sound.shape.order sound.shape.ordered in
        λ i. record {
          generator = (side_of c t).generator;
          order = (ap (without id) o ∙ order_without id sound.shape.order unplaced ∙ sym o) i;
          stocks = put (side_of c t).stocks id bare;
        }

    module _ (b : Control) (quiet : Quiet c b id) where
      pub join_room : Room b t.terms id rate
      join_room = room c t sound id join_below b quiet.rest rate fits.rate_high

      module _ (d : Control) (cast : Recast (with_rates b (rates_after b t.terms id rate)) d id (kind_of kind)) where
        placement : Placement c t id kind rate burst b (with_bare t.stocks id) t.links d
        placement = record {
          sound = sound;
          below = join_below;
          bare = emptied_by c t sound.shape id join_below b t.links quiet sound.shape.sound away;
          holds = fitting_holds kind rate burst fits;
          cast = cast;
        }

        opened_after : d.opened ≡ true
        unfolding joins
        opened_after =
            placed_opened c t id kind rate burst b _ t.links d placement
            ∙ opened (Join id kind rate burst) (joins id kind rate burst) c t valid none

        -- the sheet of the client begins at zero
        pub join_counts : (r : Answered) (u : Tables) → r ≡ record { control = d; answer = Accepted }
            → Entered (for_one id anew) t.counts u.counts
            → Counts (Join id kind rate burst) c t r u
        unfolding joins entry_of_accepted
        join_counts r u e after =
            counts_accepted id anew valid (opened (Join id kind rate burst) (joins id kind rate burst) c t valid none) opened_after
            join_below e after (λ j. refl)

        pub join_accepted : (r : Answered) → r ≡ record { control = d; answer = Accepted }
            → Meets (Join id kind rate burst) c t r (placed_tables (emptied_tables t id t.links) id rate burst)
        unfolding joins
        join_accepted r e =
            accepted_with (Join id kind rate burst) (joins id kind rate burst) c t valid none r d
            (placed_tables (emptied_tables t id t.links) id rate burst) e opened_after
            (placed_state c t id kind rate burst b _ t.links d placement
            ∙ ap (updated (state_of c t) (put (state_of c t).clients id (joining kind rate burst))) side_made)
            (placed_shape c t id kind rate burst b _ t.links d placement)
