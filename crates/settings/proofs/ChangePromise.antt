-- A change: new terms where the kind stays, and else a new client in the place of the old one, of which nothing waits.
-- Assumes nothing.
use Prim.Native.Nat.{ℕ, ◌-◌, ◌≤◌, ◌<◌}
use mathlib.Core.Path.{◌≡◌, refl, sym, ap, ◌∙◌}
use mathlib.Core.Logic.{◌≢◌}
use mathlib.Core.Bool.{Bool, true, false, cond, not}
use mathlib.Core.List.{List}
use lib.Dec.{eqb}
use lib.ListN.{length}
use borrow.Author.Tests.{ltb-true}
use Rattle.definitions.specs.Event.{Change}
use Rattle.definitions.specs.declared.Answer.TheVariants.{Accepted, Refused}
use Rattle.definitions.specs.Sizes.{ids, burst_limit, indifferent_kind, private_kind}
use Rattle.definitions.specs.Client.{Kind, absent, indifferent, private, kind_of, is_active, is_indifferent, same_kind}
use Rattle.definitions.specs.Client.{Client, joining, retuned, changed}
use Rattle.definitions.specs.Counts.{Entry, nothing, more, count_emptied, keeps_type, entry_of_accepted, entry_of_refused, entry_of}
use Rattle.definitions.specs.Stock.{Stock}
use Rattle.definitions.specs.History.{client_of, stock_of}
use Rattle.definitions.specs.State.{State, updated, put, emptied}
use Rattle.definitions.specs.Checks.{rates, term_checks, active_checks, change_checks}
use Rattle.definitions.specs.Calls.{side_after_change}
use Rattle.definitions.proofs.Laws.Checked.{Passed}
use Rattle.definitions.proofs.Laws.Tests.{true-false, eqb-cases, cond_same}
use Rattle.counts.specs.CountTable.{for_one, Entered}
use Rattle.tables.specs.declared.Control.{Control}
use Rattle.tables.specs.declared.Answered.{Answered}
use Rattle.tables.specs.declared.Tables.{Tables}
use Rattle.tables.specs.Tables.{tables, rate_at, count_at}
use Rattle.tables.specs.Controls.{with_rates}
use Rattle.tables.specs.Meaning.{kind_at, client_at, stock_at, side_of, state_of, core_of}
use Rattle.tables.specs.Invariant.{SoundCore, Valid}
use Rattle.tables.specs.Numbers.{refusal}
use Rattle.tables.specs.Promise.{Meets}
use Rattle.tables.specs.Counting.{Counts}
use Rattle.tables.proofs.Promises.{core_of-opened, refused_with_lem, opened, all_passed, sound_before, accepted_with}
use Rattle.tables.proofs.Countings.{counts_kept, counts_refused, counts_accepted}
use Rattle.tables.proofs.QueueRing.{queue_length}
use Rattle.tables.proofs.Checkings.{changes}
use Rattle.tables.proofs.Touch.{client_own, stock_own}
use Rattle.settings.specs.Writes.{Room, Ready, rates_after, Recast, Emptied, Empties}
use Rattle.settings.proofs.HeldRates.{limits_own, rate_held}
use Rattle.settings.proofs.Bounds.{Fitting, terms_fit, fitting_holds, room, ready}
use Rattle.settings.proofs.Placing.{placed_tables, Placement, placed_shape, placed_opened, placed_state}
use Rattle.settings.proofs.Retuning.{retuned_control, retuned_tables, retuned_shape, retuned_state}

-- a type is that of an active client where its kind is
keeps_type_lem : (k : Kind) (kind : ℕ) → is_active k ≡ true → is_active (kind_of kind) ≡ true
    → keeps_type (is_indifferent k) kind ≡ same_kind k (kind_of kind)
unfolding kind_of
keeps_type_lem k kind active known = go k (eqb kind indifferent_kind) (eqb kind private_kind) active known
  where
    go : (k : Kind) (one two : Bool) → is_active k ≡ true → is_active (cond one indifferent (cond two private absent)) ≡ true
        → cond (is_indifferent k) one (not one) ≡ same_kind k (cond one indifferent (cond two private absent))
    go absent one two active known = true-false active refl
    go indifferent true two active known = refl
    go indifferent false true active known = refl
    go indifferent false false active known = refl
    go private true two active known = refl
    go private false true active known = refl
    go private false false active known = true-false known refl

-- what a change makes of a state, by whether the kind stays
module _ (s : State) (id kind rate burst : ℕ) where
  abbrev made : State
  made = updated s (put s.clients id (changed (s.clients id) kind rate burst)) (side_after_change s id kind)

  made_kept : same_kind (s.clients id).kind (kind_of kind) ≡ true
      → updated s (put s.clients id (retuned (s.clients id) rate burst)) s.side ≡ made
  unfolding changed side_after_change
  made_kept e = rw e

  made_anew : same_kind (s.clients id).kind (kind_of kind) ≡ false
      → updated s (put s.clients id (joining kind rate burst)) (emptied s.side id) ≡ made
  unfolding changed side_after_change
  made_anew e = rw e

module _ (c : Control) (t : Tables) (valid : Valid c t) (id kind rate burst : ℕ) where
  -- the old rate can be taken off
  pub change_others : c.opened ≡ true → id < ids → rate_at t.terms id ≤ c.rates
  change_others o below = rate_held c t (valid o).shape id below (limits_own c t (valid o) id below)

  pub change_refused : (r : Answered) (n : ℕ) → r ≡ record { control = c; answer = Refused n }
      → n ≡ refusal c t (λ s. change_checks s id kind rate burst) → n ≢ 0 → Meets (Change id kind rate burst) c t r t
  unfolding changes
  change_refused = refused_with_lem (Change id kind rate burst) (changes id kind rate burst) c t valid

  pub change_refused_counts : (r : Answered) (n : ℕ) → r ≡ record { control = c; answer = Refused n }
      → Counts (Change id kind rate burst) c t r t
  unfolding entry_of_refused
  change_refused_counts r n e = counts_refused n e refl (λ j indifferent waiting. refl)

  module _ (none : refusal c t (λ s. change_checks s id kind rate burst) ≡ 0) where
    passed : Passed (change_checks (state_of c t) id kind rate burst)
    unfolding changes
    passed = all_passed (Change id kind rate burst) (changes id kind rate burst) c t valid none

    sound : SoundCore c t
    unfolding changes
    sound = sound_before (Change id kind rate burst) (changes id kind rate burst) c t valid none

    runs : c.opened ≡ true
    unfolding changes
    runs = opened (Change id kind rate burst) (changes id kind rate burst) c t valid none

    pub change_below : id < ids
    unfolding change_checks active_checks
    change_below = ltb-true id ids passed.0

    kind_here : ((state_of c t).clients id).kind ≡ kind_at c id
    unfolding state_of client_at
    kind_here = ap (λ (x : Client). x.kind) (client_own c t sound.shape id change_below)

    pub change_active : is_active (kind_at c id) ≡ true
    unfolding change_checks active_checks
    change_active = ap is_active (sym kind_here) ∙ passed.1.0

    -- what is entered for a change: nothing where the kind stays, and else how many packets waited
    module _ (j : ℕ) where
      abbrev entries : Entry
      entries =
          entry_of_accepted j (is_indifferent (client_of (core_of c t) j).kind) (length (stock_of (core_of c t) j).queue)
          (Change id kind rate burst)

      entries_by : (same : Bool) → same_kind (kind_at c id) (kind_of kind) ≡ same
          → for_one id (cond same nothing (more count_emptied (count_at t.stocks id))) j ≡ entries
      unfolding entry_of_accepted
      entries_by same e =
          eqb-cases
          (λ b. cond b (cond same nothing (more count_emptied (count_at t.stocks id))) nothing
          ≡ cond b (cond (keeps_type (is_indifferent (client_of (core_of c t) j).kind) kind) nothing
          (more count_emptied (length (stock_of (core_of c t) j).queue))) nothing)
          id j (λ own. rw (← own, kept, queued)) (λ other. refl)
        where
          kept : keeps_type (is_indifferent (client_of (core_of c t) id).kind) kind ≡ same
          kept = unfold client_of change_checks active_checks term_checks in
              rw (core_of-opened c t runs, kind_here) (keeps_type_lem (kind_at c id) kind change_active passed.1.1.0 ∙ e)

          queued : length (stock_of (core_of c t) id).queue ≡ count_at t.stocks id
          queued = unfold stock_of state_of side_of stock_at in
              rw (core_of-opened c t runs)
              (ap (λ (k : Stock). length k.queue) (stock_own c t sound.shape id change_below) ∙ queue_length t id)

    fits : Fitting kind rate burst
    unfolding change_checks active_checks
    fits =
        terms_fit (state_of c t).threshold (rates (state_of c t).clients - ((state_of c t).clients id).rate) kind rate burst
        passed.1.1

    pub change_room : Room c t.terms id rate × (burst ≤ burst_limit)
    change_room = (room c t sound id change_below c refl rate fits.rate_high, fits.burst_high)

    pub change_ready : Ready t.stocks t.links id
    change_ready = ready c t sound id change_below

    -- the kind stays
    pub change_retuned : same_kind (kind_at c id) (kind_of kind) ≡ true
        → (r : Answered) → r ≡ record { control = retuned_control c t id rate; answer = Accepted }
        → Meets (Change id kind rate burst) c t r (retuned_tables t id rate burst)
    unfolding changes
    change_retuned same r e =
        accepted_with (Change id kind rate burst) (changes id kind rate burst) c t valid none r (retuned_control c t id rate)
        (retuned_tables t id rate burst) e runs
        (retuned_state c t sound id rate burst change_below change_active
        ∙ made_kept (state_of c t) id kind rate burst (ap (λ (k : Kind). same_kind k (kind_of kind)) kind_here ∙ same))
        (retuned_shape c t sound id rate burst change_below change_active)

    pub change_retuned_counts : same_kind (kind_at c id) (kind_of kind) ≡ true
        → (r : Answered) → r ≡ record { control = retuned_control c t id rate; answer = Accepted }
        → Counts (Change id kind rate burst) c t r (retuned_tables t id rate burst)
    unfolding entry_of
    change_retuned_counts same r e =
        counts_kept (ap (λ (x : Answered). x.control.opened) e) refl
        (λ j. rw e (sym (cond_same (eqb id j) nothing) ∙ entries_by j true same))

    -- it differs
    module _ (b : Control) (stocks links : List ℕ) (empties : Empties c t.stocks t.links id b stocks links) where
      bare : Emptied c t id b (tables t.terms stocks t.handles t.lengths links t.counts)
      bare = empties t.terms t.handles t.lengths t.counts sound.shape

      pub change_room_bare : Room b t.terms id rate
      change_room_bare = room c t sound id change_below b bare.rest rate fits.rate_high

      module _ (d : Control) (cast : Recast (with_rates b (rates_after b t.terms id rate)) d id (kind_of kind)) where
        placement : Placement c t id kind rate burst b stocks links d
        placement = record {
          sound = sound;
          below = change_below;
          bare = bare;
          holds = fitting_holds kind rate burst fits;
          cast = cast;
        }

        opened_after : d.opened ≡ true
        opened_after = placed_opened c t id kind rate burst b stocks links d placement ∙ runs

        pub change_placed_counts : same_kind (kind_at c id) (kind_of kind) ≡ false
            → (r : Answered) (u : Tables) → r ≡ record { control = d; answer = Accepted }
            → Entered (for_one id (more count_emptied (count_at t.stocks id))) t.counts u.counts
            → Counts (Change id kind rate burst) c t r u
        change_placed_counts differs r u e after =
            counts_accepted id (more count_emptied (count_at t.stocks id)) valid runs opened_after change_below e after
            (λ j. entries_by j false differs)

        pub change_placed : same_kind (kind_at c id) (kind_of kind) ≡ false
            → (r : Answered) → r ≡ record { control = d; answer = Accepted }
            → Meets (Change id kind rate burst) c t r
            (placed_tables (tables t.terms stocks t.handles t.lengths links t.counts) id rate burst)
        unfolding changes
        change_placed differs r e =
            accepted_with (Change id kind rate burst) (changes id kind rate burst) c t valid none r d
            (placed_tables (tables t.terms stocks t.handles t.lengths links t.counts) id rate burst) e opened_after
            (placed_state c t id kind rate burst b stocks links d placement
            ∙ made_anew (state_of c t) id kind rate burst (ap (λ (k : Kind). same_kind k (kind_of kind)) kind_here ∙ differs))
            (placed_shape c t id kind rate burst b stocks links d placement)
