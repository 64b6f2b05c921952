-- A stretch without an accepted open, join, change or leave: it disturbs no client, and every client keeps its kind. By cases
-- over the calls. Assumes nothing.
use Prim.Native.Nat.{ℕ}
use mathlib.Core.Path.{◌≡◌, refl, ◌∙◌}
use mathlib.Core.Bool.{Bool, true, false, not, ◌&&◌}
use mathlib.Core.List.{List}
use lib.Dec.{T}
use Rattle.definitions.specs.Event.{Event, Open, Join, Change, Leave, Load, Arrive, Tick}
use Rattle.definitions.specs.Client.{charged, refilled}
use Rattle.definitions.specs.State.{State, Core, unopened, running, fresh, updated}
use Rattle.definitions.specs.Answers.{is_accepted}
use Rattle.definitions.specs.Checks.{Check, accepted, checked, unchanged, open_checks, join_checks, change_checks, leave_checks, load_checks, arrive_checks}
use Rattle.definitions.specs.Calls.{on_open, on_join, on_change, on_leave, on_load, on_arrive}
use Rattle.definitions.specs.Core.{step}
use Rattle.definitions.specs.History.{History, start, ◌then◌, Trace, begin, ◌and◌, after, answer_at, dealing_at, trace_of, client_of}
use Rattle.definitions.specs.Sameness.{names, is_setting}
use Rattle.definitions.specs.Stretch.{stretch, behind, is_open, resets, undisturbed}
use Rattle.definitions.specs.Guarantee.{steady}
use Rattle.definitions.proofs.Laws.Tests.{T_and, true-false}
use Rattle.definitions.proofs.Laws.Checked.{checked-cases, checked_spared}
use Rattle.definitions.proofs.Laws.Clients.{put_keeps}
use Rattle.definitions.proofs.Facts.{tick_client}

-- a call that sets nothing up resets nobody
pub spared_resets : (id : ℕ) (c : Event) (a : Bool) → T (not (is_setting c && a)) → T (not (resets id c && a))
unfolding resets is_open is_setting names
spared_resets id c true spared = go c spared
  where
    go : (e : Event) → T (not (is_setting e && true)) → T (not (resets id e && true))
    go (Open threshold discipline seed) t = t
    go (Join other kind rate burst) t = absurd t
    go (Change other kind rate burst) t = absurd t
    go (Leave other) t = absurd t
    go (Load other dummies) t = tt
    go (Arrive other packet) t = tt
    go Tick t = tt
spared_resets id c false spared = go (resets id c)
  where
    go : (b : Bool) → T (not (b && false))
    go true = tt
    go false = tt

-- a stretch without its last call
pub steady_before : (core : Core) (h : History) (c : Event)
    → T (steady (stretch core (h then c)))
    → T (steady (stretch core h)) × T (not (is_setting c && is_accepted (step (behind core h) c).answer))
unfolding steady trace_of dealing_at answer_at
steady_before core h c =
    T_and (steady (stretch core h)) (not (is_setting c && is_accepted (step (behind core h) c).answer))

pub steady_undisturbed : (id : ℕ) (t : Trace) → T (steady t) → T (undisturbed id t)
unfolding steady undisturbed
steady_undisturbed id begin calm = tt
steady_undisturbed id (t and d) calm =
    let calms = T_and (steady t) (not (is_setting d.event && is_accepted d.answer)) calm in
    both (undisturbed id t) (not (resets id d.event && is_accepted d.answer)) (steady_undisturbed id t calms.0)
    (spared_resets id d.event (is_accepted d.answer) calms.1)
  where
    both : (a b : Bool) → T a → T b → T (a && b)
    both true b t u = u
    both false b t u = absurd t

module _ (s : State) (id : ℕ) where
  -- a call that passes its checks or keeps the core
  checked_kind : (setting : Bool) (cs : List Check) (made : State)
      → (setting ≡ false → (made.clients id).kind ≡ (s.clients id).kind)
      → T (not (setting && is_accepted (checked cs (unchanged (running s)) (accepted made)).answer))
      → (client_of (checked cs (unchanged (running s)) (accepted made)).core id).kind ≡ (s.clients id).kind
  unfolding client_of
  checked_kind setting cs made same =
      checked_spared (λ a core. (client_of core id).kind ≡ (s.clients id).kind) s setting false cs made refl (λ passed. same)

-- every client keeps its kind
pub step_kind : (core : Core) (id : ℕ) (c : Event)
    → T (not (is_setting c && is_accepted (step core c).answer))
    → (client_of (step core c).core id).kind ≡ (client_of core id).kind
unfolding step client_of updated is_setting is_accepted charged refilled on_open on_join on_change on_leave on_load on_arrive
step_kind unopened id (Open threshold discipline seed) spared =
    checked-cases (λ r. T (not (is_accepted r.answer)) → (client_of r.core id).kind ≡ (client_of unopened id).kind)
    (open_checks threshold discipline seed) (unchanged unopened) (accepted (fresh threshold discipline seed))
    (λ number spared. refl)
    (λ passed spared. absurd spared)
    spared
step_kind unopened id (Join other kind rate burst) spared = refl
step_kind unopened id (Change other kind rate burst) spared = refl
step_kind unopened id (Leave other) spared = refl
step_kind unopened id (Load other dummies) spared = refl
step_kind unopened id (Arrive other p) spared = refl
step_kind unopened id Tick spared = refl
step_kind (running s) id (Open threshold discipline seed) spared =
    checked_kind s id true (open_checks threshold discipline seed) _ (true-false refl) spared
step_kind (running s) id (Join other kind rate burst) spared =
    checked_kind s id true (join_checks s other kind rate burst) _ (true-false refl) spared
step_kind (running s) id (Change other kind rate burst) spared =
    checked_kind s id true (change_checks s other kind rate burst) _ (true-false refl) spared
step_kind (running s) id (Leave other) spared = checked_kind s id true (leave_checks s other) _ (true-false refl) spared
step_kind (running s) id (Load other dummies) spared = checked_kind s id false (load_checks s other dummies) _ (λ kept. refl) spared
step_kind (running s) id (Arrive other p) spared =
    checked_kind s id false (arrive_checks s other p) _
    (λ kept. put_keeps s.clients other (charged (s.clients other)) (λ c. c.kind) refl id)
    spared
step_kind (running s) id Tick spared = rw (tick_client s id)

pub stretch_kind : (core : Core) (id : ℕ) (calls : History)
    → T (steady (stretch core calls))
    → (client_of (behind core calls) id).kind ≡ (client_of core id).kind
unfolding after
stretch_kind core id start calm = refl
stretch_kind core id (h then c) calm =
    let calms = steady_before core h c calm in
    step_kind (behind core h) id c calms.1 ∙ stretch_kind core id h calms.0
