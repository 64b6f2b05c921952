-- What is read off the accepted opens, joins, changes and leaves of an id is what the core holds of it: its kind, its rate.
-- Each call keeps a reading or sets it. By cases over the calls. Assumes nothing.
use Prim.Native.Nat.{ℕ}
use mathlib.Core.Path.{◌≡◌, refl, sym, ap, ◌∙◌}
use mathlib.Core.Bool.{Bool, true, false, cond}
use mathlib.Core.List.{List}
use lib.Dec.{eqb}
use Rattle.definitions.specs.declared.Packet.{Packet}
use Rattle.definitions.specs.Event.{Event, Open, Join, Change, Leave, Load, Arrive, Tick}
use Rattle.definitions.specs.Client.{Client, nobody, joining, changed, charged, refilled}
use Rattle.definitions.specs.Stock.{bare, loaded}
use Rattle.definitions.specs.State.{State, Core, unopened, running, fresh, updated, put, stocked, emptied}
use Rattle.definitions.specs.Answers.{is_accepted}
use Rattle.definitions.specs.Checks.{Result, Check, checked, unchanged, accepted, open_checks, join_checks, change_checks, leave_checks, load_checks, arrive_checks}
use Rattle.definitions.specs.Calls.{on_open, on_join, side_after_change, on_change, on_leave, on_load, side_after_arrival, on_arrive}
use Rattle.definitions.specs.Tick.{on_tick}
use Rattle.definitions.specs.Core.{step}
use Rattle.definitions.specs.History.{client_of}
use Rattle.definitions.proofs.Laws.Tests.{eqb_comm}
use Rattle.definitions.proofs.Laws.Checked.{checked-cases}
use Rattle.definitions.proofs.Laws.Clients.{put_keeps}
use Rattle.definitions.proofs.Facts.{tick_client}

-- A reading of an id's client, and how an accepted call alters it: an open, join, change or leave sets it, and no other does.
-- A tick's answer is its slot, and nothing is read off it.
pub record Reading {A : Type 0} (id : ℕ) (read : Client → A) (by : Event → A → A) : Type 0 where
  pub opened : (threshold discipline seed : ℕ) (was : A) → by (Open threshold discipline seed) was ≡ read nobody
  pub joined : (other kind rate burst : ℕ) (was : A)
      → by (Join other kind rate burst) was ≡ cond (eqb other id) (read (joining kind rate burst)) was
  pub altered : (c : Client) (other kind rate burst : ℕ) (was : A)
      → by (Change other kind rate burst) was ≡ cond (eqb other id) (read (changed c kind rate burst)) was
  pub left : (other : ℕ) (was : A) → by (Leave other) was ≡ cond (eqb other id) (read nobody) was
  pub load : (other dummies : ℕ) (was : A) → by (Load other dummies) was ≡ was
  pub arrive : (other : ℕ) (p : Packet) (was : A) → by (Arrive other p) was ≡ was
  pub charge : (c : Client) → read (charged c) ≡ read c
  pub refill : (c : Client) → read (refilled c) ≡ read c

module _ {A : Type 0} (id : ℕ) (read : Client → A) (by : Event → A → A) (reading : Reading id read by) where
  -- what is read off a call and its answer is what the core holds after it
  abbrev Told : Event → A → Result → Type 0
  Told c was r = read (client_of r.core id) ≡ cond (is_accepted r.answer) (by c was) was

  module _ (s : State) where
    abbrev was : A
    was = read (s.clients id)

    -- a checked call: a refusal changes nothing, so what is left is the call when accepted
    told-checked : (c : Event) (cs : List Check) (t : State)
        → read (t.clients id) ≡ by c was
        → Told c was (checked cs (unchanged (running s)) (accepted t))
    unfolding client_of is_accepted
    told-checked c cs t e =
        checked-cases (Told c was) cs (unchanged (running s)) (accepted t) (λ n. refl) (λ passed. e)

    -- the client at an id after one client was put
    put_read : (other : ℕ) (c : Client) → read (put s.clients other c id) ≡ cond (eqb other id) (read c) was
    unfolding put
    put_read other c = rw (eqb_comm other id) (go (eqb id other))
      where
        go : (b : Bool) → read (cond b c (s.clients id)) ≡ cond b (read c) was
        go true = refl
        go false = refl

    told_running : (c : Event) → Told c was (step (running s) c)
    unfolding step on_open on_join on_change on_leave on_load on_arrive on_tick updated fresh client_of is_accepted
    told_running (Open t d v) =
        told-checked (Open t d v) (open_checks t d v) (fresh t d v) (sym (reading.opened t d v was))
    told_running (Join j k r b) =
        told-checked (Join j k r b) (join_checks s j k r b)
        (updated s (put s.clients j (joining k r b)) (stocked s.side j bare))
        (put_read j (joining k r b) ∙ sym (reading.joined j k r b was))
    told_running (Change j k r b) =
        told-checked (Change j k r b) (change_checks s j k r b)
        (updated s (put s.clients j (changed (s.clients j) k r b)) (side_after_change s j k))
        (put_read j (changed (s.clients j) k r b) ∙ sym (reading.altered (s.clients j) j k r b was))
    told_running (Leave j) =
        told-checked (Leave j) (leave_checks s j)
        (updated s (put s.clients j nobody) (emptied s.side j))
        (put_read j nobody ∙ sym (reading.left j was))
    told_running (Load j n) =
        told-checked (Load j n) (load_checks s j n)
        (updated s s.clients (stocked s.side j (loaded (s.side.stocks j) n)))
        (sym (reading.load j n was))
    told_running (Arrive j p) =
        told-checked (Arrive j p) (arrive_checks s j p)
        (updated s (put s.clients j (charged (s.clients j))) (side_after_arrival s j p))
        (put_keeps s.clients j (charged (s.clients j)) read (reading.charge (s.clients j)) id
        ∙ sym (reading.arrive j p was))
    told_running Tick = ap read (tick_client s id) ∙ reading.refill (s.clients id)

  pub told : (core : Core) (c : Event) → Told c (read (client_of core id)) (step core c)
  unfolding client_of step on_open is_accepted fresh
  told (running s) c = told_running s c
  told unopened (Open t d v) =
      checked-cases (Told (Open t d v) (read nobody)) (open_checks t d v) (unchanged unopened) (accepted (fresh t d v))
      (λ n. refl) (λ passed. sym (reading.opened t d v (read nobody)))
  told unopened (Join j k r b) = refl
  told unopened (Change j k r b) = refl
  told unopened (Leave j) = refl
  told unopened (Load j n) = refl
  told unopened (Arrive j p) = refl
  told unopened Tick = refl
