-- Which opens, joins, changes and leaves are accepted follows from these four alone. They read an outline of the core, the
-- threshold and each id's kind and rate, which no load, arrival or tick changes. Assumes nothing.
use Prim.Native.Nat.{ℕ}
use mathlib.Core.Path.{◌≡◌, refl, sym, ap, ap₂, ◌∙◌}
use mathlib.Core.Bool.{Bool, true, false, cond}
use mathlib.Core.List.{List, [], ◌∷◌}
use lib.Dec.{eqb}
use Rattle.definitions.specs.Event.{Event, Open, Join, Change, Leave, Load, Arrive, Tick}
use Rattle.definitions.specs.declared.Answer.{Answer}
use Rattle.definitions.specs.Client.{Client, kind_of, same_kind, nobody, joining, retuned, changed, charged, refilled}
use Rattle.definitions.specs.Stock.{bare, loaded}
use Rattle.definitions.specs.State.{Side, State, Core, unopened, running, fresh, updated, put, stocked, emptied}
use Rattle.definitions.specs.Checks.{Result, Check, accepted, checked, unchanged, active_rate, rates, open_checks, join_checks, active_checks, change_checks, leave_checks, load_checks, arrive_checks}
use Rattle.definitions.specs.Calls.{on_open, on_join, side_after_change, on_change, on_leave, on_load, side_after_arrival, on_arrive}
use Rattle.definitions.specs.Tick.{turn, refill_all, slotted, on_tick}
use Rattle.definitions.specs.Core.{step}
use Rattle.definitions.specs.History.{History, start, ◌then◌, scheduler, after, answer_at}
use Rattle.definitions.specs.Sameness.{is_setting, settings_of, setting_answers, SettingsAlone}
use Rattle.definitions.proofs.Laws.Tests.{true-false}
use Rattle.definitions.proofs.Laws.Checked.{checked-cases, checked_rel}
use Rattle.definitions.proofs.Laws.Clients.{put_keeps}

-- a client as its kind and rate
unfoldable pub sketched : Client → Client
sketched c = record { kind = c.kind; rate = c.rate; burst = 0; level = 0 }

-- a side of which nothing is known
abbrev blank : Side
blank = record { generator = 0; order = []; stocks = λ id. bare }

unfoldable pub outline : State → State
outline s = record { threshold = s.threshold; discipline = 0; clients = λ id. sketched (s.clients id); side = blank }

unfoldable pub outline_core : Core → Core
outline_core unopened = unopened
outline_core (running s) = running (outline s)

outline_path : (s t : State) → s.threshold ≡ t.threshold
    → ((id : ℕ) → sketched (s.clients id) ≡ sketched (t.clients id))
    → outline s ≡ outline t
unfolding outline
outline_path s t p e = λ i. record { threshold = p i; discipline = 0; clients = λ id. e id i; side = blank }

-- the same answer, and cores of the same outline
record Alike (r q : Result) : Type 0 where
  answers : r.answer ≡ q.answer
  cores : outline_core r.core ≡ outline_core q.core

-- one client anew, in a state and in its outline
updated_outline : (s : State) (id : ℕ) (c d : Client) (x y : Side)
    → sketched c ≡ sketched d
    → outline (updated s (put s.clients id c) x) ≡ outline (updated (outline s) (put (outline s).clients id d) y)
unfolding updated outline sketched put
updated_outline s id c d x y e =
    outline_path (updated s (put s.clients id c) x) (updated (outline s) (put (outline s).clients id d) y) refl
    (λ j. go j (eqb j id))
  where
    go : (j : ℕ) (b : Bool) → sketched (cond b c (s.clients j)) ≡ sketched (cond b d (sketched (s.clients j)))
    go j true = e
    go j false = refl

checked_alike : (s : State) (cs : List Check) (t u : State)
    → outline t ≡ outline u
    → Alike (checked cs (unchanged (running s)) (accepted t)) (checked cs (unchanged (running (outline s))) (accepted u))
unfolding outline_core outline sketched
checked_alike s cs t u e =
    checked_rel Alike cs (unchanged (running s)) (unchanged (running (outline s))) (accepted t) (accepted u)
    (λ n. record { answers = refl; cores = refl })
    (record { answers = refl; cores = ap running e })

changed_sketched : (c : Client) (kind rate burst : ℕ)
    → sketched (changed c kind rate burst) ≡ sketched (changed (sketched c) kind rate burst)
unfolding sketched changed retuned
changed_sketched c kind rate burst = go (same_kind c.kind (kind_of kind))
  where
    go : (b : Bool)
        → sketched (cond b (retuned c rate burst) (joining kind rate burst))
        ≡ sketched (cond b (retuned (sketched c) rate burst) (joining kind rate burst))
    go true = refl
    go false = refl

-- an open, join, change or leave on a core and on its outline
setting_alike : (core : Core) (c : Event) → is_setting c ≡ true → Alike (step core c) (step (outline_core core) c)
unfolding step outline_core outline sketched is_setting on_open on_join on_change on_leave join_checks change_checks leave_checks
    active_checks rates active_rate
setting_alike unopened c e = record { answers = refl; cores = refl }
setting_alike (running s) (Open t d v) e =
    checked_rel Alike (open_checks t d v) (unchanged (running s)) (unchanged (running (outline s))) (accepted (fresh t d v))
    (accepted (fresh t d v))
    (λ n. record { answers = refl; cores = refl })
    (record { answers = refl; cores = refl })
setting_alike (running s) (Join j k r b) e =
    checked_alike s (join_checks s j k r b) (updated s (put s.clients j (joining k r b)) (stocked s.side j bare))
    (updated (outline s) (put (outline s).clients j (joining k r b)) (stocked blank j bare))
    (updated_outline s j (joining k r b) (joining k r b) (stocked s.side j bare) (stocked blank j bare) refl)
setting_alike (running s) (Change j k r b) e =
    checked_alike s (change_checks s j k r b)
    (updated s (put s.clients j (changed (s.clients j) k r b)) (side_after_change s j k))
    (updated (outline s) (put (outline s).clients j (changed (sketched (s.clients j)) k r b)) (side_after_change (outline s) j k))
    (updated_outline s j (changed (s.clients j) k r b) (changed (sketched (s.clients j)) k r b) (side_after_change s j k)
    (side_after_change (outline s) j k) (changed_sketched (s.clients j) k r b))
setting_alike (running s) (Leave j) e =
    checked_alike s (leave_checks s j) (updated s (put s.clients j nobody) (emptied s.side j))
    (updated (outline s) (put (outline s).clients j nobody) (emptied blank j))
    (updated_outline s j nobody nobody (emptied s.side j) (emptied blank j) refl)
setting_alike (running s) (Load j n) e = true-false e refl
setting_alike (running s) (Arrive j p) e = true-false e refl
setting_alike (running s) Tick e = true-false e refl

-- any other call keeps the outline
other_kept : (core : Core) (c : Event) → is_setting c ≡ false → outline_core (step core c).core ≡ outline_core core
unfolding step outline_core outline is_setting on_load on_arrive on_tick updated charged slotted refill_all refilled sketched
other_kept unopened (Open t d v) e = true-false refl e
other_kept unopened (Join j k r b) e = refl
other_kept unopened (Change j k r b) e = refl
other_kept unopened (Leave j) e = refl
other_kept unopened (Load j n) e = refl
other_kept unopened (Arrive j p) e = refl
other_kept unopened Tick e = refl
other_kept (running s) (Open t d v) e = true-false refl e
other_kept (running s) (Join j k r b) e = true-false refl e
other_kept (running s) (Change j k r b) e = true-false refl e
other_kept (running s) (Leave j) e = true-false refl e
other_kept (running s) (Load j n) e =
    checked-cases (λ r. outline_core r.core ≡ running (outline s)) (load_checks s j n) (unchanged (running s))
    (accepted (updated s s.clients (stocked s.side j (loaded (s.side.stocks j) n))))
    (λ m. refl)
    (λ passed. refl)
other_kept (running s) (Arrive j p) e =
    checked-cases (λ r. outline_core r.core ≡ running (outline s)) (arrive_checks s j p) (unchanged (running s))
    (accepted (updated s (put s.clients j (charged (s.clients j))) (side_after_arrival s j p)))
    (λ m. refl)
    (λ passed. ap running (outline_path (updated s (put s.clients j (charged (s.clients j))) (side_after_arrival s j p)) s refl
    (put_keeps s.clients j (charged (s.clients j)) sketched refl)))
other_kept (running s) Tick e = ap running (outline_path (slotted s (turn s)) s refl (λ id. refl))

-- ---- histories

-- the core after a history, and after its settings alone
outline_settings : (h : History) → outline_core (after scheduler h) ≡ outline_core (after scheduler (settings_of h))
unfolding after settings_of
outline_settings start = refl
outline_settings (h then c) = go (is_setting c) refl (outline_settings h)
  where
    K : History
    K = settings_of h

    go : (b : Bool)
        → is_setting c ≡ b
        → outline_core (after scheduler h) ≡ outline_core (after scheduler K)
        → outline_core (step (after scheduler h) c).core ≡ outline_core (after scheduler (cond b (K then c) K))
    go true e ih =
        (setting_alike (after scheduler h) c e).cores
        ∙ ap (λ (x : Core). outline_core (step x c).core) ih
        ∙ sym (setting_alike (after scheduler K) c e).cores
    go false e ih = other_kept (after scheduler h) c e ∙ ih

answers_settings : (h : History) → setting_answers scheduler h ≡ setting_answers scheduler (settings_of h)
unfolding setting_answers settings_of answer_at
answers_settings start = refl
answers_settings (h then c) = go (is_setting c) refl (answers_settings h)
  where
    K : History
    K = settings_of h

    go : (b : Bool)
        → is_setting c ≡ b
        → setting_answers scheduler h ≡ setting_answers scheduler K
        → cond b (answer_at scheduler h c ∷ setting_answers scheduler h) (setting_answers scheduler h)
        ≡ setting_answers scheduler (cond b (K then c) K)
    go true e ih =
        rw e
        (ap₂ (λ (x : Answer) (xs : List Answer). x ∷ xs)
        ((setting_alike (after scheduler h) c e).answers
        ∙ ap (λ (x : Core). (step x c).answer) (outline_settings h)
        ∙ sym (setting_alike (after scheduler K) c e).answers)
        ih)
    go false e ih = ih

pub settings_alone : SettingsAlone scheduler
unfolding SettingsAlone
settings_alone h k e = answers_settings h ∙ ap (setting_answers scheduler) e ∙ sym (answers_settings k)
