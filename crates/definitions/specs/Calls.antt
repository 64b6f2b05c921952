-- Six of the seven calls (paper 01, "The calls"); Tick has a module of its own.
-- Each gives an answer and the core after it. What a refused call leaves is the core before: `unchanged`.
use Rattle.std.specs.Prelude.{ℕ, cond, List, [], ◌∷◌, ◌++◌}
use Rattle.definitions.specs.declared.Packet.{Packet}
use Rattle.definitions.specs.Client.{nobody, kind_of, same_kind, is_indifferent, joining, changed, charged}
use Rattle.definitions.specs.Stock.{bare, loaded, queued}
use Rattle.definitions.specs.State.{Side, State, Core, running, fresh, updated, put, stocked, emptied}
use Rattle.definitions.specs.Checks.{Result, accepted, checked, unchanged, open_checks, join_checks, change_checks, leave_checks, load_checks, arrive_checks}

-- "Open gives a core without clients, in place of any earlier one. A refused open keeps the earlier core."
unfoldable pub on_open : Core → ℕ → ℕ → ℕ → Result
on_open core threshold discipline seed =
    checked (open_checks threshold discipline seed) (unchanged core) (accepted (fresh threshold discipline seed))

module _ (s : State) (id : ℕ) where
  -- "A join starts with an empty queue, a pool of 0"
  unfoldable pub on_join : ℕ → ℕ → ℕ → Result
  on_join kind rate burst =
      checked (join_checks s id kind rate burst) (unchanged (running s))
      (accepted (updated s (put s.clients id (joining kind rate burst)) (stocked s.side id bare)))

  -- "If the type stays, queue and pool stay"; "If the type differs, queue and pool become empty".
  unfoldable pub side_after_change : ℕ → Side
  side_after_change kind = cond (same_kind (s.clients id).kind (kind_of kind)) s.side (emptied s.side id)

  unfoldable pub on_change : ℕ → ℕ → ℕ → Result
  on_change kind rate burst =
      checked (change_checks s id kind rate burst) (unchanged (running s))
      (accepted (updated s (put s.clients id (changed (s.clients id) kind rate burst)) (side_after_change kind)))

  -- "Leave empties everything of the id."
  unfoldable pub on_leave : Result
  on_leave =
      checked (leave_checks s id) (unchanged (running s))
      (accepted (updated s (put s.clients id nobody) (emptied s.side id)))

  -- "Load adds dummies to a private pool."
  unfoldable pub on_load : ℕ → Result
  on_load dummies =
      checked (load_checks s id dummies) (unchanged (running s))
      (accepted (updated s s.clients (stocked s.side id (loaded (s.side.stocks id) dummies))))

  -- an indifferent client's packet is the last in the order of acceptance
  unfoldable pub order_after_arrival : List ℕ
  order_after_arrival = cond (is_indifferent (s.clients id).kind) (s.side.order ++ (id ∷ [])) s.side.order

  unfoldable pub side_after_arrival : Packet → Side
  side_after_arrival p = record {
    generator = s.side.generator;
    order = order_after_arrival;
    stocks = put s.side.stocks id (queued (s.side.stocks id) p);
  }

  -- "Arrive puts one packet last in its client's queue. For an indifferent client it also takes 1024 from the bucket."
  unfoldable pub on_arrive : Packet → Result
  on_arrive p =
      checked (arrive_checks s id p) (unchanged (running s))
      (accepted (updated s (put s.clients id (charged (s.clients id))) (side_after_arrival p)))
