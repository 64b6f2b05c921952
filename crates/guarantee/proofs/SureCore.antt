-- The figure of the core that control and tables mean, from the marks and the numbers that the code reads. The demand of the
-- definitions is two sums over the indifferent clients, and the code's is one over their marks: each id adds both numbers at
-- once. Assumes nothing.
use Prim.Native.Nat.{ℕ, ◌+◌, ◌-◌, ◌<◌}
use mathlib.Core.Path.{◌≡◌, refl, sym, ap, ◌∙◌}
use mathlib.Core.Bool.{Bool, true, false, cond}
use Rattle.definitions.specs.Sizes.{ids}
use Rattle.definitions.specs.Client.{is_private}
use Rattle.definitions.specs.Draw.{sum_below}
use Rattle.definitions.specs.Tick.{any_below}
use Rattle.definitions.specs.State.{Core, unopened, running}
use Rattle.definitions.specs.History.{client_of, stock_of}
use Rattle.definitions.specs.Guarantee.{private_active, over_indifferent, backlog, demand, sure}
use Rattle.definitions.proofs.Laws.Sums.{sum_below_plus}
use Rattle.definitions.proofs.Stretches.Guarantee.{unopened_private}
use Rattle.marks.specs.Marks.{marked, marked_number}
use Rattle.marks.proofs.IdSearch.{any_below_cong}
use Rattle.tables.specs.declared.Control.{Control}
use Rattle.tables.specs.declared.Tables.{Tables}
use Rattle.tables.specs.Meaning.{client_at, stock_at, side_of, state_of, core_of}
use Rattle.tables.specs.Invariant.{Shape, Valid}
use Rattle.tables.proofs.MarkedKinds.{kind_indifferent, kind_private}
use Rattle.tables.proofs.QueueRing.{queue_length}
use Rattle.tables.proofs.Touch.{client_own, stock_own}
use Rattle.guarantee.specs.Demands.{demand_at}

-- where no private client is active, nothing is sure
sure-none : (core : Core) (n : ℕ) → private_active core ≡ false → sure core n ≡ 0
unfolding sure
sure-none core n e = rw e

-- else it is what the demand leaves
sure_left : (core : Core) (n : ℕ) → private_active core ≡ true → sure core n ≡ n - demand core n
unfolding sure
sure_left core n e = rw e

cond_plus : (b : Bool) (x y : ℕ) → cond b (x + y) 0 ≡ cond b x 0 + cond b y 0
cond_plus true x y = refl
cond_plus false x y = refl

module _ (c : Control) (t : Tables) where
  pub sure_unopened : (n : ℕ) → c.opened ≡ false → 0 ≡ sure (core_of c t) n
  unfolding core_of
  sure_unopened n e = sym (rw e (sure-none unopened n unopened_private))

  module _ (valid : Valid c t) (opened : c.opened ≡ true) where
    shape : Shape c t
    shape = (valid opened).shape

    core_running : core_of c t ≡ running (state_of c t)
    unfolding core_of
    core_running = rw opened

    client_at_lem : (id : ℕ) → id < ids → client_of (core_of c t) id ≡ client_at c t id
    unfolding client_of state_of
    client_at_lem id below = rw core_running (client_own c t shape id below)

    stock_at_lem : (id : ℕ) → id < ids → stock_of (core_of c t) id ≡ stock_at t id
    unfolding stock_of state_of side_of
    stock_at_lem id below = rw core_running (stock_own c t shape id below)

    private_any : private_active (core_of c t) ≡ any_below ids (marked c.private)
    unfolding private_active client_at
    private_any =
        any_below_cong ids (λ id. is_private (client_of (core_of c t) id).kind) (marked c.private)
        (λ id below. rw (client_at_lem id below) (kind_private c id (shape.apart id)))

    module _ (n : ℕ) where
      demand_marks : sum_below ids (marked_number c.indifferent (demand_at t.terms t.stocks n)) ≡ demand (core_of c t) n
      unfolding demand backlog over_indifferent marked_number demand_at client_at stock_at
      demand_marks =
          sum_below_plus ids _ _ _
          (λ id below. rw (client_at_lem id below, stock_at_lem id below, queue_length t id, kind_indifferent c id)
          (cond_plus (marked c.indifferent id) _ _))

      -- what the code's marks and its sum say of the figure
      pub sure-nobody : {any : Bool} → any ≡ any_below ids (marked c.private) → any ≡ false → 0 ≡ sure (core_of c t) n
      sure-nobody asked none = sym (sure-none (core_of c t) n (private_any ∙ sym asked ∙ none))

      pub sure_rest : {any : Bool} {taken : ℕ} → any ≡ any_below ids (marked c.private) → any ≡ true
          → taken ≡ sum_below ids (marked_number c.indifferent (demand_at t.terms t.stocks n))
          → n - taken ≡ sure (core_of c t) n
      sure_rest asked some sum =
          ap (λ (x : ℕ). n - x) (sum ∙ demand_marks) ∙ sym (sure_left (core_of c t) n (private_any ∙ sym asked ∙ some))
