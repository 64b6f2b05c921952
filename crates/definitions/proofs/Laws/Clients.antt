-- What every id has after one has something put in place, and what it has to send after a slot.
-- By splitting the test of the id or the rule. Assumes nothing.
use Prim.Native.Nat.{ℕ}
use mathlib.Core.Path.{◌≡◌, refl, sym, fun_ext, subst}
use mathlib.Core.Bool.{cond}
use borrow.Author.Tests.{eq-eqb, ne_eqb}
use Rattle.definitions.specs.Stock.{Stock, spent}
use Rattle.definitions.specs.State.{put}
use Rattle.definitions.specs.Tick.{Rule, rule1, rule2, rule3, stocks_after}
use Rattle.definitions.proofs.Laws.Tests.{eqb-cases}

module _ {A : Type 0} (all : ℕ → A) (id : ℕ) (one : A) where
  pub put_same : put all id one id ≡ one
  unfolding put
  put_same = rw (eq-eqb id id refl)

  pub put_other : (j : ℕ) → (j ≡ id → ⊥) → put all id one j ≡ all j
  unfolding put
  put_other j other = rw (ne_eqb j id other)

  -- to show something of what every id has after the put, show it of what is put in place and of every other as it was
  pub put-cases {ℓ} : (P : ℕ → A → Type ℓ)
      → P id one
      → ((j : ℕ) → (j ≡ id → ⊥) → P j (all j))
      → (j : ℕ)
      → P j (put all id one j)
  unfolding put
  put-cases P own others j =
      eqb-cases (λ t. P j (cond t one (all j))) j id (λ e. subst (λ (k : ℕ). P k one) (sym e) own) (others j)

  -- what it has in common with that in whose place it is put stays as it was at every id
  pub put_keeps {ℓ} : {B : Type ℓ} (f : A → B) → f one ≡ f (all id) → (other : ℕ) → f (put all id one other) ≡ f (all other)
  put_keeps f same = put-cases (λ j d. f d ≡ f (all j)) same (λ j ne. refl)

-- what is put where it already stands changes nothing
pub put_own : {A : Type 0} (all : ℕ → A) (id : ℕ) → put all id (all id) ≡ all
put_own all id = fun_ext (put-cases all id (all id) (λ j d. d ≡ all j) refl (λ j ne. refl))

-- to show something of every stock after a slot's pick, show it of each as it was and of the one picked, spent
pub stocks_after-cases {ℓ} : (P : ℕ → Stock → Type ℓ) (rule : Rule) (id : ℕ) (stocks : ℕ → Stock)
    → ((j : ℕ) → P j (stocks j))
    → P id (spent (stocks id))
    → (j : ℕ)
    → P j (stocks_after rule id stocks j)
unfolding stocks_after
stocks_after-cases P rule1 id stocks all own = put-cases stocks id (spent (stocks id)) P own (λ j other. all j)
stocks_after-cases P rule2 id stocks all own = put-cases stocks id (spent (stocks id)) P own (λ j other. all j)
stocks_after-cases P rule3 id stocks all own = all
