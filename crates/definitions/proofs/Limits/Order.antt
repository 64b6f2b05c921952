-- How often an id stands in the order of acceptance, after each thing that is done to the order.
-- Each holds by induction over the order, with the test of the first id split.
use Prim.Native.Nat.{ℕ, suc, pred}
use mathlib.Core.Path.{◌≡◌, refl, sym, ◌∙◌}
use mathlib.Core.Bool.{cond}
use mathlib.Core.List.{List, [], ◌∷◌, ◌++◌}
use borrow.Author.Tests.{eq-eqb, ne_eqb}
use Rattle.definitions.specs.State.{without, without_first}
use Rattle.definitions.specs.Limits.{standing}
use Rattle.definitions.proofs.Laws.Tests.{eqb-cases}

-- what stands behind counts alike, whatever stands first
pub standing_tail : (id first : ℕ) (xs ys : List ℕ)
    → standing id xs ≡ standing id ys
    → standing id (first ∷ xs) ≡ standing id (first ∷ ys)
unfolding standing
standing_tail id first xs ys same = rw same

pub standing_first_same : (id first : ℕ) (rest : List ℕ) → first ≡ id → standing id (first ∷ rest) ≡ suc (standing id rest)
unfolding standing
standing_first_same id first rest e = rw (eq-eqb first id e)

pub standing_first_other : (id first : ℕ) (rest : List ℕ) → (first ≡ id → ⊥) → standing id (first ∷ rest) ≡ standing id rest
unfolding standing
standing_first_other id first rest ne = rw (ne_eqb first id ne)

module _ (id : ℕ) where
  pub standing_push_same : (order : List ℕ) → standing id (order ++ (id ∷ [])) ≡ suc (standing id order)
  unfolding standing
  standing_push_same [] = standing_first_same id id [] refl
  standing_push_same (first ∷ rest) =
      let n = standing id rest in
      rw (standing_push_same rest)
      (eqb-cases (λ t. cond t (suc (suc n)) (suc n) ≡ suc (cond t (suc n) n)) first id (λ e. refl) (λ ne. refl))

  pub standing-without_same : (order : List ℕ) → standing id (without id order) ≡ 0
  unfolding standing without
  standing-without_same [] = refl
  standing-without_same (first ∷ rest) =
      eqb-cases (λ t. standing id (cond t (without id rest) (first ∷ without id rest)) ≡ 0) first id
      (λ e. standing-without_same rest)
      (λ ne. standing_first_other id first (without id rest) ne ∙ standing-without_same rest)

  pub standing-without_first_same : (order : List ℕ) → standing id (without_first id order) ≡ pred (standing id order)
  unfolding standing without_first
  standing-without_first_same [] = refl
  standing-without_first_same (first ∷ rest) =
      let n = standing id rest in
      eqb-cases (λ t. standing id (cond t rest (first ∷ without_first id rest)) ≡ pred (cond t (suc n) n)) first id
      (λ e. refl)
      (λ ne. standing_first_other id first (without_first id rest) ne ∙ standing-without_first_same rest)

  module _ (j : ℕ) (other : j ≡ id → ⊥) where
    pub standing_push_other : (order : List ℕ) → standing j (order ++ (id ∷ [])) ≡ standing j order
    standing_push_other [] = standing_first_other j id [] (λ e. other (sym e))
    standing_push_other (first ∷ rest) = standing_tail j first (rest ++ (id ∷ [])) rest (standing_push_other rest)

    pub standing-without_other : (order : List ℕ) → standing j (without id order) ≡ standing j order
    unfolding without
    standing-without_other [] = refl
    standing-without_other (first ∷ rest) =
        eqb-cases (λ t. standing j (cond t (without id rest) (first ∷ without id rest)) ≡ standing j (first ∷ rest)) first id
        (λ e. standing-without_other rest ∙ sym (standing_first_other j first rest (λ q. other (sym q ∙ e))))
        (λ ne. standing_tail j first (without id rest) rest (standing-without_other rest))

    pub standing-without_first_other : (order : List ℕ) → standing j (without_first id order) ≡ standing j order
    unfolding without_first
    standing-without_first_other [] = refl
    standing-without_first_other (first ∷ rest) =
        eqb-cases (λ t. standing j (cond t rest (first ∷ without_first id rest)) ≡ standing j (first ∷ rest)) first id
        (λ e. sym (standing_first_other j first rest (λ q. other (sym q ∙ e))))
        (λ ne. standing_tail j first (without_first id rest) rest (standing-without_first_other rest))
