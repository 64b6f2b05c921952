-- What the marks say of an id's kind. By cases on the marks. Assumes nothing.
use Prim.Native.Nat.{ℕ}
use mathlib.Core.Path.{◌≡◌, refl}
use mathlib.Core.Bool.{Bool, true, false, cond}
use Rattle.definitions.specs.Client.{absent, indifferent, private, is_indifferent, is_private}
use Rattle.definitions.proofs.Laws.Tests.{true-false}
use Rattle.marks.specs.Marks.{marked}
use Rattle.tables.specs.declared.Control.{Control}
use Rattle.tables.specs.Meaning.{kind_at}

module _ (c : Control) (id : ℕ) where
  pub kind_indifferent : is_indifferent (kind_at c id) ≡ marked c.indifferent id
  unfolding kind_at
  kind_indifferent = go (marked c.indifferent id) (marked c.private id)
    where
      go : (a b : Bool) → is_indifferent (cond a indifferent (cond b private absent)) ≡ a
      go true b = refl
      go false true = refl
      go false false = refl

  -- where no id has both marks
  pub kind_private : (marked c.private id ≡ true → marked c.indifferent id ≡ false)
      → is_private (kind_at c id) ≡ marked c.private id
  unfolding kind_at
  kind_private = go (marked c.indifferent id) (marked c.private id)
    where
      go : (a b : Bool) → (b ≡ true → a ≡ false) → is_private (cond a indifferent (cond b private absent)) ≡ b
      go true true apart = true-false refl (apart refl)
      go true false apart = refl
      go false true apart = refl
      go false false apart = refl
