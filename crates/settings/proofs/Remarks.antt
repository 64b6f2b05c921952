-- A mark set or taken, and the kind that the marks say. By the contracts of the marks, at the id and elsewhere. Assumes nothing.
use Prim.Native.Nat.{ℕ, ◌<◌}
use mathlib.Core.Path.{◌≡◌, refl, ◌∙◌}
use mathlib.Core.Bool.{true, false, cond, not, ◌&&◌, ◌||◌, and-true, and-false, or-true, or-false}
use lib.Dec.{eqb, ltb}
use borrow.Author.Tests.{lt-ltb, ne_eqb}
use Rattle.definitions.specs.Sizes.{ids}
use Rattle.definitions.specs.Client.{Kind, absent, indifferent, private, is_active, is_indifferent, is_private, same_kind}
use Rattle.definitions.proofs.Laws.Tests.{true-false, eqb_same}
use Rattle.marks.specs.Marks.{marked}
use Rattle.tables.specs.declared.Control.{Control}
use Rattle.tables.specs.Meaning.{kind_at}
use Rattle.settings.specs.Writes.{Remarked, Recast}

module _ (word after id : ℕ) where
  pub remarked_set : id < ids
      → ((j : ℕ) → marked after j ≡ marked word j || (eqb j id && ltb id ids))
      → Remarked word after id true
  remarked_set below e = record {
    own = e id ∙ rw (eqb_same id, lt-ltb id ids below) (or-true (marked word id));
    others = λ j ne. e j ∙ rw (ne_eqb j id ne) (or-false (marked word j));
  }

  pub remarked_taken : ((j : ℕ) → marked after j ≡ marked word j && not (eqb j id)) → Remarked word after id false
  remarked_taken e = record {
    own = e id ∙ rw (eqb_same id) (and-false (marked word id));
    others = λ j ne. e j ∙ rw (ne_eqb j id ne) (and-true (marked word j));
  }

-- the kind that the marks say
pub recast_kind : (c d : Control) (id : ℕ) (kind : Kind) → Recast c d id kind → kind_at d id ≡ kind
unfolding kind_at
recast_kind c d id kind k = rw (k.indifferent.own, k.private.own) (go kind)
  where
    go : (x : Kind) → cond (is_indifferent x) indifferent (cond (is_private x) private absent) ≡ x
    go absent = refl
    go indifferent = refl
    go private = refl

-- whether a kind is the one or, of an active client, the other
pub same_kind-indifferent : (k : Kind) → same_kind k indifferent ≡ is_indifferent k
same_kind-indifferent absent = refl
same_kind-indifferent indifferent = refl
same_kind-indifferent private = refl

pub same_kind-private : (k : Kind) → is_active k ≡ true → same_kind k private ≡ not (is_indifferent k)
same_kind-private absent active = true-false active refl
same_kind-private indifferent active = refl
same_kind-private private active = refl
