-- When two kinds are the same, and what kind a number gives. By splitting the kinds or the number. Assumes nothing.
use Prim.Native.Nat.{ℕ}
use Rattle.std.specs.Prelude.{Some}
use mathlib.Core.Path.{◌≡◌, refl}
use mathlib.Core.Logic.{◌≢◌}
use mathlib.Core.Bool.{Bool, true, false, cond}
use lib.Dec.{eqb}
use Rattle.definitions.specs.Sizes.{indifferent_kind, private_kind}
use Rattle.definitions.specs.Client.{Kind, absent, indifferent, private, kind_of, is_active, is_indifferent, is_private, same_kind}
use Rattle.definitions.specs.declared.ClientKind.{ClientKind}
use Rattle.definitions.specs.declared.ClientKind.TheVariants.{Indifferent, Private}
use Rattle.definitions.specs.ClientKinds.{type_of, kind_in}
use Rattle.definitions.proofs.Laws.Tests.{true-false, eqb-cases}

pub same_kind-refl : (k : Kind) → same_kind k k ≡ true
same_kind-refl absent = refl
same_kind-refl indifferent = refl
same_kind-refl private = refl

pub same_kind-false : (k l : Kind) → k ≢ l → same_kind k l ≡ false
same_kind-false absent absent n = absurd (n refl)
same_kind-false absent indifferent n = refl
same_kind-false absent private n = refl
same_kind-false indifferent absent n = refl
same_kind-false indifferent indifferent n = absurd (n refl)
same_kind-false indifferent private n = refl
same_kind-false private absent n = refl
same_kind-false private indifferent n = refl
same_kind-false private private n = absurd (n refl)

pub same_kind-true : (k l : Kind) → same_kind k l ≡ true → k ≡ l
same_kind-true absent absent e = refl
same_kind-true absent indifferent e = true-false e refl
same_kind-true absent private e = true-false e refl
same_kind-true indifferent absent e = true-false e refl
same_kind-true indifferent indifferent e = refl
same_kind-true indifferent private e = true-false e refl
same_kind-true private absent e = true-false e refl
same_kind-true private indifferent e = true-false e refl
same_kind-true private private e = refl

-- the kind that a number gives

pub kind_of_indifferent : (kind : ℕ) → is_indifferent (kind_of kind) ≡ eqb kind indifferent_kind
unfolding kind_of
kind_of_indifferent kind = go (eqb kind indifferent_kind) (eqb kind private_kind)
  where
    go : (a b : Bool) → is_indifferent (cond a indifferent (cond b private absent)) ≡ a
    go true b = refl
    go false true = refl
    go false false = refl

pub kind_of_private : (kind : ℕ) → is_private (kind_of kind) ≡ eqb kind private_kind
unfolding kind_of indifferent_kind private_kind
kind_of_private kind =
    eqb-cases (λ a. is_private (cond a indifferent (cond (eqb kind 2) private absent)) ≡ eqb kind 2) kind 1
    (λ e. rw e)
    (λ ne. go (eqb kind 2))
  where
    go : (b : Bool) → is_private (cond b private absent) ≡ b
    go true = refl
    go false = refl

pub indifferent_kind_lem : (k : Kind) → is_indifferent k ≡ true → k ≡ indifferent
indifferent_kind_lem absent e = true-false e refl
indifferent_kind_lem indifferent e = refl
indifferent_kind_lem private e = true-false e refl

pub private_kind_lem : (k : Kind) → is_private k ≡ true → k ≡ private
private_kind_lem absent e = true-false e refl
private_kind_lem indifferent e = true-false e refl
private_kind_lem private e = refl

pub active_private : (b : Bool) → b ≡ is_active (cond b private absent)
active_private true = refl
active_private false = refl

-- a kind that was read from a number is that number's
pub kind_read : (number : ℕ) (k : ClientKind) → number ≡ type_of k → kind_in (Some k) ≡ kind_of number
unfolding kind_of indifferent_kind private_kind
kind_read number Indifferent e = rw e
kind_read number Private e = rw e

pub kind_read-active : (number : ℕ) (k : ClientKind) → number ≡ type_of k → is_active (kind_of number) ≡ true
unfolding kind_of indifferent_kind private_kind
kind_read-active number Indifferent e = rw e
kind_read-active number Private e = rw e
