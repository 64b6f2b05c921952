-- "An active client is indifferent (type 1) or private (type 2)": the kinds as the code has them.
use Rattle.std.specs.Prelude.{ℕ, ◌≡◌, false, Option, None, Some, Result, Ok, Err}
use Rattle.definitions.specs.declared.ClientKind.{ClientKind}
use Rattle.definitions.specs.declared.ClientKind.TheVariants.{Indifferent, Private}
use Rattle.definitions.specs.declared.Refusal.{Refusal}
use Rattle.definitions.specs.Sizes.{indifferent_kind, private_kind}
use Rattle.definitions.specs.Client.{Kind, absent, indifferent, private, kind_of, is_active}
use Rattle.definitions.specs.Refusals.{number_of}

-- the paper's type
abbrev pub type_of : ClientKind → ℕ
type_of Indifferent = indifferent_kind
type_of Private = private_kind

-- the kind of an id, which may have no client
abbrev pub kind_in : Option ClientKind → Kind
kind_in None = absent
kind_in (Some Indifferent) = indifferent
kind_in (Some Private) = private

-- what a number of a call is read as: the kind whose type it is, or what a number that is no type is refused with
abbrev pub reads_kind : ℕ → Result ClientKind Refusal → Type 0
reads_kind number (Ok kind) = number ≡ type_of kind
reads_kind number (Err r) = (number_of r ≡ 7) × (is_active (kind_of number) ≡ false)
