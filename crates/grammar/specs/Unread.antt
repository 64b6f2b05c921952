-- What a line holds (paper 01, "Script and printout"): a form, as the call that it stands for, or what it is refused for. "Not a form
-- of the grammar" is 16, "right shape, but a number above 4294967295" 17.
use Rattle.std.specs.Prelude.{ℕ, Result}
use Rattle.grammar.specs.declared.Call.{Call}
use Rattle.grammar.specs.declared.Unread.{Unread}
use Rattle.grammar.specs.declared.Unread.TheVariants.{NoForm, TooLarge}

abbrev pub Line : Type 0
Line = Result Call Unread

abbrev pub unread_number : Unread → ℕ
unread_number NoForm = 16
unread_number TooLarge = 17
