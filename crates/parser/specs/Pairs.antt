-- A line of a text of demands (paper 02, S-8), `(threshold T)` or `(demand I D)`: a form with one number or two, read by the
-- script's rules. "Not a form of the grammar" is 16, "right shape, but a number above 4294967295" 17 (paper 01, "Numbers, by the
-- place of the check").
use Rattle.std.specs.Prelude.{ℕ, cond, List, Result, Ok, Err}
use Rattle.std.proofs.Math.Option.{Option, none, some}
use Rattle.grammar.specs.declared.Unread.{Unread}
use Rattle.grammar.specs.declared.Unread.TheVariants.{NoForm, TooLarge}
use Rattle.grammar.specs.Templates.{limits, numbers_fit, matched}
use Rattle.grammar.specs.Grammar.{nth}
use Rattle.parser.specs.declared.Pair.{Pair}

abbrev pub pair : ℕ → ℕ → Pair
pair first second = record { first = first; second = second }

-- what a form finds: its numbers, and 0 for a second that it does not have
abbrev pub pair_found : List ℕ → Option (List ℕ) → Result Pair Unread
pair_found form none = Err NoForm
pair_found form (some numbers) =
    cond (numbers_fit (limits form) numbers) (Ok (pair (nth numbers 0) (nth numbers 1))) (Err TooLarge)

unfoldable pub pair_of : List ℕ → List ℕ → Result Pair Unread
pair_of form line = pair_found form (matched form line)
