-- A word that is one number of the script and nothing else: "A number has no sign and no leading zero, except 0 itself"
-- (paper 01, "Script and printout"). No byte stands behind it, and it is not above the largest that a form may have.
use Rattle.std.specs.Prelude.{ℕ, cond, ◌&&◌, List, eqb, leb, length, Option, Some, None}
use Rattle.definitions.specs.Sizes.{number_limit}
use Rattle.grammar.specs.Numerals.{leading, behind, is_numeral, value_from}

unfoldable pub word_of : List ℕ → Option ℕ
word_of word =
    cond (is_numeral (leading word) && (eqb (length (behind word)) 0 && leb (value_from 0 (leading word)) number_limit))
    (Some (value_from 0 (leading word)))
    None
