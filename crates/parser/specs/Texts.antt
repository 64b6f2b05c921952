-- A text without gaps: what stands in a form before its first number, and a tick's whole form (paper 01, "Script and printout").
use Rattle.std.specs.Prelude.{ℕ, Bool, true, not, ◌&&◌, List, [], ◌∷◌}
use Rattle.grammar.specs.Templates.{is_gap}

-- whether no byte of a text is a gap
unfoldable pub plain : List ℕ → Bool
plain [] = true
plain (b ∷ bs) = not (is_gap b) && plain bs
