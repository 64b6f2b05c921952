-- "One form a line, each line closed by a line feed" (paper 01, "Script and printout").
-- Texts as lists of bytes. A quoted text stands for its bytes, so that the forms can be read as the paper prints them.
use Rattle.std.specs.Prelude.{ℕ, ◌≢◌, List, [], ◌∷◌}
use Prim.Native.Char.{code}
use Prim.Native.String.{String}

abbrev pub bytes : String → List ℕ
bytes String.[] = []
bytes (String.◌∷◌ c s) = code c ∷ bytes s

-- "each line closed by a line feed"
abbrev pub line_feed : ℕ
line_feed = 10

-- bytes of one line: none is a line feed
abbrev pub Unbroken : List ℕ → Type 0
Unbroken [] = Unit {0}
Unbroken (b ∷ bs) = (b ≢ line_feed) × Unbroken bs

-- "whole text over 60,000 bytes"
unfoldable pub text_limit : ℕ
text_limit = 60000
