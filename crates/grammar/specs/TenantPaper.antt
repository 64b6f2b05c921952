-- The operator's sheet and a private tenant's, as they are printed for a text (paper 02, S-5): "one English sentence" for each tick of
-- the history that the text tells. And "nothing that other private tenants send or load alters a line" of a tenant's, on paper.
use Rattle.std.specs.Prelude.{ℕ, ◌≤◌, ◌≡◌, List, [], ◌∷◌, ◌++◌, length}
use Rattle.definitions.specs.declared.Note.{Note}
use Rattle.definitions.specs.Notes.{operator_note, tenant_note}
use Rattle.definitions.specs.TenantSheet.{notes_of}
use Rattle.grammar.specs.declared.Audience.TheVariants.{Operator, Tenant}
use Rattle.grammar.specs.Bytes.{text_limit}
use Rattle.grammar.specs.Sentences.{sentence}
use Rattle.grammar.specs.Printout.{printout_for}
use Rattle.grammar.specs.Lines.{lines, told}
use Rattle.grammar.specs.Sheet.{kept_of}

-- the sentences of some notes, of which the latest stands first, from the earliest to the latest
unfoldable pub sheet_text : List Note → List ℕ
sheet_text [] = []
sheet_text (note ∷ earlier) = sheet_text earlier ++ sentence note

pub record SheetsPrinted : Type 0 where
  pub operator : (text : List ℕ) → length text ≤ text_limit
      → printout_for Operator text ≡ sheet_text (notes_of operator_note (told (lines text)))
  pub tenant : (id : ℕ) (text : List ℕ) → length text ≤ text_limit
      → printout_for (Tenant id) text ≡ sheet_text (notes_of (tenant_note id) (told (lines text)))

-- Any tenant, and any two texts of at most 60,000 bytes whose kept calls for it are equal: its sheets are the same bytes. The first
-- lines of a text are a text as well, so it is said of every place at which the kept calls are equal.
unfoldable pub TenantOnPaper : Type 0
TenantOnPaper =
    (tenant : ℕ) (a b : List ℕ)
    → length a ≤ text_limit
    → length b ≤ text_limit
    → kept_of tenant (lines a) ≡ kept_of tenant (lines b)
    → printout_for (Tenant tenant) a ≡ printout_for (Tenant tenant) b
