-- "two cores that differ only in places where no packet waits give the same answers and printed lines to the same calls" (paper
-- 02, S-3): the printed lines. The answers are in crates/tables, Unseen.
use Rattle.std.specs.Prelude.{ℕ, ◌≡◌, List, [], ◌++◌, take}
use Rattle.definitions.specs.History.{Trace, begin, ◌and◌}
use Rattle.grammar.specs.declared.Audience.{Audience}
use Rattle.grammar.specs.Printout.{printed}
use Rattle.tables.specs.declared.Control.{Control}
use Rattle.tables.specs.declared.Tables.{Tables}
use Rattle.tables.specs.Meaning.{whole_of}
use Rattle.tables.specs.Invariant.{Valid}
use Rattle.tables.specs.Run.{calls_of}
use Rattle.tables.specs.Unused.{DifferUnused}
use Rattle.tables.specs.Promise.{Meets}
use Rattle.tables.specs.CallsFrom.{CallsFrom}
use Rattle.script.specs.declared.Progress.{Progress}
use Rattle.script.specs.Pieces.{Piece}

-- Pieces one after the other from a place of a text on, with control c and tables t there: the bytes that were written, and the
-- place, control and tables behind them.
pub data PiecesFrom (to : Audience) (text : List ℕ) (from : ℕ) (c : Control) (t : Tables) : List ℕ → ℕ → Control → Tables → Type 0 where
  here : PiecesFrom to text from c t [] from c t
  piece : {bytes : List ℕ} {at : ℕ} {d : Control} {u v : Tables} {out : List ℕ} {r : Progress}
      → PiecesFrom to text from c t bytes at d u
      → Piece to text at d u out r v
      → PiecesFrom to text from c t (bytes ++ take r.written out) r.next r.control v

-- the lines that the answers of a trace print
unfoldable pub lines_of : Trace → List ℕ
lines_of begin = []
lines_of (trace and d) = lines_of trace ++ printed d.answer

pub record UnseenOnPaper : Type 0 where
  -- whatever is called on both, the answers print the same lines
  pub calls : (c : Control) (t u : Tables)
      → Valid c t
      → DifferUnused c t u
      → (first second : Trace) (d e : Control) (v w : Tables)
      → CallsFrom Meets c t first d v
      → CallsFrom Meets c u second e w
      → calls_of second ≡ calls_of first
      → lines_of second ≡ lines_of first
  -- Both are given the same text from the same place on, for the same audience, in pieces of any length. Wherever both have come
  -- to the same place, the same bytes were written, and the cores mean the same, with the same counts.
  pub script : (to : Audience) (text : List ℕ) (from : ℕ) (c : Control) (t u : Tables)
      → Valid c t
      → DifferUnused c t u
      → (first second : List ℕ) (at : ℕ) (d e : Control) (v w : Tables)
      → PiecesFrom to text from c t first at d v
      → PiecesFrom to text from c u second at e w
      → (second ≡ first) × (whole_of e w ≡ whole_of d v)
