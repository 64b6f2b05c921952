-- The line behind a script: what a line that is written at the start of a buffer leaves there, and which line it is. Assumes
-- nothing.
use Prim.Native.Nat.{ℕ, ◌+◌, ◌≤◌, ◌<◌}
use mathlib.Core.Path.{◌≡◌, refl, sym, ap, ◌∙◌}
use mathlib.Core.Bool.{Bool, true, false, not}
use mathlib.Core.List.{List, []}
use native.Mathlib.Omega.{arith}
use lib.Dec.{leb}
use lib.ListN.{length}
use borrow.Author.Tests.{leb-false, lt-ltb, le-ltb, not-true}
use Rattle.definitions.specs.declared.Answer.TheVariants.{Refused}
use Rattle.definitions.specs.Sizes.{handle_limit}
use Rattle.definitions.specs.Counts.{Whole, whole_new}
use Rattle.definitions.specs.Guarantee.{sure}
use Rattle.grammar.specs.Bytes.{text_limit}
use Rattle.grammar.specs.Printout.{printed}
use Rattle.grammar.proofs.Lines.{whole_core}
use Rattle.grammar.specs.Forecast.{sure_line, forecast, forecast_behind}
use Rattle.printer.specs.Printed.{line_room, LineWritten}
use Rattle.printer.proofs.Appending.{appended_front, appended_length}
use Rattle.tables.specs.declared.Control.{Control}
use Rattle.tables.specs.declared.Tables.{Tables}
use Rattle.tables.specs.Meaning.{core_of}
use Rattle.script.specs.declared.Progress.{Progress}
use Rattle.carried.specs.CarriedOut.{CarriedOut}
use Rattle.forecast.specs.Told.{Told}

-- ---- the line of a core

module _ (c : Control) (t : Tables) (ticks : ℕ) where
  pub line_unopened : c.opened ≡ false → printed (Refused 19) ≡ forecast (core_of c t) ticks
  unfolding core_of forecast
  line_unopened e = rw e

  pub line_opened : c.opened ≡ true → {picks : ℕ} → picks ≡ sure (core_of c t) ticks
      → sure_line ticks picks ≡ forecast (core_of c t) ticks
  unfolding core_of forecast
  line_opened e given = rw (given, e)

-- ---- which line is told

behind-long : (text : List ℕ) (ticks : ℕ) → text_limit < length text → forecast_behind text ticks ≡ printed (Refused 18)
unfolding forecast_behind
behind-long text ticks over = rw (forecast_behind, lt-ltb text_limit (length text) over)

behind_read : {text out : List ℕ} {r : Progress} {u : Tables} → CarriedOut text out r u → line_room ≤ length out → (ticks : ℕ)
    → length text ≤ text_limit
    → forecast (core_of r.control u) ticks ≡ forecast_behind text ticks
unfolding forecast_behind
behind_read {text} carried room ticks short =
    let core = ap (λ (w : Whole). w.core) (carried.left room short) ∙ whole_core handle_limit whole_new [] text in
    rw (core, forecast_behind, le-ltb text_limit (length text) short)

module _ (text : List ℕ) (ticks : ℕ) (before : List ℕ) (t : Tables) where
  -- without room
  pub told-bare : {test : Bool} → test ≡ leb (0 + line_room) (length before) → not test ≡ true
      → Told text ticks before t before 0 t
  told-bare {test} asked none =
      let little = leb-false (0 + line_room) (length before) (sym asked ∙ not-true test none) in
      record { told = λ room. absurd (omega arith); fits = omega arith; bare = λ less. (refl, refl, refl) }

  module _ (room : line_room ≤ length before) where
    -- a text that is too long: its line is written
    pub told-long : {out : List ℕ} {r : Progress} {u : Tables} → length out ≡ length before → CarriedOut text out r u
        → text_limit < length text
        → Told text ticks before t out r.written u
    told-long same carried over = record {
      told = λ fits. carried.long (omega arith) over ∙ sym (behind-long text ticks over);
      fits = carried.fits;
      bare = λ little. absurd (omega arith);
    }

    -- else the line of the core behind it
    pub told_line : {out after : List ℕ} {end : ℕ} {r : Progress} {u : Tables} → length out ≡ length before
        → length text ≤ text_limit
        → CarriedOut text out r u
        → LineWritten (forecast (core_of r.control u) ticks) out 0 after end
        → Told text ticks before t after end u
    told_line same short carried w =
        let a = w.written (omega arith) in
        record {
          told = λ fits. appended_front a ∙ behind_read carried (omega arith) ticks short;
          fits = omega (arith, a.room, appended_length a);
          bare = λ little. absurd (omega arith);
        }
