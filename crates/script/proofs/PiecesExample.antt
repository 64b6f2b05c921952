-- There are pieces: a text is one piece, given a buffer with room for its printout; and the example, computed. Assumes nothing.
use Prim.Native.Nat.{ℕ, ◌+◌, ◌-◌, ◌≤◌, ◌<◌}
use mathlib.Core.Path.{◌≡◌, refl, sym, ap, subst, ◌∙◌}
use mathlib.Core.Bool.{true, false}
use mathlib.Core.List.{List, [], ◌++◌, append-nil}
use native.Mathlib.Omega.{arith}
use lib.ListN.{length, take, replicate, length-append}
use lib.Seq.{sets, take_all, take-append_seam}
use Rattle.definitions.specs.declared.Answer.TheVariants.{Accepted, Refused}
use Rattle.definitions.specs.Event.{Open, Tick as TickEvent}
use Rattle.definitions.specs.State.{Core, unopened}
use Rattle.definitions.specs.Counts.{zeros, Whole, whole_new, whole_after}
use Rattle.definitions.proofs.Laws.Tests.{lt_cases, true-false}
use Rattle.definitions.proofs.Counts.{drops_counted}
use Rattle.grammar.specs.Bytes.{bytes, text_limit}
use Rattle.grammar.specs.Printout.{printed, whole_by, whole_from}
use Rattle.grammar.proofs.Examples.{printing}
use Rattle.printer.specs.Printed.{line_room, Printed}
use Rattle.reader.specs.LineSpans.{line_end, span_at, LineEnd}
use Rattle.reader.proofs.LineEnds.{span_end}
use Rattle.tables.specs.declared.Control.{Control}
use Rattle.tables.specs.declared.Tables.{Tables}
use Rattle.tables.specs.Meaning.{core_of, whole_of}
use Rattle.tables.specs.Invariant.{Valid}
use Rattle.tables.specs.Places.{Promised}
use Rattle.tables.specs.Numbers.{first_failed}
use Rattle.opening.proofs.EmptyTables.{empty_control, empty_tables}
use Rattle.opening.proofs.OpenPromise.{open_accepted, open_counts}
use Rattle.tables.proofs.Promises.{core_of_shut}
use Rattle.tables.proofs.RunCounts.{promised_whole, shut_whole}
use Rattle.grammar.specs.declared.Audience.{Audience}
use Rattle.grammar.specs.declared.Call.TheVariants.{Tick}
use Rattle.std.specs.Prelude.{Ok}
use Rattle.grammar.specs.declared.Audience.TheVariants.{Caller}
use Rattle.script.specs.Pieces.{ahead, left_behind, Piece, Written, started, piece}
use Rattle.script.specs.PiecesExample.{two_lines, buffer, progress, ThreePieces, Held, Ended, PiecesExist}
use Rattle.script.proofs.LinePrinted.{ahead_none, left_past, closed_left, open_left}
use Rattle.script.proofs.PiecesPrinted.{walked_none, start_read, start_long}

abbrev shut : Control
shut = empty_control false 0 0 0

new : (t : Tables) → (core_of shut t ≡ unopened) × Valid shut t
new t = (core_of_shut shut t refl, λ e. true-false e refl)

new_whole : whole_of shut empty_tables ≡ whole_new
new_whole = shut_whole shut empty_tables (new empty_tables).0

-- ---- any text

-- a text that is read, in one buffer with room behind all that it prints
module _ (to : Audience) (text : List ℕ) (inside : 0 < length text) (c : Control) (t : Tables) (valid : Valid c t)
    (held : whole_of c t ≡ whole_from whole_new [] text) where
  abbrev first : Core
  first = core_of shut empty_tables

  abbrev all : List ℕ
  all = ahead to first text 0

  abbrev out : List ℕ
  out = all ++ replicate line_room 0

  room : length out ≡ length all + line_room
  room = length-append all (replicate line_room 0)

  left : (upto : ℕ) → length text ≤ upto
      → left_behind (whole_of c t) text (length text) upto ≡ left_behind (whole_of shut empty_tables) text 0 upto
  left upto past =
      left_past (whole_of c t) text (length text) upto (omega arith)
      ∙ held
      ∙ sym (ap (whole_from (whole_of shut empty_tables) []) (take_all (upto - 0) text (omega arith))
      ∙ ap (λ (x : Whole). whole_from x [] text) new_whole)

  whole : Piece to text 0 shut empty_tables out (progress c (length text) (length all)) t
  whole = record {
    walked = record {
      printed =
          ap (λ (l : List ℕ). take (length all) out ++ l) (ahead_none to (core_of c t) text (length text) (omega arith))
          ∙ append-nil (take (length all) out)
          ∙ take-append_seam all (replicate line_room 0);
      fits = omega (arith, room);
      left = left;
      forth = omega arith;
      within = λ here. omega arith;
      valid = valid;
    };
    full = λ more. absurd (omega arith);
    onward = λ some more. inside;
    bare = λ little. absurd (omega (arith, room));
    ended = λ past. absurd (omega arith);
  }

read : (to : Audience) (text : List ℕ) → length text ≤ text_limit → Held text → Ended to text
read to text short (c, t, valid, held) =
    lt_cases 0 (length text)
    (λ inside. (_, c, t, piece begun (whole to text inside c t valid held)))
    (λ none. let empty : 0 ≡ length text = omega arith in
    ([], shut, empty_tables, subst (λ (n : ℕ). Written to text [] n shut empty_tables) empty begun))
  where
    begun : Written to text [] 0 shut empty_tables
    begun = started (start_read text shut new (replicate line_room 0) short) (omega arith)

-- an open is accepted
opened : Promised (Open 50 1 7) shut empty_tables (record { control = empty_control true 50 1 7; answer = Accepted }) empty_tables
unfolding printing first_failed
opened = record {
  meets = open_accepted shut empty_tables (new empty_tables).1 50 1 7 _ refl refl;
  stand = λ still. record { handles = refl; lengths = refl };
  counts = open_counts shut empty_tables (new empty_tables).1 50 1 7 _ refl;
}

held : Held (bytes "(open 50 1 7)\n")
unfolding printing whole_after whole_by
held = (
  empty_control true 50 1 7,
  empty_tables,
  opened.meets.valid,
  promised_whole opened ∙ ap (λ (x : Whole). whole_after x (Open 50 1 7)) new_whole,
)

-- a text that is too long, whose line is written at the start
long : (to : Audience) (text : List ℕ) → text_limit < length text → Ended to text
unfolding printing
long to text over =
    (take 13 out, shut, empty_tables, started (start_long text shut new (replicate line_room 0) out 13 over wrote refl) (omega arith))
  where
    out : List ℕ
    out = sets (replicate line_room 0) 0 (printed (Refused 18))

    wrote : Printed (Refused 18) (replicate line_room 0) 0 out 13
    wrote = record {
      written = λ room. record { place = refl; room = omega arith; bytes = refl };
      untouched = λ little. absurd (omega arith);
    }

-- ---- the example

bare : Piece Caller two_lines 0 shut empty_tables [] (progress shut 0 0) empty_tables
bare = record {
  walked = walked_none Caller two_lines 0 shut empty_tables [] (new empty_tables).1;
  full = λ more. omega arith;
  onward = λ inside room. absurd (omega arith);
  bare = λ little. (refl, refl);
  ended = λ past. (refl, refl);
}

first_line : LineEnd two_lines 0 6
unfolding line_end
first_line = span_end two_lines 0 (span_at two_lines 0) refl (omega arith)

last_line : LineEnd two_lines 7 15
unfolding line_end
last_line = span_end two_lines 7 (span_at two_lines 7) refl (omega arith)

-- a tick leaves an unopened core, without counts
ticked : whole_by whole_new (Ok Tick) ≡ whole_new
unfolding printing whole_by whole_after
ticked = λ i. record {
  core = unopened;
  counts = (drops_counted.others unopened TickEvent 19 (λ id. zeros) refl (λ e. omega arith) (λ e. omega arith)).1 i;
}

line : Piece Caller two_lines 0 shut empty_tables (buffer (bytes "(refused 19)\n")) (progress shut 7 13) empty_tables
unfolding printing
line = record {
  walked = record {
    printed = rw (new empty_tables).0 refl;
    fits = omega arith;
    left = λ upto past.
        subst (λ (w : Whole). left_behind w two_lines 7 upto ≡ left_behind w two_lines 0 upto) (sym new_whole)
        (sym (ap (λ (w : Whole). left_behind w two_lines 7 upto) ticked)
        ∙ closed_left two_lines 0 6 (omega arith) (omega arith) refl whole_new first_line.unbroken upto past);
    forth = omega arith;
    within = λ here. omega arith;
    valid = (new empty_tables).1;
  };
  full = λ more. omega arith;
  onward = λ inside room. omega arith;
  bare = λ little. absurd (omega arith);
  ended = λ past. absurd (omega arith);
}

rest : Piece Caller two_lines 7 shut empty_tables (buffer (bytes "(refused 16)\n")) (progress shut 15 13) empty_tables
unfolding printing
rest = record {
  walked = record {
    printed = subst (λ (core : Core). bytes "(refused 16)\n" ≡ ahead Caller core two_lines 7) (sym (new empty_tables).0) refl;
    fits = omega arith;
    left = open_left (whole_of shut empty_tables) two_lines 7 (omega arith) last_line.unbroken;
    forth = omega arith;
    within = λ here. omega arith;
    valid = (new empty_tables).1;
  };
  full = λ more. omega arith;
  onward = λ inside room. omega arith;
  bare = λ little. absurd (omega arith);
  ended = λ past. absurd (omega arith);
}

three : ThreePieces shut empty_tables
unfolding text_limit
three = record { start = start_read two_lines shut new (replicate line_room 0) (omega arith); bare = bare; line = line; rest = rest }

pub pieces_exist : PiecesExist
pieces_exist = record {
  too_long = long;
  read = read;
  held = held;
  example = (shut, empty_tables, three);
}
