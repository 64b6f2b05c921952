-- What a line of the code leaves: the walk is one line further, whether its bytes were no line, held no form, or held a call that
-- was carried out. Assumes nothing.
use Prim.Native.Nat.{ℕ, suc, ◌+◌, ◌-◌, ◌≤◌, ◌<◌}
use mathlib.Core.Path.{◌≡◌, refl, sym, ap, ap₂, subst, ◌∙◌}
use mathlib.Core.Bool.{Bool}
use mathlib.Core.List.{List, ◌++◌}
use native.Mathlib.Omega.{arith}
use lib.ListN.{length, take, drop, length-drop}
use lib.Seq.{take_all}
use Rattle.definitions.specs.Sameness.{is_tick}
use Rattle.grammar.specs.Calls.{event_of}
use Rattle.grammar.specs.declared.Call.{Call}
use Rattle.definitions.specs.declared.Answer.{Answer}
use Rattle.definitions.specs.State.{Core}
use Rattle.definitions.specs.Counts.{Whole}
use Rattle.std.specs.Prelude.{Ok, Err}
use Rattle.grammar.specs.Unread.{Line}
use Rattle.grammar.specs.declared.Unread.{Unread}
use Rattle.grammar.specs.declared.Unread.TheVariants.{NoForm}
use Rattle.grammar.specs.declared.Audience.{Audience}
use Rattle.grammar.specs.Bytes.{Unbroken}
use Rattle.grammar.specs.Grammar.{parsed}
use Rattle.grammar.specs.Printout.{answered, shown, whole_by}
use Rattle.printer.specs.Appended.{Appended}
use Rattle.printer.specs.Printed.{line_room, LineWritten}
use Rattle.printer.proofs.Appending.{appended_front, appended_length}
use Rattle.tables.specs.declared.Control.{Control}
use Rattle.tables.specs.declared.Tables.{Tables}
use Rattle.tables.specs.Meaning.{core_of, whole_of}
use Rattle.tables.specs.Invariant.{Valid}
use Rattle.tables.proofs.Promises.{core_of-limits}
use Rattle.tables.proofs.RunCounts.{promised_whole}
use Rattle.reader.specs.declared.Span.{Span}
use Rattle.reader.specs.LineSpans.{between, span_at, LineEnd}
use Rattle.reader.proofs.LineEnds.{span_end, span_feed, span_last}
use Rattle.slot.specs.declared.Ticked.{Ticked}
use Rattle.script.specs.Shown.{PerformedCall, unread_for, call_for}
use Rattle.script.specs.Pieces.{ahead, left_behind, Walked}
use Rattle.script.proofs.LineShown.{unread_shown, call-shown}
use Rattle.script.proofs.LinePrinted.{closed_printed, closed_left, open_printed, open_left}

module _ (to : Audience) (text : List ℕ) (at : ℕ) (out : List ℕ) (written : ℕ) (c : Control) (t : Tables)
    (inside : at < length text) (room : written + line_room ≤ length out) (span : Span) (read : span ≡ span_at text at) where
  abbrev end : ℕ
  end = span.end

  -- where a line leads to
  abbrev Further : List ℕ → ℕ → Control → Tables → Type 0
  Further new more d u =
      Walked to text at c t (take written out) new (record { control = d; next = span.next; written = more }) u × (at < span.next)

  l : LineEnd text at end
  l = span_end text at span read (omega arith)

  wrote : {line new : List ℕ} {more : ℕ} → LineWritten line out written new more → Appended line out written new more
  wrote p = p.written room

  further : {line new : List ℕ} {more : ℕ} → LineWritten line out written new more
      → (d : Control) (u : Tables) (next : ℕ) → Valid d u → span.next ≡ next → at < next → next ≤ length text
      → take more new ++ ahead to (core_of d u) text next ≡ take written out ++ ahead to (core_of c t) text at
      → ((upto : ℕ) → next ≤ upto → left_behind (whole_of d u) text next upto ≡ left_behind (whole_of c t) text at upto)
      → Further new more d u
  further {new = new} {more} p d u next valid e forth within printed left =
      let a = wrote p in
      let goal = take written out ++ ahead to (core_of c t) text at in (
        record {
          printed = subst (λ (n : ℕ). take more new ++ ahead to (core_of d u) text n ≡ goal) (sym e) printed;
          fits = omega (arith, a.room, appended_length a);
          left = λ upto past.
              ap (λ (n : ℕ). left_behind (whole_of d u) text n upto) e ∙ left upto (omega (arith, e, past));
          forth = omega (arith, e, forth);
          within = λ before. omega (arith, e, within);
          valid = valid;
        },
        omega (arith, e, forth),
      )

  -- bytes behind the last line feed
  pub walked_open : {new : List ℕ} {more : ℕ} → Valid c t → end ≡ length text → LineWritten (unread_for to NoForm) out written new more
      → Further new more c t
  walked_open {new} {more} valid e p =
      let whole = subst Unbroken (take_all (end - at) (drop at text) (omega (arith, length-drop at text, e))) l.unbroken in
      further p c t (length text) valid (span_last text at span read (omega arith) ∙ e) inside (omega arith)
      (open_printed to (core_of c t) text at (take written out) (take more new) inside whole
      (appended_front (wrote p) ∙ ap (λ (x : List ℕ). take written out ++ x) (unread_shown to (core_of c t) NoForm)))
      (open_left (whole_of c t) text at (omega arith) whole)

  module _ (feed : end < length text) where
    -- a closed line, by what it holds
    closed : {new : List ℕ} {more : ℕ} {given : List ℕ} → LineWritten given out written new more
        → (line : Line) → parsed (between text at end) ≡ line
        → (d : Control) (u : Tables) → Valid d u
        → given ≡ shown to (core_of c t) line
        → core_of d u ≡ (answered (core_of c t) line).core
        → whole_of d u ≡ whole_by (whole_of c t) line
        → Further new more d u
    closed {new} {more} p line held d u valid shows core left =
        let made = ap (λ (x : Line). (answered (core_of c t) x).core) held ∙ sym core in
        let next =
        closed_printed to (core_of c t) text at (take written out) (take more new) end l.forth feed (l.closed feed) l.unbroken
        (appended_front (wrote p)
        ∙ ap (λ (x : List ℕ). take written out ++ x) (shows ∙ ap (shown to (core_of c t)) (sym held))) in
        further p d u (suc end) valid (span_feed text at span read feed) (omega (arith, l.forth)) feed
        (subst (λ (x : Core). take more new ++ ahead to x text (suc end) ≡ take written out ++ ahead to (core_of c t) text at)
        made next)
        (λ upto past.
        ap (λ (x : Whole). left_behind x text (suc end) upto) (left ∙ ap (whole_by (whole_of c t)) (sym held))
        ∙ closed_left text at end l.forth feed (l.closed feed) (whole_of c t) l.unbroken upto past)

    -- a line without a form
    pub walked_unread : {new : List ℕ} {more : ℕ} (unread : Unread) → Valid c t → parsed (between text at end) ≡ Err unread
        → LineWritten (unread_for to unread) out written new more
        → Further new more c t
    unfolding answered whole_by
    walked_unread unread valid held p = closed p (Err unread) held c t valid (unread_shown to (core_of c t) unread) refl refl

    -- a line with a form
    pub walked_form : {new : List ℕ} {more : ℕ} (call : Call) → parsed (between text at end) ≡ Ok call
        → Valid c t → (r : Ticked) (u : Tables) → PerformedCall call c t r u
        → (ticked : Bool) → ticked ≡ is_tick (event_of call)
        → LineWritten (call_for to ticked (core_of r.answered.control u) r.answered.answer r.sample.sum) out written new more
        → Further new more r.answered.control u
    unfolding answered whole_by
    walked_form call held valid r u done ticked e p =
        let meets = done.promised.meets in
        let sum = r.sample.sum in
        closed p (Ok call) held r.answered.control u meets.valid
        (ap (λ (b : Bool). call_for to b (core_of r.answered.control u) r.answered.answer sum) e
        ∙ ap₂ (λ (core : Core) (a : Answer). call_for to (is_tick (event_of call)) core a sum) meets.core meets.answer
        ∙ call-shown (core_of c t) (core_of-limits c t valid) call sum done.sum to)
        meets.core
        (promised_whole done.promised)
