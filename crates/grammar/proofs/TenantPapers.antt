-- The sheets of a text are the sentences of the notes of its history: what each of its lines prints is a sentence if the line holds
-- a tick, and nothing if not. So a tenant's sheets are the same bytes where its notes are the same. Assumes nothing.
use Prim.Native.Nat.{ℕ, ◌≤◌}
use mathlib.Core.Path.{◌≡◌, refl, sym, ap, ◌∙◌}
use mathlib.Core.Bool.{Bool, true, false, cond}
use mathlib.Core.List.{List, [], ◌∷◌, ◌++◌, flatten, append_assoc, append-nil}
use lib.ListN.{length}
use Rattle.definitions.specs.declared.Note.{Note}
use Rattle.definitions.specs.State.{Core}
use Rattle.definitions.specs.History.{History, start, scheduler, after}
use Rattle.definitions.specs.Sameness.{is_tick}
use Rattle.definitions.specs.Notes.{operator_note, tenant_note}
use Rattle.definitions.specs.TenantSheet.{notes_of}
use Rattle.definitions.proofs.Sameness.TenantSheets.{sheet_same}
use Rattle.grammar.specs.Unread.{Line}
use Rattle.std.specs.Prelude.{Ok, Err}
use Rattle.grammar.specs.declared.Audience.{Audience}
use Rattle.grammar.specs.declared.Audience.TheVariants.{Operator, Tenant}
use Rattle.grammar.specs.Bytes.{text_limit}
use Rattle.grammar.specs.Calls.{event_of}
use Rattle.grammar.specs.Sentences.{sentence}
use Rattle.grammar.specs.Printout.{for_tick, shown, printout_for}
use Rattle.grammar.specs.Lines.{lines, held, heard, told_from, told, printed_lines}
use Rattle.grammar.specs.TenantPaper.{sheet_text, SheetsPrinted, TenantOnPaper}
use Rattle.grammar.proofs.LinesShown.{short_printed}

module _ (to : Audience) (note : Core → Note)
    (shows : (core : Core) (l : Line) → shown to core l ≡ for_tick l (sentence (note core))) where
  paper : History → List ℕ
  paper h = sheet_text (notes_of note h)

  -- a line behind a history adds what it prints
  line_added : (h : History) (l : Line) → paper (heard h l) ≡ paper h ++ shown to (after scheduler h) l
  line_added h l = added l ∙ ap (λ (x : List ℕ). paper h ++ x) (sym (shows (after scheduler h) l))
    where
      tick : (b : Bool)
          → sheet_text (cond b (note (after scheduler h) ∷ notes_of note h) (notes_of note h))
          ≡ paper h ++ cond b (sentence (note (after scheduler h))) []
      tick true = unfold sheet_text paper in refl
      tick false = unfold paper in sym (append-nil (paper h))

      added : (l : Line) → paper (heard h l) ≡ paper h ++ for_tick l (sentence (note (after scheduler h)))
      added (Ok call) = unfold paper heard notes_of in tick (is_tick (event_of call))
      added (Err unread) = unfold heard in sym (append-nil (paper h))

  lines_added : (h : History) (ls : List (List ℕ)) → paper h ++ flatten (printed_lines to h ls) ≡ paper (told_from h ls)
  unfolding flatten printed_lines told_from
  lines_added h [] = append-nil (paper h)
  lines_added h (line ∷ ls) =
      sym (append_assoc (paper h) (shown to (after scheduler h) (held line)) (flatten (printed_lines to (heard h (held line)) ls)))
      ∙ ap (λ (x : List ℕ). x ++ flatten (printed_lines to (heard h (held line)) ls)) (sym (line_added h (held line)))
      ∙ lines_added (heard h (held line)) ls

  sheet-printed : (text : List ℕ) → length text ≤ text_limit → printout_for to text ≡ sheet_text (notes_of note (told (lines text)))
  sheet-printed text short =
      short_printed to text short ∙ unfold paper notes_of sheet_text in lines_added start (lines text)

pub sheets_printed : SheetsPrinted
unfolding shown
sheets_printed = record {
  operator = sheet-printed Operator operator_note (λ core l. refl);
  tenant = λ id. sheet-printed (Tenant id) (tenant_note id) (λ core l. refl);
}

pub tenant_on_paper : TenantOnPaper
unfolding TenantOnPaper
tenant_on_paper tenant a b short_a short_b e =
    sheets_printed.tenant tenant a short_a
    ∙ ap sheet_text (sheet_same tenant (told (lines a)) (told (lines b)) e)
    ∙ sym (sheets_printed.tenant tenant b short_b)
