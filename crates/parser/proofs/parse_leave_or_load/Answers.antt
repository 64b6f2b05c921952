-- `parser::parse_leave_or_load` meets its contract: of the two forms only that with the line's third byte has to be tried.
-- Assumes nothing.
use mathlib.Core.Path.{refl, sym, ◌∙◌}
use mathlib.Core.List.{[], ◌∷◌}
use Rattle.grammar.specs.declared.Call.TheVariants.{Load}
use Rattle.grammar.specs.Bytes.{bytes}
use Rattle.grammar.specs.Grammar.{nth, rule, leave_forms, load_forms}
use Rattle.parser.specs.Texts.{plain}
use Rattle.std.proofs.lemmas.Slice.Eq.{starts_is}
use Rattle.parser.proofs.Forms.{behind-none, rule_missed}
use Rattle.parser.proofs.Texts.{differ, otherwise, same_bytes, forms_other, not-begun}
use Rattle.parser.proofs.parse_leave_or_load.Goals as goal

pub returns-then-starts_with : goal.returns-then-starts_with
unfolding leave_forms load_forms plain differ
returns-then-starts_with c =
    let begun = starts_is same_bytes c.args.line.now (bytes "(le") _ c.starts_with.ensures.value in
    let other = otherwise (bytes "(le") (bytes "(lo") _ _ refl (begun.0 c.if-starts_with.true) in
    c.parse_leave.ensures
    ∙ sym
    (behind-none leave_forms load_forms _
    (forms_other (bytes "(lo") _ refl (rule "ad # #)" (λ n. Load (nth n 0) (nth n 1)) ∷ []) other))

pub returns : goal.returns
unfolding leave_forms plain
returns c =
    let begun = starts_is same_bytes c.args.line.now (bytes "(le") _ c.starts_with.ensures.value in
    c.parse_load.ensures
    ∙ sym
    (rule_missed _ load_forms _
    (not-begun (bytes "(le") (bytes "ave #)") _ refl
    (λ rest e. let never = begun.1 rest e in absurd (cc (never, c.if-starts_with.false)))))
