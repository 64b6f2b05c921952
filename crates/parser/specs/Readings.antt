-- What a template finds in a line: what it is refused for, or the numbers in its gaps.
use Rattle.std.specs.Prelude.{ℕ, ◌≤◌, ◌≡◌, Bool, true, false, cond, List, length, take, Option, Some, None, Result, Ok, Err, OnOk}
use Rattle.std.proofs.Math.Option.{Option as Found, none, some}
use Rattle.definitions.specs.Sizes.{handle_limit}
use Rattle.grammar.specs.declared.Call.{Call}
use Rattle.grammar.specs.declared.Unread.{Unread}
use Rattle.grammar.specs.declared.Unread.TheVariants.{NoForm, TooLarge}
use Rattle.grammar.specs.Unread.{Line}
use Rattle.grammar.specs.Templates.{is_gap, limit_in, limits, gaps, numbers_fit, matched}
use Rattle.grammar.specs.Grammar.{behind_text, terms_forms, parsed_by}
use Rattle.parser.specs.declared.Terms.{Terms}
use Rattle.parser.specs.Texts.{plain}

-- the limit of a byte of a template that is a gap
abbrev pub gap_of : ℕ → Option ℕ
gap_of byte = cond (is_gap byte) (Some (limit_in handle_limit byte)) None

-- what reading by a template answers: that the line fits, or what it is refused for
abbrev pub Verdict : Type 0
Verdict = Result (Unit {0}) Unread

-- Shape is judged before size: "not a form of the grammar" is 16, "right shape, but a number above .." 17. What is found in the
-- end, behind numbers of which one was too large or none, is held to the limits that are left.
abbrev pub verdict_from : Bool → List ℕ → Found (List ℕ) → Verdict
verdict_from large limits none = Err NoForm
verdict_from large limits (some numbers) =
    cond large (Err TooLarge) (cond (numbers_fit limits numbers) (Ok tt) (Err TooLarge))

abbrev pub verdict : List ℕ → Found (List ℕ) → Verdict
verdict template found = verdict_from false (limits template) found

-- how many numbers a line may have
abbrev pub numbers_room : ℕ
numbers_room = 8

-- where nothing refuses the line, its numbers stand one after the other
pub record Reads (template line : List ℕ) (result : Verdict) (numbers : List ℕ) : Type 0 where
  pub answer : result ≡ verdict template (matched template line)
  pub places : OnOk result (matched template line ≡ some (take (gaps template) numbers))
  pub sized : length numbers ≡ numbers_room

-- room for the numbers of a template
pub record Room (template numbers : List ℕ) : Type 0 where
  pub sized : length numbers ≡ numbers_room
  pub enough : gaps template ≤ numbers_room

-- a template in two parts: a text without gaps, and a rest for whose numbers there is room
pub record Readable (text rest numbers : List ℕ) : Type 0 where
  pub bare : plain text ≡ true
  pub room : Room rest numbers

-- the line that terms make, for a call that takes them
abbrev pub terms_line : (ℕ → ℕ → ℕ → ℕ → Call) → Result Terms Unread → Line
terms_line call (Ok terms) = Ok (call terms.id terms.kind terms.rate terms.burst)
terms_line call (Err unread) = Err unread

-- what stands behind the text of a join and of a change, whichever call it is
abbrev pub TermsRead : List ℕ → Result Terms Unread → Type 0
TermsRead rest terms = (call : ℕ → ℕ → ℕ → ℕ → Call) → parsed_by (terms_forms call) rest ≡ terms_line call terms

-- and a whole line that begins with such a text
abbrev pub TermsBehind : List ℕ → List ℕ → Result Terms Unread → Type 0
TermsBehind text line terms =
    (call : ℕ → ℕ → ℕ → ℕ → Call) → parsed_by (behind_text text (terms_forms call)) line ≡ terms_line call terms
