-- "Slots that differ in any of these have different sentences, and this is proved"; "the three never alike" (paper 02, S-5): a sentence
-- can be read back, whatever the numbers in it.
use Rattle.std.specs.Prelude.{ℕ, suc, ◌≡◌, ◌≢◌, List, [], ◌∷◌, ◌++◌, None}
use Prim.Native.String.{String}
use Rattle.std.proofs.Math.Option.{Option, none, some}
use Rattle.definitions.specs.declared.Outcome.{Outcome}
use Rattle.definitions.specs.declared.Outcome.TheVariants.{Real, Dummy, Idle, None as Nobody}
use Rattle.definitions.specs.declared.Note.{Note}
use Rattle.definitions.specs.declared.Note.TheVariants.{Refusal, Told, ToIndifferent, ToAnother}
use Rattle.definitions.specs.Notes.{Reason, drawn_reason}
use Rattle.grammar.specs.Bytes.{bytes}
use Rattle.grammar.specs.Templates.{matched, Phrase}
use Rattle.grammar.specs.Grammar.{nth}
use Rattle.grammar.specs.Sentences.{outcome_words, undrawn_words, drawn_words, sentence}
use Rattle.grammar.specs.Lines.{lines}

abbrev pub phrase : String → (List ℕ → Note) → Phrase Note
phrase template note = record { template = bytes template; makes = note }

-- the two sentences of an outcome, which takes so many numbers: without a draw, and with one, whose numbers stand behind these
abbrev pub outcome_phrases : ℕ → (List ℕ → Outcome) → List (Phrase Note)
outcome_phrases count outcome =
    record { template = bytes (outcome_words (outcome [])) ++ bytes (undrawn_words (outcome [])); makes = λ n. Told (outcome n) None }
    ∷ record {
      template = bytes (outcome_words (outcome [])) ++ bytes drawn_words;
      makes = λ n. Told (outcome n) (drawn_reason (nth n count) (nth n (suc count)));
    }
    ∷ []

abbrev pub real_of : List ℕ → Outcome
real_of n = Real (nth n 0) (record { handle = nth n 1; length = nth n 2 }) (nth n 3)

unfoldable pub phrases : List (Phrase Note)
phrases =
    phrase "(refused #)\n" (λ n. Refusal (nth n 0))
    ∷ phrase "The slot went to an indifferent client.\n" (λ n. ToIndifferent)
    ∷ phrase "The slot went to another private client.\n" (λ n. ToAnother)
    ∷ (outcome_phrases 4 real_of
    ++ outcome_phrases 1 (λ n. Dummy (nth n 0))
    ++ outcome_phrases 1 (λ n. Idle (nth n 0))
    ++ outcome_phrases 0 (λ n. Nobody))

abbrev pub or_else_said : Phrase Note → Option (List ℕ) → Option Note → Option Note
or_else_said p none rest = rest
or_else_said p (some numbers) rest = some (p.makes numbers)

-- what a line says, by the first of some phrases that fits it
unfoldable pub said_by : List (Phrase Note) → List ℕ → Option Note
said_by [] line = none
said_by (p ∷ ps) line = or_else_said p (matched p.template line) (said_by ps line)

abbrev pub said : List ℕ → Option Note
said line = said_by phrases line

-- Of all notes, with any numbers in them.
pub record SentencesApart : Type 0 where
  -- what a sentence says is determined by its bytes
  pub read_back : (note : Note) → said (sentence note) ≡ some note
  -- so notes that differ have sentences that do
  pub different : (one other : Note) → one ≢ other → sentence one ≢ sentence other
  -- slots that differ in the outcome, one of its fields, target or sum, or in whether there was a draw
  pub slots : (outcome another : Outcome) (reason why : Reason) → sentence (Told outcome reason) ≡ sentence (Told another why)
      → (outcome ≡ another) × (reason ≡ why)
  -- the three of a tenant's sheet
  pub own_or_indifferent : (outcome : Outcome) (reason : Reason) → sentence (Told outcome reason) ≢ sentence ToIndifferent
  pub own_or_another : (outcome : Outcome) (reason : Reason) → sentence (Told outcome reason) ≢ sentence ToAnother
  pub indifferent_or_another : sentence ToIndifferent ≢ sentence ToAnother
  -- each is one line, closed by its line feed, whatever stands behind it
  pub one_line : (note : Note) (rest : List ℕ) → lines (sentence note ++ rest) ≡ sentence note ∷ lines rest
