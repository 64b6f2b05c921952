-- Every sentence is read back as the note that it tells: it is one of the phrases, filled with the note's numbers, and the phrases
-- are separate. What follows is that notes that differ have sentences that do. Assumes nothing.
use Prim.Native.Nat.{ℕ, zero, suc}
use mathlib.Core.Path.{◌≡◌, refl, sym, ap, ◌∙◌}
use mathlib.Core.Bool.{Bool, true, false, true≢false}
use mathlib.Core.List.{List, [], ◌∷◌, ◌++◌, Memᴰ, append_assoc}
use mathlib.Core.Option.{Option, none, some}
use native.Mathlib.Omega.{arith}
use Rattle.std.specs.Prelude.{Some, None}
use lib.ListN.{length}
use Rattle.definitions.specs.declared.Outcome.{Outcome}
use Rattle.definitions.specs.declared.Outcome.TheVariants.{Real, Dummy, Idle, None as Nobody}
use Rattle.definitions.specs.declared.Note.{Note}
use Rattle.definitions.specs.declared.Note.TheVariants.{Refusal, Told, ToIndifferent, ToAnother}
use Rattle.definitions.specs.Sizes.{handle_limit}
use Rattle.definitions.specs.Answers.{values}
use Rattle.definitions.specs.Checks.{within}
use Rattle.definitions.specs.Notes.{Reason}
use Rattle.grammar.specs.Bytes.{bytes}
use Rattle.grammar.specs.Numerals.{is_digit, decimal}
use Rattle.grammar.specs.Templates.{is_gap, limits_in, gaps, filled, matched, Phrase}
use Rattle.grammar.specs.Printout.{printed}
use Rattle.grammar.specs.Sentences.{outcome_words, undrawn_words, drawn_words, outcome_text, drawn_text, reason_text, sentence}
use Rattle.grammar.specs.SentencesApart.{phrases, said_by, said, SentencesApart}
use Rattle.grammar.proofs.TemplateSteps.{limits_gap, limits_byte}
use Rattle.grammar.proofs.ReadBack.{clear, spaced, apart, filled_byte, filled_gap, filled-matched}
use Rattle.grammar.proofs.Phrases.{apart_from, separate, separate_parts, separate_spaced, before_misfits}
use Rattle.grammar.proofs.LineSplits.{OneLine, is_line, filled_line}

-- ---- two templates that are filled one behind the other

filled-append : (t u ns ms : List ℕ) → length ns ≡ gaps t → filled (t ++ u) (ns ++ ms) ≡ filled t ns ++ filled u ms
unfolding filled limits_in
filled-append [] u [] ms l = refl
filled-append [] u (n ∷ ns) ms l = absurd (omega arith)
filled-append (b ∷ bs) u ns ms l = go (is_gap b) refl ns l (λ rest k. filled-append bs u rest ms k)
  where
    go : (g : Bool) → is_gap b ≡ g → (ns : List ℕ) → length ns ≡ gaps (b ∷ bs)
        → ((rest : List ℕ) → length rest ≡ gaps bs → filled (bs ++ u) (rest ++ ms) ≡ filled bs rest ++ filled u ms)
        → filled (b ∷ bs ++ u) (ns ++ ms) ≡ filled (b ∷ bs) ns ++ filled u ms
    go true g [] l rest = absurd (omega (arith, l, ap length (limits_gap handle_limit b bs g)))
    go true g (n ∷ ns) l rest =
        let left : length ns ≡ gaps bs = omega (arith, l, ap length (limits_gap handle_limit b bs g)) in
        filled_gap b (bs ++ u) n (ns ++ ms) g
        ∙ ap (λ (x : List ℕ). decimal n ++ x) (rest ns left)
        ∙ sym (append_assoc (decimal n) (filled bs ns) (filled u ms))
        ∙ ap (λ (x : List ℕ). x ++ filled u ms) (sym (filled_gap b bs n ns g))
    go false g ns l rest =
        filled_byte b (bs ++ u) (ns ++ ms) g
        ∙ ap (λ (x : List ℕ). b ∷ x) (rest ns (l ∙ ap length (limits_byte handle_limit b bs g)))
        ∙ ap (λ (x : List ℕ). x ++ filled u ms) (sym (filled_byte b bs ns g))

-- ---- a phrase that is filled is read back

phrases_separate : separate phrases ≡ true
unfolding separate apart_from apart spaced clear phrases is_digit within
phrases_separate = refl

fitting_said : {p : Phrase Note} {ps : List (Phrase Note)} → Memᴰ p ps → separate ps ≡ true
    → (line : List ℕ) {numbers : List ℕ} → matched p.template line ≡ some numbers
    → said_by ps line ≡ some (p.makes numbers)
unfolding said_by
fitting_said {p} (Memᴰ.head {x} {xs} e) s line f = rw (← e, f)
fitting_said {p} (Memᴰ.tail {x} {xs} m) s line f =
    let parts = separate_parts x xs s in
    rw (before_misfits m parts line f) (fitting_said m parts.others line f)

-- the phrase with a number, counted from 0
phrase_at : ℕ → List (Phrase Note) → Option (Phrase Note)
phrase_at n [] = none
phrase_at zero (p ∷ ps) = some p
phrase_at (suc n) (p ∷ ps) = phrase_at n ps

is_some : Option (Phrase Note) → Bool
is_some none = false
is_some (some p) = true

or_first : Option (Phrase Note) → Phrase Note → Phrase Note
or_first none p = p
or_first (some q) p = q

phrase_in : (n : ℕ) (ps : List (Phrase Note)) {p : Phrase Note} → phrase_at n ps ≡ some p → Memᴰ p ps
unfolding phrase_at or_first is_some
phrase_in n [] {p} e = absurd (true≢false (sym (ap is_some e)))
phrase_in zero (q ∷ ps) {p} e = Memᴰ.head (sym (ap (λ (o : Option (Phrase Note)). or_first o p) e))
phrase_in (suc n) (q ∷ ps) e = Memᴰ.tail (phrase_in n ps e)

-- ---- every sentence is a phrase, filled

record Phrased (note : Note) : Type 0 where
  phrase : Phrase Note
  place : ℕ
  there : phrase_at place phrases ≡ some phrase
  numbers : List ℕ
  enough : length numbers ≡ gaps phrase.template
  makes : phrase.makes numbers ≡ note
  written : sentence note ≡ filled phrase.template numbers
  line : is_line phrase.template ≡ true

-- a slot's two parts are one phrase
told-written : (outcome : Outcome) (reason : Reason) (u ms : List ℕ) → reason_text outcome reason ≡ filled u ms
    → length (values outcome) ≡ gaps (bytes (outcome_words outcome))
    → sentence (Told outcome reason) ≡ filled (bytes (outcome_words outcome) ++ u) (values outcome ++ ms)
unfolding sentence outcome_text
told-written outcome reason u ms e l =
    ap (λ (x : List ℕ). filled (bytes (outcome_words outcome)) (values outcome) ++ x) e
    ∙ sym (filled-append (bytes (outcome_words outcome)) u (values outcome) ms l)

says : {note : Note} (place : ℕ) {phrase : Phrase Note} → phrase_at place phrases ≡ some phrase
    → (numbers : List ℕ) → length numbers ≡ gaps phrase.template → phrase.makes numbers ≡ note
    → sentence note ≡ filled phrase.template numbers
    → is_line phrase.template ≡ true
    → Phrased note
says place {phrase} there numbers enough makes written line = record {
  phrase = phrase;
  place = place;
  there = there;
  numbers = numbers;
  enough = enough;
  makes = makes;
  written = written;
  line = line;
}

phrased : (note : Note) → Phrased note
unfolding phrase_at phrases limits_in filled sentence printed values drawn_text reason_text is_line
phrased (Refusal n) = says 0 refl (n ∷ []) refl refl refl refl
phrased ToIndifferent = says 1 refl [] refl refl refl refl
phrased ToAnother = says 2 refl [] refl refl refl refl
phrased (Told (Real id p padding) None) =
    says 3 refl (values (Real id p padding) ++ []) refl refl
    (told-written (Real id p padding) None (bytes (undrawn_words (Real id p padding))) [] refl refl)
    refl
phrased (Told (Real id p padding) (Some draw)) =
    says 4 refl (values (Real id p padding) ++ (draw.target ∷ draw.sum ∷ [])) refl refl
    (told-written (Real id p padding) (Some draw) (bytes drawn_words) (draw.target ∷ draw.sum ∷ []) refl refl)
    refl
phrased (Told (Dummy id) None) =
    says 5 refl (values (Dummy id) ++ []) refl refl
    (told-written (Dummy id) None (bytes (undrawn_words (Dummy id))) [] refl refl)
    refl
phrased (Told (Dummy id) (Some draw)) =
    says 6 refl (values (Dummy id) ++ (draw.target ∷ draw.sum ∷ [])) refl refl
    (told-written (Dummy id) (Some draw) (bytes drawn_words) (draw.target ∷ draw.sum ∷ []) refl refl)
    refl
phrased (Told (Idle id) None) =
    says 7 refl (values (Idle id) ++ []) refl refl
    (told-written (Idle id) None (bytes (undrawn_words (Idle id))) [] refl refl)
    refl
phrased (Told (Idle id) (Some draw)) =
    says 8 refl (values (Idle id) ++ (draw.target ∷ draw.sum ∷ [])) refl refl
    (told-written (Idle id) (Some draw) (bytes drawn_words) (draw.target ∷ draw.sum ∷ []) refl refl)
    refl
phrased (Told Nobody None) =
    says 9 refl (values Nobody ++ []) refl refl
    (told-written Nobody None (bytes (undrawn_words Nobody)) [] refl refl)
    refl
phrased (Told Nobody (Some draw)) =
    says 10 refl (values Nobody ++ (draw.target ∷ draw.sum ∷ [])) refl refl
    (told-written Nobody (Some draw) (bytes drawn_words) (draw.target ∷ draw.sum ∷ []) refl refl)
    refl

read_back : (note : Note) → said (sentence note) ≡ some note
read_back note =
    let p = phrased note in
    let m = phrase_in p.place phrases p.there in
    ap said p.written
    ∙ fitting_said m phrases_separate (filled p.phrase.template p.numbers)
    (filled-matched p.phrase.template p.numbers (separate_spaced m phrases_separate) p.enough)
    ∙ ap some p.makes

one_line : (note : Note) → OneLine (sentence note)
one_line note =
    let p = phrased note in
    rw p.written (filled_line p.phrase.template p.numbers p.line)

-- ---- notes that differ

or_note : Option Note → Note → Note
or_note none note = note
or_note (some found) note = found

alike : (one other : Note) → sentence one ≡ sentence other → one ≡ other
unfolding or_note
alike one other e =
    ap (λ (o : Option Note). or_note o one) (sym (read_back one) ∙ ap said e ∙ read_back other)

-- a slot's outcome and reason, and which kind of note it is
outcome_in : Note → Outcome
outcome_in (Refusal n) = Nobody
outcome_in (Told outcome reason) = outcome
outcome_in ToIndifferent = Nobody
outcome_in ToAnother = Nobody

reason_in : Note → Reason
reason_in (Refusal n) = None
reason_in (Told outcome reason) = reason
reason_in ToIndifferent = None
reason_in ToAnother = None

is_told : Note → Bool
is_told (Refusal n) = false
is_told (Told outcome reason) = true
is_told ToIndifferent = false
is_told ToAnother = false

is_to_indifferent : Note → Bool
is_to_indifferent (Refusal n) = false
is_to_indifferent (Told outcome reason) = false
is_to_indifferent ToIndifferent = true
is_to_indifferent ToAnother = false

pub sentences_apart : SentencesApart
unfolding outcome_in reason_in is_told is_to_indifferent
sentences_apart = record {
  read_back = read_back;
  different = λ one other differ same. differ (alike one other same);
  slots = λ outcome another reason why same.
      let e = alike (Told outcome reason) (Told another why) same in (ap outcome_in e, ap reason_in e);
  own_or_indifferent = λ outcome reason same. true≢false (ap is_told (alike (Told outcome reason) ToIndifferent same));
  own_or_another = λ outcome reason same. true≢false (ap is_told (alike (Told outcome reason) ToAnother same));
  indifferent_or_another = λ same. true≢false (ap is_to_indifferent (alike ToIndifferent ToAnother same));
  one_line = one_line;
}
