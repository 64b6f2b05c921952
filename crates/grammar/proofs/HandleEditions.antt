-- Editions that differ in their limit for handles read a line in the same way, if its handle is within both, and one whose handle
-- is above the limit as 17. All forms but an arrival's have the same limits in every edition, which antt computes. Assumes nothing.
use Prim.Native.Nat.{ℕ, ◌≤◌}
use native.Mathlib.Omega.{arith}
use mathlib.Core.Path.{◌≡◌, refl, sym, ap, ◌∙◌}
use mathlib.Core.Logic.{◌≢◌}
use mathlib.Core.Bool.{Bool, true, false, cond, ◌&&◌}
use mathlib.Core.List.{List, [], ◌∷◌, ◌++◌, Memᴰ}
use mathlib.Core.Option.{Option, none, some}
use lib.Dec.{leb, ltb}
use lib.ListN.{length}
use borrow.Author.Tests.{ne_eqb, ltb-true, ltb-false, le-leb, lt-leb}
use Rattle.definitions.specs.Sizes.{number_limit}
use Rattle.definitions.specs.Counts.{whole_new}
use Rattle.definitions.specs.State.{Core, unopened}
use Rattle.definitions.specs.declared.Answer.TheVariants.{Refused}
use Rattle.definitions.proofs.Laws.Tests.{true-false, eqb-cases, or-false}
use Rattle.grammar.specs.Unread.{Line}
use Rattle.std.specs.Prelude.{Ok, Err}
use Rattle.grammar.specs.declared.Unread.TheVariants.{TooLarge}
use Rattle.grammar.specs.declared.Audience.{Audience}
use Rattle.grammar.specs.declared.Audience.TheVariants.{Caller}
use Rattle.grammar.specs.Bytes.{line_feed, text_limit}
use Rattle.grammar.specs.Templates.{limits_in, numbers_fit, matched}
use Rattle.grammar.specs.Grammar.{Rule, nth, arrival, rules, sized_in, or_else_in, parsed_by_in, parsed_in}
use Rattle.grammar.specs.Printout.{printed, answered, shown, printed_from_in, whole_by, left_from_in, printout_in}
use Rattle.grammar.specs.HandleEditions.{handle_above, longer, longer_from, HandleEditions}
use Rattle.grammar.proofs.AllForms.{forms}
use Rattle.grammar.proofs.RoundTrip.{rules_separate, fitting_read}
use Rattle.grammar.proofs.Lines.{joins, closes, line_closed, left_joins, left_closes, left_closed}

-- the limits of an arrival's numbers
abbrev arrival_limits : ℕ → List ℕ
arrival_limits handles = number_limit ∷ handles ∷ number_limit ∷ []

arrival-limits : (handles : ℕ) → limits_in handles arrival.template ≡ arrival_limits handles
unfolding limits_in
arrival-limits handles = refl

-- what an arrival's numbers make, as they fit or do not
arrival_if : List ℕ → Bool → Line
arrival_if numbers fit = cond fit (Ok (arrival.makes numbers)) (Err TooLarge)

sized-arrival : (handles : ℕ) (numbers : List ℕ)
    → sized_in handles arrival numbers ≡ arrival_if numbers (numbers_fit (arrival_limits handles) numbers)
unfolding sized_in arrival_if
sized-arrival handles numbers = ap (λ (ls : List ℕ). arrival_if numbers (numbers_fit ls numbers)) (arrival-limits handles)

-- numbers whose handle is within two limits fit under the one as under the other, and under none if it is above
handle_within : (older newer : ℕ) (numbers : List ℕ) → nth numbers 1 ≤ older → older ≤ newer
    → numbers_fit (arrival_limits older) numbers ≡ numbers_fit (arrival_limits newer) numbers
unfolding numbers_fit
handle_within older newer [] within up = refl
handle_within older newer (id ∷ []) within up = refl
handle_within older newer (id ∷ handle ∷ rest) within up = rw (le-leb handle older within, le-leb handle newer (omega arith))

handle_above_lem : (limit : ℕ) (numbers : List ℕ) → ltb limit (nth numbers 1) ≡ true
    → numbers_fit (arrival_limits limit) numbers ≡ false
unfolding numbers_fit
handle_above_lem limit [] above = absurd (omega (arith, ltb-true limit 0 above))
handle_above_lem limit (id ∷ []) above = absurd (omega (arith, ltb-true limit 0 above))
handle_above_lem limit (id ∷ handle ∷ rest) above =
    rw (lt-leb handle limit (ltb-true limit handle above)) (both_false (leb id number_limit))
  where
    both_false : (b : Bool) → (b && false) ≡ false
    both_false true = refl
    both_false false = refl

-- Two editions agree on a line if they agree on what each rule that fits makes of it.
module _ (older newer : ℕ) (line : List ℕ) where
  Agree : List Rule → Type 0
  Agree [] = Unit {0}
  Agree (r ∷ rs) =
      ((numbers : List ℕ) → matched r.template line ≡ some numbers → sized_in older r numbers ≡ sized_in newer r numbers)
      × Agree rs

  agree_parsed : (rs : List Rule) → Agree rs → parsed_by_in older rs line ≡ parsed_by_in newer rs line
  unfolding parsed_by_in Agree
  agree_parsed [] agree = refl
  agree_parsed (r ∷ rs) agree = go (matched r.template line) refl (agree_parsed rs agree.1)
    where
      go : (found : Option (List ℕ)) → matched r.template line ≡ found
          → parsed_by_in older rs line ≡ parsed_by_in newer rs line
          → or_else_in older r found (parsed_by_in older rs line) ≡ or_else_in newer r found (parsed_by_in newer rs line)
      go none f rest = rest
      go (some numbers) f rest = agree.0 numbers f

  module _ (up : older ≤ newer) (short : longer older line ≡ false) where
    arrival_agrees : (numbers : List ℕ) → matched arrival.template line ≡ some numbers
        → sized_in older arrival numbers ≡ sized_in newer arrival numbers
    unfolding longer
    arrival_agrees numbers f =
        let within = ltb-false older (nth numbers 1) (ap (handle_above older) (sym f) ∙ short) in
        sized-arrival older numbers
        ∙ ap (arrival_if numbers) (handle_within older newer numbers within up)
        ∙ sym (sized-arrival newer numbers)

    rules_agree : Agree rules
    unfolding Agree forms sized_in limits_in
    rules_agree = (
      λ ns f. refl,
      (
        λ ns f. refl,
        (
          λ ns f. refl,
          (
            λ ns f. refl,
            (
              λ ns f. refl,
              (
                λ ns f. refl,
                (
                  λ ns f. refl,
                  (arrival_agrees, (λ ns f. refl, tt)),
                ),
              ),
            ),
          ),
        ),
      ),
    )

    same_line : parsed_in older line ≡ parsed_in newer line
    unfolding parsed_in
    same_line = agree_parsed rules rules_agree

-- an arrival's rule is the eighth
arrival-rule : Memᴰ arrival rules
unfolding forms
arrival-rule =
    Memᴰ.tail (Memᴰ.tail (Memᴰ.tail (Memᴰ.tail (Memᴰ.tail (Memᴰ.tail (Memᴰ.tail
    (Memᴰ.head refl)))))))

long_line_lem : (limit : ℕ) (line : List ℕ) → longer limit line ≡ true → parsed_in limit line ≡ Err TooLarge
unfolding longer parsed_in arrival_if
long_line_lem limit line long = go (matched arrival.template line) refl long
  where
    go : (found : Option (List ℕ)) → matched arrival.template line ≡ found → handle_above limit found ≡ true
        → parsed_in limit line ≡ Err TooLarge
    go none f above = true-false above refl
    go (some numbers) f above =
        fitting_read limit arrival-rule rules_separate line f
        ∙ sized-arrival limit numbers
        ∙ ap (arrival_if numbers) (handle_above_lem limit numbers above)

-- what is known of a text is known of its line that ends, and of what is left
longer_ends : (limit : ℕ) (line text : List ℕ) → longer_from limit line (line_feed ∷ text) ≡ false
    → (longer limit line ≡ false) × (longer_from limit [] text ≡ false)
unfolding longer_from
longer_ends limit line text short = or-false (longer limit line) (longer_from limit [] text) short

longer_joins : (limit : ℕ) (line : List ℕ) (b : ℕ) (text : List ℕ) → b ≢ line_feed
    → longer_from limit line (b ∷ text) ≡ longer_from limit (line ++ (b ∷ [])) text
unfolding longer_from
longer_joins limit line b text other = rw (ne_eqb b line_feed other, longer_from)

-- two editions leave the same of what is left of a text
module _ (older newer : ℕ) (up : older ≤ newer) {A : Type 0} (by : A → Line → A) where
  left_same : (a : A) (line text : List ℕ) → longer_from older line text ≡ false
      → left_from_in older by a line text ≡ left_from_in newer by a line text
  unfolding left_from_in
  left_same a line [] short = refl
  left_same a line (b ∷ text) short =
      eqb-cases (λ t. left_from_in older by a line (b ∷ text) ≡ left_from_in newer by a line (b ∷ text)) b line_feed
      (λ e. let s = longer_ends older line text (rw e at short) in
      rw e
      (left_closes older by a line text
      ∙ ap (λ (l : Line). left_from_in older by (by a l) [] text) (same_line older newer line up s.0)
      ∙ left_same (by a (parsed_in newer line)) [] text s.1
      ∙ sym (left_closes newer by a line text)))
      (λ other. left_joins older by a line (b ∷ []) text (other, tt)
      ∙ left_same a (line ++ (b ∷ [])) text (sym (longer_joins older line b text other) ∙ short)
      ∙ sym (left_joins newer by a line (b ∷ []) text (other, tt)))

-- and print the same of it
module _ (older newer : ℕ) (to : Audience) where
  abbrev Same : Core → List ℕ → List ℕ → Type 0
  Same core line text = printed_from_in older to core line text ≡ printed_from_in newer to core line text

  same_closes : (core : Core) (line text : List ℕ) → parsed_in older line ≡ parsed_in newer line
      → Same (answered core (parsed_in newer line)).core [] text
      → Same core line (line_feed ∷ text)
  same_closes core line text read rest =
      closes older to core line text
      ∙ ap (λ (l : Line). shown to core l ++ printed_from_in older to (answered core l).core [] text) read
      ∙ ap (λ (out : List ℕ). shown to core (parsed_in newer line) ++ out) rest
      ∙ sym (closes newer to core line text)

  same_from : older ≤ newer → (core : Core) (line text : List ℕ) → longer_from older line text ≡ false → Same core line text
  unfolding printed_from_in
  same_from up core [] [] short = refl
  same_from up core (x ∷ line) [] short = refl
  same_from up core line (b ∷ text) short =
      eqb-cases (λ t. Same core line (b ∷ text)) b line_feed
      (λ e. let s = longer_ends older line text (rw e at short) in
      rw e
      (same_closes core line text (same_line older newer line up s.0)
      (same_from up (answered core (parsed_in newer line)).core [] text s.1)))
      (λ other. joins older to core line b text other
      ∙ same_from up core (line ++ (b ∷ [])) text (sym (longer_joins older line b text other) ∙ short)
      ∙ sym (joins newer to core line b text other))

  same_printout_lem : older ≤ newer → (text : List ℕ) → longer_from older [] text ≡ false → printout_in older to text ≡ printout_in newer to text
  unfolding printout_in
  same_printout_lem up text short = go (ltb text_limit (length text)) (same_from up unopened [] text short)
    where
      go : (long : Bool) {one other : List ℕ} → one ≡ other
          → ◌≡◌ {A = List ℕ} (elim long [ true ↦ printed (Refused 18) | false ↦ one ])
          (elim long [ true ↦ printed (Refused 18) | false ↦ other ])
      go true same = refl
      go false same = same

pub handle_editions : HandleEditions
unfolding answered shown whole_by
handle_editions = record {
  same_line = λ older newer up line short. same_line older newer line up short;
  same_printout = λ older newer up to text short. same_printout_lem older newer to up text short;
  same_whole = λ older newer up text short. left_same older newer up whole_by whole_new [] text short;
  long_line = long_line_lem;
  long_printed = λ limit core line text whole long.
      line_closed limit Caller core line text whole
      ∙ ap (λ (l : Line). shown Caller core l ++ printed_from_in limit Caller (answered core l).core [] text)
      (long_line_lem limit line long);
  long_passed = λ limit w line text whole long.
      left_closed limit whole_by w line text whole
      ∙ ap (λ (l : Line). left_from_in limit whole_by (whole_by w l) [] text) (long_line_lem limit line long);
}
