-- A template that is filled with numbers reads them back, where each gap ends before a byte that is no digit. Of bytes that fit
-- one template another reads nothing, if it differs from it at a fixed byte: up to that byte both take the same bytes and numbers.
-- Both are tests.
use Prim.Native.Nat.{ℕ}
use mathlib.Core.Path.{◌≡◌, refl, sym, ap, ◌∙◌}
use mathlib.Core.Bool.{Bool, true, false, cond, not, ◌&&◌, true≢false, and-eq-true_iff}
use mathlib.Core.List.{List, [], ◌∷◌, ◌++◌}
use mathlib.Core.Option.{Option, none, some}
use native.Mathlib.Omega.{arith}
use borrow.Author.Tests.{eqb-true, eq-eqb, not-true}
use lib.Dec.{eqb}
use lib.ListN.{length}
use Rattle.definitions.specs.Sizes.{handle_limit}
use Rattle.grammar.specs.Numerals.{is_digit, leading, behind, is_numeral, value_from, decimal}
use Rattle.grammar.specs.Templates.{is_gap, limits_in, gaps, filled, with_number, matched}
use Rattle.grammar.proofs.Decimals.{Bare, decimal-leading, decimal-behind, decimal_numeral, decimal_value}
use Rattle.grammar.proofs.TemplateSteps.{limits_gap, limits_byte, gap_fits, gap_misfits, byte_fits, byte_misfits}

-- whether a gap may stand before some bytes of a template: they begin with neither a digit nor a gap
unfoldable pub clear : List ℕ → Bool
clear [] = true
clear (b ∷ bs) = not (is_digit b) && not (is_gap b)

-- whether each number ends where its gap does
unfoldable pub spaced : List ℕ → Bool
spaced [] = true
spaced (b ∷ bs) = cond (is_gap b) (clear bs) true && spaced bs

-- whether two templates differ at a fixed byte, with the same bytes and gaps before it
unfoldable pub apart : List ℕ → List ℕ → Bool
apart [] u = false
apart (b ∷ bs) [] = false
apart (b ∷ bs) (c ∷ cs) =
    cond (is_gap b) (is_gap c && apart bs cs) (cond (is_gap c) false (cond (eqb b c) (apart bs cs) true))

spaced_gap : (b : ℕ) (bs : List ℕ) → spaced (b ∷ bs) ≡ true → is_gap b ≡ true → clear bs ≡ true
unfolding spaced
spaced_gap b bs e g = rw g at ((and-eq-true_iff (cond (is_gap b) (clear bs) true) (spaced bs)).0 e).0

spaced_rest : (b : ℕ) (bs : List ℕ) → spaced (b ∷ bs) ≡ true → spaced bs ≡ true
unfolding spaced
spaced_rest b bs e = ((and-eq-true_iff (cond (is_gap b) (clear bs) true) (spaced bs)).0 e).1

-- a byte that is no gap is written as it is, and a gap is filled
pub filled_byte : (b : ℕ) (bs ns : List ℕ) → is_gap b ≡ false → filled (b ∷ bs) ns ≡ b ∷ filled bs ns
unfolding filled
filled_byte b bs [] g = refl
filled_byte b bs (n ∷ ns) g = rw (filled, g)

pub filled_gap : (b : ℕ) (bs : List ℕ) (n : ℕ) (ns : List ℕ) → is_gap b ≡ true
    → filled (b ∷ bs) (n ∷ ns) ≡ decimal n ++ filled bs ns
unfolding filled
filled_gap b bs n ns g = rw (filled, g)

clear_bare : (bs ns : List ℕ) → clear bs ≡ true → Bare (filled bs ns)
unfolding clear filled
clear_bare [] ns e = tt
clear_bare (b ∷ bs) ns e =
    let o = (and-eq-true_iff (not (is_digit b)) (not (is_gap b))).0 e in
    rw (filled_byte b bs ns (not-true (is_gap b) o.1)) (not-true (is_digit b) o.0)

-- a gap takes the number that it was filled with, and no more
gap_taken : (b : ℕ) (bs : List ℕ) (n : ℕ) (rest : List ℕ) → is_gap b ≡ true → Bare rest
    → matched (b ∷ bs) (decimal n ++ rest) ≡ with_number n (matched bs rest)
gap_taken b bs n rest g e =
    gap_fits b bs (decimal n ++ rest) g (rw (decimal-leading n rest e) (decimal_numeral n)) ∙
    rw (decimal-leading n rest e, decimal-behind n rest e, decimal_value n)

-- a template reads back the numbers that it is filled with
pub filled-matched : (t ns : List ℕ) → spaced t ≡ true → length ns ≡ gaps t → matched t (filled t ns) ≡ some ns
unfolding limits_in matched filled
filled-matched [] [] e l = refl
filled-matched [] (n ∷ ns) e l = absurd (omega arith)
filled-matched (b ∷ bs) ns e l = go (is_gap b) refl ns l (λ ms k. filled-matched bs ms (spaced_rest b bs e) k)
  where
    go : (t : Bool) → is_gap b ≡ t → (ns : List ℕ) → length ns ≡ gaps (b ∷ bs)
        → ((ms : List ℕ) → length ms ≡ gaps bs → matched bs (filled bs ms) ≡ some ms)
        → matched (b ∷ bs) (filled (b ∷ bs) ns) ≡ some ns
    go true g [] l rest = absurd (omega (arith, l, ap length (limits_gap handle_limit b bs g)))
    go true g (n ∷ ns) l rest =
        let bare = clear_bare bs ns (spaced_gap b bs e g) in
        let left : length ns ≡ gaps bs = omega (arith, l, ap length (limits_gap handle_limit b bs g)) in
        rw (filled_gap b bs n ns g, gap_taken b bs n (filled bs ns) g bare, rest ns left)
    go false g ns l rest =
        rw (filled_byte b bs ns g, byte_fits b bs b (filled bs ns) g (eq-eqb b b refl))
        (rest ns (l ∙ ap length (limits_byte handle_limit b bs g)))

-- bytes that fit no template do not fit one
is_found : Option (List ℕ) → Bool
is_found none = false
is_found (some ns) = true

none_some : {A : Type 0} {ns : List ℕ} → none ≡ some ns → A
unfolding is_found
none_some e = absurd (true≢false (sym (ap is_found e)))

-- A template reads nothing of bytes that fit another: one step of it, with what is known of the rest.
module _ (b : ℕ) (bs : List ℕ) (c : ℕ) (cs : List ℕ) (x : ℕ) (xs : List ℕ) {ns : List ℕ}
    (fits : matched (c ∷ cs) (x ∷ xs) ≡ some ns)
    (rest : (line ms : List ℕ) → apart bs cs ≡ true → matched cs line ≡ some ms → matched bs line ≡ none) where
  abbrev line : List ℕ
  line = x ∷ xs

  -- both take the same number
  gaps_apart : is_gap b ≡ true → is_gap c ≡ true → apart bs cs ≡ true → (t : Bool) → is_numeral (leading line) ≡ t
      → matched (b ∷ bs) line ≡ none
  gaps_apart g h q false k = gap_misfits b bs line g k
  gaps_apart g h q true k = gap_fits b bs line g k ∙ taken (matched cs (behind line)) refl
    where
      taken : (found : Option (List ℕ)) → matched cs (behind line) ≡ found
          → with_number (value_from 0 (leading line)) (matched bs (behind line)) ≡ none
      taken none f = none_some (sym (gap_fits c cs line h k ∙ rw f) ∙ fits)
      taken (some ms) f = rw (rest (behind line) ms q f)

  -- both take the same byte, or the first does not take it
  bytes_apart : is_gap b ≡ false → is_gap c ≡ false → (w : Bool) → eqb b c ≡ w → cond w (apart bs cs) true ≡ true
      → (t : Bool) → eqb c x ≡ t → matched (b ∷ bs) line ≡ none
  bytes_apart g h w d q false k = none_some (sym (byte_misfits c cs x xs h k) ∙ fits)
  bytes_apart g h true d q true k =
      byte_fits b bs x xs g (ap (λ (y : ℕ). eqb y x) (eqb-true b c d) ∙ k)
      ∙ rest xs ns q (sym (byte_fits c cs x xs h k) ∙ fits)
  bytes_apart g h false d q true k = byte_misfits b bs x xs g (ap (eqb b) (sym (eqb-true c x k)) ∙ d)

  apart_step : (s t w : Bool) → is_gap b ≡ s → is_gap c ≡ t → eqb b c ≡ w
      → cond s (t && apart bs cs) (cond t false (cond w (apart bs cs) true)) ≡ true
      → matched (b ∷ bs) line ≡ none
  apart_step true true w g h d a = gaps_apart g h a (is_numeral (leading line)) refl
  apart_step true false w g h d a = absurd (true≢false (sym a))
  apart_step false true w g h d a = absurd (true≢false (sym a))
  apart_step false false w g h d a = bytes_apart g h w d a (eqb c x) refl

pub apart_matched : (t u line : List ℕ) {ns : List ℕ} → apart t u ≡ true → matched u line ≡ some ns → matched t line ≡ none
unfolding apart matched
apart_matched [] u line a e = absurd (true≢false (sym a))
apart_matched (b ∷ bs) [] line a e = absurd (true≢false (sym a))
apart_matched (b ∷ bs) (c ∷ cs) [] a e = refl
apart_matched (b ∷ bs) (c ∷ cs) (x ∷ xs) a e =
    apart_step b bs c cs x xs e (λ line ms q f. apart_matched bs cs line q f) (is_gap b) (is_gap c) (eqb b c) refl refl refl a
