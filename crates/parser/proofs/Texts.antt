-- A template that begins with a text fits no line that does not, and else what stands behind the text decides. By going along
-- both. Assumes nothing.
use Prim.Native.Nat.{ℕ}
use mathlib.Core.Path.{◌≡◌, refl, sym, ap, ◌∙◌}
use mathlib.Core.Bool.{Bool, true, false, cond, not, true≢false}
use mathlib.Core.List.{List, [], ◌∷◌, ◌++◌, append-nil}
use mathlib.Core.Option.{Option, none, some}
use lib.Dec.{eqb}
use lib.ListN.{length}
use borrow.Author.Tests.{not-true, eqb-true, eqb-false, eq-eqb}
use Rattle.definitions.proofs.Laws.Tests.{and_both}
use Rattle.std.specs.Prelude.{Err}
use Rattle.std.specs.Bool.{Decides}
use Rattle.grammar.specs.declared.Unread.TheVariants.{NoForm}
use Rattle.grammar.specs.Unread.{Line}
use Rattle.std.proofs.lemmas.Result.{on_ok_weaker}
use Rattle.definitions.specs.Sizes.{handle_limit}
use Rattle.grammar.specs.Templates.{is_gap, limits, matched}
use Rattle.grammar.specs.Grammar.{Rule, behind_text, sized_in, or_else, parsed_by, parsed_by_in}
use Rattle.grammar.proofs.TemplateSteps.{limits_byte, byte_fits, byte_misfits}
use Rattle.parser.specs.Readings.{Verdict, verdict, numbers_room, Reads}
use Rattle.parser.specs.Texts.{plain}

plain_first : (b : ℕ) (bs : List ℕ) → plain (b ∷ bs) ≡ true → is_gap b ≡ false
unfolding plain
plain_first b bs e = not-true (is_gap b) (and_both (not (is_gap b)) (plain bs) e).0

plain_rest : (b : ℕ) (bs : List ℕ) → plain (b ∷ bs) ≡ true → plain bs ≡ true
unfolding plain
plain_rest b bs e = (and_both (not (is_gap b)) (plain bs) e).1

pub matched-behind : (p t rest : List ℕ) → plain p ≡ true → matched (p ++ t) (p ++ rest) ≡ matched t rest
matched-behind [] t rest bare = refl
matched-behind (b ∷ bs) t rest bare =
    byte_fits b (bs ++ t) b (bs ++ rest) (plain_first b bs bare) (eq-eqb b b refl) ∙ matched-behind bs t rest (plain_rest b bs bare)

-- the comparison by which the code finds a text
pub same_bytes : (a b : ℕ) → Decides (eqb a b) (a ≡ b)
same_bytes a b = (eqb-true a b, eq-eqb a b)

-- a line that does not begin with a text
abbrev pub Otherwise : List ℕ → List ℕ → Type 0
Otherwise text line = (rest : List ℕ) → line ≡ text ++ rest → ⊥

pub not-begun : (p t l : List ℕ) → plain p ≡ true → Otherwise p l → matched (p ++ t) l ≡ none
unfolding matched
not-begun [] t l bare other = absurd (other l refl)
not-begun (b ∷ bs) t [] bare other = refl
not-begun (b ∷ bs) t (x ∷ xs) bare other = go (eqb b x) refl (not-begun bs t xs (plain_rest b bs bare))
  where
    go : (same : Bool) → eqb b x ≡ same → (Otherwise bs xs → matched (bs ++ t) xs ≡ none) → matched (b ∷ (bs ++ t)) (x ∷ xs) ≡ none
    go true q behind =
        let here : b ≡ x = eqb-true b x q in
        byte_fits b (bs ++ t) x xs (plain_first b bs bare) q ∙ behind (λ rest e. other rest (cc))
    go false q behind = byte_misfits b (bs ++ t) x xs (plain_first b bs bare) q

-- a text has no gaps of its own
limits-behind : (p t : List ℕ) → plain p ≡ true → limits (p ++ t) ≡ limits t
limits-behind [] t bare = refl
limits-behind (b ∷ bs) t bare =
    limits_byte handle_limit b (bs ++ t) (plain_first b bs bare) ∙ limits-behind bs t (plain_rest b bs bare)

-- ---- a template that is read in two parts

module _ (text rest line : List ℕ) (bare : plain text ≡ true) {numbers : List ℕ} where
  pub read_other : Otherwise text line → length numbers ≡ numbers_room → Reads (text ++ rest) line (Err NoForm) numbers
  read_other e room = record { answer = rw (not-begun text rest line bare e); places = tt; sized = room }

  pub read_behind : {behind : List ℕ} → line ≡ text ++ behind → {result : Verdict} → Reads rest behind result numbers
      → Reads (text ++ rest) line result numbers
  read_behind {behind} e {result} r =
      let same : matched (text ++ rest) line ≡ matched rest behind =
      ap (matched (text ++ rest)) e ∙ matched-behind text rest behind bare in
      let bounds = limits-behind text rest bare in
      record {
        answer = r.answer ∙ rw (← same) (go (matched (text ++ rest) line) bounds);
        places = on_ok_weaker result (λ z. same ∙ z ∙ rw bounds) r.places;
        sized = r.sized;
      }
    where
      go : (found : Option (List ℕ)) → limits (text ++ rest) ≡ limits rest → verdict rest found ≡ verdict (text ++ rest) found
      go none e = refl
      go (some ns) e = rw e

-- ---- forms behind a text

module _ (text : List ℕ) (line : List ℕ) (bare : plain text ≡ true) where
  pub forms_other : (rs : List Rule) → Otherwise text line → parsed_by (behind_text text rs) line ≡ Err NoForm
  unfolding parsed_by_in
  forms_other [] e = refl
  forms_other (r ∷ rs) e = rw (not-begun text r.template line bare e) (forms_other rs e)

  pub forms_behind : (rs : List Rule) (behind : List ℕ) → line ≡ text ++ behind
      → parsed_by (behind_text text rs) line ≡ parsed_by rs behind
  unfolding parsed_by_in sized_in
  forms_behind [] behind e = refl
  forms_behind (r ∷ rs) behind e =
      rw (ap (matched (text ++ r.template)) e ∙ matched-behind text r.template behind bare)
      (go (matched r.template behind) (forms_behind rs behind e))
    where
      go : (found : Option (List ℕ)) {x y : Line} → x ≡ y
          → or_else (record { template = text ++ r.template; makes = r.makes }) found x ≡ or_else r found y
      go none same = same
      go (some ns) same = rw (limits-behind text r.template bare)

-- a text that differs from that which a line begins with
unfoldable pub differ : List ℕ → List ℕ → Bool
differ [] q = false
differ (a ∷ p) [] = false
differ (a ∷ p) (b ∷ q) = cond (eqb a b) (differ p q) true

pub otherwise : (p q : List ℕ) (l rest : List ℕ) → differ p q ≡ true → l ≡ p ++ rest → Otherwise q l
unfolding differ
otherwise [] q l rest d e more f = absurd (true≢false (sym d))
otherwise (a ∷ p) [] l rest d e more f = absurd (true≢false (sym d))
otherwise (a ∷ p) (b ∷ q) l rest d e more f = go (eqb a b) refl d (λ h. otherwise p q (p ++ rest) rest h refl more)
  where
    go : (t : Bool) → eqb a b ≡ t → cond t (differ p q) true ≡ true → (differ p q ≡ true → p ++ rest ≡ q ++ more → ⊥) → ⊥
    go true g h behind = behind h (cc)
    go false g h behind = absurd (eqb-false a b g (cc))

-- ---- a form without numbers is its text alone

pub whole_line : (text line : List ℕ) → plain text ≡ true → line ≡ text → matched (text ++ []) line ≡ some []
unfolding matched
whole_line text line bare e = ap (matched (text ++ [])) (e ∙ sym (append-nil text)) ∙ matched-behind text [] [] bare

pub other_line : (text line : List ℕ) → plain text ≡ true → (line ≡ text → ⊥) → matched (text ++ []) line ≡ none
unfolding matched
other_line [] [] bare ne = absurd (ne refl)
other_line [] (x ∷ xs) bare ne = refl
other_line (b ∷ bs) [] bare ne = refl
other_line (b ∷ bs) (x ∷ xs) bare ne = go (eqb b x) refl (other_line bs xs (plain_rest b bs bare))
  where
    go : (same : Bool) → eqb b x ≡ same → ((xs ≡ bs → ⊥) → matched (bs ++ []) xs ≡ none) → matched (b ∷ (bs ++ [])) (x ∷ xs) ≡ none
    go true q behind =
        let here : b ≡ x = eqb-true b x q in
        byte_fits b (bs ++ []) x xs (plain_first b bs bare) q ∙ behind (λ e. ne (cc))
    go false q behind = byte_misfits b (bs ++ []) x xs (plain_first b bs bare) q
