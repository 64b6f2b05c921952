-- The marks of a word as the list of their ids: what the first of them and the rest of the word are in it. The laws over a test
-- hold of the numbers counted up from any a. Assumes nothing.
use Rattle.std.proofs.Common.{◌≡◌, refl, ◌∙◌, ℕ, zero, suc, ◌+◌, ◌≤◌, ◌<◌, ◌^◌, Bool, true, false, cond, not, ◌&&◌, [], ◌∷◌, eqb, eq-eqb, add-one, arith}
use Rattle.std.proofs.lemmas.Bool.{ne_eqb}
use Rattle.std.proofs.Math.Bool.{and-true}
use Rattle.std.specs.List.{filter, range_with_len}
use Rattle.std.proofs.Math.Nat.{le_refl}
use Rattle.definitions.specs.Sizes.{ids}
use Rattle.definitions.specs.Draw.{first_from}
use Rattle.marks.specs.Marks.{marked, marked_ids}
use Rattle.marks.proofs.Bits.{marked-none}
use Rattle.marks.proofs.FirstMark.{marked_first_lt}

-- the first mark of a word
abbrev pub first_of : ℕ → ℕ
first_of word = first_from 0 ids (marked word)

-- the marks of the rest of a word
abbrev pub RestOf : ℕ → ℕ → Type 0
RestOf word rest = (j : ℕ) → marked rest j ≡ marked word j && not (eqb j (first_of word))

-- tests that agree from a on let the same numbers through
filter_same : (a n : ℕ) (f g : ℕ → Bool) → ((j : ℕ) → a ≤ j → f j ≡ g j)
    → filter f (range_with_len a n) ≡ filter g (range_with_len a n)
filter_same a zero f g same = refl
filter_same a (suc n) f g same =
    rw (same a (le_refl a), filter_same (a + 1) n f g (λ j l. same j (omega arith)))

filter_none : (a n : ℕ) (f : ℕ → Bool) → ((j : ℕ) → f j ≡ false) → filter f (range_with_len a n) ≡ []
filter_none a zero f none = refl
filter_none a (suc n) f none = rw (none a) (filter_none (a + 1) n f none)

-- the first number that passes stands first, and behind it those that pass without it
first_among : (a n : ℕ) (f g : ℕ → Bool)
    → ((j : ℕ) → a ≤ j → g j ≡ f j && not (eqb j (first_from a n f)))
    → first_from a n f < a + n
    → filter f (range_with_len a n) ≡ first_from a n f ∷ filter g (range_with_len a n)
unfolding first_from
first_among a zero f g minus l = absurd (omega arith)
first_among a (suc n) f g minus l = go (f a) refl (first_among (suc a) n f g) minus l
  where
    go : (b : Bool) → f a ≡ b
        → (((j : ℕ) → suc a ≤ j → g j ≡ f j && not (eqb j (first_from (suc a) n f)))
        → first_from (suc a) n f < suc a + n
        → filter f (range_with_len (suc a) n) ≡ first_from (suc a) n f ∷ filter g (range_with_len (suc a) n))
        → ((j : ℕ) → a ≤ j → g j ≡ f j && not (eqb j (elim b [ true ↦ a | false ↦ first_from (suc a) n f ])))
        → elim b [ true ↦ a | false ↦ first_from (suc a) n f ] < a + suc n
        → cond b (a ∷ filter f (range_with_len (a + 1) n)) (filter f (range_with_len (a + 1) n))
        ≡ elim b [ true ↦ a | false ↦ first_from (suc a) n f ]
        ∷ cond (g a) (a ∷ filter g (range_with_len (a + 1) n)) (filter g (range_with_len (a + 1) n))
    go true e more minus l =
        let out : g a ≡ false = minus a (le_refl a) ∙ rw (e, eq-eqb a a refl) in
        rw (out, filter_same (a + 1) n g f (λ j h. minus j (omega arith) ∙ rw (ne_eqb j a (λ q. omega arith), and-true)))
    go false e more minus l =
        let out : g a ≡ false = minus a (le_refl a) ∙ rw e in
        rw (out, add-one) (more (λ j h. minus j (omega arith)) (omega arith))

-- ---- of a word

pub marked_ids-none : (word : ℕ) → word ≡ 0 → marked_ids word ≡ []
unfolding marked_ids
marked_ids-none word e = rw e (filter_none 0 ids (marked 0) marked-none)

pub marked_ids-first : (word rest : ℕ) → 0 < word → word < 2 ^ ids → RestOf word rest
    → marked_ids word ≡ first_of word ∷ marked_ids rest
unfolding marked_ids
marked_ids-first word rest more fits marks =
    first_among 0 ids (marked word) (marked rest) (λ j l. marks j) (omega (arith, marked_first_lt ids word more fits))
