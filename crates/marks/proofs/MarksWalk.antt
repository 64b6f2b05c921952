-- A walk over the marks of a word by rising id, which adds a number of each id up: the ids passed and those that are left are
-- together the word's, so that the running sum is that of the word below the id that comes next. Assumes nothing.
use Rattle.std.proofs.Common.{◌≡◌, refl, sym, ap, ◌∙◌, ℕ, zero, suc, ◌+◌, ◌*◌, ◌≤◌, ◌<◌, Bool, true, false, cond, ◌&&◌, eqb, List, [], ◌∷◌, ◌++◌, append_assoc, length, ltb, arith}
use Rattle.std.specs.List.{filter, range_with_len, sum_by, list_any}
use Rattle.std.proofs.lemmas.Bool.{ne_eqb}
use Rattle.std.proofs.lemmas.Map.Views.{any-filter_same}
use Rattle.std.proofs.Math.Bool.{and-true, and-false}
use Rattle.std.proofs.Math.Logic.{⊎_elim}
use Rattle.std.proofs.Math.Nat.{eq-or-lt_of_le, le_refl, mul-le-mul_right, suc-mul}
use Rattle.std.proofs.lemmas.List.Sums.{sum_by_push, sum_by-append, length-filter, count_by-le-length}
use Rattle.std.proofs.lemmas.List.Elements.{filter-append}
use Rattle.std.proofs.lemmas.List.FromFn.{length-range_with_len}
use Rattle.std.proofs.lemmas.List.{append-nil, length-append}
use borrow.Author.Tests.{lt-ltb, le-ltb, eq-eqb, eqb-true}
use Rattle.definitions.specs.Sizes.{ids}
use Rattle.definitions.specs.Draw.{sum_below, drawn_at}
use Rattle.definitions.proofs.Laws.Sums.{sum_below_more}
use Rattle.marks.specs.Marks.{marked, marked_number, marked_ids}
use Rattle.marks.proofs.IdSearch.{first_from_is}

-- ---- numbers that are counted up, and a test on them

range_more : (a n : ℕ) → range_with_len a (suc n) ≡ range_with_len a n ++ (a + n) ∷ []
range_more a zero = let e : a + 0 ≡ a = omega arith in rw e
range_more a (suc n) = ap (λ (xs : List ℕ). a ∷ xs) (range_more (a + 1) n ∙ (let e : a + 1 + n ≡ a + suc n = omega arith in rw e))

-- where a number stands among those that pass: it passes, and those before it are all that pass below it
pub record Split (p : ℕ → Bool) (a n : ℕ) (before : List ℕ) (id : ℕ) : Type 0 where
  pub at : ℕ
  pub is : id ≡ a + at
  pub lt : at < n
  pub passes : p id ≡ true
  pub below : filter p (range_with_len a at) ≡ before

split : (p : ℕ → Bool) (a n : ℕ) (before : List ℕ) (id : ℕ) (behind : List ℕ)
    → filter p (range_with_len a n) ≡ before ++ id ∷ behind → Split p a n before id
split p a zero [] id behind e = cc
split p a zero (x ∷ before) id behind e = cc
split p a (suc n) before id behind e = go (p a) refl before (split p (a + 1) n) e
  where
    go : (b : Bool) → p a ≡ b → (before : List ℕ)
        → ((xs : List ℕ) (x : ℕ) (ys : List ℕ) → filter p (range_with_len (a + 1) n) ≡ xs ++ x ∷ ys → Split p (a + 1) n xs x)
        → cond b (a ∷ filter p (range_with_len (a + 1) n)) (filter p (range_with_len (a + 1) n)) ≡ before ++ id ∷ behind
        → Split p a (suc n) before id
    go false e before more q =
        let s = more before id behind q in
        record { at = suc s.at; is = omega (arith, s.is); lt = omega (arith, s.lt); passes = s.passes; below = rw e s.below }
    go true e [] more q =
        let here : a ≡ id = cc in
        record { at = 0; is = omega arith; lt = omega arith; passes = ap p (sym here) ∙ e; below = refl }
    go true e (x ∷ xs) more q =
        let here : a ≡ x = cc in
        let others : filter p (range_with_len (a + 1) n) ≡ xs ++ id ∷ behind = cc in
        let s = more xs id behind others in
        let low : filter p (range_with_len (a + 1) s.at) ≡ xs = s.below in
        record { at = suc s.at; is = omega (arith, s.is); lt = omega (arith, s.lt); passes = s.passes; below = rw e cc }

-- ---- numbers of the marked ids, and of all ids

-- one number more
filter_last : (p : ℕ → Bool) (n : ℕ) (number : ℕ → ℕ)
    → sum_by number (filter p (n ∷ [])) ≡ cond (p n) (number n) 0
filter_last p n number = go (p n)
  where
    go : (b : Bool) → sum_by number (cond b (n ∷ []) []) ≡ cond b (number n) 0
    go true = omega arith
    go false = refl

-- the numbers of the marked among the first n ids are together what these weigh
sums_below : (word n : ℕ) (number : ℕ → ℕ)
    → sum_by number (filter (marked word) (range_with_len 0 n)) ≡ sum_below n (marked_number word number)
unfolding sum_below marked_number
sums_below word zero number = refl
sums_below word (suc n) number =
    let p : ℕ → Bool = marked word in
    ap (λ (xs : List ℕ). sum_by number (filter p xs)) (range_more 0 n)
    ∙ ap (sum_by number) (filter-append p (range_with_len 0 n) ((0 + n) ∷ []))
    ∙ sum_by-append number (filter p (range_with_len 0 n)) (filter p ((0 + n) ∷ []))
    ∙ (let e : 0 + n ≡ n = omega arith in rw e (omega (arith, sums_below word n number, filter_last p n number)))

-- a word has at most as many marks as there are ids
marked_few : (word : ℕ) → length (marked_ids word) ≤ ids
unfolding marked_ids
marked_few word =
    omega (
      arith,
      length-filter (marked word) (range_with_len 0 ids),
      count_by-le-length (marked word) (range_with_len 0 ids),
      length-range_with_len 0 ids,
    )

-- ---- which ids are among those of a word

-- whether an id is among some
abbrev pub among : ℕ → List ℕ → Bool
among id xs = list_any (eqb id) xs

among_range : (a n j : ℕ) → a ≤ j → j < a + n → among j (range_with_len a n) ≡ true
among_range a zero j low high = absurd (omega arith)
among_range a (suc n) j low high =
    ⊎_elim (λ (e : a ≡ j). rw (eq-eqb j a (sym e)) refl)
    (λ (l : a < j). rw (ne_eqb j a (λ e. omega arith)) (among_range (a + 1) n j (omega arith) (omega arith))) (eq-or-lt_of_le low)

past_range : (a n j : ℕ) → a + n ≤ j → among j (range_with_len a n) ≡ false
past_range a zero j past = refl
past_range a (suc n) j past = rw (ne_eqb j a (λ e. omega arith)) (past_range (a + 1) n j (omega arith))

-- of those that pass a test
among_filter : (p : ℕ → Bool) (xs : List ℕ) (j : ℕ) → among j (filter p xs) ≡ (p j && among j xs)
among_filter p xs j = any-filter_same (eqb j) p (p j) (λ k e. ap p (sym (eqb-true j k e))) xs

pub among_marked : (word id : ℕ) → id < ids → among id (marked_ids word) ≡ marked word id
unfolding marked_ids
among_marked word id l =
    among_filter (marked word) (range_with_len 0 ids) id
    ∙ rw (among_range 0 ids id (omega arith) (omega arith)) (and-true (marked word id))

-- ---- a walk over the ids of a word, at one of them

module _ (word id : ℕ) (passed rest : List ℕ) (whole : marked_ids word ≡ passed ++ id ∷ rest) where
  here : Split (marked word) 0 ids passed id
  unfolding marked_ids
  here = split (marked word) 0 ids passed id rest whole

  -- it is one of the ids
  pub next_lt : id < ids
  next_lt = omega (arith, here.is, here.lt)

  -- and was not passed before
  pub next_new : among id passed ≡ false
  next_new =
      ap (among id) (sym here.below)
      ∙ among_filter (marked word) (range_with_len 0 here.at) id
      ∙ rw (past_range 0 here.at id (omega (arith, here.is))) (and-false (marked word id))

-- ---- the walk, by numbers of which those that it meets are at most b

pub record Walked (word : ℕ) (number : ℕ → ℕ) (b : ℕ) (passed left : List ℕ) (sum : ℕ) : Type 0 where
  pub whole : marked_ids word ≡ passed ++ left
  pub small : sum ≤ length passed * b
  pub sums : sum ≡ sum_by number passed

pub walked_start : (word : ℕ) (number : ℕ → ℕ) (b : ℕ) → Walked word number b [] (marked_ids word) 0
walked_start word number b = record { whole = refl; small = omega arith; sums = refl }

-- once no id is left the sum is that of the whole word
pub walked_all : {word : ℕ} {number : ℕ → ℕ} {b sum : ℕ} {passed : List ℕ} → Walked word number b passed [] sum
    → sum ≡ sum_below ids (marked_number word number)
unfolding marked_ids
walked_all {word} {number} {b} {sum} {passed} w =
    let all : filter (marked word) (range_with_len 0 ids) ≡ passed = w.whole ∙ append-nil passed in
    w.sums ∙ ap (sum_by number) (sym all) ∙ sums_below word ids number

-- and if it is within a target, none is drawn at it
pub walked_none : {word : ℕ} {number : ℕ → ℕ} {b sum : ℕ} {passed : List ℕ} → Walked word number b passed [] sum
    → (target : ℕ) → sum ≤ target → ids ≡ drawn_at (marked_number word number) target
unfolding drawn_at
walked_none {word} {number} w target under =
    sym (first_from_is ids (λ id. ltb target (sum_below (suc id) (marked_number word number))) ids (le_refl ids)
    (λ l. absurd (omega arith))
    (λ j l. le-ltb _ _ (omega (arith, walked_all w, sum_below_more (marked_number word number) (suc j) ids l))))

module _ {word : ℕ} {number : ℕ → ℕ} {b sum id : ℕ} {passed rest : List ℕ} (w : Walked word number b passed (id ∷ rest) sum) where
  at : Split (marked word) 0 ids passed id
  at = here word id passed rest w.whole

  -- the id that comes next is one of the ids
  pub walked_lt : id < ids
  walked_lt = next_lt word id passed rest w.whole

  few : suc (length passed) ≤ ids
  few = omega (arith, marked_few word, ap (length {A = ℕ}) w.whole, length-append passed (id ∷ rest))

  with_it : number id ≤ b → sum + number id ≤ suc (length passed) * b
  with_it bound = omega (arith, w.small, bound, suc-mul (length passed) b)

  -- the sum with its number
  pub walked_small : number id ≤ b → sum + number id ≤ ids * b
  walked_small bound = omega (arith, with_it bound, mul-le-mul_right b few)

  pub walked_turn : number id ≤ b → Walked word number b (passed ++ id ∷ []) rest (sum + number id)
  walked_turn bound = record {
    whole = w.whole ∙ sym (append_assoc passed (id ∷ []) rest);
    small = let more : length (passed ++ id ∷ []) ≡ suc (length passed) = omega (arith, length-append passed (id ∷ [])) in rw more (with_it bound);
    sums = ap (λ (n : ℕ). n + number id) w.sums ∙ sym (sum_by_push number passed id);
  }

  -- what stands below the id that comes next is the sum
  reached : sum ≡ sum_below id (marked_number word number)
  reached =
      let same : at.at ≡ id = omega (arith, at.is) in
      w.sums ∙ ap (sum_by number) (sym at.below) ∙ sums_below word at.at number
      ∙ ap (λ (n : ℕ). sum_below n (marked_number word number)) same

  reached_with : sum + number id ≡ sum_below (suc id) (marked_number word number)
  unfolding sum_below marked_number
  reached_with = rw at.passes (omega (arith, reached))

  -- it is drawn if the sum passes the target with it
  pub walked_drawn : (target : ℕ) → sum ≤ target → target < sum + number id → id ≡ drawn_at (marked_number word number) target
  unfolding drawn_at
  walked_drawn target under over =
      sym (first_from_is ids (λ id. ltb target (sum_below (suc id) (marked_number word number))) id (omega (arith, walked_lt))
      (λ l. lt-ltb _ _ (omega (arith, reached_with)))
      (λ j l. le-ltb _ _ (omega (arith, reached, sum_below_more (marked_number word number) (suc j) id l))))
