-- Stores in the table of counts: two entries are one only if they are the same count of the same id, so that a store changes one count
-- alone. Assumes nothing.
use Rattle.std.proofs.Common.{◌≡◌, ℕ, ◌*◌, ◌<◌, Bool, true, false, cond, eqb, ◌≢◌, List, length, get_or, set, refl, ap, ◌∙◌, arith, lit<, length-set, get_or-set_other, get_or-set_same}
use Rattle.definitions.specs.Sizes.{ids}
use Rattle.definitions.specs.Counts.{Count, count_accepted, count_sent, count14, count15, count_emptied, count_dummies, column}
use Rattle.definitions.specs.Counts.{Entry, nothing, more, anew, entered, wrapped_plus}
use Rattle.definitions.proofs.Laws.Tests.{eqb-cases}
use Rattle.counts.specs.CountTable.{count_columns, count_entry, count_in, for_one, Entered}

pub column_below : (count : Count) → column count < count_columns
unfolding column
column_below count_accepted = omega arith
column_below count_sent = omega arith
column_below count14 = omega arith
column_below count15 = omega arith
column_below count_emptied = omega arith
column_below count_dummies = omega arith

-- where nothing is entered, the sheets stay
pub entered_nothing : (table : List ℕ) → Entered (λ (id : ℕ). nothing) table table
unfolding entered
entered_nothing table = record { size = refl; each = λ full id below count. refl }

-- the same table by other words for what is entered
pub entered_as : {entries others : ℕ → Entry} {before after : List ℕ} → ((id : ℕ) → entries id ≡ others id)
    → Entered entries before after
    → Entered others before after
entered_as {before = before} same e = record {
  size = e.size;
  each = λ full id below count. e.each full id below count ∙ ap (λ (x : Entry). entered wrapped_plus x (count_in before id) count) (same id);
}

-- every count of every id after a store
module _ (table : List ℕ) (id k v : ℕ) (below : id < ids) (narrow : k < count_columns) (full : length table ≡ count_columns * ids)
    (j : ℕ) (l : j < ids) (count : Count)
  where
    elsewhere : count_entry j (column count) ≢ count_entry id k → count_in (set table (count_entry id k) v) j count ≡ count_in table j count
    unfolding count_in
    elsewhere other = get_or-set_other table (count_entry id k) (count_entry j (column count)) v 0 other

    own : id ≡ j → column count ≡ k → count_in (set table (count_entry id k) v) j count ≡ v
    unfolding count_in ids
    own same e = rw (← same, e) (get_or-set_same table (count_entry id k) v 0 (omega arith))

    pub count_stored : count_in (set table (count_entry id k) v) j count
        ≡ cond (eqb id j) (cond (eqb (column count) k) v (count_in table j count)) (count_in table j count)
    count_stored =
        let narrow2 = column_below count in
        eqb-cases
        (λ b. count_in (set table (count_entry id k) v) j count
        ≡ cond b (cond (eqb (column count) k) v (count_in table j count)) (count_in table j count))
        id j
        (λ same.
        eqb-cases (λ b. count_in (set table (count_entry id k) v) j count ≡ cond b v (count_in table j count)) (column count) k (own same)
        (λ other. elsewhere (λ e. other (omega arith))))
        (λ other. elsewhere (λ e. other (omega arith)))

module _ (table : List ℕ) (id : ℕ) (below : id < ids) where
  -- one count of the id, raised
  module _ (k n : ℕ) (narrow : k < count_columns) (count : Count) (named : column count ≡ k) where
    abbrev raised : ℕ
    raised = wrapped_plus (get_or table (count_entry id k) 0) n

    raised_each : (j : ℕ) (c : Count)
        → cond (eqb id j) (cond (eqb (column c) k) raised (count_in table j c)) (count_in table j c)
        ≡ entered wrapped_plus (for_one id (more count n) j) (count_in table j) c
    unfolding entered count_in
    raised_each j c =
        eqb-cases
        (λ b. cond b (cond (eqb (column c) k) raised (count_in table j c)) (count_in table j c)
        ≡ entered wrapped_plus (cond b (more count n) nothing) (count_in table j) c)
        id j
        (λ same. rw named
        (eqb-cases (λ b. cond b raised (count_in table j c) ≡ cond b (wrapped_plus (count_in table j c) n) (count_in table j c)) (column c) k
        (λ e. rw (same, e))
        (λ other. refl)))
        (λ other. refl)

    pub entered_raised : Entered (for_one id (more count n)) table
        (set table (count_entry id k) (wrapped_plus (get_or table (count_entry id k) 0) n))
    entered_raised = record {
      size = length-set table _ _;
      each = λ full j l c. count_stored table id k raised below narrow full j l c ∙ raised_each j c;
    }

  -- and all six begun anew
  abbrev zeroed : List ℕ → ℕ → List ℕ
  zeroed counts k = set counts (count_entry id k) 0

  abbrev then : Bool → ℕ → Count → ℕ → ℕ
  then own k c was = cond own (cond (eqb (column c) k) 0 was) was

  module _ (j : ℕ) (l : j < ids) (c : Count) where
    -- a count after one store more, by what it was
    stepped : (counts : List ℕ) (k was : ℕ) → k < count_columns → length counts ≡ count_columns * ids → count_in counts j c ≡ was
        → count_in (zeroed counts k) j c ≡ then (eqb id j) k c was
    stepped counts k was narrow full e = rw (← e) (count_stored counts id k 0 below narrow full j l c)

  pub entered_anew : Entered (for_one id anew) table (zeroed (zeroed (zeroed (zeroed (zeroed (zeroed table 0) 1) 2) 3) 4) 5)
  unfolding entered column
  entered_anew = record {
    size = simp length-set;
    each = λ full j l c.
        stepped j l c _ 5 _ (lit< tt) (simp length-set full)
        (stepped j l c _ 4 _ (lit< tt) (simp length-set full)
        (stepped j l c _ 3 _ (lit< tt) (simp length-set full)
        (stepped j l c _ 2 _ (lit< tt) (simp length-set full)
        (stepped j l c _ 1 _ (lit< tt) (simp length-set full)
        (stepped j l c table 0 (count_in table j c) (lit< tt) full refl)))))
        ∙ go j (eqb id j) c;
  }
    where
      go : (j : ℕ) (own : Bool) (c : Count)
          → then own 5 c (then own 4 c (then own 3 c (then own 2 c (then own 1 c (then own 0 c (count_in table j c))))))
          ≡ entered wrapped_plus (cond own anew nothing) (count_in table j) c
      go j false c = refl
      go j true count_accepted = refl
      go j true count_sent = refl
      go j true count14 = refl
      go j true count15 = refl
      go j true count_emptied = refl
      go j true count_dummies = refl
