-- A walk over the marked ids that refills one bucket after the other: an id that was passed has the level after, and the others
-- have what they had before. Assumes nothing.
use Rattle.std.proofs.Common.{◌≡◌, ◌≢◌, refl, sym, ap, ◌∙◌, ℕ, ◌<◌, Bool, true, false, cond, ◌||◌, eqb, List, [], ◌∷◌, ◌++◌, append_assoc, length, get_or, zero-add, arith}
use Rattle.std.proofs.Math.ListN.{length-set}
use Rattle.std.proofs.lemmas.List.{append-nil}
use Rattle.std.proofs.lemmas.List.Folds.{list_any-append}
use Rattle.definitions.specs.Sizes.{ids}
use Rattle.definitions.proofs.Laws.Tests.{eqb-cases}
use Rattle.marks.specs.Marks.{marked_ids}
use Rattle.marks.proofs.MarksWalk.{among, among_marked, next_lt, next_new}
use Rattle.tables.specs.Tables.{rate_column, burst_column, level_column, entry, written, field, rate_at, burst_at, level_at}
use Rattle.tables.proofs.Fields.{field-set_same, field-set-field, field-set_id}
use Rattle.bucket.specs.Buckets.{Within}
use Rattle.slot.specs.Buckets.{bucket_at, Refillable, level_after, Refilled}

-- the rates stand first in the table
pub rate_first : (terms : List ℕ) (id : ℕ) → rate_at terms id ≡ get_or terms id 0
unfolding field ids
rate_first terms id = ap (λ (n : ℕ). get_or terms n 0) (zero-add id)

pub record Filling (word : ℕ) (passed left before now : List ℕ) : Type 0 where
  pub whole : marked_ids word ≡ passed ++ left
  pub size : length now ≡ length before
  pub others : (m id : ℕ) → id < ids → m ≢ level_column → field m now id ≡ field m before id
  pub levels : (id : ℕ) → id < ids → level_at now id ≡ cond (among id passed) (level_after before id) (level_at before id)

pub filling_start : (word : ℕ) (before : List ℕ) → Filling word [] (marked_ids word) before before
filling_start word before = record {
  whole = refl;
  size = refl;
  others = λ m id l other. refl;
  levels = λ id l. refl;
}

pub filling_done : {word : ℕ} {passed before now : List ℕ} → Filling word passed [] before now → Refilled word before now
filling_done {word} {passed} {before} {now} f =
    let all : passed ≡ marked_ids word = sym (f.whole ∙ append-nil passed) in
    record {
      size = f.size;
      others = f.others;
      levels = λ id l. f.levels id l
          ∙ ap (λ (b : Bool). cond b (level_after before id) (level_at before id)) (ap (among id) all ∙ among_marked word id l);
    }

-- the id that comes next is one of the ids
pub filling_lt : {word id : ℕ} {passed rest before now : List ℕ} → Filling word passed (id ∷ rest) before now → id < ids
filling_lt {word} {id} {passed} {rest} f = next_lt word id passed rest f.whole

module _ {word id : ℕ} {passed rest before now : List ℕ} (f : Filling word passed (id ∷ rest) before now) (old : Refillable word before) where
  -- the next id has what it had before
  kept : level_at now id ≡ level_at before id
  kept = f.levels id (filling_lt f) ∙ rw (next_new word id passed rest f.whole)

  pub next_bucket : Within (bucket_at now id)
  next_bucket =
      let b = old.buckets id (filling_lt f) in
      let rate : rate_at now id ≡ rate_at before id = f.others rate_column id (filling_lt f) (omega arith) in
      let burst : burst_at now id ≡ burst_at before id = f.others burst_column id (filling_lt f) (omega arith) in
      record {
        level = rw (kept, burst) b.level;
        rate = rw rate b.rate;
        burst = rw burst b.burst;
      }

  pub next_after : level_after now id ≡ level_after before id
  unfolding level_after
  next_after = rw (kept, f.others rate_column id (filling_lt f) (omega arith), f.others burst_column id (filling_lt f) (omega arith))

  room : entry level_column id < length now
  room = omega (arith, filling_lt f, f.size, old.size)

  pub filling_step : (v : ℕ) → v ≡ level_after now id → Filling word (passed ++ id ∷ []) rest before (written now level_column id v)
  filling_step v new = record {
    whole = f.whole ∙ sym (append_assoc passed (id ∷ []) rest);
    size = length-set now _ _ ∙ f.size;
    others = λ m j l other. field-set-field now level_column id v (filling_lt f) m j l other ∙ f.others m j l other;
    levels = λ j l. rw (list_any-append (eqb j) passed (id ∷ [])) (eqb-cases
        (λ b. level_at (written now level_column id v) j
        ≡ cond (among j passed || (b || false)) (level_after before j) (level_at before j)) j id
        (λ e. rw e (field-set_same now level_column id v room ∙ new ∙ next_after ∙ put (among id passed) (level_after before id) (level_at before id)))
        (λ other. field-set_id now level_column id v (filling_lt f) level_column j l other ∙ f.levels j l
        ∙ still (among j passed) (level_after before j) (level_at before j)));
  }
    where
      put : (b : Bool) (x y : ℕ) → x ≡ cond (b || (true || false)) x y
      put true x y = refl
      put false x y = refl

      still : (b : Bool) (x y : ℕ) → cond b x y ≡ cond (b || (false || false)) x y
      still true x y = refl
      still false x y = refl
