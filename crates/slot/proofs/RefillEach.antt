-- A sweep over all ids that refills one bucket after the other: an id below the one reached has the level after, and the
-- others what they had. At the end the ids without a mark, which have no bucket, are as they were. Assumes nothing.
use Prim.Native.Nat.{ℕ, ◌+◌, ◌*◌, ◌≤◌, ◌<◌, min}
use mathlib.Core.Path.{◌≡◌, refl, ap, ◌∙◌}
use mathlib.Core.Logic.{◌≢◌}
use mathlib.Core.Bool.{Bool, true, false, cond}
use mathlib.Core.List.{List}
use native.Mathlib.Nat.{zero-mul}
use native.Mathlib.Omega.{arith}
use lib.ListN.{length, length-set}
use Rattle.definitions.specs.Sizes.{ids, shares}
use Rattle.definitions.proofs.Laws.Tests.{eqb-cases}
use Rattle.marks.specs.Marks.{marked}
use Rattle.tables.specs.Tables.{rate_column, burst_column, level_column, term_columns, entry, written, field, rate_at, burst_at, level_at}
use Rattle.tables.proofs.Fields.{field-set_same, field-set-field, field-set_id}
use Rattle.bucket.specs.Buckets.{Within}
use Rattle.slot.specs.Buckets.{bucket_at, Refillable, level_after, Refilled}

-- the ids below n are refilled
pub record Sweep (n : ℕ) (before now : List ℕ) : Type 0 where
  pub size : length now ≡ length before
  pub others : (m id : ℕ) → id < ids → m ≢ level_column → field m now id ≡ field m before id
  pub swept : (id : ℕ) → id < ids → id < n → level_at now id ≡ level_after before id
  pub left : (id : ℕ) → id < ids → n ≤ id → level_at now id ≡ level_at before id

pub sweep_start : (before : List ℕ) → Sweep 0 before before
sweep_start before = record {
  size = refl;
  others = λ m id l other. refl;
  swept = λ id l h. absurd (omega arith);
  left = λ id l h. refl;
}

module _ (before now : List ℕ) (id : ℕ) (s : Sweep id before now) (below : id < ids) where
  -- the bucket that the sweep has reached is as it was
  pub reached_level : level_at now id ≡ level_at before id
  reached_level = s.left id below (omega arith)

  pub reached_bucket : Within (bucket_at before id) → Within (bucket_at now id)
  reached_bucket b = record {
    level = rw (reached_level, s.others burst_column id below (λ e. omega arith)) b.level;
    rate = rw (s.others rate_column id below (λ e. omega arith)) b.rate;
    burst = rw (s.others burst_column id below (λ e. omega arith)) b.burst;
  }

  pub sweep_step : length before ≡ term_columns * ids
      → Sweep (id + 1) before (written now level_column id (min (level_at now id + rate_at now id) (burst_at now id * shares)))
  unfolding level_after
  sweep_step long = record {
    size = length-set now _ _ ∙ s.size;
    others = λ m j l other. field-set-field now level_column id v below m j l other ∙ s.others m j l other;
    swept = λ j l h. eqb-cases (λ b. level_at (written now level_column id v) j ≡ level_after before j) j id
        (λ e. rw e (field-set_same now level_column id v room ∙ value))
        (λ ne. field-set_id now level_column id v below level_column j l ne ∙ s.swept j l (omega arith));
    left = λ j l h. field-set_id now level_column id v below level_column j l (λ e. omega arith) ∙ s.left j l (omega arith);
  }
    where
      v : ℕ
      v = min (level_at now id + rate_at now id) (burst_at now id * shares)

      value : v ≡ level_after before id
      value = rw (reached_level, s.others rate_column id below (λ e. omega arith), s.others burst_column id below (λ e. omega arith))

      room : entry level_column id < length now
      room = omega (arith, s.size, long, below)

pub sweep_done : (word : ℕ) (before now : List ℕ) → Refillable word before → Sweep ids before now → Refilled word before now
unfolding level_after
sweep_done word before now r s = record {
  size = s.size;
  others = s.others;
  levels = λ id l. s.swept id l l ∙ go id l (marked word id) refl;
}
  where
    go : (id : ℕ) → id < ids → (b : Bool) → marked word id ≡ b → level_after before id ≡ cond b (level_after before id) (level_at before id)
    go id l true e = refl
    go id l false e =
        let none = r.none id l e in
        let empty : burst_at before id * shares ≡ 0 = ap (λ (n : ℕ). n * shares) none ∙ zero-mul shares in
        omega (arith, (r.buckets id l).level, empty)
