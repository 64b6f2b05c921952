-- The buckets of the marked ids before and after rule 4: "each bucket is refilled where it is kept".
use Rattle.std.specs.Prelude.{ℕ, ◌*◌, ◌<◌, ◌≡◌, ◌≢◌, false, cond, List, length}
use Rattle.definitions.specs.Sizes.{ids}
use Rattle.marks.specs.Marks.{marked}
use Rattle.bucket.specs.declared.Bucket.{Bucket}
use Rattle.bucket.specs.Buckets.{bucket_of, Within, refilled}
use Rattle.tables.specs.Tables.{level_column, term_columns, field, rate_at, burst_at, level_at}

-- the bucket of an id, as the table keeps it
abbrev pub bucket_at : List ℕ → ℕ → Bucket
bucket_at terms id = bucket_of (level_at terms id) (rate_at terms id) (burst_at terms id)

-- The ids without a mark have no bucket: burst and level are 0, and a refill leaves them so.
pub record Refillable (word : ℕ) (terms : List ℕ) : Type 0 where
  pub size : length terms ≡ term_columns * ids
  pub buckets : (id : ℕ) → id < ids → Within (bucket_at terms id)
  pub none : (id : ℕ) → id < ids → marked word id ≡ false → burst_at terms id ≡ 0

-- "the rate is added, up to burst × 1024"
unfoldable pub level_after : List ℕ → ℕ → ℕ
level_after terms id = (refilled (bucket_at terms id)).level

-- the level of each marked id is refilled, and no other number changes
pub record Refilled (word : ℕ) (before after : List ℕ) : Type 0 where
  pub size : length after ≡ length before
  pub others : (m id : ℕ) → id < ids → m ≢ level_column → field m after id ≡ field m before id
  pub levels : (id : ℕ) → id < ids → level_at after id ≡ cond (marked word id) (level_after before id) (level_at before id)
