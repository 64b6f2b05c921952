-- "A bucket whose level runs from 0 to burst × 1024", with "a burst, 1 to 64" and a rate that is a number of 1/1024 shares:
-- what a bucket is before and after one refill.
use Rattle.std.specs.Prelude.{ℕ, ◌+◌, ◌*◌, ◌≤◌, min}
use Rattle.definitions.specs.Sizes.{shares, burst_limit}
use Rattle.bucket.specs.declared.Bucket.{Bucket}

abbrev pub bucket_of : ℕ → ℕ → ℕ → Bucket
bucket_of level rate burst = record { level = level; rate = rate; burst = burst }

-- within the limits no sum of a refill wraps
pub record Within (b : Bucket) : Type 0 where
  pub level : b.level ≤ b.burst * shares
  pub rate : b.rate ≤ shares
  pub burst : b.burst ≤ burst_limit

-- "the rate is added, up to burst × 1024"
abbrev pub level_after : Bucket → ℕ
level_after b = min (b.level + b.rate) (b.burst * shares)

-- the whole bucket after a refill: rate and burst stay
abbrev pub refilled : Bucket → Bucket
refilled b = bucket_of (level_after b) b.rate b.burst
