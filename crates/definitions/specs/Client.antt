-- A client: its kind, its rate and its bucket, which it has once (paper 01, "Clients, queues, pools"). Queue and pool are its
-- stock. The bucket is the level, the rate at which it is refilled and the burst that caps it.
use Rattle.std.specs.Prelude.{ℕ, ◌+◌, ◌-◌, ◌*◌, min, Bool, true, false, cond, not, eqb}
use Rattle.definitions.specs.Sizes.{shares, indifferent_kind, private_kind}

-- "An active client is indifferent (type 1) or private (type 2)." A kind is the paper's type.
pub data Kind : Type 0 where
  absent indifferent private : Kind

unfoldable pub kind_of : ℕ → Kind
kind_of kind = cond (eqb kind indifferent_kind) indifferent (cond (eqb kind private_kind) private absent)

abbrev pub is_active : Kind → Bool
is_active absent = false
is_active indifferent = true
is_active private = true

abbrev pub is_indifferent : Kind → Bool
is_indifferent absent = false
is_indifferent indifferent = true
is_indifferent private = false

abbrev pub is_private : Kind → Bool
is_private absent = false
is_private indifferent = false
is_private private = true

abbrev pub same_kind : Kind → Kind → Bool
same_kind absent k = not (is_active k)
same_kind indifferent k = is_indifferent k
same_kind private k = is_private k

pub record Client : Type 0 where
  pub kind : Kind
  pub rate : ℕ
  pub burst : ℕ
  pub level : ℕ

-- an id that is not active has nothing
abbrev pub nobody : Client
nobody = record { kind = absent; rate = 0; burst = 0; level = 0 }

abbrev pub with_level : Client → ℕ → Client
with_level c level = record { kind = c.kind; rate = c.rate; burst = c.burst; level = level }

-- "A bucket now begins at level 0 after a join and after a change from private to indifferent" (paper 02, S-4).
unfoldable pub joining : ℕ → ℕ → ℕ → Client
joining kind rate burst = record { kind = kind_of kind; rate = rate; burst = burst; level = 0 }

-- "If the type stays, .. a level above the new burst × 1024 comes down to it."
unfoldable pub retuned : Client → ℕ → ℕ → Client
retuned c rate burst = record { kind = c.kind; rate = rate; burst = burst; level = min c.level (burst * shares) }

-- If the type differs, the client is as after a join.
unfoldable pub changed : Client → ℕ → ℕ → ℕ → Client
changed c kind rate burst = cond (same_kind c.kind (kind_of kind)) (retuned c rate burst) (joining kind rate burst)

-- Arrive: "For an indifferent client it also takes 1024 from the bucket."
unfoldable pub charged : Client → Client
charged c = with_level c (cond (is_indifferent c.kind) (c.level - shares) c.level)

-- "The rate is added, up to burst × 1024", for an indifferent client.
unfoldable pub refilled : Client → Client
refilled c = with_level c (cond (is_indifferent c.kind) (min (c.level + c.rate) (c.burst * shares)) c.level)
