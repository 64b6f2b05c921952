-- The calls of a long run (docs/LONG_RUNS.md, "The calls"). "Each call takes four draws, a, b, c and d, in this order,
-- whatever call it is."
use Rattle.std.specs.Prelude.{ℕ, ◌+◌, ◌*◌, ◌/◌, ◌%◌, ◌^◌, Bool, cond, not, ◌==◌, nat_le}
use Rattle.definitions.specs.declared.Packet.{Packet}
use Rattle.grammar.specs.declared.Call.{Call}
use Rattle.grammar.specs.declared.Call.TheVariants.{Open, Join, Change, Leave, Load, Arrive, Tick}

-- one of two numbers, by the upper half of a draw: the first "if b / 65536 is odd", the second "if it is even"
unfoldable pub by_upper : ℕ → ℕ → ℕ → ℕ
by_upper v odd even = cond (v / 65536 % 2 == 1) odd even

-- "b mod 66 if b / 65536 is odd, b mod 8 if it is even"
abbrev pub id_of : ℕ → ℕ
id_of b = by_upper b (b % 66) (b % 8)

-- "A type is c mod 3."
abbrev pub kind_from : ℕ → ℕ
kind_from c = c % 3

-- "A rate is d mod 1025 for id 0, and d mod 17 for any other id."
unfoldable pub rate_of : ℕ → ℕ → ℕ
rate_of id d = cond (id == 0) (d % 1025) (d % 17)

-- "A burst for type 1 is (d / 64) mod 66 if d / 65536 is odd, 64 if it is even; for any other type it is ((d / 64) mod 66) / 65."
unfoldable pub burst_of : ℕ → ℕ → ℕ
burst_of kind d = cond (kind == 1) (by_upper d (d / 64 % 66) 64) (d / 64 % 66 / 65)

-- "threshold b mod 1026 if b / 65536 is odd, 1024 if it is even"
abbrev pub threshold_from : ℕ → ℕ
threshold_from b = by_upper b (b % 1026) 1024

-- "a packet with handle c · 4294967296 + d and length 63 + c mod 1457"
abbrev pub packet_of : ℕ → ℕ → Packet
packet_of c d = record { handle = c * 2 ^ 32 + d; length = 63 + c % 1457 }

-- the table of the calls, by the last k of each row: load, "in a busy time arrive ..; in a quiet time tick" and tick; then all
unfoldable pub traffic_at : Bool → ℕ → ℕ → ℕ → ℕ → Call
traffic_at quiet k id c d =
    cond (nat_le k 1764) (Load id (c % 130))
    (cond (nat_le k 15600) (cond quiet Tick (Arrive id (packet_of c d))) Tick)

unfoldable pub call_at : Bool → ℕ → ℕ → ℕ → ℕ → Call
call_at quiet k b c d =
    cond (k == 0) (Open (threshold_from b) (c % 3) (d % 6 * 316840187))
    (cond (nat_le k 640) (Join (id_of b) (kind_from c) (rate_of (id_of b) d) (burst_of (kind_from c) d))
    (cond (nat_le k 720) (Change (id_of b) (kind_from c) (rate_of (id_of b) d) (burst_of (kind_from c) d))
    (cond (nat_le k 740) (Leave (id_of b)) (traffic_at quiet k (id_of b) c d))))

-- "With k = a mod 16384"
abbrev pub k_of : ℕ → ℕ
k_of a = a % 16384

-- "A call with k = 16380 or above is the last of its time: a busy time ends with it and a quiet one begins, or the other way
-- round."
unfoldable pub quiet_after : ℕ → Bool → Bool
quiet_after k quiet = cond (nat_le 16380 k) (not quiet) quiet
