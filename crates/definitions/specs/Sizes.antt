-- The sizes that the papers fix, each under one name. They are shut: a proof that needs the digits has to say so.
use Rattle.std.specs.Prelude.{ℕ}

-- "calls take unsigned 32-bit numbers"
unfoldable pub number_limit : ℕ
number_limit = 4294967295

-- "Handles go to 18446744073709551615" (paper 02, S-6). The code has it as HANDLE_LIMIT.
unfoldable pub handle_limit : ℕ
handle_limit = 18446744073709551615

-- "Ids run from 0 to 63."
unfoldable pub ids : ℕ
ids = 64

-- "Every id now has 128 places" (paper 02, S-9). The code has it as PLACES; no other definition, proof or line of code names it.
unfoldable pub places : ℕ
places = 128

-- "a pool, a count of dummies from 0 to 255"
unfoldable pub pool_limit : ℕ
pool_limit = 255

-- "A rate is a number of 1/1024 shares of the link." A packet costs as much of a bucket, and a burst is counted in it.
unfoldable pub shares : ℕ
shares = 1024

-- "a burst, 1 to 64"
unfoldable pub burst_limit : ℕ
burst_limit = 64

-- "length outside 64..1518" is refused; private packets are padded to the longest
unfoldable pub shortest : ℕ
shortest = 64

unfoldable pub longest : ℕ
longest = 1518

-- "indifferent (type 1) or private (type 2)"
unfoldable pub indifferent_kind : ℕ
indifferent_kind = 1

unfoldable pub private_kind : ℕ
private_kind = 2

-- "After the eighth throw in one draw the ninth value counts as it is" (paper 02, S-1).
unfoldable pub throws : ℕ
throws = 8

-- "discipline (0: first come first served; 1: weighted draw)"
unfoldable pub first_come : ℕ
first_come = 0

unfoldable pub weighted_draw : ℕ
weighted_draw = 1

-- "counts run to 64 bits and then begin again at zero" (paper 02, S-7): there are so many values of a count
unfoldable pub count_span : ℕ
count_span = 18446744073709551616
