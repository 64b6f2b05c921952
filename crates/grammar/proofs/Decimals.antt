-- The decimal digits of a number spell it: they are digits, the first of several is not 0, and their value is the number.
-- By induction on the fuel of `digits`: all but the last digit spell the tenth part, and the last is the remainder.
-- A number has more fuel than it needs: more gives the same digits. Assumes nothing.
use Prim.Native.Nat.{ℕ, zero, suc, ◌+◌, ◌-◌, ◌*◌, ◌/◌, ◌%◌, ◌^◌, ◌≤◌, ◌<◌}
use mathlib.Core.Path.{◌≡◌, refl, ap}
use mathlib.Core.Bool.{Bool, true, false}
use mathlib.Core.List.{List, [], ◌∷◌, ◌++◌, append_assoc}
use native.Mathlib.Omega.{arith}
use native.Mathlib.Nat.{pow-suc, div-lt_iff_lt-mul}
use borrow.Author.Tests.{ltb-true, ltb-false, lt-ltb, le-ltb, le-leb, ne_eqb}
use lib.Dec.{ltb, eqb}
use lib.ListN.{length, length-append}
use Rattle.definitions.specs.Checks.{within}
use Rattle.definitions.proofs.Laws.Tests.{true-false, lt_cases}
use Rattle.grammar.specs.Bytes.{Unbroken}
use Rattle.grammar.specs.Numerals.{is_digit, leading, behind, is_numeral, value_from, digits, decimal}

digit : (d : ℕ) → d < 10 → is_digit (48 + d) ≡ true
unfolding is_digit within
digit d h = rw (le-leb 48 (48 + d) (omega arith), le-leb (48 + d) 57 (omega arith))

abbrev AllDigits : List ℕ → Type 0
AllDigits [] = Unit {0}
AllDigits (d ∷ ds) = (is_digit d ≡ true) × AllDigits ds

-- there is a digit, and the first is not 0
abbrev Leads : List ℕ → Type 0
Leads [] = ⊥
Leads (d ∷ ds) = eqb d 48 ≡ false

-- what begins with no digit
abbrev pub Bare : List ℕ → Type 0
Bare [] = Unit {0}
Bare (b ∷ bs) = is_digit b ≡ false

all_append : (xs ys : List ℕ) → AllDigits xs → AllDigits ys → AllDigits (xs ++ ys)
all_append [] ys a b = b
all_append (x ∷ xs) ys a b = (a.0, all_append xs ys a.1 b)

leads_append : (xs ys : List ℕ) → Leads xs → Leads (xs ++ ys)
leads_append [] ys h = absurd h
leads_append (x ∷ xs) ys h = h

value_append : (n : ℕ) (xs ys : List ℕ) → value_from n (xs ++ ys) ≡ value_from (value_from n xs) ys
unfolding value_from
value_append n [] ys = refl
value_append n (x ∷ xs) ys = value_append (n * 10 + (x - 48)) xs ys

leads_numeral : (ds : List ℕ) → Leads ds → is_numeral ds ≡ true
unfolding is_numeral
leads_numeral [] h = absurd h
leads_numeral (d ∷ []) h = refl
leads_numeral (d ∷ e ∷ ds) h = rw h

-- what holds of the digits of a number, with fuel enough
record Decimal (ds : List ℕ) (n : ℕ) : Type 0 where
  all : AllDigits ds
  leads : 0 < n → Leads ds
  value : value_from 0 ds ≡ n

one_digit : (n : ℕ) → n < 10 → Decimal ((48 + n) ∷ []) n
unfolding value_from
one_digit n k = record { all = (digit n k, tt); leads = λ p. ne_eqb (48 + n) 48 (λ q. omega arith); value = omega arith }

one_more_digit : (ds : List ℕ) (n : ℕ) → 10 ≤ n → Decimal ds (n / 10) → Decimal (ds ++ ((48 + n % 10) ∷ [])) n
unfolding value_from
one_more_digit ds n k d = record {
  all = all_append ds _ d.all (digit (n % 10) (omega arith), tt);
  leads = λ p. leads_append ds _ (d.leads (omega arith));
  value = rw (value_append, d.value) (omega arith);
}

digits_decimal : (fuel n : ℕ) → n < fuel → Decimal (digits fuel n) n
unfolding digits
digits_decimal zero n h = absurd (omega arith)
digits_decimal (suc fuel) n h = go (ltb n 10) refl (λ k. digits_decimal fuel (n / 10) k)
  where
    go : (t : Bool) → ltb n 10 ≡ t → (n / 10 < fuel → Decimal (digits fuel (n / 10)) (n / 10)) → Decimal (digits (suc fuel) n) n
    go true e d = rw (e, digits) (one_digit n (ltb-true n 10 e))
    go false e d = let k = ltb-false n 10 e in rw (e, digits) (one_more_digit (digits fuel (n / 10)) n k (d (omega arith)))

digits-leading : (ds rest : List ℕ) → AllDigits ds → Bare rest → leading (ds ++ rest) ≡ ds
unfolding leading
digits-leading [] [] a b = refl
digits-leading [] (r ∷ rest) a b = rw b
digits-leading (d ∷ ds) rest a b = rw (a.0, digits-leading ds rest a.1 b)

digits-behind : (ds rest : List ℕ) → AllDigits ds → Bare rest → behind (ds ++ rest) ≡ rest
unfolding behind
digits-behind [] [] a b = refl
digits-behind [] (r ∷ rest) a b = rw b
digits-behind (d ∷ ds) rest a b = rw a.0 (digits-behind ds rest a.1 b)

-- where the digits of a number end, that they are a number, and which
pub decimal-leading : (n : ℕ) (rest : List ℕ) → Bare rest → leading (decimal n ++ rest) ≡ decimal n
unfolding decimal
decimal-leading n rest b = digits-leading (decimal n) rest (digits_decimal (suc n) n (omega arith)).all b

pub decimal-behind : (n : ℕ) (rest : List ℕ) → Bare rest → behind (decimal n ++ rest) ≡ rest
unfolding decimal
decimal-behind n rest b = digits-behind (decimal n) rest (digits_decimal (suc n) n (omega arith)).all b

pub decimal_numeral : (n : ℕ) → is_numeral (decimal n) ≡ true
unfolding decimal digits is_numeral
decimal_numeral zero = refl
decimal_numeral (suc n) =
    leads_numeral (decimal (suc n)) ((digits_decimal (suc (suc n)) (suc n) (omega arith)).leads (omega arith))

pub decimal_value : (n : ℕ) → value_from 0 (decimal n) ≡ n
unfolding decimal
decimal_value n = (digits_decimal (suc n) n (omega arith)).value

-- none of the digits is a line feed
digits_unbroken : (ds : List ℕ) → AllDigits ds → Unbroken ds
unfolding is_digit within
digits_unbroken [] a = tt
digits_unbroken (d ∷ ds) a = (λ e. true-false a.0 (rw e), digits_unbroken ds a.1)

pub decimal_unbroken : (n : ℕ) → Unbroken (decimal n)
unfolding decimal
decimal_unbroken n = digits_unbroken (decimal n) (digits_decimal (suc n) n (omega arith)).all

-- ---- digit by digit: those of n / 10 and then the last one, and how many there are

digits_low : (fuel n : ℕ) → n < 10 → digits (suc fuel) n ≡ (48 + n) ∷ []
unfolding digits
digits_low fuel n low = rw (lt-ltb n 10 low, digits)

digits_high : (fuel n : ℕ) → 10 ≤ n → digits (suc fuel) n ≡ digits fuel (n / 10) ++ ((48 + n % 10) ∷ [])
unfolding digits
digits_high fuel n high = rw (le-ltb n 10 high, digits)

-- more fuel than the number changes nothing
enough : (f g n : ℕ) → n < f → n < g → digits f n ≡ digits g n
enough zero g n p q = absurd (omega arith)
enough (suc f) zero n p q = absurd (omega arith)
enough (suc f) (suc g) n p q =
    lt_cases n 10 (λ low. rw (digits_low f n low, digits_low g n low))
    (λ high. rw (digits_high f n high, digits_high g n high, enough f g (n / 10) (omega arith) (omega arith)))

pub decimal_low : (n : ℕ) → n < 10 → decimal n ≡ (48 + n) ∷ []
unfolding decimal
decimal_low n low = digits_low n n low

pub decimal_high : (n : ℕ) → 10 ≤ n → decimal n ≡ decimal (n / 10) ++ ((48 + n % 10) ∷ [])
unfolding decimal
decimal_high n high = rw (digits_high n n high, enough n (suc (n / 10)) (n / 10) (omega arith) (omega arith))

-- two digits at a time: a number below a hundred, and the last two of any other behind those of n / 100
pub decimal_two : (n : ℕ) → 10 ≤ n → n < 100 → decimal n ≡ (48 + n / 10 % 10) ∷ (48 + n % 10) ∷ []
decimal_two n high low =
    rw (decimal_high n high, decimal_low (n / 10) (omega arith))
    (ap (λ (tens : ℕ). (48 + tens) ∷ (48 + n % 10) ∷ []) (omega arith))

pub decimal_hundreds : (n : ℕ) → 100 ≤ n → decimal n ≡ decimal (n / 100) ++ ((48 + n / 10 % 10) ∷ (48 + n % 10) ∷ [])
decimal_hundreds n high =
    let parts : n / 10 / 10 ≡ n / 100 = omega arith in
    rw (decimal_high n (omega arith), decimal_high (n / 10) (omega arith), parts) (append_assoc (decimal (n / 100)) _ _)

pub decimal_some : (n : ℕ) → 1 ≤ length (decimal n)
decimal_some n =
    lt_cases n 10 (λ low. rw (decimal_low n low) (omega arith))
    (λ high. rw (decimal_high n high) (simp length-append (omega arith)))

-- a number below 10 ^ (k + 1) has at most k + 1 digits
pub decimal-length : (k n : ℕ) → n < 10 ^ suc k → length (decimal n) ≤ suc k
decimal-length zero n h = rw (decimal_low n (omega arith)) (omega arith)
decimal-length (suc k) n h =
    lt_cases n 10 (λ low. rw (decimal_low n low) (omega arith))
    (λ high. rw (decimal_high n high)
    (simp length-append (omega (arith, decimal-length k (n / 10) ((div-lt_iff_lt-mul (omega arith)).1 (rw pow-suc at h))))))
