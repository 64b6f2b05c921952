-- Fair rates are determined. Of two lists with the same sum that differ, each has more somewhere; and who has less in one is
-- not served there, so the other's more is a share, for which the order decides. Assumes nothing.
use Prim.Native.Nat.{ℕ, zero, suc, ◌+◌, ◌≤◌, ◌<◌}
use mathlib.Core.Path.{◌≡◌, sym, ap, ◌∙◌}
use mathlib.Core.Logic.{◌⊎◌, inl, inr}
use mathlib.Core.List.{List, [], ◌∷◌}
use native.Mathlib.Nat.{suc_inj}
use native.Mathlib.Omega.{arith}
use lib.ListN.{length, get_or}
use lib.Seq.{ext_get_or}
use Rattle.definitions.specs.Fairness.{sum, Fair, OnlyOne}
use Rattle.definitions.proofs.Laws.Tests.{lt_cases}

-- a place at which one list has less than another
pub record Less (a b : List ℕ) : Type 0 where
  pub place : ℕ
  pub less : get_or a place 0 < get_or b place 0

-- of two lists one has less somewhere, or the other has less nowhere
less_or : (a b : List ℕ) → length a ≡ length b → Less a b ⊎ ((k : ℕ) → get_or b k 0 ≤ get_or a k 0)
less_or [] [] same = inr (λ k. omega arith)
less_or [] (y ∷ b) same = absurd (omega arith)
less_or (x ∷ a) [] same = absurd (omega arith)
less_or (x ∷ a) (y ∷ b) same =
    lt_cases x y
    (λ less. inl (record { place = 0; less = less }))
    (λ more. go more (less_or a b (suc_inj same)))
  where
    go : y ≤ x
        → Less a b ⊎ ((k : ℕ) → get_or b k 0 ≤ get_or a k 0)
        → Less (x ∷ a) (y ∷ b) ⊎ ((k : ℕ) → get_or (y ∷ b) k 0 ≤ get_or (x ∷ a) k 0)
    go more (inl l) = inl (record { place = suc l.place; less = l.less })
    go more (inr all) = inr (λ k. at k)
      where
        at : (k : ℕ) → get_or (y ∷ b) k 0 ≤ get_or (x ∷ a) k 0
        at zero = more
        at (suc k) = all k

-- a list that has more nowhere comes to no more, and to less where it has less somewhere
sum_least : (a b : List ℕ) → length a ≡ length b → ((k : ℕ) → get_or a k 0 ≤ get_or b k 0) → sum a ≤ sum b
unfolding sum
sum_least [] [] same least = omega arith
sum_least [] (y ∷ b) same least = absurd (omega arith)
sum_least (x ∷ a) [] same least = absurd (omega arith)
sum_least (x ∷ a) (y ∷ b) same least = omega (arith, least 0, sum_least a b (suc_inj same) (λ k. least (suc k)))

sum_less : (a b : List ℕ) → length a ≡ length b → ((k : ℕ) → get_or a k 0 ≤ get_or b k 0)
    → (k : ℕ) → get_or a k 0 < get_or b k 0 → sum a < sum b
unfolding sum
sum_less [] [] same least k less = absurd (omega arith)
sum_less [] (y ∷ b) same least k less = absurd (omega arith)
sum_less (x ∷ a) [] same least k less = absurd (omega arith)
sum_less (x ∷ a) (y ∷ b) same least zero less = omega (arith, sum_least a b (suc_inj same) (λ k. least (suc k)))
sum_less (x ∷ a) (y ∷ b) same least (suc k) less =
    omega (arith, least 0, sum_less a b (suc_inj same) (λ j. least (suc j)) k less)

-- so one with less somewhere, and no less in all, has more elsewhere
elsewhere : (a b : List ℕ) → length a ≡ length b → sum b ≤ sum a → (k : ℕ) → get_or a k 0 < get_or b k 0 → Less b a
elsewhere a b same all k less = go (less_or b a (sym same))
  where
    go : Less b a ⊎ ((j : ℕ) → get_or a j 0 ≤ get_or b j 0) → Less b a
    go (inl l) = l
    go (inr least) = absurd (omega (arith, sum_less a b same least k less))

-- two lists are the same where neither has less anywhere
neither : (a b : List ℕ) → length a ≡ length b
    → ((k : ℕ) → get_or a k 0 < get_or b k 0 → ⊥)
    → ((k : ℕ) → get_or b k 0 < get_or a k 0 → ⊥)
    → a ≡ b
neither a b same below above =
    ext_get_or 0 a b same
    (λ k here.
    lt_cases (get_or a k 0) (get_or b k 0)
    (λ less. absurd (below k less))
    (λ least. lt_cases (get_or b k 0) (get_or a k 0) (λ more. absurd (above k more)) (λ most. omega arith)))

module _ {threshold : ℕ} {ds a b : List ℕ} (f : Fair threshold ds a) (g : Fair threshold ds b) where
  lengths : length a ≡ length b
  lengths = f.one_each ∙ sym g.one_each

  -- Where the first has less and, elsewhere, the second, both are short of their demands, and each is within a share of the
  -- other there: so one of them breaks the order.
  crossed : (k j : ℕ) → get_or a k 0 < get_or b k 0 → get_or b j 0 < get_or a j 0 → ⊥
  crossed k j less more =
      let first : get_or a j 0 ≤ get_or a k 0 + 1 = f.one_share_less k j (omega (arith, g.none_exceeded k)) in
      let second : get_or b k 0 ≤ get_or b j 0 + 1 = g.one_share_less j k (omega (arith, f.none_exceeded j)) in
      lt_cases k j
      (λ before. omega (arith, f.earlier_first k j before (omega (arith, g.none_exceeded k))))
      (λ behind.
      lt_cases j k
      (λ before. omega (arith, g.earlier_first j k before (omega (arith, f.none_exceeded j))))
      (λ least.
      let same : j ≡ k = omega arith in
      omega (arith, ap (λ (n : ℕ). get_or a n 0) same, ap (λ (n : ℕ). get_or b n 0) same)))

  not_less : sum a ≡ sum b → (k : ℕ) → get_or a k 0 < get_or b k 0 → ⊥
  not_less sums k less =
      let l = elsewhere a b lengths (omega arith) k less in
      crossed k l.place less l.less

same_sum : {threshold : ℕ} {ds a b : List ℕ} → Fair threshold ds a → Fair threshold ds b → sum a ≡ sum b → a ≡ b
same_sum {a = a} {b} f g sums = neither a b (lengths f g) (not_less f g sums) (not_less g f (sym sums))

-- who uses a threshold up that all demands fit meets them all
all_met : {threshold : ℕ} {ds a : List ℕ} → Fair threshold ds a → sum a ≡ threshold → sum ds ≤ threshold → a ≡ ds
all_met {ds = ds} {a} f used fit =
    neither a ds f.one_each
    (λ k less. omega (arith, sum_less a ds f.one_each f.none_exceeded k less))
    (λ k more. omega (arith, f.none_exceeded k))

pub only_one : OnlyOne
unfolding OnlyOne
only_one threshold ds a b f g = go f.used_up g.used_up
  where
    go : (sum a ≡ threshold) ⊎ (a ≡ ds) → (sum b ≡ threshold) ⊎ (b ≡ ds) → a ≡ b
    go (inl p) (inl q) = same_sum f g (p ∙ sym q)
    go (inl p) (inr q) = all_met f p (rw (sym q) g.within_threshold) ∙ sym q
    go (inr p) (inl q) = p ∙ sym (all_met g q (rw (sym p) f.within_threshold))
    go (inr p) (inr q) = p ∙ sym q
