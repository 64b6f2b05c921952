-- What is claimed of the fair rates holds of the code: where its answer accepts, the room begins with the rates of the
-- definition. Assumes nothing.
use Prim.Native.Nat.{ℕ, ◌+◌, ◌≤◌, ◌<◌}
use native.Mathlib.Omega.{arith}
use mathlib.Core.Path.{◌≡◌, refl, ap, ◌∙◌}
use mathlib.Core.Bool.{Bool, true, false, ◌&&◌}
use mathlib.Core.List.{List, ◌++◌}
use lib.Dec.{T, leb}
use lib.ListN.{length, take, drop, set, length-set, get_or-append}
use lib.Seq.{sets-eq, take_at, drop_at}
use borrow.Author.Tests.{leb-true}
use Rattle.definitions.specs.declared.Answer.TheVariants.{Accepted, Refused}
use Rattle.definitions.specs.FairRates.{fair_rates, acceptable, fair_answer}
use Rattle.definitions.specs.Fairness.{at, Fair, AreFair, EveryServed, MoreForAll, OwnDemand}
use Rattle.definitions.proofs.Fairness.Claims.{are_fair, every_served, more_for_all_lem, own_demand_lem}
use Rattle.maxmin.specs.Shared.{granted, room_after, Shared}
use Rattle.maxmin.specs.CodeFair.{CodeFair}

-- what an answer that accepts says
pub record Given (threshold : ℕ) (is ds before after : List ℕ) : Type 0 where
  pub ok : T (acceptable threshold is ds)
  pub fair : Fair threshold ds (fair_rates threshold ds)
  pub whole : after ≡ fair_rates threshold ds ++ drop (length ds) before

pub accepted-given : {threshold : ℕ} {is ds before after : List ℕ} → Shared threshold is ds before Accepted after
    → Given threshold is ds before after
unfolding granted room_after AreFair
accepted-given {threshold} {is} {ds} {before} {after} s =
    go (acceptable threshold is ds) refl (leb (length ds) (length before)) refl s.said s.room
  where
    go : (a : Bool)
        → acceptable threshold is ds ≡ a
        → (b : Bool)
        → leb (length ds) (length before) ≡ b
        → Accepted ≡ fair_answer (a && b)
        → after ≡ room_after (a && b) threshold ds before
        → Given threshold is ds before after
    go true e true fits said room =
        let ok : T (acceptable threshold is ds) = rw e tt in
        let fair = are_fair threshold is ds ok in
        let enough : length (fair_rates threshold ds) ≤ length before =
        omega (arith, fair.one_each, leb-true (length ds) (length before) fits)
        in
        let last : 0 + length (fair_rates threshold ds) ≡ length ds = omega (arith, fair.one_each) in
        record {
          ok = ok;
          fair = fair;
          whole = room ∙ sets-eq (fair_rates threshold ds) before 0 (omega arith)
              ∙ ap (λ (n : ℕ). fair_rates threshold ds ++ drop n before) last;
        }
    go true e false fits said room = let no : ◌≡◌ {A = ℕ} 0 1 = cc in absurd (omega arith)
    go false e b fits said room = let no : ◌≡◌ {A = ℕ} 0 1 = cc in absurd (omega arith)

module _ {threshold : ℕ} {is ds before after : List ℕ} (g : Given threshold is ds before after) where
  first_rates : take (length ds) after ≡ fair_rates threshold ds
  first_rates = rw g.whole (take_at (fair_rates threshold ds) (drop (length ds) before) (length ds) g.fair.one_each)

  rest_stands : drop (length ds) after ≡ drop (length ds) before
  rest_stands = rw g.whole (drop_at (fair_rates threshold ds) (drop (length ds) before) (length ds) g.fair.one_each)

  rate_there : (k : ℕ) → k < length ds → at after k ≡ at (fair_rates threshold ds) k
  rate_there k here =
      rw g.whole
      (get_or-append (fair_rates threshold ds) (drop (length ds) before) 0 k (omega (arith, g.fair.one_each)))

refused_22 : {threshold : ℕ} {is ds before : List ℕ} {number : ℕ} {after : List ℕ}
    → Shared threshold is ds before (Refused number) after
    → (number ≡ 22) × (after ≡ before)
unfolding room_after
refused_22 {threshold} {is} {ds} {before} {number} {after} s = go (granted threshold is ds before) s.said s.room
  where
    go : (b : Bool) → Refused number ≡ fair_answer b → after ≡ room_after b threshold ds before → (number ≡ 22) × (after ≡ before)
    go true said room = let no : ◌≡◌ {A = ℕ} 0 1 = cc in absurd (omega arith)
    go false said room = (cc, room)

pub code_fair : CodeFair
unfolding EveryServed MoreForAll OwnDemand
code_fair = record {
  refused = λ threshold is ds before number after s. refused_22 s;
  fair = λ threshold is ds before after s.
      let g = accepted-given s in
      (rw (first_rates g) g.fair, rest_stands g);
  served = λ threshold is ds before after s k here.
      let g = accepted-given s in
      rw (rate_there g k here) (every_served threshold is ds g.ok k here);
  more_for_all = λ threshold larger is ds before after before' after' s s' h k here.
      let g = accepted-given s in
      let g' = accepted-given s' in
      rw (rate_there g k here, rate_there g' k here) (more_for_all_lem threshold larger is ds g.ok g'.ok h k);
  own_demand = λ threshold is ds before after before' after' k more s s' h here.
      let g = accepted-given s in
      let g' = accepted-given s' in
      let there : k < length (set ds k more) = simp length-set here in
      rw (rate_there g k here, rate_there g' k there) (own_demand_lem threshold is ds k more g.ok g'.ok h);
}
