-- How a call's promise of the counts is kept: by what was entered in the table, which is what the definitions enter for it. Assumes nothing.
use Prim.Native.Nat.{ℕ, ◌<◌}
use mathlib.Core.Path.{◌≡◌, refl, sym, ap, ◌∙◌}
use mathlib.Core.Bool.{Bool, true, false, cond, ◌&&◌}
use lib.Dec.{ltb}
use lib.ListN.{length}
use borrow.Author.Tests.{lt-ltb, ltb-true}
use Rattle.definitions.specs.declared.Answer.TheVariants.{Accepted, Refused}
use Rattle.definitions.specs.Sizes.{ids}
use Rattle.definitions.specs.Client.{is_indifferent}
use Rattle.definitions.specs.Event.{Event}
use Rattle.definitions.specs.History.{client_of, stock_of}
use Rattle.definitions.specs.Counts.{Count, Entry, nothing, zeros, entry_of_accepted, entry_of_refused, entry_of, entered, wrapped_plus}
use Rattle.definitions.specs.Counts.{counts_after}
use Rattle.definitions.proofs.Laws.Tests.{true-false, eqb-cases, and_both}
use Rattle.counts.specs.CountTable.{count_in, for_one, Entered}
use Rattle.tables.specs.declared.Control.{Control}
use Rattle.tables.specs.declared.Answered.{Answered}
use Rattle.tables.specs.declared.Tables.{Tables}
use Rattle.tables.specs.Meaning.{core_of, counts_of}
use Rattle.tables.specs.Invariant.{Valid}
use Rattle.tables.specs.Counting.{Counts}

-- what the definitions enter for a call that got an answer
abbrev pub entry_for : Control → Tables → Event → Answered → ℕ → Entry
entry_for c t call r id =
    entry_of id (is_indifferent (client_of (core_of c t) id).kind) (length (stock_of (core_of c t) id).queue) call r.answer

-- an entry leaves a sheet of zeros as it is
abbrev pub Idle : Entry → Type 0
Idle entry = (count : Count) → entered wrapped_plus entry zeros count ≡ 0

-- it has to where no sheet is kept: while the core is unopened, and for what is no id
abbrev pub IdleOutside : Control → (ℕ → Entry) → Type 0
IdleOutside c entries = (id : ℕ) → c.opened && ltb id ids ≡ false → Idle (entries id)

pub idle_nothing : (c : Control) → IdleOutside c (λ (id : ℕ). nothing)
unfolding entered
idle_nothing c id none count = refl

-- an entry for one id
pub idle-one : (c : Control) (one : ℕ) (entry : Entry) → c.opened ≡ true → one < ids → IdleOutside c (for_one one entry)
unfolding entered
idle-one c one entry o below id none count =
    eqb-cases (λ b. entered wrapped_plus (cond b entry nothing) zeros count ≡ 0) one id
    (λ same. true-false (rw (o, ← same) (lt-ltb one ids below)) none) (λ other. refl)

-- a call that leaves the core opened or unopened, as it was
pub counted : {call : Event} {c : Control} {t u : Tables} {r : Answered} {entries : ℕ → Entry}
    → Valid c t
    → r.control.opened ≡ c.opened
    → Entered entries t.counts u.counts
    → ((id : ℕ) → entries id ≡ entry_for c t call r id)
    → IdleOutside c entries
    → Counts call c t r u
unfolding counts_of counts_after
counted {c = c} {t} {u} {entries = entries} valid same after named idle = record {
  each = λ id count. rw (same, ← named id) (go id count (c.opened && ltb id ids) refl);
}
  where
    go : (id : ℕ) (count : Count) (b : Bool) → c.opened && ltb id ids ≡ b
        → cond b (count_in u.counts id) zeros count ≡ entered wrapped_plus (entries id) (cond b (count_in t.counts id) zeros) count
    go id count true e =
        let both = and_both c.opened (ltb id ids) e in
        after.each (valid both.0).shape.sizes.counts id (ltb-true id ids both.1) count
    go id count false e = sym (idle id e count)

-- and that enters nothing
pub counts_kept : {call : Event} {c : Control} {t u : Tables} {r : Answered}
    → r.control.opened ≡ c.opened
    → u.counts ≡ t.counts
    → ((id : ℕ) → nothing ≡ entry_for c t call r id)
    → Counts call c t r u
unfolding counts_of counts_after entered
counts_kept same kept named = record { each = λ id count. rw (same, kept, ← named id) }

-- a refusal, of which nothing is entered
pub counts_refused : {call : Event} {c : Control} {t u : Tables} {r : Answered} (n : ℕ)
    → r ≡ record { control = c; answer = Refused n }
    → u.counts ≡ t.counts
    → ((id : ℕ) (indifferent : Bool) (waiting : ℕ) → nothing ≡ entry_of_refused id indifferent waiting call n)
    → Counts call c t r u
unfolding entry_of
counts_refused n e kept named = counts_kept (ap (λ (x : Answered). x.control.opened) e) kept (λ id. rw e (named id _ _))

-- an acceptance, of which something is entered for one id
pub counts_accepted : {call : Event} {c d : Control} {t u : Tables} {r : Answered} (one : ℕ) (entry : Entry)
    → Valid c t
    → c.opened ≡ true
    → d.opened ≡ true
    → one < ids
    → r ≡ record { control = d; answer = Accepted }
    → Entered (for_one one entry) t.counts u.counts
    → ((id : ℕ) → for_one one entry id
    ≡ entry_of_accepted id (is_indifferent (client_of (core_of c t) id).kind) (length (stock_of (core_of c t) id).queue) call)
    → Counts call c t r u
unfolding entry_of
counts_accepted {c = c} one entry valid o opened below e after named =
    counted valid (ap (λ (x : Answered). x.control.opened) e ∙ opened ∙ sym o) after (λ id. rw e (named id))
    (idle-one c one entry o below)
