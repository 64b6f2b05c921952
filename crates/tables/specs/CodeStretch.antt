-- What is so of the code in any calls behind any run, each keeping its promise: what an indifferent client's packets get, the
-- bound of paper 01 and S-10 of paper 02, and those of a client that switches, S-4; and what the private side is sure to get, S-14.
-- What is accepted, refused and ticked is read off the answers that the code gave; whom a slot picks, and the clients and what
-- waits at the start, off the core that the tables mean.
use Rattle.std.specs.Prelude.{ℕ, suc, ◌+◌, ◌≤◌, ◌≡◌, T}
use Rattle.definitions.specs.Client.{is_indifferent}
use Rattle.definitions.specs.History.{Trace, client_of}
use Rattle.definitions.specs.Stretch.{ticks, undisturbed, acceptances, tokens, bought}
use Rattle.definitions.specs.Greedy.{Greedy}
use Rattle.definitions.specs.Switching.{bucket_of, refills, top_rate, admissions, affordable}
use Rattle.definitions.specs.Guarantee.{steady, picks, private_active, demand, sure}
use Rattle.tables.specs.declared.Control.{Control}
use Rattle.tables.specs.declared.Tables.{Tables}
use Rattle.tables.specs.Promise.{Meets}
use Rattle.tables.specs.Run.{Run, core_after}
use Rattle.tables.specs.CallsFrom.{CallsFrom}

pub record CodeStretch : Type 0 where
  -- "an indifferent client is accepted at most (level at the start + n × rate) / 1024 times, rounded down"
  pub bound : (run : Run) (id : ℕ) {t : Trace} {c : Control} {u : Tables}
      → CallsFrom Meets run.control run.tables t c u
      → T (is_indifferent (client_of (core_after run) id).kind)
      → T (undisturbed id t)
      → acceptances id t ≤ bought (client_of (core_after run) id) (ticks t)
  -- "the number accepted over n ticks is exactly (level at the start + n × rate) / 1024, rounded down"
  pub greedy : (run : Run) (id : ℕ) {t : Trace} {c : Control} {u : Tables}
      → CallsFrom Meets run.control run.tables t c u
      → Greedy id (client_of (core_after run) id) t
      → acceptances id t ≡ bought (client_of (core_after run) id) (ticks t)
  -- whatever is called, no more of a client's packets are accepted while it is indifferent than its spells pay for
  pub spells : (run : Run) (id : ℕ) {t : Trace} {c : Control} {u : Tables}
      → CallsFrom Meets run.control run.tables t c u
      → admissions id (client_of (core_after run) id) t ≤ affordable id (client_of (core_after run) id) t
  -- and than the ticks that it spent so bring at its largest rate, beside what was in its bucket at the start
  pub switching : (run : Run) (id : ℕ) {t : Trace} {c : Control} {u : Tables}
      → CallsFrom Meets run.control run.tables t c u
      → admissions id (client_of (core_after run) id) t
      ≤ tokens (bucket_of (client_of (core_after run) id)) (top_rate id (client_of (core_after run) id) t)
      (refills id (client_of (core_after run) id) t)
  -- "private clients together are picked at least n minus .., provided one private client is active"
  pub guarantee : (run : Run) {t : Trace} {c : Control} {u : Tables}
      → CallsFrom Meets run.control run.tables t c u
      → T (private_active (core_after run))
      → T (steady t)
      → ticks t ≤ picks t + demand (core_after run) (ticks t)
  -- and with a tick less in what is bought
  pub sharper : (run : Run) {t : Trace} {c : Control} {u : Tables}
      → CallsFrom Meets run.control run.tables t c u
      → T (private_active (core_after run))
      → T (steady t)
      → (m : ℕ)
      → ticks t ≡ suc m
      → suc m ≤ picks t + demand (core_after run) m
  -- so at least the figure for any number of ticks up to those, private client or not
  pub figure : (run : Run) {t : Trace} {c : Control} {u : Tables}
      → CallsFrom Meets run.control run.tables t c u
      → T (steady t)
      → (m : ℕ)
      → m ≤ ticks t
      → sure (core_after run) m ≤ picks t
