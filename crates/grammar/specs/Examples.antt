-- Examples beside the claims: the printout that paper 01 prints ("Script and printout") as S-4 of paper 02 amends it, one of bad
-- lines, handles and other numbers at their limits (S-6), texts of demands (S-8), and two texts of which demand 3 on paper
-- speaks, with what it compares there and what it does not, and with their sheets (S-5).
use Rattle.std.specs.Prelude.{ℕ, ◌≡◌, ◌≢◌, true, false, ◌&&◌, List, [], ◌∷◌, ◌++◌, replicate}
use Rattle.definitions.specs.Sameness.{indifferent_at, names, departure}
use Rattle.grammar.specs.declared.Audience.TheVariants.{Caller, Operator, Tenant}
use Rattle.grammar.specs.Bytes.{bytes, line_feed, text_limit}
use Rattle.grammar.specs.Printout.{printout_in, printout_for, printout}
use Rattle.grammar.specs.HandleEditions.{longer_from}
use Rattle.grammar.specs.Lines.{lines}
use Rattle.grammar.specs.FairSheet.{fair_printout}
use Rattle.grammar.specs.Sheet.{sheet, kept_of, printed_of}

unfoldable pub PaperPrintout : Type 0
PaperPrintout =
    printout
    (bytes "(open 1024 0 1)\n(join 2 (private 300))\n(join 5 (private 100))\n(join 3 (indifferent 200 1))\n(load 2 1)\n(arrive 2 (packet 17 64))\n(arrive 3 (packet 90 1518))\n(arrive 3 (packet 91 64))\n(tick)\n(tick)\n(tick)\n(tick)\n(arrive 5 (packet 40 63))\n")
    ≡ bytes "(ok)\n(ok)\n(ok)\n(ok)\n(ok)\n(ok)\n(refused 15)\n(refused 15)\n(slot (idle 5))\n(slot (real 2 17 64 1454))\n(slot (dummy 2))\n(slot (idle 2))\n(refused 13)\n"

-- bad lines of several kinds
unfoldable pub BadPrintout : Type 0
BadPrintout =
    printout
    (bytes "\n(tick )\n(tick)\n(open 01 0 1)\n(open 4294967296 0 1)\n(open 1024 0 0)\n(leave 4294967295)\n(open 99999999999999999999 0 01)\n(minute 3)\n(tick)")
    ≡ bytes "(refused 16)\n(refused 16)\n(refused 19)\n(refused 16)\n(refused 17)\n(refused 3)\n(refused 19)\n(refused 16)\n(refused 16)\n(refused 16)\n"

-- handles at both sides of the limit of 32 bits and of that of 64 (paper 02, S-6), and one that is 5 beyond the latter
abbrev pub handles_text : List ℕ
handles_text =
    bytes "(open 1024 0 1)\n(join 2 (private 300))\n(arrive 2 (packet 4294967295 64))\n(arrive 2 (packet 4294967296 64))\n"
    ++ bytes "(arrive 2 (packet 18446744073709551615 1518))\n(arrive 2 (packet 18446744073709551616 64))\n"
    ++ bytes "(arrive 2 (packet 18446744073709551621 64))\n(tick)\n(tick)\n(tick)\n(tick)\n"

-- the same without a longer handle than the older edition takes
abbrev pub short_text : List ℕ
short_text = bytes "(open 1024 0 1)\n(join 2 (private 300))\n(arrive 2 (packet 4294967295 64))\n(tick)\n"

-- The two editions that S-6 speaks of.
pub record HandlePrintouts : Type 0 where
  pub newer : printout_in 18446744073709551615 Caller handles_text
      ≡ bytes "(ok)\n(ok)\n(ok)\n(ok)\n(ok)\n(refused 17)\n(refused 17)\n(slot (real 2 4294967295 64 1454))\n"
      ++ bytes "(slot (real 2 4294967296 64 1454))\n(slot (real 2 18446744073709551615 1518 0))\n(slot (idle 2))\n"
  pub older : printout_in 4294967295 Caller handles_text
      ≡ bytes "(ok)\n(ok)\n(ok)\n(refused 17)\n(refused 17)\n(refused 17)\n(refused 17)\n(slot (real 2 4294967295 64 1454))\n"
      ++ bytes "(slot (idle 2))\n(slot (idle 2))\n(slot (idle 2))\n"
  pub longer_handles : longer_from 4294967295 [] handles_text ≡ true
  pub short_handles : longer_from 4294967295 [] short_text ≡ false
  pub short_alike : printout_in 4294967295 Caller short_text ≡ printout_in 18446744073709551615 Caller short_text

-- every other number of a call at both sides of 32 bits, numbers of more digits than 64 bits have, and shape before size
unfoldable pub NumberPrintout : Type 0
NumberPrintout =
    printout
    (bytes "(open 4294967295 0 1)\n(open 4294967296 0 1)\n(open 1024 4294967295 1)\n(open 1024 4294967296 1)\n"
    ++ bytes "(open 1024 0 4294967296)\n(open 1024 0 4294967295)\n(join 4294967295 (private 1))\n"
    ++ bytes "(join 4294967296 (private 1))\n(join 2 (private 4294967295))\n(join 2 (private 4294967296))\n"
    ++ bytes "(join 2 (indifferent 4294967295 1))\n(join 2 (indifferent 4294967296 1))\n"
    ++ bytes "(join 2 (indifferent 1 4294967295))\n(join 2 (indifferent 1 4294967296))\n(join 2 (private 1))\n"
    ++ bytes "(change 4294967295 (private 1))\n(change 4294967296 (private 1))\n(change 2 (private 4294967295))\n"
    ++ bytes "(change 2 (private 4294967296))\n(change 2 (indifferent 4294967295 1))\n"
    ++ bytes "(change 2 (indifferent 4294967296 1))\n(change 2 (indifferent 1 4294967295))\n"
    ++ bytes "(change 2 (indifferent 1 4294967296))\n(leave 4294967295)\n(leave 4294967296)\n(load 4294967295 1)\n"
    ++ bytes "(load 4294967296 1)\n(load 2 4294967295)\n(load 2 4294967296)\n(arrive 4294967295 (packet 1 64))\n"
    ++ bytes "(arrive 4294967296 (packet 1 64))\n(arrive 2 (packet 1 4294967295))\n(arrive 2 (packet 1 4294967296))\n"
    ++ bytes "(load 4294967298 1)\n(arrive 2 (packet 18446744073709551615 18446744073709551615))\n"
    ++ bytes "(arrive 2 (packet 99999999999999999999 64))\n"
    ++ bytes "(arrive 2 (packet 340282366920938463463374607431768211461 64))\n"
    ++ bytes "(arrive 2 (packet 18446744073709551616 064))\n(arrive 2 (packet 018446744073709551615 64))\n"
    ++ bytes "(arrive 2 (packet 18446744073709551616 64)\n")
    ≡ bytes "(refused 1)\n(refused 17)\n(refused 2)\n(refused 17)\n(refused 17)\n(ok)\n(refused 4)\n(refused 17)\n"
    ++ bytes "(refused 8)\n(refused 17)\n(refused 8)\n(refused 17)\n(refused 9)\n(refused 17)\n(ok)\n(refused 4)\n"
    ++ bytes "(refused 17)\n(refused 8)\n(refused 17)\n(refused 8)\n(refused 17)\n(refused 9)\n(refused 17)\n(refused 4)\n"
    ++ bytes "(refused 17)\n(refused 4)\n(refused 17)\n(refused 12)\n(refused 17)\n(refused 4)\n(refused 17)\n"
    ++ bytes "(refused 13)\n(refused 17)\n(refused 17)\n(refused 17)\n(refused 17)\n(refused 17)\n(refused 16)\n"
    ++ bytes "(refused 16)\n(refused 16)\n"

-- texts of demands: their rates, no demands, and each number, shape before size and size before 22
pub record FairPrintouts : Type 0 where
  pub rates : fair_printout (bytes "(threshold 10)\n(demand 2 8)\n(demand 5 8)\n(demand 9 1)\n")
      ≡ bytes "(rate 2 5)\n(rate 5 4)\n(rate 9 1)\n"
  pub no_demands : fair_printout (bytes "(threshold 10)\n") ≡ []
  pub no_threshold : fair_printout [] ≡ bytes "(refused 16)\n"
  pub not_closed : fair_printout (bytes "(threshold 10)\n(demand 2 8)") ≡ bytes "(refused 16)\n"
  pub shape_first : fair_printout (bytes "(threshold 4294967296)\n(demand 2)\n") ≡ bytes "(refused 16)\n"
  pub size_next : fair_printout (bytes "(threshold 0)\n(demand 2 4294967296)\n") ≡ bytes "(refused 17)\n"
  pub unfair : fair_printout (bytes "(threshold 0)\n(demand 2 4294967295)\n") ≡ bytes "(refused 22)\n"

-- Client 2 is private, and has a call in the one text and none in the other. Client 3 is indifferent, and two ticks bring it a
-- token.
abbrev pub opening : List ℕ
opening = bytes "(open 1024 0 1)\n(join 2 (private 300))\n(join 5 (private 100))\n(join 3 (indifferent 512 1))\n"

abbrev pub slots : List ℕ
slots = bytes "(arrive 3 (packet 90 1518))\n(tick)\n(tick)\n(arrive 3 (packet 90 1518))\n(tick)\n"

abbrev pub call : List ℕ
call = opening ++ bytes "(arrive 2 (packet 17 64))\n" ++ slots

abbrev pub silence : List ℕ
silence = opening ++ slots

-- What is compared of them for client 5. The lines of client 2's slot differ, and are not compared.
pub record CallAndSilence : Type 0 where
  pub kept_alike : kept_of 5 (lines call) ≡ kept_of 5 (lines silence)
  pub call_printed : printout call
      ≡ bytes "(ok)\n(ok)\n(ok)\n(ok)\n(ok)\n(refused 15)\n"
      ++ bytes "(slot (idle 5))\n(slot (real 2 17 64 1454))\n(ok)\n(slot (real 3 90 1518 0))\n"
  pub silence_printed : printout silence
      ≡ bytes "(ok)\n(ok)\n(ok)\n(ok)\n(refused 15)\n"
      ++ bytes "(slot (idle 5))\n(slot (idle 2))\n(ok)\n(slot (real 3 90 1518 0))\n"
  pub chosen_calls : printed_of 5 (λ t d. names 5 d.event) (sheet call (printout call)) ≡ (2, bytes "(ok)\n") ∷ []
  pub chosen_slots : printed_of 5 (λ t d. departure 5 d) (sheet call (printout call)) ≡ (5, bytes "(slot (idle 5))\n") ∷ []
  pub indifferent_calls : printed_of 5 (λ t d. indifferent_at 3 t && names 3 d.event) (sheet call (printout call))
      ≡ (4, bytes "(refused 15)\n") ∷ (7, bytes "(ok)\n") ∷ []
  pub indifferent_slots : printed_of 5 (λ t d. indifferent_at 3 t && departure 3 d) (sheet call (printout call))
      ≡ (8, bytes "(slot (real 3 90 1518 0))\n") ∷ []
  pub neighbour_in_call : printed_of 5 (λ t d. departure 2 d) (sheet call (printout call))
      ≡ (6, bytes "(slot (real 2 17 64 1454))\n") ∷ []
  pub neighbour_in_silence : printed_of 5 (λ t d. departure 2 d) (sheet silence (printout silence))
      ≡ (6, bytes "(slot (idle 2))\n") ∷ []

-- Their sheets (paper 02, S-5). Client 5's is the same with client 2's call and without it; the operator's, which is for the operator
-- alone, is not.
pub record SheetsOfTwo : Type 0 where
  pub tenant_in_call : printout_for (Tenant 5) call
      ≡ bytes "Client 5 had nothing to send, drawn at target 369 of a rate sum of 400.\n"
      ++ bytes "The slot went to another private client.\nThe slot went to an indifferent client.\n"
  pub tenant_alike : printout_for (Tenant 5) call ≡ printout_for (Tenant 5) silence
  pub operator_in_call : printout_for Operator call
      ≡ bytes "Client 5 had nothing to send, drawn at target 369 of a rate sum of 400.\n"
      ++ bytes "Client 2 sent packet 17 of 64 bytes with 1454 bytes of padding, drawn at target 289 of a rate sum of 400.\n"
      ++ bytes "Client 3 sent packet 90 of 1518 bytes with 0 bytes of padding, first come first served.\n"
  pub operator_in_silence : printout_for Operator silence
      ≡ bytes "Client 5 had nothing to send, drawn at target 369 of a rate sum of 400.\n"
      ++ bytes "Client 2 had nothing to send, drawn at target 289 of a rate sum of 400.\n"
      ++ bytes "Client 3 sent packet 90 of 1518 bytes with 0 bytes of padding, first come first served.\n"
  pub operators_differ : printout_for Operator call ≢ printout_for Operator silence

-- Client 2 before any open, not active, indifferent, private, and gone; bytes that are no line, and a tick that is not closed.
abbrev pub changing : List ℕ
changing =
    bytes "(tick)\n(open 1024 1 1)\n(tick)\n(join 2 (indifferent 1024 1))\n(tick)\n(arrive 2 (packet 7 100))\n(tick)\nstray\n"
    ++ bytes "(change 2 (private 300))\n(load 2 1)\n(tick)\n(leave 2)\n(tick)\n(tick)"

pub record SheetsOfChanges : Type 0 where
  pub operator : printout_for Operator changing
      ≡ bytes "(refused 19)\nNobody had the slot.\nNobody had the slot.\n"
      ++ bytes "Client 2 sent packet 7 of 100 bytes with 0 bytes of padding, drawn at target 33 of a rate sum of 1024.\n"
      ++ bytes "Client 2 sent a dummy packet, drawn at target 289 of a rate sum of 300.\nNobody had the slot.\n"
  pub tenant : printout_for (Tenant 2) changing
      ≡ bytes "(refused 19)\n(refused 5)\n(refused 11)\n(refused 11)\n"
      ++ bytes "Client 2 sent a dummy packet, drawn at target 289 of a rate sum of 300.\n(refused 5)\n"
  pub no_client : printout_for (Tenant 64) changing
      ≡ bytes "(refused 19)\n(refused 4)\n(refused 4)\n(refused 4)\n(refused 4)\n(refused 4)\n"

-- Why the texts have at most 60,000 bytes: a longer one may keep the same calls, and prints 18 alone.
abbrev pub too_long : List ℕ
too_long = silence ++ replicate text_limit line_feed

pub record LimitNeeded : Type 0 where
  pub kept_alike : kept_of 5 (lines too_long) ≡ kept_of 5 (lines silence)
  pub too_long_printed : printout too_long ≡ bytes "(refused 18)\n"
