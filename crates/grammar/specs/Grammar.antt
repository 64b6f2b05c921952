-- The grammar (paper 01, "Script and printout"): "the forms are `open T D S`, `join I (K)`, `change I (K)`, `leave I`,
-- `load I N`, `arrive I (packet H L)` and `tick`, each in round brackets, where K is `private R` (burst 0) or `indifferent R B`."
use Rattle.std.specs.Prelude.{ℕ, cond, List, [], ◌∷◌, ◌++◌, get_or}
use Prim.Native.String.{String}
use Rattle.std.proofs.Math.Option.{Option, none, some}
use Rattle.grammar.specs.declared.Call.{Call}
use Rattle.grammar.specs.declared.Call.TheVariants.{Open, Join, Change, Leave, Load, Arrive, Tick}
use Rattle.definitions.specs.Sizes.{handle_limit, indifferent_kind, private_kind}
use Rattle.grammar.specs.Unread.{Line}
use Rattle.std.specs.Prelude.{Ok, Err}
use Rattle.grammar.specs.declared.Unread.TheVariants.{NoForm, TooLarge}
use Rattle.grammar.specs.Bytes.{bytes}
use Rattle.grammar.specs.Templates.{limits_in, numbers_fit, matched, Phrase}

-- a form of the grammar: how it is written, and the call that its numbers make
abbrev pub Rule : Type 0
Rule = Phrase Call

-- the n-th number of a form
abbrev pub nth : List ℕ → ℕ → ℕ
nth numbers n = get_or numbers n 0

abbrev pub rule : String → (List ℕ → Call) → Rule
rule template call = record { template = bytes template; makes = call }

-- the same forms behind a text
abbrev pub behind_text : List ℕ → List Rule → List Rule
behind_text text [] = []
behind_text text (r ∷ rs) = record { template = text ++ r.template; makes = r.makes } ∷ behind_text text rs

unfoldable pub open_forms : List Rule
open_forms = rule "(open # # #)" (λ n. Open (nth n 0) (nth n 1) (nth n 2)) ∷ []

-- "I (K)", "where K is `private R` (burst 0) or `indifferent R B`", for a call that takes id, kind, rate and burst
unfoldable pub terms_forms : (ℕ → ℕ → ℕ → ℕ → Call) → List Rule
terms_forms call =
    rule "# (private #))" (λ n. call (nth n 0) private_kind (nth n 1) 0)
    ∷ rule "# (indifferent # #))" (λ n. call (nth n 0) indifferent_kind (nth n 1) (nth n 2))
    ∷ []

unfoldable pub join_forms : List Rule
join_forms = behind_text (bytes "(join ") (terms_forms (λ id kind rate burst. Join id kind rate burst))

unfoldable pub change_forms : List Rule
change_forms = behind_text (bytes "(change ") (terms_forms (λ id kind rate burst. Change id kind rate burst))

unfoldable pub leave_forms : List Rule
leave_forms = rule "(leave #)" (λ n. Leave (nth n 0)) ∷ []

unfoldable pub load_forms : List Rule
load_forms = rule "(load # #)" (λ n. Load (nth n 0) (nth n 1)) ∷ []

-- the one form with a handle, its second number
abbrev pub arrival : Rule
arrival = rule "(arrive # (packet @ #))" (λ n. Arrive (nth n 0) (record { handle = nth n 1; length = nth n 2 }))

unfoldable pub arrive_forms : List Rule
arrive_forms = arrival ∷ []

unfoldable pub tick_forms : List Rule
tick_forms = rule "(tick)" (λ n. Tick) ∷ []

unfoldable pub rules : List Rule
rules = open_forms ++ join_forms ++ change_forms ++ leave_forms ++ load_forms ++ arrive_forms ++ tick_forms

-- the edition whose handles go up to a limit
module _ (handles : ℕ) where
  -- "right shape, but a number above 4294967295"; "Number 17 uses that limit for handles and the former one elsewhere" (paper 02,
  -- S-6)
  unfoldable pub sized_in : Rule → List ℕ → Line
  sized_in r numbers = cond (numbers_fit (limits_in handles r.template) numbers) (Ok (r.makes numbers)) (Err TooLarge)

  -- shape is judged before size: the first rule that fits decides, and "not a form of the grammar" is 16
  abbrev pub or_else_in : Rule → Option (List ℕ) → Line → Line
  or_else_in r none line = line
  or_else_in r (some numbers) line = sized_in r numbers

  unfoldable pub parsed_by_in : List Rule → List ℕ → Line
  parsed_by_in [] line = Err NoForm
  parsed_by_in (r ∷ rs) line = or_else_in r (matched r.template line) (parsed_by_in rs line)

  unfoldable pub parsed_in : List ℕ → Line
  parsed_in line = parsed_by_in rules line

-- the present edition
abbrev pub sized : Rule → List ℕ → Line
sized r numbers = sized_in handle_limit r numbers

abbrev pub or_else : Rule → Option (List ℕ) → Line → Line
or_else r found line = or_else_in handle_limit r found line

abbrev pub parsed_by : List Rule → List ℕ → Line
parsed_by rs line = parsed_by_in handle_limit rs line

abbrev pub parsed : List ℕ → Line
parsed line = parsed_in handle_limit line
