-- The cases marked P (paper 01, "Cases marked P"; P4 as paper 02's S-9 amends it), cases of the draw's throws (S-1) and of
-- buckets that begin empty (S-4), and the printout of paper 01's script (paper 01, "Script and printout") as S-4 amends it.
-- A case is what the definitions give, beside what the paper says. A further case is one more entry of the list.
use Rattle.std.specs.Prelude.{ℕ, zero, suc, ◌+◌, ◌-◌, ◌*◌, ◌/◌, ◌≡◌, length, replicate, take}
use mathlib.Core.List.{List, [], ◌∷◌, ◌++◌, map, Memᴰ}
use Rattle.definitions.specs.Event.{Event, Open, Join, Change, Leave, Load, Arrive, Tick}
use Rattle.definitions.specs.Sizes.{ids, places, shares, burst_limit, indifferent_kind, private_kind, first_come}
use Rattle.definitions.specs.Generator.{stepped}
use Rattle.definitions.specs.Sample.{sample}
use Rattle.definitions.specs.Draw.{sum_below, drawn_at, draw}
use Rattle.definitions.specs.State.{Core, unopened}
use Rattle.definitions.specs.Answers.{real, dummy, idle, none, shown}
use Rattle.definitions.specs.Tick.{private_rate}
use Rattle.definitions.specs.Core.{step}
use Rattle.definitions.specs.History.{client_of, stock_of, generator_of}

pub record Case : Type 0 where
  pub given : List ℕ
  pub wanted : List ℕ

infix 3 ◌gives◌
abbrev pub ◌gives◌ : List ℕ → List ℕ → Case
◌gives◌ given wanted = record { given = given; wanted = wanted }

-- the claim of a table: in each of its entries, what is given is what is wanted
abbrev pub Holds : List Case → Type 0
Holds table = (c : Case) → Memᴰ c table → c.given ≡ c.wanted

-- the core after some calls
unfoldable pub ran : Core → List Event → Core
ran core [] = core
ran core (c ∷ cs) = ran (step core c).core cs

-- what some calls get, one after the other
unfoldable pub said : Core → List Event → List ℕ
said core [] = []
said core (c ∷ cs) = shown (step core c).answer ++ said (step core c).core cs

-- the next n values of a generator
unfoldable pub stream : ℕ → ℕ → List ℕ
stream zero v = []
stream (suc n) v = stepped v ∷ stream n (stepped v)

-- the target of a draw among the private clients
unfoldable pub target_at : Core → ℕ
target_at core = (draw (generator_of core) (private_rate (client_of core))).sample.target

-- how many packets of an id wait
unfoldable pub waiting : Core → ℕ → ℕ
waiting core id = length (stock_of core id).queue

abbrev pub level : Core → ℕ → ℕ
level core id = (client_of core id).level

-- the core after an open, with first come first served and seed 1, and some calls
unfoldable pub opened : ℕ → List Event → Core
opened threshold cs = ran unopened (Open threshold first_come 1 ∷ cs)

abbrev pub arrival : ℕ → ℕ → ℕ → Event
arrival id handle length = Arrive id (record { handle = handle; length = length })

-- n packets of id 3
abbrev pub arrivals : ℕ → List Event
arrivals n = replicate n (arrival 3 1 64)

-- some calls, n times over
unfoldable pub repeated : ℕ → List Event → List Event
repeated zero cs = []
repeated (suc n) cs = cs ++ repeated n cs

-- n ticks, by which buckets fill
abbrev pub slots : ℕ → List Event
slots n = replicate n Tick

-- some calls of each of n others than client 3, from id 4 on
unfoldable pub of_others : ℕ → (ℕ → List Event) → List Event
of_others zero calls = []
of_others (suc n) calls = of_others n calls ++ calls (4 + n)

-- For P4, client 3 with one place left and a full bucket, where a bucket may hold fewer packets than a queue: others hand in a
-- full bucket each before it does, or as many packets as they have places. While these go out, its own bucket gets nearly a
-- packet a tick.
unfoldable pub almost_full : Core
almost_full =
    let others = places / burst_limit + 2 in
    let even = shares / suc others in
    let filled = opened 1024 (Join 3 indifferent_kind even 64 ∷ of_others others (λ id. Join id indifferent_kind even 64 ∷ [])
    ++ slots (65 * suc others)) in
    let behind = ran filled (of_others others (λ id. replicate 64 (arrival id 1 64) ++ Change id indifferent_kind 1 64 ∷ [])
    ++ Change 3 indifferent_kind (shares - others) 64 ∷ []) in
    ran behind (repeated (places - 1) (arrival 3 1 64 ∷ Tick ∷ []) ++ slots others)

unfoldable pub cases : List Case
cases =
    -- P1 "seed 1 gives 270369, 67634689, 2647435461"
    (stream 3 1 gives 270369 ∷ 67634689 ∷ 2647435461 ∷ [])
    -- P2 "private 2 (rate 300) and 5 (rate 100): target 299 draws 2, 300 draws 5"
    ∷ (let weight = private_rate (client_of (opened 1024 (Join 2 private_kind 300 0 ∷ Join 5 private_kind 100 0 ∷ []))) in
    drawn_at weight 299 ∷ drawn_at weight 300 ∷ []
    gives 2 ∷ 5 ∷ [])
    -- P3 "length 63 and 1519: 13; 64 and 1518 accepted"
    ∷ (let begun = opened 1024 (Join 3 private_kind 100 0 ∷ []) in
    said begun (arrival 3 1 63 ∷ arrival 3 2 1519 ∷ arrival 3 3 64 ∷ arrival 3 4 1518 ∷ [])
    gives 13 ∷ 13 ∷ 0 ∷ 0 ∷ [])
    -- P4 "reads 128th and 129th" (S-9): "the 128th waiting packet is accepted; the 129th gets 14 and takes no token"
    ∷ (let full = ran almost_full (arrivals 1) in
    waiting almost_full 3 ∷ said almost_full (arrivals 2) ++ level full 3 ∷ level (ran full (arrivals 1)) 3 ∷ []
    gives (places - 1) ∷ 0 ∷ 14 ∷ 64512 ∷ 64512 ∷ [])
    -- P5 "level 1023: 15; level 1024: accepted, 0 left"
    ∷ (let once = opened 1024 (Join 3 indifferent_kind 1023 1 ∷ slots 1) in
    let twice = ran once (slots 1) in
    level once 3 ∷ said once (arrivals 1) ++ level twice 3 ∷ said twice (arrivals 1) ++ level (ran twice (arrivals 1)) 3 ∷ []
    gives 1023 ∷ 15 ∷ 1024 ∷ 0 ∷ 0 ∷ [])
    -- P6 "threshold 1000 with 800 held: rate 200 joins, 201 gets 10"
    ∷ (let held = opened 1000 (Join 1 private_kind 800 0 ∷ []) in
    said held (Join 2 private_kind 200 0 ∷ []) ++ said held (Join 2 private_kind 201 0 ∷ [])
    gives 0 ∷ 10 ∷ [])
    -- P7 "a sole client of 800 there changes to 1000"
    ∷ (let held = opened 1000 (Join 1 private_kind 800 0 ∷ []) in
    said held (Change 1 private_kind 1000 0 ∷ []) ++ (client_of (ran held (Change 1 private_kind 1000 0 ∷ [])) 1).rate ∷ []
    gives 0 ∷ 1000 ∷ [])
    -- P8 "pool 255: load 0 accepted, load 1 gets 12"
    ∷ (let full = opened 1024 (Join 2 private_kind 100 0 ∷ Load 2 255 ∷ []) in
    (stock_of full 2).pool ∷ said full (Load 2 0 ∷ []) ++ said full (Load 2 1 ∷ [])
    gives 255 ∷ 0 ∷ 12 ∷ [])
    -- P9 "tick with indifferent clients only, none waiting: none, generator as before"
    ∷ (let quiet = opened 1024 (Join 3 indifferent_kind 100 1 ∷ Join 7 indifferent_kind 100 1 ∷ []) in
    said quiet (Tick ∷ []) ++ generator_of quiet ∷ generator_of (ran quiet (Tick ∷ [])) ∷ []
    gives none ∷ 1 ∷ 1 ∷ [])
    -- P10 "a type change with 3 waiting: none waits after it", from either type
    ∷ (let before = opened 1024 (Join 3 private_kind 100 0 ∷ arrivals 3) in
    let after = ran before (Change 3 indifferent_kind 1024 3 ∷ slots 3 ++ arrivals 3) in
    waiting before 3 ∷ waiting (ran before (Change 3 indifferent_kind 100 3 ∷ [])) 3 ∷ []
    ++ waiting after 3 ∷ waiting (ran after (Change 3 private_kind 100 0 ∷ [])) 3 ∷ []
    gives 3 ∷ 0 ∷ 3 ∷ 0 ∷ [])
    -- P11 "discipline 0, accepted 3, 7, 3: they leave 3, 7, 3"
    ∷ (let both = opened 1024 (Join 3 indifferent_kind 512 2 ∷ Join 7 indifferent_kind 512 2 ∷ slots 4) in
    said (ran both (arrival 3 33 64 ∷ arrival 7 70 65 ∷ arrival 3 34 66 ∷ [])) (slots 3)
    gives real ∷ 3 ∷ 33 ∷ 64 ∷ 0 ∷ real ∷ 7 ∷ 70 ∷ 65 ∷ 0 ∷ real ∷ 3 ∷ 34 ∷ 66 ∷ 0 ∷ [])
    -- P12 "join of an active id with type 9: 6"
    ∷ (said (opened 1024 (Join 3 private_kind 100 0 ∷ [])) (Join 3 9 100 0 ∷ [])
    gives 6 ∷ [])
    ∷ []

-- what a draw of a sum takes from a seed: target, generator and steps
unfoldable pub taken : ℕ → ℕ → List ℕ
taken sum seed = (sample sum seed).target ∷ (sample sum seed).generator ∷ (sample sum seed).steps ∷ []

-- S-1 of paper 02, reckoned from its words. The seeds are those that give the value wanted;
-- no script has a sum that throws away every second value.
unfoldable pub samples : List Case
samples =
    -- the first value is the highest: it is thrown away where the sum does not divide 4294967296
    (taken 641 1584200935 gives 147 ∷ 253983 ∷ 2 ∷ [])
    ∷ (taken 1024 1584200935 gives 1023 ∷ 4294967295 ∷ 1 ∷ [])
    -- the largest multiple of 641 itself is thrown away, and one less is not
    ∷ (taken 641 1897218331 gives 54 ∷ 162548039 ∷ 2 ∷ [])
    ∷ (taken 641 2883721922 gives 640 ∷ 4294966655 ∷ 1 ∷ [])
    -- seven throws, and the eighth value is below the multiple
    ∷ (taken 2147483649 8381 gives 1693661945 ∷ 1693661945 ∷ 8 ∷ [])
    -- "After the eighth throw in one draw the ninth value counts as it is": below the multiple, and not below it
    ∷ (taken 2147483649 8508 gives 468021351 ∷ 468021351 ∷ 9 ∷ [])
    ∷ (taken 2147483649 8868 gives 363875105 ∷ 2511358754 ∷ 9 ∷ [])
    ∷ []

-- S-4 of paper 02: "A bucket now begins at level 0 after a join and after a change from private to indifferent." Of client 3, what
-- a packet gets and the level.
unfoldable pub empty_buckets : List Case
empty_buckets =
    -- four ticks at rate 300 make a token, and three do not
    (let joined = opened 1024 (Join 3 indifferent_kind 300 2 ∷ []) in
    said joined (arrivals 1) ++ said joined (slots 3 ++ arrivals 1) ++ said (ran joined (slots 4)) (arrivals 2)
    gives 15 ∷ none ∷ none ∷ none ∷ 15 ∷ 0 ∷ 15 ∷ [])
    -- so behind a change from private, whatever it was before
    ∷ (let full = opened 1024 (Join 3 indifferent_kind 1024 2 ∷ slots 2) in
    let back = ran full (Change 3 private_kind 1024 0 ∷ Change 3 indifferent_kind 300 2 ∷ []) in
    level full 3 ∷ level back 3 ∷ said back (arrivals 1) ++ said (ran back (slots 4)) (arrivals 2)
    gives (2 * shares) ∷ 0 ∷ 15 ∷ 0 ∷ 15 ∷ [])
    -- and behind a leave and a join
    ∷ (let full = opened 1024 (Join 3 indifferent_kind 1024 2 ∷ slots 2) in
    level (ran full (Leave 3 ∷ Join 3 indifferent_kind 1024 2 ∷ [])) 3 ∷ []
    gives 0 ∷ [])
    -- a change that keeps the type keeps the level
    ∷ (let full = opened 1024 (Join 3 indifferent_kind 1024 2 ∷ slots 2) in
    let kept = ran full (Change 3 indifferent_kind 1 64 ∷ []) in
    level kept 3 ∷ level (ran full (Change 3 indifferent_kind 1 1 ∷ [])) 3 ∷ said kept (arrivals 3)
    gives (2 * shares) ∷ 1024 ∷ 0 ∷ 0 ∷ 15 ∷ [])
    ∷ []

-- the script of the paper, line by line
abbrev pub script : List Event
script =
    Open 1024 0 1
    ∷ Join 2 private_kind 300 0
    ∷ Join 5 private_kind 100 0
    ∷ Join 3 indifferent_kind 200 1
    ∷ Load 2 1
    ∷ arrival 2 17 64
    ∷ arrival 3 90 1518
    ∷ arrival 3 91 64
    ∷ Tick
    ∷ Tick
    ∷ Tick
    ∷ Tick
    ∷ arrival 5 40 63
    ∷ []

unfoldable pub printout : List Case
printout =
    -- six lines `(ok)`; "both arrivals of client 3 are now refused with 15" (paper 02, S-4); then the four ticks, and the 13
    (said unopened script
    gives replicate 6 0
    ++ 15 ∷ 15 ∷ []
    ++ idle ∷ 5 ∷ []
    ++ real ∷ 2 ∷ 17 ∷ 64 ∷ 1454 ∷ []
    ++ dummy ∷ 2 ∷ []
    ++ idle ∷ 2 ∷ []
    ++ 13 ∷ [])
    -- "the four ticks have the targets 369, 289, 261 and 95" (paper 02, S-4), "of 400"
    ∷ (let before : ℕ → Core = λ n. ran unopened (take n script) in
    map (λ n. target_at (before n)) (8 ∷ 9 ∷ 10 ∷ 11 ∷ []) ++ sum_below ids (private_rate (client_of (before 8))) ∷ []
    gives 369 ∷ 289 ∷ 261 ∷ 95 ∷ 400 ∷ [])
    ∷ []
