-- The tables of the core (paper 01: "an array .. of handles and one of lengths, filled at opening"), with an entry for each place
-- of each id. What a client has once, its terms, is one table, and what it has to send, its stock, is another; each has several
-- numbers for each id, one column after the other. The counts of the ids lie as crates/counts says.
use Rattle.std.specs.Prelude.{ℕ, zero, suc, ◌+◌, ◌*◌, ◌%◌, List, [], ◌∷◌, get_or, set, replicate}
use Rattle.definitions.specs.Sizes.{ids, places}
use Rattle.order.specs.Order.{link_count}
use Rattle.counts.specs.CountTable.{count_columns}
pub use Rattle.tables.specs.declared.Tables.{Tables}

abbrev pub tables : List ℕ → List ℕ → List ℕ → List ℕ → List ℕ → List ℕ → Tables
tables terms stocks handles lengths links counts = record {
  terms = terms;
  stocks = stocks;
  handles = handles;
  lengths = lengths;
  links = links;
  counts = counts;
}

-- the columns of the terms: rate, burst and level
abbrev pub rate_column : ℕ
rate_column = 0

abbrev pub burst_column : ℕ
burst_column = 1

abbrev pub level_column : ℕ
level_column = 2

abbrev pub term_columns : ℕ
term_columns = 3

-- the columns of the stocks: where a queue begins and how many packets it has, and the pool
abbrev pub head_column : ℕ
head_column = 0

abbrev pub count_column : ℕ
count_column = 1

abbrev pub pool_column : ℕ
pool_column = 2

abbrev pub stock_columns : ℕ
stock_columns = 3

-- tables that hold a number throughout, a length what it keeps of it
abbrev pub filled : ℕ → Tables
filled number =
    tables (replicate (term_columns * ids) number) (replicate (stock_columns * ids) number) (replicate (ids * places) number)
    (replicate (ids * places) (number % 65536)) (replicate link_count number) (replicate (count_columns * ids) number)

-- where an id's number stands in a table
abbrev pub entry : ℕ → ℕ → ℕ
entry column id = column * ids + id

-- the number that an id has in a column, and the table with another one there
unfoldable pub field : ℕ → List ℕ → ℕ → ℕ
field column table id = get_or table (entry column id) 0

abbrev pub written : List ℕ → ℕ → ℕ → ℕ → List ℕ
written table column id n = set table (entry column id) n

abbrev pub rate_at : List ℕ → ℕ → ℕ
rate_at = field rate_column

abbrev pub burst_at : List ℕ → ℕ → ℕ
burst_at = field burst_column

abbrev pub level_at : List ℕ → ℕ → ℕ
level_at = field level_column

abbrev pub pool_at : List ℕ → ℕ → ℕ
pool_at = field pool_column

abbrev pub head_at : List ℕ → ℕ → ℕ
head_at = field head_column

abbrev pub count_at : List ℕ → ℕ → ℕ
count_at = field count_column

-- the places of a queue of n packets whose first is at head: a ring among the places of its id
unfoldable pub ring : ℕ → ℕ → ℕ → List ℕ
ring id head zero = []
ring id head (suc n) = (id * places + head % places) ∷ ring id (suc head) n
