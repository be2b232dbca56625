-- Specification 6: the limits, each named once. Assumes nothing.
use Rattle.std.specs.Prelude.{ℕ}

-- the cells of an array; an order has at most so many
abbrev pub cells : ℕ
cells = 16

-- 7, 12 and 17: the greatest absolute value of an entry that is sent, stored or brought
abbrev pub entry_limit : ℕ
entry_limit = 4_000

-- 10: the most members of a group
abbrev pub group_limit : ℕ
group_limit = 1_152

-- 13: the most list rows in use; 6: the most rows that a Check takes
abbrev pub list_limit : ℕ
list_limit = 128

-- 3.8: the list rows of each order of a session
abbrev pub session_rows : ℕ
session_rows = 64

-- 6: the most generators
abbrev pub generator_limit : ℕ
generator_limit = 64

-- 6: the most exchanges
abbrev pub exchange_limit : ℕ
exchange_limit = 8

-- 6: the most generators of a bare order
abbrev pub bare_limit : ℕ
bare_limit = 16

-- 23: the greatest absolute value of a coefficient of an image
abbrev pub image_limit : ℕ
image_limit = 1_000_000

-- 14: the greatest absolute value of an entry of a vector to split
abbrev pub split_limit : ℕ
split_limit = 1_000_000

-- 19: the greatest absolute value of a coefficient of a brought row
abbrev pub coefficient_limit : ℕ
coefficient_limit = 1_000_000

-- 24: the greatest absolute value of a coefficient of a stored row
abbrev pub stored_coefficient_limit : ℕ
stored_coefficient_limit = 1_000_000

-- 14 and 25: the greatest entry of a contingency table
abbrev pub contingency_limit : ℕ
contingency_limit = 1_000_000

-- 3.9: the most records of a window
abbrev pub window_limit : ℕ
window_limit = 256

-- the numbers that a record of a run takes
abbrev pub record_width : ℕ
record_width = 3

-- the numbers of an answer row of a run behind its contingency table: the smallest, the largest, the different rows
abbrev pub figures_width : ℕ
figures_width = 3

-- 26: the greatest upper bound of a cell of a plan
abbrev pub bound_limit : ℕ
bound_limit = 1_000_000

-- 27: the greatest absolute value of a cost
abbrev pub cost_limit : ℕ
cost_limit = 1_000

-- 3.10: the most steps of a budget
abbrev pub budget_limit : ℕ
budget_limit = 100_000

-- the numbers that a piece takes in the pieces area
abbrev pub piece_width : ℕ
piece_width = 4

-- the pieces for which programs and C calls lend room
abbrev pub lent_pieces : ℕ
lent_pieces = 64

-- 8.3: the first bytes of a file, to which the answer is the answer to the file
abbrev pub order_limit : ℕ
order_limit = 65_536
