-- What the services promise of order files (Specification 1.2, 1.3 and 11): the demands restated for bytes.
-- Assumes nothing.
use Rattle.std.specs.Prelude.{◌≡◌, true, ◌↔◌, List, ◌++◌, map, ℕ, ◌≤◌, ℤ, pos, negsuc, length, replicate, take}
use Rattle.definitions.specs.Limits.{split_limit}
use Rattle.definitions.specs.Vector.{Vector, padded, within}
use Rattle.definitions.specs.Lattice.{InLattice}
use Rattle.definitions.specs.Completion.{sum_count}
use Rattle.definitions.specs.Split.{written}
use Rattle.definitions.specs.Lent.{exchanges_of, filled, generators_of, vectors_of}
use Rattle.definitions.specs.Refusals.{accepted}
use Rattle.definitions.specs.Calls.{Listing, Parts, listing}
use Rattle.definitions.specs.Demands.{ConformalSum, IsTable, ListKept, RulesKept, SplitKept, Whole}
use Rattle.orders.specs.declared.Service.{Service}
use Rattle.orders.specs.declared.Service.TheVariants.{List as ListService, Split as SplitService}
use Rattle.orders.specs.declared.Service.TheVariants.{Check as CheckService}
use Rattle.orders.specs.declared.Counts.{Counts}
use Rattle.orders.specs.Scan.{scan_of}
use Rattle.orders.specs.Operands.{coefficients_in, rows_in, vector_in}
use Rattle.answers.specs.Answers.{moves_text, moves_word, passed_text, passed_word, refused_text, split_text, split_word}
use Rattle.answers.specs.Refusal.{refusal_of}
use Rattle.promises.specs.Services.{call_end, group_size, list_size, order_in, printed, table_in}

-- ---- List

-- the text of a listing of vectors of n cells
abbrev pub list_text : (n : ℕ) → Listing → List ℕ
list_text n found = moves_text (length found.table) found.stored found.sums (map (take n) found.rows)

-- demand 2, List: the file holds an order, and the text is that of its whole list, sorted
pub record Listed (file text : List ℕ) : Type 0 where
  pub counts : Counts
  pub scanned : scan_of ListService file ≡ accepted counts
  pub found : Listing
  pub kept : ListKept (order_in file counts) found
  pub says : text ≡ list_text counts.cells found

-- ---- Split

-- the vector of a file lies in the lattice of its generators
abbrev pub LiesInside : (file : List ℕ) → Counts → Type 0
LiesInside file c = InLattice (generators_of (order_in file c)) (padded (vector_in file c))

-- demand 2, Split: the file holds an order and a vector, and the text is that of pieces that add up to the vector,
-- none opposing it
pub record Parted (file text : List ℕ) : Type 0 where
  pub counts : Counts
  pub scanned : scan_of SplitService file ≡ accepted counts
  pub found : Parts
  pub list_kept : ListKept (order_in file counts) found.listing
  pub kept : SplitKept found.listing.table found.listing.rows (padded (vector_in file counts)) found.pieces
  pub inside : LiesInside file counts
  pub says : text ≡ split_text (map written found.pieces)

-- the file holds an order and a vector that is not in its lattice
pub record Outside (file : List ℕ) : Type 0 where
  pub counts : Counts
  pub scanned : scan_of SplitService file ≡ accepted counts
  pub apart : ¬ (LiesInside file counts)

-- 4.2: the file holds an order whose list is accepted, and a vector with no entry past its limit: a Split gets past 14
pub record PastEntries (file : List ℕ) : Type 0 where
  pub counts : Counts
  pub scanned : scan_of SplitService file ≡ accepted counts
  pub found : Listing
  pub listed : listing (order_in file counts) (list_size counts) (group_size counts) ≡ accepted found
  pub entries : within split_limit (vector_in file counts) ≡ true

-- ---- Check

-- the list of a file is whole
abbrev pub BringsWhole : (file : List ℕ) → Counts → Type 0
BringsWhole file c =
    let order = order_in file c in
    Whole c.cells (exchanges_of order) (generators_of order) (vectors_of c.cells (rows_in file c))

-- demand 3: the file holds an order and a list, the rules are kept, the list is whole, and there is room for the text
pub record Passing (file : List ℕ) (size : ℕ) (text : List ℕ) : Type 0 where
  pub counts : Counts
  pub scanned : scan_of CheckService file ≡ accepted counts
  pub rules : RulesKept (order_in file counts) (rows_in file counts) (coefficients_in file counts) (group_size counts)
  pub whole : BringsWhole file counts
  pub says : text ≡ passed_text counts.rows (sum_count (length (table_in file counts)) counts.rows)
  pub roomy : length text ≤ size

-- a vector is a sum of images of the rows of a file, none opposing it
abbrev pub SumOfRows : (file : List ℕ) → Counts → Vector → Type 0
SumOfRows file c v = ConformalSum c.cells (exchanges_of (order_in file c)) (vectors_of c.cells (rows_in file c)) v

-- the table of a file, with whose length the sums are counted, is that of the group
abbrev pub HasTable : (file : List ℕ) → Counts → Type 0
HasTable file c = IsTable c.cells (exchanges_of (order_in file c)) (table_in file c)

-- what a pass means: all that, and the table is that of the group, and every lattice vector is a conformal sum
pub record PassKept (file : List ℕ) (size : ℕ) (text : List ℕ) : Type 0 where
  pub passing : Passing file size text
  pub table : HasTable file passing.counts
  pub conformal : (v : Vector) → InLattice (generators_of (order_in file passing.counts)) v
      → SumOfRows file passing.counts v

-- ---- C calls

-- a C call keeps the definition, and leaves zeros where it gives a negative number
pub record CallKept (service : Service) (file : List ℕ) (size : ℕ) (result : ℤ) (area : List ℕ) : Type 0 where
  pub results : result ≡ (call_end service file size).result
  pub area_holds : area ≡ (call_end service file size).area
  pub zeros : (k : ℕ) → result ≡ negsuc k → area ≡ replicate size 0

-- a text is handed out: its length is the result, and it stands at the start of the area
pub record HandsOut (text : List ℕ) (result : ℤ) (area : List ℕ) : Type 0 where
  pub results : result ≡ pos (length text)
  pub area_holds : take (length text) area ≡ text

-- sukoreta_list: a length means a whole list
pub record ListCalled (file : List ℕ) (size : ℕ) (result : ℤ) (area : List ℕ) : Type 0 where
  pub call : CallKept ListService file size result area
  pub accepted : (k : ℕ) → result ≡ pos k → Listed file (take k area)

-- sukoreta_split: a length means a conformal sum; 15 is said only of a vector that is not in the lattice, and past 14
-- exactly then
pub record SplitCalled (file : List ℕ) (size : ℕ) (result : ℤ) (area : List ℕ) : Type 0 where
  pub call : CallKept SplitService file size result area
  pub accepted : (k : ℕ) → result ≡ pos k → Parted file (take k area)
  pub outside : result ≡ refusal_of 15 0 → Outside file
  pub exactly : PastEntries file → (result ≡ refusal_of 15 0) ↔ Outside file

-- sukoreta_check: a length if and only if the file, the order and the room keep the rules and the list is whole
pub record CheckCalled (file : List ℕ) (size : ℕ) (result : ℤ) (area : List ℕ) : Type 0 where
  pub call : CallKept CheckService file size result area
  pub accepted : (k : ℕ) → result ≡ pos k → PassKept file size (take k area)
  pub passes : (text : List ℕ) → Passing file size text → HandsOut text result area

-- ---- programs

-- a program prints the first `count` bytes of an area that has room for any text: these are the text, and zeros follow
pub record Prints (service : Service) (file : List ℕ) (count : ℕ) (area : List ℕ) : Type 0 where
  pub counts : count ≡ length (printed service file)
  pub area_holds : area ≡ filled 0 (length area) (printed service file)
  pub text : take count area ≡ printed service file

-- something holds of every input of which these bytes are the first that a buffer has room for
abbrev pub ForInput : (room : ℕ) (bytes : List ℕ) (P : List ℕ → Type 0) → Type 0
ForInput room bytes P = (input : List ℕ) → take room input ≡ bytes → P input

-- list_moves: a text that begins with MOVES means a whole list
pub record ListPrinted (file : List ℕ) (count : ℕ) (area : List ℕ) : Type 0 where
  pub prints : Prints ListService file count area
  pub accepted : (rest : List ℕ) → take count area ≡ moves_word ++ rest → Listed file (take count area)

-- split_moves: a text that begins with SPLIT means a conformal sum; REFUSED 15 0 is printed only of a vector that is
-- not in the lattice, and past 14 exactly then
pub record SplitPrinted (file : List ℕ) (count : ℕ) (area : List ℕ) : Type 0 where
  pub prints : Prints SplitService file count area
  pub accepted : (rest : List ℕ) → take count area ≡ split_word ++ rest → Parted file (take count area)
  pub outside : take count area ≡ refused_text 15 0 → Outside file
  pub exactly : PastEntries file → (take count area ≡ refused_text 15 0) ↔ Outside file

-- check_moves: a text that begins with PASSED if and only if the file and the order keep the rules and the list is
-- whole
pub record CheckPrinted (file : List ℕ) (count : ℕ) (area : List ℕ) : Type 0 where
  pub prints : Prints CheckService file count area
  pub accepted : (rest : List ℕ) → take count area ≡ passed_word ++ rest → PassKept file count (take count area)
  pub passes : (size : ℕ) (text : List ℕ) → Passing file size text → take count area ≡ text
