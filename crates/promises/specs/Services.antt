-- Specification 1.2, 1.3 and 9.4: what the services answer to order files. Assumes nothing.
use Rattle.definitions.specs.Refusals.{Outcome, accepted, refused}
use Rattle.std.specs.declared.result.Result.TheVariants.{Err}
use Rattle.std.specs.Prelude.{List, [], ℕ, ◌*◌, leb, ℤ, pos, length, if◌then◌else◌}
use Rattle.definitions.specs.declared.Answer.{Answer}
use Rattle.definitions.specs.declared.Answer.TheVariants.{Moves, Split as SplitAnswer, Passed}
use Rattle.definitions.specs.Limits.{group_limit, list_limit, lent_pieces, piece_width}
use Rattle.definitions.specs.Group.{Exchange}
use Rattle.definitions.specs.Lent.{Order, chunks, filled, order_of, table_of}
use Rattle.definitions.specs.Calls.{ListEnd, SplitEnd, CheckEnd, list_call, split_call, check_call}
use Rattle.orders.specs.declared.Service.{Service}
use Rattle.orders.specs.declared.Service.TheVariants.{List as ListService, Split as SplitService}
use Rattle.orders.specs.declared.Service.TheVariants.{Check as CheckService}
use Rattle.orders.specs.declared.Counts.{Counts}
use Rattle.orders.specs.Scan.{scan_of}
use Rattle.orders.specs.Operands.{generators_in, exchanges_in, images_in, rows_in, coefficients_in, vector_in}
use Rattle.answers.specs.Answers.{answer_text, line_count}
use Rattle.answers.specs.Refusal.{refusal_of}

-- ---- the order of a file

-- 8.3: what an accepted file lends to each call
abbrev pub order_in : (file : List ℕ) → Counts → Order
order_in file c = order_of c.cells (generators_in file c) (exchanges_in file c) (images_in file c)

-- 1.2: the sizes of the areas that programs and C calls lend
abbrev pub list_size : Counts → ℕ
list_size c = list_limit * c.cells

abbrev pub group_size : Counts → ℕ
group_size c = group_limit * c.cells

abbrev pub pieces_size : ℕ
pieces_size = lent_pieces * piece_width

-- 2.5: the group's table
abbrev pub table_in : (file : List ℕ) → Counts → List Exchange
table_in file c = table_of (order_in file c) (group_size c)

-- the calls on what an accepted file lends
abbrev pub list_call_in : (file : List ℕ) → Counts → ListEnd
list_call_in file c = list_call (order_in file c) (list_size c) (group_size c)

abbrev pub split_call_in : (file : List ℕ) → Counts → SplitEnd
split_call_in file c = split_call (order_in file c) (vector_in file c) (list_size c) (group_size c) pieces_size

abbrev pub check_call_in : (file : List ℕ) → Counts → CheckEnd
check_call_in file c = check_call (order_in file c) (rows_in file c) (coefficients_in file c) (group_size c)

-- ---- the answer to a file

-- an answer, and the lines of numbers that are printed with it
pub record Served : Type 0 where
  pub answer : Outcome Answer
  pub lines : List (List ℤ)

-- by the scan of the file: its refusal, or the answer of the lent call and the rows of its list or of its pieces
unfoldable pub served_by : Service → (file : List ℕ) → Outcome Counts → Served
served_by service file (Err r) = record { answer = refused r.number r.place; lines = [] }
served_by ListService file (accepted c) =
    let end = list_call_in file c in
    record { answer = end.answer; lines = chunks c.cells (line_count end.answer) end.list }
served_by SplitService file (accepted c) =
    let end = split_call_in file c in
    record { answer = end.answer; lines = chunks piece_width (line_count end.answer) end.pieces }
served_by CheckService file (accepted c) =
    record { answer = (check_call_in file c).answer; lines = [] }

unfoldable pub served : Service → (file : List ℕ) → Served
served service file = served_by service file (scan_of service file)

-- 1.3 and 9: what a program prints
unfoldable pub printed : Service → (file : List ℕ) → List ℕ
printed service file = answer_text (served service file).answer (served service file).lines

-- ---- C calls

-- what a C call returns, and what its answer area holds
pub record CallEnd : Type 0 where
  pub result : ℤ
  pub area : List ℕ

-- 9.4: zeros alone after a refusal
abbrev pub refused_end : (size number place : ℕ) → CallEnd
refused_end size number place = record { result = refusal_of number place; area = filled 0 size [] }

-- 9.4: the text and zeros behind it, or 6 at 0 where it is longer than the area
unfoldable pub text_end : (size : ℕ) (text : List ℕ) → CallEnd
text_end size text =
    if leb (length text) size then record { result = pos (length text); area = filled 0 size text } else refused_end
    size 6 0

unfoldable pub end_by : (size : ℕ) → Outcome Answer → (text : List ℕ) → CallEnd
end_by size (Err r) text = refused_end size r.number r.place
end_by size (accepted (Moves rows members stored sums)) text = text_end size text
end_by size (accepted (SplitAnswer pieces rows members stored sums)) text = text_end size text
end_by size (accepted (Passed rows sums)) text = text_end size text

-- 1.2: a C call with an answer area of so many bytes
unfoldable pub call_end : Service → (file : List ℕ) (size : ℕ) → CallEnd
call_end service file size = end_by size (served service file).answer (printed service file)
