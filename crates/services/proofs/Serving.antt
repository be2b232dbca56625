-- What the lent calls promise, said of the files that lend to them (Specification 1.2). Assumes nothing.
use Rattle.std.specs.declared.result.Result.TheVariants.{Err}
use Rattle.definitions.specs.Refusals.{Fault, no_fault}
use mathlib.Core.Path.{◌≡◌, refl, sym, ◌∙◌, ap, ap₂, subst⁻¹}
use mathlib.Core.List.{List, [], ◌++◌, map, append_assoc, Memᴰ}
use Prim.Native.Nat.{ℕ, ◌*◌, ◌-◌, ◌/◌, ◌≤◌}
use native.Mathlib.Omega.{arith}
use lib.IntN.{ℤ, pos}
use lib.ListN.{length, take, drop, length-append, take-append-drop, replicate, length-map}
use Rattle.definitions.specs.declared.Answer.{Answer}
use Rattle.definitions.specs.Limits.{cells, piece_width}
use Rattle.definitions.specs.Lists.{concat}
use Rattle.definitions.specs.Split.{Piece, written}
use Rattle.definitions.specs.Lent.{Order, chunks, filled, order_of, table_of}
use Rattle.definitions.specs.Refusals.{Outcome, accepted, refused}
use Rattle.definitions.specs.Calls.{ListEnd, Listing, Parts, SplitEnd, CheckEnd, check_call, check_end, check_fault}
use Rattle.definitions.specs.Calls.{list_call, list_end, listing, parts, split_call, split_end}
use Rattle.theory.proofs.Lists.{length-concat, map-inv}
use Rattle.theory.proofs.ListCall.{listing-facts}
use Rattle.theory.proofs.Held.{held-room, rows-narrow}
use Rattle.theory.proofs.Rows.{chunks-front}
use Rattle.moves.specs.Promise.{CheckPromise, ListPromise, SplitPromise}
use Rattle.orders.specs.declared.Service.{Service}
use Rattle.orders.specs.declared.Service.TheVariants.{List as ListService, Split as SplitService}
use Rattle.orders.specs.declared.Service.TheVariants.{Check as CheckService}
use Rattle.orders.specs.declared.Counts.{Counts}
use Rattle.orders.specs.Scan.{scan_of}
use Rattle.orders.specs.Operands.{coefficients_in, rows_in, vector_in}
use Rattle.answers.specs.Answers.{line_count}
use Rattle.promises.specs.Services.{Served, group_size, list_size, order_in, pieces_size, served, served_by}
use Rattle.promises.proofs.Orders.{piece-wide}
use Rattle.services.specs.Answered.{OrderRead, Serves}

-- rows that lie in the first of two lists
first_chunks : {A : Type 0} (n k : ℕ) (a b : List A) → k * n ≤ length a → chunks n k (a ++ b) ≡ chunks n k a
first_chunks {A} n k a b h =
    ap (λ (l : List A). chunks n k (l ++ b)) (sym (take-append-drop (k * n) a))
    ∙ ap (chunks n k) (append_assoc (take (k * n) a) (drop (k * n) a) b)
    ∙ chunks-front n k a (drop (k * n) a ++ b) h

-- an answer that has no lines
none : {due : Served} {answer : Outcome Answer} (width : ℕ) (area : List ℤ) → answer ≡ due.answer
    → line_count due.answer ≡ 0 → due.lines ≡ [] → Serves due answer width area
unfolding chunks
none {due} {answer} width area e z l =
    let q : line_count answer ≡ 0 = ap line_count e ∙ z in
    record
    { answers = e; lines = ap (λ (k : ℕ). chunks width k area) q ∙ sym l; room = subst⁻¹ (λ (k : ℕ). k * width ≤ length area) q (omega arith) }

-- ---- orders

-- the order that is lent
pub order-read : (file : List ℕ) (c : Counts) {generators : List ℤ} {exchanges : List ℕ} {images : List ℤ}
    → OrderRead file c generators exchanges images
    → order_of c.cells (take (c.generators * c.cells) generators) (take (c.exchanges * c.cells) exchanges) (take (c.images * c.generators) images)
    ≡ order_in file c
order-read file c R = (λ i. order_of c.cells (R.generators_are i) (R.exchanges_are i) (R.images_are i))

-- ---- List

-- the rows of a list lie within its area
list-room : (order : Order) (list_size group_size : ℕ) → order.n ≤ cells
    → line_count (list_call order list_size group_size).answer * order.n ≤ length (list_call order list_size group_size).list
unfolding list_call list_end
list-room order list_size group_size fits = go (listing order list_size group_size) refl
  where
    go : (o : Outcome Listing) → listing order list_size group_size ≡ o
        → line_count (list_end order.n list_size group_size o).answer * order.n ≤ length (list_end order.n list_size group_size o).list
    go (Err r) e = omega arith
    go (accepted found) e =
        held-room order.n fits found.rows
        (rows-narrow order found (listing-facts order list_size group_size found e)) list_size refl

-- LIST on an accepted file: the area may go on
pub list-serves : (file : List ℕ) (c : Counts) {order : Order} {size group : ℕ} {answer : Outcome Answer} {list : List ℤ} {table : List ℕ} (rest : List ℤ)
    → c.cells ≤ cells
    → ListPromise order size group answer list table → order ≡ order_in file c → size ≡ list_size c → group ≡ group_size c
    → Serves (served_by ListService file (accepted c)) answer c.cells (list ++ rest)
unfolding served_by
list-serves file c {order} {size} {group} {answer} {list} rest fits P e s g =
    let due = list_call (order_in file c) (list_size c) (group_size c) in
    let same : list_call order size group ≡ due = rw (e, s, g) in
    let says = P.answers ∙ ap (λ (x : ListEnd). x.answer) same in
    let holds = P.list_holds ∙ ap (λ (x : ListEnd). x.list) same in
    let room : line_count answer * c.cells ≤ length list =
    subst⁻¹ (λ (x : Outcome Answer). line_count x * c.cells ≤ length list) says
    (subst⁻¹ (λ (x : List ℤ). line_count due.answer * c.cells ≤ length x) holds (list-room (order_in file c) (list_size c) (group_size c) fits)) in
    record {
      answers = says;
      lines =
          first_chunks c.cells (line_count answer) list rest room
          ∙ ap₂ (λ (x : Outcome Answer) (y : List ℤ). chunks c.cells (line_count x) y) says holds;
      room = omega (arith, room, length-append list rest);
    }

-- ---- Split

-- the pieces lie within their area
split-room : (order : Order) (vector : List ℤ) (list_size group_size size : ℕ)
    → line_count (split_call order vector list_size group_size size).answer * piece_width ≤ length (split_call order vector list_size group_size size).pieces
unfolding split_call split_end filled
split-room order vector list_size group_size size = go (parts order vector list_size group_size size)
  where
    wide : (pieces : List Piece) (line : List ℤ) → Memᴰ line (map written pieces) → length line ≡ piece_width
    wide pieces line m = let t = map-inv written pieces m in ap length t.2 ∙ piece-wide t.0

    go : (o : Outcome Parts)
        → line_count (split_end order.n list_size group_size size o).answer * piece_width ≤ length (split_end order.n list_size group_size size o).pieces
    go (Err r) = omega arith
    go (accepted found) =
        let numbers = concat (map written found.pieces) in
        omega
        (arith, length-concat piece_width (map written found.pieces) (wide found.pieces), length-map found.pieces written, length-append numbers (replicate (size - length numbers) (pos 0)))

-- SPLIT on an accepted file
pub split-serves : (file : List ℕ) (c : Counts) {order : Order} {vector : List ℤ} {size group room : ℕ}
    {answer : Outcome Answer} {list : List ℤ} {table : List ℕ} {pieces : List ℤ}
    → SplitPromise order vector size group room answer list table pieces → order ≡ order_in file c
    → vector ≡ vector_in file c → size ≡ list_size c → group ≡ group_size c → room ≡ pieces_size
    → Serves (served_by SplitService file (accepted c)) answer piece_width pieces
unfolding served_by
split-serves file c {order} {vector} {size} {group} {room} {answer} {pieces = pieces} P e v s g q =
    let due = split_call (order_in file c) (vector_in file c) (list_size c) (group_size c) pieces_size in
    let same : split_call order vector size group room ≡ due = rw (e, v, s, g, q) in
    let says = P.answers ∙ ap (λ (x : SplitEnd). x.answer) same in
    let holds = P.pieces_holds ∙ ap (λ (x : SplitEnd). x.pieces) same in
    record {
      answers = says;
      lines = ap₂ (λ (x : Outcome Answer) (y : List ℤ). chunks piece_width (line_count x) y) says holds;
      room =
          subst⁻¹ (λ (x : Outcome Answer). line_count x * piece_width ≤ length pieces) says
          (subst⁻¹ (λ (x : List ℤ). line_count due.answer * piece_width ≤ length x) holds (split-room (order_in file c) (vector_in file c) (list_size c) (group_size c) pieces_size));
    }

-- ---- Check

-- CHECK on an accepted file
pub check-says : (file : List ℕ) (c : Counts) {order : Order} {rows coefficients : List ℤ} {group : ℕ}
    {answer : Outcome Answer} {table : List ℕ}
    → CheckPromise order rows coefficients group answer table → order ≡ order_in file c → rows ≡ rows_in file c
    → coefficients ≡ coefficients_in file c → group ≡ group_size c
    → answer ≡ (served_by CheckService file (accepted c)).answer
unfolding served_by
check-says file c {order} {rows} {coefficients} {group} P e r q g =
    let same : check_call order rows coefficients group ≡ check_call (order_in file c) (rows_in file c) (coefficients_in file c) (group_size c) =
    rw (e, r, q, g) in
    P.answers ∙ ap (λ (x : CheckEnd). x.answer) same

-- a Check has no lines
check-lines : (order : Order) (rows coefficients : List ℤ) (size : ℕ)
    → line_count (check_call order rows coefficients size).answer ≡ 0
unfolding check_call check_end
check-lines order rows coefficients size = go (check_fault order rows coefficients size)
  where
    go : (fault : Fault) → line_count (check_end size (length rows / order.n) (table_of order size) fault).answer ≡ 0
    go (Err r) = refl
    go no_fault = refl

-- ---- any file

-- a refusal of its scan
pub refused-serves : (service : Service) (file : List ℕ) {number place : ℕ} (width : ℕ) (area : List ℤ)
    → scan_of service file ≡ refused number place → Serves (served service file) (refused number place) width area
unfolding served served_by chunks
refused-serves service file {number} {place} width area e =
    subst⁻¹ (λ (s : Outcome Counts). Serves (served_by service file s) (refused number place) width area) e
    (none width area refl refl refl)

-- what is answered to an order that it accepts
pub accepted-serves : (service : Service) (file : List ℕ) {c : Counts} {answer : Outcome Answer} {width : ℕ} {area : List ℤ}
    → scan_of service file ≡ accepted c → Serves (served_by service file (accepted c)) answer width area
    → Serves (served service file) answer width area
unfolding served
accepted-serves service file {answer = answer} {width} {area} e =
    subst⁻¹ (λ (s : Outcome Counts). Serves (served_by service file s) answer width area) e

-- the answer of a Check, with any area
pub check-serves : (file : List ℕ) {answer : Outcome Answer} (width : ℕ) (area : List ℤ)
    → answer ≡ (served CheckService file).answer → Serves (served CheckService file) answer width area
unfolding served served_by chunks
check-serves file {answer} width area e = go (scan_of CheckService file) e
  where
    go : (s : Outcome Counts) → answer ≡ (served_by CheckService file s).answer
        → Serves (served_by CheckService file s) answer width area
    go (Err r) q = none width area q refl refl
    go (accepted c) q =
        none width area q (check-lines (order_in file c) (rows_in file c) (coefficients_in file c) (group_size c)) refl
