-- How a lent call for C ends (Specification 1.1 and 9.4): its result, and its counts in an area. Assumes nothing.
use Rattle.definitions.specs.Refusals.{Outcome, accepted}
use Rattle.std.specs.declared.result.Result.TheVariants.{Err}
use Rattle.definitions.specs.Refusals.{fault_at}
use Rattle.std.specs.Prelude.{◌≡◌, Bool, List, [], ◌∷◌, ◌++◌, ℕ, ◌+◌, ◌<◌, ◌^◌, leb, ltb, ℤ, pos, length, get_or, if◌then◌else◌}
use Rattle.definitions.specs.declared.Answer.{Answer}
use Rattle.definitions.specs.declared.Answer.TheVariants.{Moves, Split, Passed}
use Rattle.definitions.specs.declared.Ending.{Ending}
use Rattle.definitions.specs.declared.Ending.TheVariants as ending
use Rattle.definitions.specs.declared.Planned.{Planned}
use Rattle.definitions.specs.declared.Planned.TheVariants as planned
use Rattle.definitions.specs.declared.Run.{Run}
use Rattle.definitions.specs.declared.Session.{Session}
use Rattle.definitions.specs.Lent.{Order, filled}
use Rattle.definitions.specs.Refusals.{refused}
use Rattle.definitions.specs.Calls.{ListEnd, CertifiedEnd, SplitEnd, CheckEnd, list_call, list_end, split_call, split_end}
use Rattle.definitions.specs.Calls.{certified_call, certified_end}
use Rattle.definitions.specs.Calls.{check_call, check_end}
use Rattle.definitions.specs.Window.{Chain, Room, WindowEnd, window_call, window_refused}
use Rattle.definitions.specs.Plan.{PlanEnd, PlanRoom, Problem, plan_call, plan_refused}
use Rattle.answers.specs.Refusal.{place_factor, refusal_code, refusal_of}

-- 1.1: the counts of an answer; a refusal has none
abbrev pub counts_of : Outcome Answer → List ℕ
counts_of (accepted (Moves rows members stored sums)) = rows ∷ members ∷ stored ∷ sums ∷ []
counts_of (accepted (Split pieces rows members stored sums)) = pieces ∷ rows ∷ members ∷ stored ∷ sums ∷ []
counts_of (accepted (Passed rows sums)) = rows ∷ sums ∷ []
counts_of (Err r) = []

-- the result of a call: its first count, or its refusal
abbrev pub result_of : Outcome Answer → ℤ
result_of (accepted (Moves rows members stored sums)) = pos rows
result_of (accepted (Split pieces rows members stored sums)) = pos pieces
result_of (accepted (Passed rows sums)) = pos rows
result_of (Err r) = refusal_of r.number r.place

-- it can be returned as a signed number of 64 bits
abbrev pub Small : Outcome Answer → Type 0
Small (accepted (Moves rows members stored sums)) = rows < 2 ^ 63
Small (accepted (Split pieces rows members stored sums)) = pieces < 2 ^ 63
Small (accepted (Passed rows sums)) = rows < 2 ^ 63
Small (Err r) = refusal_code r.number r.place < 2 ^ 63

-- something, if an area of `size` numbers has room for the counts of an answer, else something else
unfoldable pub if_roomy : {A : Type 0} → Outcome Answer → (size : ℕ) (given short : A) → A
if_roomy answer size given short = if leb (length (counts_of answer)) size then given else short

-- the answer with a counts area of `size` numbers: 6 at 0 where it is short, tested last
abbrev pub counted : Outcome Answer → (size : ℕ) → Outcome Answer
counted answer size = if_roomy answer size answer (refused 6 0)

-- numbers are given: the first as the result and all in an area, or 6 at 0 and zeros alone where it is short
pub record Gives (numbers : List ℕ) (size : ℕ) (result : ℤ) (counts : List ℕ) : Type 0 where
  pub results : result ≡ (if leb (length numbers) size then pos (get_or numbers 0 0) else refusal_of 6 0)
  pub counts_hold : counts ≡ filled 0 size (if leb (length numbers) size then numbers else [])

-- the answer is reported: its result, and its counts in an area, with zeros behind them
pub record Reports (answer : Outcome Answer) (size : ℕ) (result : ℤ) (counts : List ℕ) : Type 0 where
  pub results : result ≡ result_of (counted answer size)
  pub counts_hold : counts ≡ filled 0 size (counts_of (counted answer size))

-- ---- the calls: they end as those without counts do, or with 6 at 0 where the counts area is short
unfoldable pub lent_list : Order → (list_size group_size counts_size : ℕ) → ListEnd
lent_list order list_size group_size counts_size =
    let end = list_call order list_size group_size in
    if_roomy end.answer counts_size end (list_end order.n list_size group_size (refused 6 0))

unfoldable pub lent_certified : Order → (list_size group_size coefficient_size counts_size : ℕ) → CertifiedEnd
lent_certified order list_size group_size coefficient_size counts_size =
    let end = certified_call order list_size group_size coefficient_size in
    if_roomy end.answer counts_size end (certified_end order.n list_size group_size coefficient_size (refused 6 0))

unfoldable pub lent_split : Order → (vector : List ℤ) (list_size group_size pieces_size counts_size : ℕ) → SplitEnd
lent_split order vector list_size group_size pieces_size counts_size =
    let end = split_call order vector list_size group_size pieces_size in
    if_roomy end.answer counts_size end (split_end order.n list_size group_size pieces_size (refused 6 0))

unfoldable pub lent_check : Order → (rows coefficients : List ℤ) (group_size counts_size : ℕ) → CheckEnd
lent_check order rows coefficients group_size counts_size =
    let end = check_call order rows coefficients group_size in
    if_roomy end.answer counts_size end (check_end group_size 0 [] (fault_at 6 0))

-- ---- Session

-- 3.8: how an order of a session ended, 0 finished, 1 unfinished, 2 refused, and its values; five numbers
abbrev pub ending_counts : Outcome Ending → List ℕ
ending_counts (accepted (ending.Moves rows members stored sums)) = 0 ∷ rows ∷ members ∷ stored ∷ sums ∷ []
ending_counts (accepted (ending.Unfinished sums)) = 1 ∷ sums ∷ 0 ∷ 0 ∷ 0 ∷ []
ending_counts (Err r) = 2 ∷ r.number ∷ r.place ∷ 0 ∷ 0 ∷ []

-- the counts of a session: those of order 0, then those of order 1
abbrev pub session_counts : Session → List ℕ
session_counts answer = ending_counts answer.first ++ ending_counts answer.second

-- so many they are
abbrev pub session_size : ℕ
session_size = 10

-- 1 for a finished order, 0 for another
abbrev pub finished_in : Outcome Ending → ℕ
finished_in (accepted (ending.Moves rows members stored sums)) = 1
finished_in (accepted (ending.Unfinished sums)) = 0
finished_in (Err r) = 0

-- the number of finished orders
abbrev pub finished_of : Session → ℕ
finished_of answer = finished_in answer.first + finished_in answer.second

-- ---- Window

-- 3.9: the counts of a run; a refusal has none
abbrev pub run_counts : Outcome Run → List ℕ
run_counts (accepted run) = run.records ∷ run.rows ∷ run.members ∷ run.stored ∷ run.sums ∷ []
run_counts (Err r) = []

-- its result: the number of its records, or its refusal
abbrev pub run_result : Outcome Run → ℤ
run_result (accepted run) = pos run.records
run_result (Err r) = refusal_of r.number r.place

-- it can be returned as a signed number of 64 bits, if its place is below 2 ^ 58
abbrev pub RunSmall : Outcome Run → Type 0
RunSmall (accepted run) = run.records < 2 ^ 63
RunSmall (Err r) = r.number < place_factor

-- it can be told with a counts area of `size` numbers: there is room for its counts, or its refusal fits into a result
abbrev pub is_told : Outcome Run → (size : ℕ) → Bool
is_told (accepted run) size = leb 5 size
is_told (Err r) size = ltb r.place (2 ^ 58)

-- the run is reported: its result, and its counts in an area, with zeros behind them
pub record RunReports (run : Outcome Run) (size : ℕ) (result : ℤ) (counts : List ℕ) : Type 0 where
  pub results : result ≡ run_result run
  pub counts_hold : counts ≡ filled 0 size (run_counts run)

-- the call ends as that without counts does, or with 6 at 0 where that cannot be told
unfoldable pub lent_window : Order → Chain → Room → (counts_size : ℕ) → WindowEnd
lent_window order chain room counts_size =
    let end = window_call order chain room in
    if is_told end.answer counts_size then end else window_refused room 6 0 []

-- ---- Plan

-- 3.10: the counts of a plan, with 1 for a cheapest one, and its distance bound; a refusal has none
abbrev pub plan_counts : Outcome Planned → List ℕ
plan_counts (accepted (planned.Cheapest steps rows members stored sums)) =
    steps ∷ 1 ∷ 0 ∷ rows ∷ members ∷ stored ∷ sums ∷ []
plan_counts (accepted (planned.Spent steps bound rows members stored sums)) =
    steps ∷ 0 ∷ bound ∷ rows ∷ members ∷ stored ∷ sums ∷ []
plan_counts (Err r) = []

-- its result: the number of its steps, or its refusal
abbrev pub plan_result : Outcome Planned → ℤ
plan_result (accepted (planned.Cheapest steps rows members stored sums)) = pos steps
plan_result (accepted (planned.Spent steps bound rows members stored sums)) = pos steps
plan_result (Err r) = refusal_of r.number r.place

-- it can be returned as a signed number of 64 bits
abbrev pub PlanSmall : Outcome Planned → Type 0
PlanSmall (accepted (planned.Cheapest steps rows members stored sums)) = steps < 2 ^ 63
PlanSmall (accepted (planned.Spent steps bound rows members stored sums)) = steps < 2 ^ 63
PlanSmall (Err r) = refusal_code r.number r.place < 2 ^ 63

-- it can be told with a counts area of `size` numbers: there is room for its counts
abbrev pub is_plan_told : Outcome Planned → (size : ℕ) → Bool
is_plan_told answer size = leb (length (plan_counts answer)) size

-- the plan is reported: its result, and its counts in an area, with zeros behind them
pub record PlanReports (answer : Outcome Planned) (size : ℕ) (result : ℤ) (counts : List ℕ) : Type 0 where
  pub results : result ≡ plan_result answer
  pub counts_hold : counts ≡ filled 0 size (plan_counts answer)

-- the call ends as that without counts does, or with 6 at 0 where that cannot be told
unfoldable pub lent_plan : Order → Problem → PlanRoom → (counts_size : ℕ) → PlanEnd
lent_plan order problem room counts_size =
    let end = plan_call order problem room in
    if is_plan_told end.answer counts_size then end else plan_refused room 6 0
