-- What the lent calls for C promise, for every input (Specification 1.1, 7.4 and 11). The sizes of the areas are their
-- lengths. Assumes nothing.
use Rattle.definitions.specs.Refusals.{Outcome, accepted}
use Rattle.std.specs.Prelude.{◌≡◌, ◌↔◌, List, ℕ, ◌/◌, ◌≤◌, ◌<◌, ℤ, pos, negsuc, length, get_or, replicate}
use Rattle.definitions.specs.declared.Answer.{Answer}
use Rattle.definitions.specs.declared.Answer.TheVariants.{Passed}
use Rattle.definitions.specs.declared.Planned.{Planned}
use Rattle.definitions.specs.declared.Run.{Run}
use Rattle.definitions.specs.declared.Session.{Session}
use Rattle.definitions.specs.Vector.{padded}
use Rattle.definitions.specs.Lattice.{InLattice}
use Rattle.definitions.specs.Lent.{Order, exchanges_of, filled, generators_of, vectors_of}
use Rattle.definitions.specs.Calls.{ListEnd, CertifiedEnd, SplitEnd, CheckEnd}
use Rattle.definitions.specs.Window.{Chain, Room, WindowEnd}
use Rattle.definitions.specs.Plan.{PlanEnd, PlanRoom, Problem}
use Rattle.definitions.specs.Demands.{RulesKept, Whole}
use Rattle.vectors.specs.Areas.{Lent, LentMut, sent_order}
use Rattle.moves.specs.Promise.{CheckPassed, ListAccepted, ListZero, PastEntries, SplitAccepted, SplitZero}
use Rattle.certified_lists.specs.Promise.{CertifiedAccepted, CertifiedZero}
use Rattle.sessions.specs.Promise.{SessionPromise}
use Rattle.windows.specs.Promise.{RecordRefused, WindowAccepted, WindowZero}
use Rattle.plans.specs.Promise.{BudgetSpent, CheapestReached, PlanZero}
use Rattle.answers.specs.Refusal.{refusal_of}
use Rattle.lent.specs.Ends.{counts_of, lent_certified, lent_check, lent_list, lent_split, result_of}
use Rattle.lent.specs.Ends.{finished_of, session_counts, session_size}
use Rattle.lent.specs.Ends.{lent_window, run_counts, run_result}
use Rattle.lent.specs.Ends.{lent_plan, plan_counts, plan_result}

-- an answer was returned, and its counts stand in their area
pub record Returned (answer : Outcome Answer) (result : ℤ) (counts : List ℕ) : Type 0 where
  pub results : result ≡ result_of answer
  pub counts_hold : counts ≡ filled 0 (length counts) (counts_of answer)

-- zeros in the counts area
abbrev pub CountsZero : (counts : List ℕ) → Type 0
CountsZero counts = counts ≡ replicate (length counts) 0

-- ---- List

-- the end that is due
abbrev pub list_due : Order → (list : List ℤ) (group counts : List ℕ) → ListEnd
list_due order list group counts = lent_list order (length list) (length group) (length counts)

-- a result that is no refusal: what `ListPromise` says of an accepted list
pub record ListGiven (order : Order) (result : ℤ) (list : List ℤ) (group counts : List ℕ) : Type 0 where
  pub answer : Outcome Answer
  pub kept : ListAccepted order answer list group
  pub returned : Returned answer result counts

-- sukoreta_lent_list: the result and the areas by the definition; and what a reader may conclude from the result
pub record ListLent (order : Order) (result : ℤ) (list : List ℤ) (group counts : List ℕ) : Type 0 where
  pub returned : Returned (list_due order list group counts).answer result counts
  pub list_holds : list ≡ (list_due order list group counts).list
  pub group_holds : group ≡ (list_due order list group counts).group
  pub accepted : (k : ℕ) → result ≡ pos k → ListGiven order result list group counts
  pub refused : (k : ℕ) → result ≡ negsuc k → ListZero list group × CountsZero counts

-- .. of the order that is sent, in the areas that are lent
abbrev pub KeepsLentList : (n : ℕ) (generators : Lent ℤ) (exchanges : Lent ℕ) (images : Lent ℤ) (list : LentMut ℤ)
    (group counts : LentMut ℕ) (result : ℤ) → Type 0
KeepsLentList n generators exchanges images list group counts result =
    let order = sent_order n generators exchanges images in
    ListLent order result list.exit.now group.exit.now counts.exit.now

-- ---- List with coefficients

-- the end that is due
abbrev pub certified_due : Order → (list : List ℤ) (group : List ℕ) (coefficients : List ℤ) (counts : List ℕ)
    → CertifiedEnd
certified_due order list group coefficients counts =
    lent_certified order (length list) (length group) (length coefficients) (length counts)

-- a result that is no refusal: what `CertifiedPromise` says of an accepted list
pub record CertifiedGiven (order : Order) (result : ℤ) (list : List ℤ) (group : List ℕ) (coefficients : List ℤ)
    (counts : List ℕ) : Type 0 where
  pub answer : Outcome Answer
  pub kept : CertifiedAccepted order (length list) (length group) answer list group coefficients
  pub returned : Returned answer result counts

-- sukoreta_lent_list_with_coefficients: the result and the areas by the definition; and what a reader may conclude
pub record CertifiedLent (order : Order) (result : ℤ) (list : List ℤ) (group : List ℕ) (coefficients : List ℤ)
    (counts : List ℕ) : Type 0 where
  pub returned : Returned (certified_due order list group coefficients counts).answer result counts
  pub list_holds : list ≡ (certified_due order list group coefficients counts).list
  pub group_holds : group ≡ (certified_due order list group coefficients counts).group
  pub coefficients_hold : coefficients ≡ (certified_due order list group coefficients counts).coefficients
  pub accepted : (k : ℕ) → result ≡ pos k → CertifiedGiven order result list group coefficients counts
  pub refused : (k : ℕ) → result ≡ negsuc k → CertifiedZero list group coefficients × CountsZero counts

-- .. of the order that is sent, in the areas that are lent
abbrev pub KeepsLentCertified : (n : ℕ) (generators : Lent ℤ) (exchanges : Lent ℕ) (images : Lent ℤ) (list : LentMut ℤ)
    (group : LentMut ℕ) (coefficients : LentMut ℤ) (counts : LentMut ℕ) (result : ℤ) → Type 0
KeepsLentCertified n generators exchanges images list group coefficients counts result =
    let order = sent_order n generators exchanges images in
    CertifiedLent order result list.exit.now group.exit.now coefficients.exit.now counts.exit.now

-- ---- Split

-- the end that is due
abbrev pub split_due : Order → (vector list : List ℤ) (group : List ℕ) (pieces : List ℤ) (counts : List ℕ) → SplitEnd
split_due order vector list group pieces counts =
    lent_split order vector (length list) (length group) (length pieces) (length counts)

-- a result that is no refusal: what `SplitPromise` says of an accepted split
pub record SplitGiven (order : Order) (vector : List ℤ) (result : ℤ) (list : List ℤ) (group : List ℕ)
    (pieces : List ℤ) (counts : List ℕ) : Type 0 where
  pub answer : Outcome Answer
  pub kept : SplitAccepted order vector answer list group pieces
  pub returned : Returned answer result counts

-- the vector is not in the lattice
abbrev pub Outside : Order → (vector : List ℤ) → Type 0
Outside order vector = ¬ (InLattice (generators_of order) (padded vector))

-- sukoreta_lent_split: and 15 only outside the lattice, past 14 exactly then
pub record SplitLent (order : Order) (vector : List ℤ) (result : ℤ) (list : List ℤ) (group : List ℕ)
    (pieces : List ℤ) (counts : List ℕ) : Type 0 where
  pub returned : Returned (split_due order vector list group pieces counts).answer result counts
  pub list_holds : list ≡ (split_due order vector list group pieces counts).list
  pub group_holds : group ≡ (split_due order vector list group pieces counts).group
  pub pieces_holds : pieces ≡ (split_due order vector list group pieces counts).pieces
  pub accepted : (k : ℕ) → result ≡ pos k → SplitGiven order vector result list group pieces counts
  pub refused : (k : ℕ) → result ≡ negsuc k → SplitZero list group pieces × CountsZero counts
  pub outside : result ≡ refusal_of 15 0 → Outside order vector
  pub exactly : PastEntries order vector (length list) (length group) (length pieces)
      → (result ≡ refusal_of 15 0) ↔ Outside order vector

-- .. of the order and the vector that are sent, in the areas that are lent
abbrev pub KeepsLentSplit : (n : ℕ) (generators : Lent ℤ) (exchanges : Lent ℕ) (images vector : Lent ℤ)
    (list : LentMut ℤ) (group : LentMut ℕ) (pieces : LentMut ℤ) (counts : LentMut ℕ) (result : ℤ) → Type 0
KeepsLentSplit n generators exchanges images vector list group pieces counts result =
    let order = sent_order n generators exchanges images in
    SplitLent order vector.entry.now result
    list.exit.now group.exit.now pieces.exit.now counts.exit.now

-- ---- Check

-- the end that is due
abbrev pub check_due : Order → (rows coefficients : List ℤ) (group counts : List ℕ) → CheckEnd
check_due order rows coefficients group counts = lent_check order rows coefficients (length group) (length counts)

-- a result that is no refusal: what `CheckPromise` says of a pass
pub record CheckGiven (order : Order) (rows coefficients : List ℤ) (result : ℤ) (group counts : List ℕ) : Type 0 where
  pub count : ℕ
  pub sums : ℕ
  pub kept : CheckPassed order rows coefficients (length group) group count sums
  pub returned : Returned (accepted (Passed count sums)) result counts

-- the rules are kept, the brought list is whole, and there is room for two counts
pub record MayPass (order : Order) (rows coefficients : List ℤ) (group counts : List ℕ) : Type 0 where
  pub rules : RulesKept order rows coefficients (length group)
  pub whole : Whole order.n (exchanges_of order) (generators_of order) (vectors_of order.n rows)
  pub roomy : 2 ≤ length counts

-- sukoreta_lent_check: and a number of rows if and only if the list may pass
pub record CheckLent (order : Order) (rows coefficients : List ℤ) (result : ℤ) (group counts : List ℕ) : Type 0 where
  pub returned : Returned (check_due order rows coefficients group counts).answer result counts
  pub group_holds : group ≡ (check_due order rows coefficients group counts).group
  pub accepted : (k : ℕ) → result ≡ pos k → CheckGiven order rows coefficients result group counts
  pub passes : (result ≡ pos (length rows / order.n)) ↔ MayPass order rows coefficients group counts
  pub refused : (k : ℕ) → result ≡ negsuc k → (group ≡ replicate (length group) 0) × CountsZero counts

-- .. of the order and the list that are sent, in the areas that are lent
abbrev pub KeepsLentCheck : (n : ℕ) (generators : Lent ℤ) (exchanges : Lent ℕ) (images rows coefficients : Lent ℤ)
    (group counts : LentMut ℕ) (result : ℤ) → Type 0
KeepsLentCheck n generators exchanges images rows coefficients group counts result =
    let order = sent_order n generators exchanges images in
    CheckLent order rows.entry.now coefficients.entry.now result group.exit.now counts.exit.now

-- ---- Session

-- with room for the counts: what `SessionPromise` says, the number of finished orders, and the counts in their area
pub record SessionGiven (first second : Order) (steps : List ℕ) (result : ℤ) (list : List ℤ) (group counts : List ℕ)
    : Type 0 where
  pub answer : Session
  pub kept : SessionPromise first second (length list) (length group) steps answer list group
  pub results : result ≡ pos (finished_of answer)
  pub counts_hold : counts ≡ filled 0 (length counts) (session_counts answer)

-- without: 6 at 0, and zeros in every area
pub record SessionShort (result : ℤ) (list : List ℤ) (group counts : List ℕ) : Type 0 where
  pub results : result ≡ refusal_of 6 0
  pub zeros : ListZero list group × CountsZero counts

-- sukoreta_lent_session: a refusal of an order is among the counts, and the result is one only without room for them
pub record SessionLent (first second : Order) (steps : List ℕ) (result : ℤ) (list : List ℤ) (group counts : List ℕ)
    : Type 0 where
  pub roomy : session_size ≤ length counts → SessionGiven first second steps result list group counts
  pub short : length counts < session_size → SessionShort result list group counts

-- .. of the orders and the steps that are sent, in the areas that are lent
abbrev pub KeepsLentSession : (first second : Order) (list : LentMut ℤ) (group : LentMut ℕ) (steps : Lent ℕ)
    (counts : LentMut ℕ) (result : ℤ) → Type 0
KeepsLentSession first second list group steps counts result =
    SessionLent first second steps.entry.now result
    list.exit.now group.exit.now counts.exit.now

-- ---- Window

-- a run was returned, and its counts stand in their area
pub record RunReturned (answer : Outcome Run) (result : ℤ) (counts : List ℕ) : Type 0 where
  pub results : result ≡ run_result answer
  pub counts_hold : counts ≡ filled 0 (length counts) (run_counts answer)

-- the end that is due
abbrev pub window_due : Order → Chain → (list : List ℤ) (group : List ℕ) (answers : List ℤ) (counts : List ℕ)
    → WindowEnd
window_due order chain list group answers counts =
    let room : Room = record { list = length list; group = length group; answers = length answers } in
    lent_window order chain room (length counts)

-- a result that is no refusal: what `WindowPromise` says of a run whose records all have answers
pub record WindowGiven (order : Order) (chain : Chain) (result : ℤ) (list : List ℤ) (group : List ℕ)
    (answers : List ℤ) (counts : List ℕ) : Type 0 where
  pub answer : Outcome Run
  pub kept : WindowAccepted order chain answer list group answers
  pub returned : RunReturned answer result counts

-- sukoreta_lent_window: the result and the areas by the definition; and what a reader may conclude from the result
pub record WindowLent (order : Order) (chain : Chain) (result : ℤ) (list : List ℤ) (group : List ℕ)
    (answers : List ℤ) (counts : List ℕ) : Type 0 where
  pub returned : RunReturned (window_due order chain list group answers counts).answer result counts
  pub list_holds : list ≡ (window_due order chain list group answers counts).list
  pub group_holds : group ≡ (window_due order chain list group answers counts).group
  pub answers_hold : answers ≡ (window_due order chain list group answers counts).answers
  pub accepted : (k : ℕ) → result ≡ pos k → WindowGiven order chain result list group answers counts
  pub record_refused : (place : ℕ) → result ≡ refusal_of 25 place
      → RecordRefused order chain place list group answers × CountsZero counts
  pub refused : (k : ℕ) → result ≡ negsuc k → ((place : ℕ) → ¬ (result ≡ refusal_of 25 place))
      → WindowZero list group answers × CountsZero counts

-- .. of the order and the chain that are sent, in the areas that are lent
abbrev pub KeepsLentWindow : Order → Chain → (list : LentMut ℤ) (group : LentMut ℕ) (answers : LentMut ℤ)
    (counts : LentMut ℕ) (result : ℤ) → Type 0
KeepsLentWindow order chain list group answers counts result =
    WindowLent order chain result list.exit.now group.exit.now answers.exit.now counts.exit.now

-- ---- Plan

-- a plan was returned, and its counts stand in their area
pub record PlanReturned (answer : Outcome Planned) (result : ℤ) (counts : List ℕ) : Type 0 where
  pub results : result ≡ plan_result answer
  pub counts_hold : counts ≡ filled 0 (length counts) (plan_counts answer)

-- the end that is due
abbrev pub plan_due : Order → Problem → (list : List ℤ) (group : List ℕ) (plan : List ℤ) (counts : List ℕ) → PlanEnd
plan_due order problem list group plan counts =
    let room : PlanRoom = record { list = length list; group = length group; plan = length plan } in
    lent_plan order problem room (length counts)

-- the second count is 1: what `PlanPromise` says of a cheapest plan
pub record CheapestGiven (order : Order) (problem : Problem) (result : ℤ) (list : List ℤ) (group : List ℕ)
    (plan : List ℤ) (counts : List ℕ) : Type 0 where
  pub answer : Outcome Planned
  pub kept : CheapestReached order problem answer list group plan
  pub returned : PlanReturned answer result counts

-- the second count is 0: what `PlanPromise` says of a plan where the budget is spent
pub record SpentGiven (order : Order) (problem : Problem) (result : ℤ) (list : List ℤ) (group : List ℕ)
    (plan : List ℤ) (counts : List ℕ) : Type 0 where
  pub answer : Outcome Planned
  pub kept : BudgetSpent order problem answer list group plan
  pub returned : PlanReturned answer result counts

-- sukoreta_lent_plan: the result and the areas by the definition; and what a reader may conclude from the result and
-- the second count
pub record PlanLent (order : Order) (problem : Problem) (result : ℤ) (list : List ℤ) (group : List ℕ)
    (plan : List ℤ) (counts : List ℕ) : Type 0 where
  pub returned : PlanReturned (plan_due order problem list group plan counts).answer result counts
  pub list_holds : list ≡ (plan_due order problem list group plan counts).list
  pub group_holds : group ≡ (plan_due order problem list group plan counts).group
  pub plan_holds : plan ≡ (plan_due order problem list group plan counts).plan
  pub cheapest : (k : ℕ) → result ≡ pos k → get_or counts 1 0 ≡ 1
      → CheapestGiven order problem result list group plan counts
  pub spent : (k : ℕ) → result ≡ pos k → get_or counts 1 0 ≡ 0
      → SpentGiven order problem result list group plan counts
  pub refused : (k : ℕ) → result ≡ negsuc k → PlanZero list group plan × CountsZero counts

-- .. of the order and the problem that are sent, in the areas that are lent
abbrev pub KeepsLentPlan : Order → Problem → (list : LentMut ℤ) (group : LentMut ℕ) (plan : LentMut ℤ)
    (counts : LentMut ℕ) (result : ℤ) → Type 0
KeepsLentPlan order problem list group plan counts result =
    PlanLent order problem result list.exit.now group.exit.now plan.exit.now counts.exit.now
