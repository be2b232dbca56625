-- What the parts of a session find, by the definitions (Specification 3.8). Assumes nothing.
use Rattle.definitions.specs.Refusals.{Outcome, refused}
use Rattle.std.specs.declared.result.Result.TheVariants.{Err}
use Rattle.definitions.specs.Refusals.{Fault, no_fault, fault_at}
use Rattle.std.specs.Prelude.{◌≡◌, Bool, true, false, List, [], ◌∷◌, ◌++◌, ℕ, ◌≤◌, ◌<◌, eqb, ℤ, length}
use Rattle.definitions.specs.declared.Ending.{Ending}
use Rattle.definitions.specs.declared.Session.{Session}
use Rattle.definitions.specs.Limits.{cells, session_rows}
use Rattle.definitions.specs.Lists.{concat}
use Rattle.definitions.specs.Completion.{begun}
use Rattle.definitions.specs.Lent.{Order, filled, group_rows, order_of, rows_of, table_of, vectors_of}
use Rattle.definitions.specs.Refusals.{fault_if, first_fault}
use Rattle.definitions.specs.Session.{Result, ending_of, half_of, result_of, session_fault, shared_fault, steps_of, unless_met}
use Rattle.theory.proofs.Exchanges.{AllExchanges}
use Rattle.theory.proofs.Steps.{steps}
use Rattle.vectors.specs.Areas.{Lent, LentMut}
use Rattle.reduction.specs.declared.Shape.{Shape}
use Rattle.reduction.specs.Areas.{sequences_in}
use Rattle.moves.specs.Found.{Grouped}
use Rattle.sessions.specs.declared.Tests.{Tests}

-- ---- the tests

-- the shared ones, which see numbers of cells alone
abbrev pub shared_in : (n other list_size : ℕ) → Fault
shared_in n other list_size = shared_fault (order_of n [] [] []) (order_of other [] [] []) list_size

-- one of the orders has met no test
abbrev pub any_left : (first second : Fault) → Bool
any_left no_fault second = true
any_left (Err r) no_fault = true
any_left (Err r) (Err q) = false

-- exchanges whose group can be made
pub record Exchangeable (n : ℕ) (exchanges : List ℕ) : Type 0 where
  pub some : 1 ≤ n
  pub narrow : n ≤ cells
  pub valid : AllExchanges n (rows_of n exchanges)

-- `members` is the number of the group's members, and the area holds its table; or 0, and there are more than it has
-- rows for
pub record Tabled (order : Order) (size : ℕ) (group : List ℕ) (members : ℕ) : Type 0 where
  pub large : members ≡ 0 → group_rows order.n size < length (table_of order size)
  pub few : 0 < members → members ≤ group_rows order.n size
  pub counted : 0 < members → members ≡ length (table_of order size)
  pub held : 0 < members → group ≡ filled 0 size (concat (table_of order size))

-- 10, where the group has no table, and 11 or 23, after 5 to 9
abbrev pub late_fault : (early : Fault) (members : ℕ) (lattice : Fault) → Fault
late_fault early members lattice = first_fault (early ∷ fault_if 10 (eqb members 0) ∷ lattice ∷ [])

-- the tests of both orders came to r; where one is left the group area holds the table
pub record Finds (first second : Order) (list_size group_size : ℕ) (group : List ℕ) (r : Tests) : Type 0 where
  pub first_met : r.first ≡ session_fault first second list_size group_size
  pub second_met : r.second ≡ session_fault second first list_size group_size
  pub counted : any_left r.first r.second ≡ true → r.members ≡ length (table_of first group_size)
  pub held : any_left r.first r.second ≡ true → group ≡ filled 0 group_size (concat (table_of first group_size))

-- ---- the orders

abbrev pub shape_of : (n : ℕ) → Tests → Shape
shape_of n tests = record { n = n; g = tests.members }

-- an order that met no test has a table that keeps its lattice
abbrev pub GroupedUnless : Fault → Shape → (generators : List ℤ) (table : List ℕ) → Type 0
GroupedUnless fault shape generators table = fault ≡ no_fault → Grouped shape generators table

-- what an order has come to that met `fault`, after `count` steps
abbrev pub result_by : Shape → (table : List ℕ) (fault : Fault) (generators : List ℤ) (count : ℕ) → Result
result_by shape table fault generators count =
    let sequences = sequences_in shape table in
    let start = unless_met fault (begun sequences session_rows (vectors_of shape.n generators)) in
    result_of sequences (steps sequences session_rows count start)

-- both orders have come to these: their answers, and the list area
pub record Ends (n : ℕ) (first second : Result) (list : List ℤ) (r : Session) : Type 0 where
  pub first_answers : r.first ≡ ending_of first
  pub second_answers : r.second ≡ ending_of second
  pub holds : list ≡ half_of n first ++ half_of n second

-- .. after the steps that name them
abbrev pub EndsIn : Tests → (n : ℕ) (generators0 generators1 : Lent ℤ) (list : LentMut ℤ)
    (table steps : Lent ℕ) (r : Session) → Type 0
EndsIn tests n generators0 generators1 list table steps r =
    let result = result_by (shape_of n tests) table.entry.now in
    Ends n (result tests.first generators0.entry.now (steps_of 0 steps.entry.now))
    (result tests.second generators1.entry.now (steps_of 1 steps.entry.now))
    list.exit.now r

-- the end of an order that meets a test
abbrev pub RefusedBy : Fault → Outcome Ending → Type 0
RefusedBy fault r = (number place : ℕ) → fault ≡ fault_at number place → r ≡ refused number place
