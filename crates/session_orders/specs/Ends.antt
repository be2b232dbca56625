-- One order of a session on its half of a list area, by the definitions (Specification 3.8). Assumes nothing.
use Rattle.definitions.specs.Refusals.{Outcome, accepted}
use Rattle.std.specs.declared.result.Result.TheVariants.{Err}
use Rattle.completion.specs.declared.State.{State}
use Rattle.std.specs.Prelude.{◌≡◌, List, ℕ, ℤ}
use Rattle.definitions.specs.declared.Ending.{Ending}
use Rattle.definitions.specs.Limits.{session_rows}
use Rattle.definitions.specs.Completion.{begun}
use Rattle.definitions.specs.Completion as Defined
use Rattle.definitions.specs.Lent.{vectors_of}
use Rattle.definitions.specs.Session.{Result, ending_of, half_of, result_of}
use Rattle.theory.proofs.Steps.{steps}
use Rattle.vectors.specs.Areas.{Lent, LentMut}
use Rattle.reduction.specs.declared.Shape.{Shape}
use Rattle.reduction.specs.Areas.{sequences_in}
use Rattle.completion.specs.declared.Sizes.{Sizes}
use Rattle.completion.specs.Machine.{Ready, completion_in}

-- a state is as it should be; one that was turned down needs nothing
abbrev pub ReadyIn : Sizes → (table : List ℕ) (list : List ℤ) (marks keys : List ℕ) → Outcome State → Type 0
ReadyIn sizes table list marks keys (accepted s) = Ready sizes table list marks keys s
ReadyIn sizes table list marks keys (Err r) = Unit {0}

-- a completion on these areas is as it should be
pub record Standing (sizes : Sizes) (table : List ℕ) (list : List ℤ) (marks keys : List ℕ) (c : Outcome State)
    : Type 0 where
  pub ready : ReadyIn sizes table list marks keys c

-- `count` steps from a completion on
abbrev pub taken_in : Sizes → (table : List ℕ) (list : List ℤ) → Outcome State → (count : ℕ) → Defined.Completion
taken_in sizes table list c count =
    steps (sequences_in sizes.shape table) sizes.limit count (completion_in sizes.shape.n list c)

-- the areas after steps that came to r, which is c of the definition
pub record Taken (sizes : Sizes) (table : List ℕ) (list : List ℤ) (marks keys : List ℕ) (c : Defined.Completion)
    (r : Outcome State) : Type 0 where
  pub answer : completion_in sizes.shape.n list r ≡ c
  pub standing : Standing sizes table list marks keys r

-- what a completion on a half has come to
abbrev pub result_in : Shape → (table : List ℕ) (list : List ℤ) → Outcome State → Result
result_in shape table list c = result_of (sequences_in shape table) (completion_in shape.n list c)

-- an order has come to `result`: its answer, and its half
pub record OrderEnds (n : ℕ) (result : Result) (list : List ℤ) (r : Outcome Ending) : Type 0 where
  pub answer : r ≡ ending_of result
  pub holds : list ≡ half_of n result

-- .. an order that met no test, after `count` steps, with the table in the group area
abbrev pub EndsIn : Shape → (generators : Lent ℤ) (list : LentMut ℤ) (table : Lent ℕ) (count : ℕ)
    (r : Outcome Ending) → Type 0
EndsIn shape generators list table count r =
    let sequences = sequences_in shape table.entry.now in
    let start = begun sequences session_rows (vectors_of shape.n generators.entry.now) in
    OrderEnds shape.n (result_of sequences (steps sequences session_rows count start)) list.exit.now r
