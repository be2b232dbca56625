-- `run_order` meets its contract: a refused order leaves zeros, another takes its steps. Assumes nothing.
use Rattle.definitions.specs.Refusals.{Fault, no_fault, fault_at}
use Rattle.std.specs.declared.result.Result.TheVariants.{Err}
use Rattle.theory.proofs.Faults.{unmet}
use mathlib.Core.Path.{◌≡◌, refl, sym, ◌∙◌, ap}
use mathlib.Core.List.{List, []}
use Prim.Native.Nat.{ℕ}
use lib.IntN.{ℤ, pos}
use lib.ListN.{length}
use Rattle.definitions.specs.Limits.{session_rows}
use Rattle.definitions.specs.Group.{Exchange}
use Rattle.definitions.specs.Completion.{Completion, is_over, stopped}
use Rattle.definitions.specs.Lent.{filled}
use Rattle.definitions.specs.Refusals.{refused}
use Rattle.definitions.specs.Session.{Result, ended, ending_of, half, half_of, result_of, unless_met}
use Rattle.theory.proofs.Steps.{steps, steps-over}
use Rattle.session_orders.specs.Ends.{OrderEnds}
use Rattle.sessions.proofs.run_order.Goals as goal

-- an order that met a test has come to its refusal
met-result : (table : List Exchange) (c : Completion) (count : ℕ) {fault : Fault} {number place : ℕ} → fault ≡ fault_at number place
    → result_of table (steps table session_rows count (unless_met fault c)) ≡ ended (refused number place)
unfolding unless_met is_over result_of
met-result table c count {number = number} {place = place} e =
    ap (λ (f : Fault). result_of table (steps table session_rows count (unless_met f c))) e
    ∙ ap (result_of table) (steps-over table session_rows count (stopped number place) refl)

-- and its half is zeros
ends-met : {n number place : ℕ} {result : Result} (list : List ℤ) {list' : List ℤ} → result ≡ ended (refused number place)
    → length list ≡ half n → list' ≡ filled (pos 0) (length list) [] → OrderEnds n result list' (refused number place)
unfolding ending_of half_of
ends-met {n} list r l e = record {
  answer = sym (ap ending_of r);
  holds = e ∙ ap (λ (k : ℕ). filled (pos 0) k []) l ∙ sym (ap (half_of n) r);
}

-- one that met none takes its steps
unmet-result : (table : List Exchange) (c : Completion) (count : ℕ) {fault : Fault} → fault ≡ no_fault
    → result_of table (steps table session_rows count c) ≡ result_of table (steps table session_rows count (unless_met fault c))
unfolding unless_met
unmet-result table c count e = sym (ap (λ (f : Fault). result_of table (steps table session_rows count (unless_met f c))) e)

ends_same : {n : ℕ} {a b : Result} {list : List ℤ} {r : _} → a ≡ b → OrderEnds n a list r → OrderEnds n b list r
ends_same {n} e E = record { answer = E.answer ∙ ap ending_of e; holds = E.holds ∙ ap (half_of n) e }

pub complete_order-requires : goal.complete_order-requires
complete_order-requires c = record { grouped = c.requires.grouped (unmet c.in_default.not-Err); sized = c.requires.sized }

pub returns-in-Err : goal.returns-in-Err
returns-in-Err c = record { ended = ends-met c.args.list.now (met-result _ _ c.args.count c.in-Err.is) c.requires.sized c.clear.ensures.cleared }

pub returns : goal.returns
returns c = record { ended = ends_same (unmet-result _ _ c.args.count (unmet c.in_default.not-Err)) c.complete_order.ensures.ended }
