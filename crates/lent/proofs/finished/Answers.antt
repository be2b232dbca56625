-- `finished` meets its contract. Assumes nothing.
use mathlib.Core.Path.{◌∙◌, ap₂}
use Prim.Native.Nat.{ℕ, ◌+◌, ◌≤◌}
use native.Mathlib.Omega.{arith}
use lib.IntN.{pos}
use Rattle.vectors.proofs.Negatives.{small}
use Rattle.lent.proofs.Sessions.{finished-most}
use Rattle.lent.proofs.finished.Goals as goal
use Rattle.lent.proofs.finished.Goals.{After-finished_one-2}

-- the number of finished orders is small
few : (c : After-finished_one-2) → c.finished_one.result + c.finished_one-2.result ≤ 2
few c =
    let answer = c.args.answer in
    omega (arith, finished-most answer.first, finished-most answer.second)

pub overflow_add-result : goal.overflow_add-result
overflow_add-result c = omega (arith, few c)

pub overflow_cast-result : goal.overflow_cast-result
overflow_cast-result c = omega (arith, few c)

pub returns : goal.returns
returns c =
    record {
      counted = small _ (omega (arith, few c))
          ∙ ap₂ (λ (a b : ℕ). pos (a + b)) c.finished_one.ensures.told c.finished_one-2.ensures.told;
    }
