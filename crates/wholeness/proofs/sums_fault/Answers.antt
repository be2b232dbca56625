-- `sums_fault` meets its contract. The invariant: the sums that are left decide the test as all do, and those before them have
-- remainder zero. The measure: the number of those left. Assumes nothing.
use mathlib.Core.Path.{◌≡◌, sym, ◌∙◌, ap}
use mathlib.Core.Bool.{true}
use native.Mathlib.Omega.{arith}
use borrow.Author.Tests.{eqb-true}
use Rattle.definitions.specs.Vector.{is_zero}
use Rattle.completion.specs.Machine.{remainder_in}
use Rattle.completion.proofs.Sums.{mark-room}
use Rattle.wholeness.proofs.Trying.{trying_start, trying-end, trying-summable, trying-countable}
use Rattle.wholeness.proofs.Trying.{trying-fault, trying-next, trying-less, trying-repeated}
use Rattle.wholeness.proofs.sums_fault.Goals as goal
use Rattle.wholeness.proofs.sums_fault.Goals.{Joined-not-is_repeated_sum, then-not-is_repeated_sum+else-not-is_zero, else-not-is_repeated_sum}

pub loop-s-init : goal.loop-s-init
loop-s-init c = rw c.first-s.ensures.first (trying_start c.requires.ready.brought)

pub is_repeated_sum-requires : goal.is_repeated_sum-requires
is_repeated_sum-requires c = let R = c.requires.ready in record { marked = mark-room (trying-summable R.brought c.loop-s.invariant c.loop-s-test.true R) }

pub try_sum-rest-requires : goal.try_sum-rest-requires
try_sum-rest-requires c = let R = c.requires.ready in record { summable = trying-summable R.brought c.loop-s.invariant c.loop-s-test.true R }

pub overflow_add-result : goal.overflow_add-result
overflow_add-result c = omega (arith, trying-countable c.requires.ready.brought c.loop-s.invariant c.loop-s-test.true)

pub returns-then-not-is_zero : goal.returns-then-not-is_zero
returns-then-not-is_zero c =
    record {
      found = trying-fault c.requires.ready.brought c.loop-s.invariant c.loop-s-test.true
          (ap is_zero (sym c.try_sum-rest.ensures.rest) ∙ sym c.is_zero.ensures.told ∙ c.if-not-is_zero.true);
    }

pub next-t-requires : goal.next-t-requires
next-t-requires c = record { countable = trying-countable c.requires.ready.brought c.loop-s.invariant c.loop-s-test.true }

pub loop-s-smaller : goal.loop-s-smaller
loop-s-smaller c = trying-less c.requires.ready.brought c.loop-s.invariant c.loop-s-test.true c.next-t.result c.next-t.ensures.next

-- the remainder of the state's sum is zero: it was reduced, or the sum was tried before
zero_rest : (c : Joined-not-is_repeated_sum) → is_zero (remainder_in c.args.shape c.args.table.now c.args.rows.now c.loop-s.s) ≡ true
zero_rest c =
    let R = c.requires.ready in
    elim c.if-not-is_repeated_sum.branch [
      | then-not-is_repeated_sum+else-not-is_zero w ↦
          ap is_zero (sym w.try_sum-rest.ensures.rest) ∙ sym w.is_zero.ensures.told ∙ w.if-not-is_zero.false
      | else-not-is_repeated_sum w ↦
          trying-repeated R.brought c.loop-s.invariant c.loop-s-test.true R
          (eqb-true _ 0 (sym c.is_repeated_sum.ensures.mark ∙ w.if-not-is_repeated_sum.false))
    ]

pub loop-s-preserved : goal.loop-s-preserved
loop-s-preserved c = trying-next c.requires.ready.brought c.loop-s.invariant c.loop-s-test.true c.next-t.result c.next-t.ensures.next (zero_rest (goal.at.loop-s-preserved c).Joined-not-is_repeated_sum)

pub returns : goal.returns
returns c = record { found = trying-end c.requires.ready.brought c.loop-s.invariant c.loop-s-test.false }
