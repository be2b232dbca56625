-- `run_both` meets its contract: each order on its half. Assumes nothing.
use mathlib.Core.Path.{◌≡◌, sym, ◌∙◌, ap, ap₂}
use mathlib.Core.List.{◌++◌}
use Prim.Native.Nat.{ℕ, ◌+◌, ◌*◌}
use native.Mathlib.Omega.{arith}
use lib.ListN.{length}
use Rattle.definitions.specs.Session.{ending_of, half, half_of}
use Rattle.sessions.specs.Found.{result_by, shape_of}
use Rattle.sessions.proofs.Halves.{back_long, both_halves, front_long, once-long}
use Rattle.sessions.proofs.run_both.Goals as goal
use Rattle.sessions.proofs.run_both.Goals.{Start}
use Rattle.sessions.proofs.run_both.Lts
use Rattle.sessions.proofs.run_both.Reads
use Rattle.sessions.proofs.run_both.Tie

-- what is known at the places that the lemmas below are about
abbrev After-run_order-first : Type 0
After-run_order-first = Lts.After-run_order Tie.the-claims Reads.Pre Reads.Post Tie.handed_clauses

-- the numbers of a half
abbrev numbers : Start → ℕ
numbers s = s.args.n * 64

long : (s : Start) → length s.args.list.now ≡ numbers s + numbers s
unfolding half
long s = s.requires.sized

-- the first half keeps its length
front : (c : After-run_order-first) → length c.run_order-first.new.list ≡ numbers c.before.before.before.before.before
front c =
    c.run_order-first.auto.list ∙ front_long (numbers c.before.before.before.before.before) c.args.list.now (long c.before.before.before.before.before)

pub slice_bounds-run_order-end : goal.slice_bounds-run_order-end
slice_bounds-run_order-end c = omega (arith, long c.before.before.before)

pub slice_bounds-run_order-end-2 : goal.slice_bounds-run_order-end-2
slice_bounds-run_order-end-2 c = sym (front_long (numbers c.before.before.before.before) c.args.list.now (long c.before.before.before.before))

pub run_order-first-requires : goal.run_order-first-requires
unfolding half
run_order-first-requires c = record { grouped = c.requires.first; sized = front_long (numbers c.before.before.before.before.before) c.args.list.now (long c.before.before.before.before.before) }

pub slice_bounds-run_order-count : goal.slice_bounds-run_order-count
slice_bounds-run_order-count c = omega (arith, once-long (numbers c.before.before.before.before.before.before.before) c.args.list.now (long c.before.before.before.before.before.before.before) c.run_order-first.new.list (front c.before.before))

pub slice_bounds-run_order-start : goal.slice_bounds-run_order-start
slice_bounds-run_order-start c = omega (arith, once-long (numbers c.before.before.before.before.before.before.before) c.args.list.now (long c.before.before.before.before.before.before.before) c.run_order-first.new.list (front c.before.before))

pub run_order-second-requires : goal.run_order-second-requires
unfolding half
run_order-second-requires c = record { grouped = c.requires.second; sized = back_long (numbers c.before.before.before.before.before.before.before.before.before) c.args.list.now (long c.before.before.before.before.before.before.before.before.before) c.run_order-first.new.list (front c.before.before.before.before) }

pub returns : goal.returns
returns c =
    let first = result_by (shape_of c.args.n c.args.tests) c.args.table.now c.args.tests.first c.args.generators0.now in
    let second = result_by (shape_of c.args.n c.args.tests) c.args.table.now c.args.tests.second c.args.generators1.now in record {
      ended = record {
        first_answers = c.run_order-first.ensures.ended.answer ∙ ap (λ (k : ℕ). ending_of (first k)) c.count_steps.ensures.counted;
        second_answers = c.run_order-second.ensures.ended.answer ∙ ap (λ (k : ℕ). ending_of (second k)) c.count_steps-2.ensures.counted;
        holds = both_halves (numbers c.before.before.before.before.before.before.before.before.before.before.before) c.args.list.now (long c.before.before.before.before.before.before.before.before.before.before.before) c.run_order-first.new.list (front c.before.before.before.before.before.before) c.run_order-second.new.list
            ∙ ap₂ ◌++◌ (c.run_order-first.ensures.ended.holds ∙ ap (λ (k : ℕ). half_of c.args.n (first k)) c.count_steps.ensures.counted)
            (c.run_order-second.ensures.ended.holds ∙ ap (λ (k : ℕ). half_of c.args.n (second k)) c.count_steps-2.ensures.counted);
      };
    }
