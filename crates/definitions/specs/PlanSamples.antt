-- Specification 10: the proved sample plans. Assumes nothing.
use Rattle.definitions.specs.Refusals.{Outcome, accepted, refused}
use Rattle.std.specs.Prelude.{◌≡◌, List, [], ◌∷◌, ◌++◌, ℕ, ◌-◌, ℤ, pos, neg_ℤ, length, replicate}
use Rattle.definitions.specs.declared.Planned.{Planned}
use Rattle.definitions.specs.declared.Planned.TheVariants.{Cheapest, Spent}
use Rattle.definitions.specs.Lent.{Order, order_of}
use Rattle.definitions.specs.Plan.{PlanEnd, PlanRoom, Problem, plan_call}

-- a line of the table: an order, what the planner sends, the sizes of the areas, and the end
pub record PlanSample : Type 0 where
  pub order : Order
  pub problem : Problem
  pub room : PlanRoom
  pub end : PlanEnd

unfoldable pub plan_called : PlanSample → PlanEnd
plan_called sample = plan_call sample.order sample.problem sample.room

infix 80 +◌
infix 80 −◌
abbrev +◌ : ℕ → ℤ
+ k = pos k

abbrev −◌ : ℕ → ℤ
− k = neg_ℤ (pos k)

abbrev problem_of : (start upper costs : List ℤ) (budget : ℕ) → Problem
problem_of start upper costs budget = record { start = start; upper = upper; costs = costs; budget = budget }

abbrev room_of : (list group plan : ℕ) → PlanRoom
room_of list group plan = record { list = list; group = group; plan = plan }

-- the line of an order: the answer, and in its areas the numbers of the list, the table and the plan, with zeros behind
-- them
line : Order → Problem → PlanRoom → Outcome Planned → (list : List ℤ) (table : List ℕ) (plan : List ℤ) → PlanSample
line order problem room answer list table plan =
    record {
      order = order;
      problem = problem;
      room = room;
      end = record {
        answer = answer;
        list = list ++ replicate (room.list - length list) (pos 0);
        group = table ++ replicate (room.group - length table) 0;
        plan = plan ++ replicate (room.plan - length plan) (pos 0);
      };
    }

-- the differences of three cells, a problem of theirs, and their list
abbrev three : Order
three = order_of 3 (+ 1 ∷ − 1 ∷ + 0 ∷ + 0 ∷ + 1 ∷ − 1 ∷ []) [] []

abbrev steep : (budget : ℕ) → Problem
steep budget = problem_of (+ 3 ∷ + 0 ∷ + 0 ∷ []) (+ 3 ∷ + 2 ∷ + 2 ∷ []) (+ 5 ∷ + 1 ∷ + 3 ∷ []) budget

abbrev even : (last : ℕ) → Problem
even last = problem_of (+ 1 ∷ + 1 ∷ + 1 ∷ []) (+ 2 ∷ + 2 ∷ + last ∷ []) (+ 2 ∷ + 1 ∷ + 1 ∷ []) 7

abbrev three_list : List ℤ
three_list = + 1 ∷ + 0 ∷ − 1 ∷ + 1 ∷ − 1 ∷ + 0 ∷ + 0 ∷ + 1 ∷ − 1 ∷ []

-- (1,−1), without exchanges
abbrev pair : Order
pair = order_of 2 (+ 1 ∷ − 1 ∷ []) [] []

unfoldable pub plan_samples : List PlanSample
unfolding line
plan_samples =
    -- P55: three steps; the first two take the second row, which gains more than the first
    line three (steep 10) (room_of 12 6 3) (accepted (Cheapest 3 3 1 3 12))
    three_list (1 ∷ 2 ∷ 3 ∷ []) (+ 0 ∷ + 2 ∷ + 1 ∷ [])
    -- P56: two steps, and an image that gains 2 is left; 2, 2 and 2 are the larger parts of the cells
    ∷ line three (steep 2) (room_of 12 6 3) (accepted (Spent 2 12 3 1 3 12))
    three_list (1 ∷ 2 ∷ 3 ∷ []) (+ 1 ∷ + 2 ∷ + 0 ∷ [])
    -- P57: the budget ends with the last step
    ∷ line three (steep 3) (room_of 12 6 3) (accepted (Cheapest 3 3 1 3 12))
    three_list (1 ∷ 2 ∷ 3 ∷ []) (+ 0 ∷ + 2 ∷ + 1 ∷ [])
    -- P58: two images gain 1, and the earlier is taken
    ∷ line three (even 2) (room_of 9 3 3) (accepted (Cheapest 1 3 1 3 12))
    three_list (1 ∷ 2 ∷ 3 ∷ []) (+ 0 ∷ + 1 ∷ + 2 ∷ [])
    -- P59: .. unless it passes an upper bound
    ∷ line three (even 1) (room_of 9 3 3) (accepted (Cheapest 1 3 1 3 12))
    three_list (1 ∷ 2 ∷ 3 ∷ []) (+ 0 ∷ + 2 ∷ + 1 ∷ [])
    -- P60: a distance bound past 32 bits
    ∷ line (order_of 2 (+ 2 ∷ − 2 ∷ []) (2 ∷ 1 ∷ []) [])
    (problem_of (+ 1_000_000 ∷ + 0 ∷ []) (+ 1_000_000 ∷ + 1_000_000 ∷ []) (+ 1_000 ∷ − 1_000 ∷ []) 1)
    (room_of 2 4 2)
    (accepted (Spent 1 7_999_984_000 1 2 1 4))
    (+ 2 ∷ − 2 ∷ [])
    (1 ∷ 2 ∷ 2 ∷ 1 ∷ [])
    (+ 999_998 ∷ + 2 ∷ [])
    -- P61: no generators, and no budget
    ∷ line (order_of 1 [] [] []) (problem_of (+ 2 ∷ []) (+ 8 ∷ []) (− 1 ∷ []) 0) (room_of 0 1 1)
    (accepted (Cheapest 0 0 1 0 0))
    []
    (1 ∷ [])
    (+ 2 ∷ [])
    -- P62: a starting entry past its bound, behind a cost past its limit
    ∷ line pair (problem_of (+ 1 ∷ + 1 ∷ []) (+ 1 ∷ + 0 ∷ []) (+ 1_001 ∷ + 0 ∷ []) 0) (room_of 2 2 2)
    (refused 26 1) [] [] []
    -- P63: an upper bound past its limit
    ∷ line pair (problem_of (+ 1 ∷ + 1 ∷ []) (+ 1_000_001 ∷ + 1 ∷ []) (+ 0 ∷ + 0 ∷ []) 0) (room_of 2 2 2)
    (refused 26 0) [] [] []
    -- P64: a cost past its limit
    ∷ line pair (problem_of (+ 1 ∷ + 1 ∷ []) (+ 1 ∷ + 1 ∷ []) (+ 1_000 ∷ − 1_001 ∷ []) 0) (room_of 2 2 2)
    (refused 27 1) [] [] []
    -- P65: a budget past its limit, and a starting entry below 0
    ∷ line pair (problem_of (− 1 ∷ + 1 ∷ []) (+ 1 ∷ + 1 ∷ []) (+ 0 ∷ + 0 ∷ []) 100_001) (room_of 2 2 2)
    (refused 6 0) [] [] []
    -- P66: a plan area with a number too many
    ∷ line pair (problem_of (+ 1 ∷ + 1 ∷ []) (+ 1 ∷ + 1 ∷ []) (+ 0 ∷ + 0 ∷ []) 0) (room_of 2 2 3)
    (refused 6 0) [] [] []
    -- P67: no room for a row in the list area, and no costs
    ∷ line pair (problem_of (+ 1 ∷ + 1 ∷ []) (+ 1 ∷ + 1 ∷ []) [] 0) (room_of 0 2 2)
    (refused 13 0) [] [] []
    ∷ []

-- each line's call ends as the line says
abbrev pub PlanHold : List PlanSample → Type 0
PlanHold [] = Unit {0}
PlanHold (sample ∷ lines) = (plan_called sample ≡ sample.end) × PlanHold lines
