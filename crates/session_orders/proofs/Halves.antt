-- An order on its half of the list area: the cleared half in which it begins, and its end (Specification 3.1, 3.5 and
-- 3.8). Assumes nothing.
use Rattle.definitions.specs.Refusals.{Outcome, accepted, refused}
use Rattle.std.specs.declared.result.Result.TheVariants.{Err}
use mathlib.Core.Path.{◌≡◌, refl, sym, ◌∙◌, ap, ap₂, subst}
use mathlib.Core.Bool.{Bool, true, cond}
use mathlib.Core.List.{List, []}
use Prim.Native.Nat.{ℕ, ◌*◌, ◌≤◌, ◌<◌}
use native.Mathlib.Nat.{le_of_mul-le-mul_right, mul_comm}
use native.Mathlib.Omega.{arith}
use lib.IntN.{ℤ, pos}
use lib.ListN.{length}
use Rattle.definitions.specs.declared.Ending.{Ending}
use Rattle.definitions.specs.declared.Ending.TheVariants as ending
use Rattle.definitions.specs.Limits.{group_limit, session_rows}
use Rattle.definitions.specs.Vector.{Vector, within}
use Rattle.definitions.specs.Group.{Exchange}
use Rattle.definitions.specs.Completion.{final_rows, is_finished, running}
use Rattle.definitions.specs.Completion as Defined
use Rattle.definitions.specs.Lent.{filled, numbers_of}
use Rattle.definitions.specs.Calls.{listing_of}
use Rattle.definitions.specs.Session.{Result, ended, ending_of, half, half_of, result_of, unfinished}
use Rattle.theory.proofs.Bounds.{each_within}
use Rattle.theory.proofs.Areas.{filled-nothing, length-filled}
use Rattle.theory.proofs.Accepted.{zeros_within}
use Rattle.theory.proofs.Whole.{orbits-positive}
use Rattle.theory.proofs.Steps.{steps}
use Rattle.vectors.specs.Bounds.{headroom}
use Rattle.vectors.specs.Areas.{cleared_from}
use Rattle.reduction.specs.declared.Shape.{Shape}
use Rattle.reduction.specs.Areas.{rows_at, sequences_in}
use Rattle.reduction.specs.Marks.{RowsMarked}
use Rattle.reduction.proofs.Lent.{sequences-count}
use Rattle.completion.specs.declared.Sizes.{Sizes}
use Rattle.completion.specs.declared.State.{State}
use Rattle.completion.specs.Machine.{After, Areas, Ready, begun_in, sizes_of, state_in}
use Rattle.completion.proofs.Facts.{rows_are, rows-ready}
use Rattle.certified.proofs.Advancing as Advancing
use Rattle.certified.proofs.Joined.{first-ready}
use Rattle.sorting.specs.Flags.{Finished}
use Rattle.moves.specs.Found.{Grouped}
use Rattle.session_orders.specs.Ends.{OrderEnds, Standing, Taken, result_in, taken_in}
use Rattle.session_orders.proofs.Turns.{finished}

-- a half that was cleared holds zeros alone
cleared-half : (n : ℕ) (list : List ℤ) {list' : List ℤ} → length list ≡ half n → list' ≡ cleared_from (pos 0) 0 list
    → list' ≡ filled (pos 0) (half n) []
cleared-half n list l e = e ∙ ap (λ (k : ℕ). filled (pos 0) k []) l

-- ---- the end

-- the same end, for another name of what the order has come to
ends_same : {n : ℕ} {result other : Result} {list : List ℤ} {r : Outcome Ending} → other ≡ result
    → OrderEnds n result list r → OrderEnds n other list r
ends_same {n} {list = list} {r = r} e E = subst (λ (x : Result). OrderEnds n x list r) (sym e) E

module _ {sizes : Sizes} {table : List ℕ} {list : List ℤ} {marks keys : List ℕ} {c : Outcome State}
    (S : Standing sizes table list marks keys c) (l : length list ≡ half sizes.shape.n) where
  abbrev shape : Shape
  shape = sizes.shape

  abbrev G : List Exchange
  G = sequences_in shape table

  -- the order was turned down
  pub ends-refused : {list' : List ℤ} {number place : ℕ} → c ≡ refused number place
      → list' ≡ cleared_from (pos 0) 0 list
      → OrderEnds shape.n (result_in shape table list c) list' (refused number place)
  unfolding result_of ending_of half_of
  ends-refused e z =
      ends_same (ap (result_in shape table list) e) (record { answer = refl; holds = cleared-half shape.n list l z })

  -- it is under way
  module _ {s : State} (e : c ≡ accepted s) where
    ready : Ready sizes table list marks keys s
    ready = (subst (Standing sizes table list marks keys) e S).ready

    abbrev rows : List Vector
    rows = rows_at shape.n s.stored list

    abbrev state : Defined.State
    state = state_in shape.n list s

    stored-in : s.stored ≤ sizes.limit
    stored-in = omega (arith, ready.counted.rows_in, rows_are ready)

    -- its rows are held with their marks and keys
    pub rows-marked : RowsMarked shape s.stored table list marks keys
    rows-marked =
        let positive = orbits-positive ready.setting.symmetric rows ready.progress.stored in
        (rows-ready ready.areas ready.marked positive stored-in).held

    -- they are as few as a half has room for
    pub stored-few : s.stored ≤ session_rows
    unfolding half
    stored-few =
        let n = shape.n in
        let fits : sizes.limit * n ≤ session_rows * n = omega (arith, ready.areas.room, l, mul_comm n session_rows) in
        omega (arith, stored-in, le_of_mul-le-mul_right fits ready.areas.is_table.positive)

    -- what it has come to, by the test whether no sum is left
    abbrev either : Bool → Result
    either b = cond b (ended (listing_of G (running state))) (unfinished s.sums)

    result-is : {b : Bool} → is_finished state ≡ b → result_in shape table list c ≡ either b
    unfolding result_of
    result-is f = ap (result_in shape table list) e ∙ ap either f

    -- a sum is left
    pub ends-unfinished : {list' : List ℤ} → s.i < s.stored → list' ≡ cleared_from (pos 0) 0 list
        → OrderEnds shape.n (result_in shape table list c) list' (accepted (ending.Unfinished s.sums))
    unfolding ending_of half_of
    ends-unfinished left z =
        ends_same (result-is (Advancing.unfinished ready left))
        (record { answer = refl; holds = cleared-half shape.n list l z })

    -- no sum is left: step 5
    pub ends-listed : {final : List ℤ} {count : ℕ} → s.stored ≤ s.i
        → Finished (record { shape = shape; k = s.stored }) table list final count
        → OrderEnds shape.n (result_in shape table list c) final
        (accepted (ending.Moves count shape.g s.stored s.sums))
    unfolding listing_of ending_of half_of
    ends-listed none F =
        let kept = final_rows G rows in
        ends_same (result-is (finished ready none)) (record {
          answer =
              ap₂ (λ (a b : ℕ). (accepted (ending.Moves a b s.stored s.sums))) F.counted (sym (sequences-count shape table))
              ∙ ap (λ (k : ℕ). (accepted (ending.Moves (length kept) (length G) k s.sums))) (sym (rows_are ready));
          holds = F.lies ∙ ap (λ (k : ℕ). filled (pos 0) k (numbers_of shape.n kept)) l;
        })

-- ---- the whole order
module _ {shape : Shape} {generators : List ℤ} {table : List ℕ} (D : Grouped shape generators table) where
  abbrev sizes : Sizes
  sizes = sizes_of shape session_rows

  abbrev sequences : List Exchange
  sequences = sequences_in shape table

  -- on a half that was cleared
  module _ (list₀ : List ℤ) {list : List ℤ} (l : length list₀ ≡ half shape.n)
      (z : list ≡ cleared_from (pos 0) 0 list₀) where
    zeros : list ≡ filled (pos 0) (half shape.n) []
    zeros = cleared-half shape.n list₀ l z

    pub cleared-long : length list ≡ half shape.n
    cleared-long = ap length zeros ∙ length-filled (pos 0) (half shape.n) [] (omega arith)

    -- .. and with marks for all images
    pub cleared-areas : {marks : List ℕ} → session_rows * group_limit ≤ length marks → Areas sizes table list marks
    unfolding half
    cleared-areas m =
        let n = shape.n in
        record {
          is_table = D.table;
          some = D.some;
          small = D.small;
          rows = omega arith;
          room = omega (arith, cleared-long, mul_comm n session_rows);
          marks_room = omega (arith, D.small, m);
          limited = subst (λ (l : List ℤ). within headroom l ≡ true) (sym (zeros ∙ filled-nothing (pos 0) (half n)))
              (each_within headroom (zeros_within headroom (half n)));
        }

    -- step 1 leaves it as it should be
    pub begun-standing : {list' : List ℤ} {marks keys : List ℕ} {c : Outcome State} → length list' ≡ length list
        → session_rows * group_limit ≤ length marks
        → After shape table list' marks keys (begun_in sizes table generators) c
        → Standing sizes table list' marks keys c
    begun-standing {list'} {marks} {keys} {c} k m B = go c B
      where
        go : (c : Outcome State) → After shape table list' marks keys (begun_in sizes table generators) c
            → Standing sizes table list' marks keys c
        go (Err r) B = record { ready = tt }
        go (accepted s) B =
            let areas = cleared-areas {marks = marks} m in
            record { ready = first-ready sizes generators generators s B areas k D.admissible refl }

  -- step 1, the steps, and the end
  pub ends-taken : {list list' final : List ℤ} {marks keys marks' keys' : List ℕ} {c last : Outcome State} {r : Outcome Ending}
      (count : ℕ) → After shape table list marks keys (begun_in sizes table generators) c
      → Taken sizes table list' marks' keys' (taken_in sizes table list c count) last
      → OrderEnds shape.n (result_in shape table list' last) final r
      → OrderEnds shape.n (result_of sequences (steps sequences session_rows count (begun_in sizes table generators)))
      final r
  ends-taken count B T E =
      let all = ap (steps sequences session_rows count) (sym B.answer) ∙ sym T.answer in
      ends_same (ap (result_of sequences) all) E
