-- One sum: what the step of the completion comes to, and what is noted of a row that it stores (Specification 3.2 to 3.4
-- and 3.7). Assumes nothing.
use Rattle.std.specs.declared.result.Result.TheVariants.{Err}
use Rattle.definitions.specs.declared.Refusal.{Refusal}
use Rattle.definitions.specs.Refusals.{Outcome, accepted, refused}
use mathlib.Core.Path.{◌≡◌, refl, sym, ◌∙◌, ap, subst}
use mathlib.Core.Logic.{◌⊎◌, inl, inr}
use mathlib.Core.Bool.{Bool, true, false, cond, ◌||◌}
use mathlib.Core.List.{List, [], ◌∷◌, ◌++◌}
use Prim.Native.Nat.{ℕ, ◌+◌, ◌*◌, ◌/◌, ◌≤◌, ◌<◌}
use native.Mathlib.Decide.{dec_lt}
use native.Mathlib.Nat.{mul-le-mul_right, zero-div}
use native.Mathlib.Omega.{arith}
use borrow.Author.Tests.{eqb-true, le-leb, leb-false, leb-true, lt-leb}
use lib.Dec.{eqb, leb}
use lib.IntN.{ℤ}
use lib.ListN.{length, get_or, take, drop, length-append}
use lib.Seq.{get_or_at}
use Rattle.definitions.specs.Limits.{stored_coefficient_limit}
use Rattle.definitions.specs.Lists.{every}
use Rattle.definitions.specs.Vector.{Vector, within}
use Rattle.definitions.specs.Group.{Exchange}
use Rattle.definitions.specs.Orbit.{representative}
use Rattle.definitions.specs.Completion.{is_finished, running, stopped}
use Rattle.definitions.specs.Completion as Defined
use Rattle.definitions.specs.Certified.{CertifiedCompletion, certified_after, certified_from, certified_step}
use Rattle.definitions.specs.Certified.{new_coefficients, noted}
use Rattle.definitions.specs.Lent.{chunks, vectors_of}
use Rattle.theory.proofs.Tests.{or-false-right}
use Rattle.theory.proofs.Lists.{chunks-at, row-end}
use Rattle.theory.proofs.Members.{each_append, each-cons, each_nil}
use Rattle.theory.proofs.Bounds.{within-each}
use Rattle.theory.proofs.Counting.{OneMore, step_after}
use Rattle.theory.proofs.Completion.{Sound, sound-step}
use Rattle.theory.proofs.Rows.{rows-count}
use Rattle.certified_theory.proofs.Forgetting.{new-empty}
use Rattle.certified_theory.proofs.Noting.{RowsAfter, rows-after}
use Rattle.reduction.specs.declared.Shape.{Shape}
use Rattle.reduction.specs.Areas.{rows_at, sequences_in}
use Rattle.reduction.specs.Marks.{Marked}
use Rattle.reduction.proofs.Lent.{sequences-count}
use Rattle.completion.specs.declared.Sizes.{Sizes}
use Rattle.completion.specs.declared.State.{State}
use Rattle.completion.specs.Machine.{After, Areas, Ready, Summable, remainder_in, state_in, state_of, stepped_in}
use Rattle.completion.proofs.Facts.{areas-again, left-rows, rows_are, rows-ready, summable}
use Rattle.completion.proofs.Sums.{summable-by}
use Rattle.coefficients.proofs.Nothing.{vectors-none}
use Rattle.certified.specs.Noting.{CertifiedTo, Limited, Notable, NotedRows, RowNoted, RowStored}
use Rattle.certified.specs.Noting.{advanced_in, new_in, noted_in, width_of}
use Rattle.certified.proofs.Made.{rows_made}
use Rattle.certified.proofs.Prefix.{chunks-last, marked-before, rows_before}

-- the same areas, for another name of the end
pub certified-same : {shape : Shape} {table : List ℕ} {list : List ℤ} {marks keys : List ℕ} {basis coefficients : List ℤ}
    {x y : CertifiedCompletion} {r : Outcome State} → x ≡ y → CertifiedTo shape table list marks keys basis coefficients x r
    → CertifiedTo shape table list marks keys basis coefficients y r
certified-same {shape} {table} {list} {marks} {keys} {basis} {coefficients} {r = r} e C =
    subst (λ (z : CertifiedCompletion). CertifiedTo shape table list marks keys basis coefficients z r) e C

-- room for fewer rows
pub notable-fewer : {shape : Shape} {k : ℕ} {table : List ℕ} {basis coefficients : List ℤ} (j : ℕ) → j ≤ k
    → Notable shape k table basis coefficients → Notable shape j table basis coefficients
notable-fewer {shape} {k} {basis = basis} j h N = record {
  closed = N.closed;
  room = omega (arith, N.room, mul-le-mul_right {m = j} {n = k} (width_of shape.n basis) h);
}

-- an area of the same size
pub notable-again : {shape : Shape} {k : ℕ} {table : List ℕ} {basis coefficients coefficients' : List ℤ}
    → Notable shape k table basis coefficients → length coefficients' ≡ length coefficients
    → Notable shape k table basis coefficients'
notable-again N e = record { closed = N.closed; room = omega (arith, e, N.room) }

-- ---- with no coefficients to note

-- the coefficients of a row are an empty list
pub chunk-none : {width : ℕ} (k : ℕ) (coefficients : List ℤ) → width ≡ 0
    → get_or (chunks width (k + 1) coefficients) k [] ≡ []
chunk-none {width} k coefficients e =
    chunks-at width (k + 1) k coefficients (omega arith)
    ∙ ap (λ (w : ℕ). take w (drop (k * w) coefficients)) e

none-past : within stored_coefficient_limit [] ≡ true
unfolding within every
none-past = refl

-- ---- the step of the completion
module _ {sizes : Sizes} {table : List ℕ} {list : List ℤ} {marks keys : List ℕ} {s : State}
    (R : Ready sizes table list marks keys s) (left : s.i < s.stored) where
  abbrev shape : Shape
  shape = sizes.shape

  abbrev G : List Exchange
  G = sequences_in shape table

  abbrev rows : List Vector
  rows = rows_at shape.n s.stored list

  abbrev state : Defined.State
  state = state_in shape.n list s

  abbrev row : Vector
  row = representative G (remainder_in shape table list s)

  pub unfinished : is_finished state ≡ false
  unfolding is_finished
  unfinished = lt-leb _ _ (left-rows R left)

  -- it came to t
  module _ {list' : List ℤ} {marks' keys' : List ℕ} (t : State)
      (A : After shape table list' marks' keys' (stepped_in sizes table list s) (accepted t)) where
    abbrev later : Defined.State
    later = state_in shape.n list' t

    one_more : OneMore (length G) sizes.limit state (running later)
    one_more =
        let one = step_after G sizes.limit state R.counted unfinished in
        subst (OneMore (length G) sizes.limit state) (sym A.answer) one

    pub sums_next : t.sums ≡ s.sums + 1
    sums_next = one_more.1

    pub sound-next : Sound R.setting.symmetric sizes.limit (running later)
    sound-next =
        let O = R.setting.symmetric in
        let S = sound-step O sizes.limit (running state) (R.progress, R.counted) in
        subst (Sound O sizes.limit) (sym A.answer) S

    rows-now : length later.rows ≡ t.stored
    rows-now = rows-count shape.n t.stored list'

    rows_then : RowsAfter G state (running later)
    rows_then = subst (RowsAfter G state) (sym A.answer) (rows-after G sizes.limit state)

    -- no row was stored
    same-stored : t.stored ≤ s.stored → t.stored ≡ s.stored
    same-stored h = go rows_then
      where
        go : (later.rows ≡ rows) ⊎ ((s.i < length rows) × (later.rows ≡ rows ++ row ∷ [])) → t.stored ≡ s.stored
        go (inl e) = omega (arith, ap length e, rows-now, rows_are R)
        go (inr (l, e)) = absurd (omega (arith, ap length e, length-append rows (row ∷ []), rows-now, rows_are R))

    -- a row was stored
    module _ (more : s.stored < t.stored) where
      stored_row : later.rows ≡ rows ++ row ∷ []
      stored_row = go rows_then
        where
          go : (later.rows ≡ rows) ⊎ ((s.i < length rows) × (later.rows ≡ rows ++ row ∷ []))
              → later.rows ≡ rows ++ row ∷ []
          go (inl e) = absurd (omega (arith, ap length e, rows-now, rows_are R))
          go (inr (l, e)) = e

      pub stored_next : t.stored ≡ s.stored + 1
      stored_next = omega (arith, ap length stored_row, length-append rows (row ∷ []), rows-now, rows_are R)

      all-rows : rows_at shape.n (s.stored + 1) list' ≡ rows ++ row ∷ []
      all-rows = ap (λ (k : ℕ). rows_at shape.n k list') (sym stored_next) ∙ stored_row

      pub old-rows : rows_at shape.n s.stored list' ≡ rows
      old-rows = rows_before shape.n s.stored list' rows row (rows_are R) all-rows

      pub stored-within : s.stored + 1 ≤ sizes.limit
      stored-within = omega (arith, stored_next, rows-now, one_more.0.rows_in)

      pub row-stored : length list' ≡ length list → length marks' ≡ length marks
          → RowStored shape table list' marks' keys' s
      row-stored l m = record {
        summable = summable-by
            (rows-ready areas' (rw old-rows marks-before) (rw old-rows old.ready.nonzero) (omega (arith, stored-within)))
            (rw old-rows old.formable.entries) left old.formable.j_in old.formable.position_in;
        room = omega (arith, row-end s.stored sizes.limit shape.n (omega (arith, stored-within)), areas'.room);
        row = ap (λ (l : List Vector). get_or l s.stored []) all-rows
            ∙ get_or_at rows row [] [] s.stored (rows_are R)
            ∙ ap (λ (l : List Vector). representative G (Defined.remainder G l (Defined.sum_at G (state_of s l)))) (sym old-rows);
        made = rows_made R.setting.symmetric;
      }
        where
          old : Summable shape table list marks keys s
          old = summable R left

          areas' : Areas sizes table list' marks'
          areas' = areas-again R.areas l m A.held.limited

          marks-before : Marked G rows marks' keys'
          marks-before =
              marked-before G rows row (omega (arith, sequences-count shape table, R.areas.some))
              (rw stored_row at A.held.marked)

-- ---- what is noted
module _ {sizes : Sizes} {table : List ℕ} {list : List ℤ} {marks keys : List ℕ} (basis coefficients : List ℤ) {s : State}
    (R : Ready sizes table list marks keys s) (left : s.i < s.stored) where
  abbrev n : ℕ
  n = sizes.shape.n

  abbrev generators : List Vector
  generators = vectors_of n basis

  abbrev sequences : List Exchange
  sequences = sequences_in sizes.shape table

  abbrev before : Defined.State
  before = state_in n list s

  -- the coefficients so far, and those of the row that is stored
  abbrev known : List (List ℤ)
  known = noted_in n basis s.stored coefficients

  abbrev new : List ℤ
  new = new_coefficients generators sequences before known

  abbrev advanced : CertifiedCompletion
  advanced = advanced_in sizes table list basis coefficients s

  -- the step was turned down
  pub advanced-stop : {list' : List ℤ} {marks' keys' : List ℕ} {coefficients' : List ℤ} {r : Refusal}
      → After sizes.shape table list' marks' keys' (stepped_in sizes table list s) (Err r)
      → CertifiedTo sizes.shape table list' marks' keys' basis coefficients' advanced (Err r)
  unfolding certified_step certified_from certified_after
  advanced-stop A = record {
    after = record {
      answer = ap (λ (c : Defined.Completion). (certified_after generators sequences before known c).completion) A.answer;
      held = tt;
    };
    noted = tt;
  }

  module _ {list' : List ℤ} {marks' keys' : List ℕ} (t : State)
      (A : After sizes.shape table list' marks' keys' (stepped_in sizes table list s) (accepted t)) where
    abbrev then : Defined.State
    then = state_in n list' t

    abbrev onward : (due : List (List ℤ)) → CertifiedCompletion
    onward due = record { completion = running then; coefficients = due }

    -- by the definition's test whether there is a row more
    abbrev either : Bool → CertifiedCompletion
    either b = cond b (onward known) (noted known (s.sums + 1) new (running then))

    advanced-is : advanced ≡ either (leb (length then.rows) (length before.rows))
    unfolding certified_step certified_from certified_after
    advanced-is = ap (certified_after generators sequences before known) (sym A.answer)

    -- it came to t, with coefficients that are noted
    ran_on : {coefficients' : List ℤ} (due : List (List ℤ)) → advanced ≡ onward due
        → NotedRows n basis t.stored coefficients' due
        → CertifiedTo sizes.shape table list' marks' keys' basis coefficients' advanced (accepted t)
    ran_on due e N = certified-same (sym e) (record { after = record { answer = refl; held = A.held }; noted = N })

    now-rows : length then.rows ≡ t.stored
    now-rows = rows-count n t.stored list'

    -- no row was stored
    pub advanced-kept : Limited n basis s.stored coefficients → t.stored ≤ s.stored
        → CertifiedTo sizes.shape table list' marks' keys' basis coefficients advanced (accepted t)
    advanced-kept L h =
        let e = same-stored R left t A h in
        ran_on known
        (advanced-is
        ∙ ap either (le-leb (length then.rows) (length before.rows) (omega (arith, now-rows, rows_are R))))
        (record {
          rows = ap (λ (k : ℕ). noted_in n basis k coefficients) e;
          limited = rw e L;
        })

    -- a row was stored
    module _ (more : s.stored < t.stored) where
      stored_is : advanced ≡ noted known (s.sums + 1) new (running then)
      stored_is =
          advanced-is
          ∙ ap either (lt-leb (length then.rows) (length before.rows) (omega (arith, now-rows, rows_are R)))

      -- by the limit on its coefficients
      abbrev limited_by : Bool → CertifiedCompletion
      limited_by b =
          cond b (onward (known ++ new ∷ [])) (record { completion = stopped 24 (s.sums + 1); coefficients = known })

      tested : {b : Bool} → within stored_coefficient_limit new ≡ b → advanced ≡ limited_by b
      unfolding noted
      tested e = stored_is ∙ ap limited_by e

      -- they stand behind the others
      stands : {coefficients' : List ℤ} → Limited n basis s.stored coefficients
          → noted_in n basis (s.stored + 1) coefficients' ≡ known ++ new ∷ [] → within stored_coefficient_limit new ≡ true
          → CertifiedTo sizes.shape table list' marks' keys' basis coefficients' advanced (accepted t)
      stands {coefficients'} L e w =
          let count : t.stored ≡ s.stored + 1 = stored_next R left t A more in
          let due = ap (λ (k : ℕ). noted_in n basis k coefficients') count ∙ e in
          ran_on (known ++ new ∷ []) (tested w) (record {
            rows = due;
            limited = rw due (each_append L (each-cons (within-each stored_coefficient_limit new w) each_nil));
          })

      -- those that were noted, from the list with the row
      new-same : new_in sizes.shape table list' basis coefficients s ≡ new
      new-same =
          ap (λ (rows : List Vector). new_coefficients generators sequences (state_of s rows) known)
          (old-rows R left t A more)

      module _ {coefficients' : List ℤ} {r : Bool}
          (N : RowNoted sizes.shape table list' basis s coefficients coefficients' r) where
        told : within stored_coefficient_limit new ≡ r
        told = ap (within stored_coefficient_limit) (sym new-same) ∙ sym N.told

        pub advanced-noted : Limited n basis s.stored coefficients → r ≡ true
            → CertifiedTo sizes.shape table list' marks' keys' basis coefficients' advanced (accepted t)
        advanced-noted L e = stands L (N.rows ∙ ap (λ (c : List ℤ). known ++ c ∷ []) new-same) (told ∙ e)

        -- one is past its limit
        pub advanced-past : r ≡ false
            → CertifiedTo sizes.shape table list' marks' keys' basis coefficients' advanced (refused 24 t.sums)
        advanced-past e =
            certified-same (sym (tested (told ∙ e)))
            (record { after = record { answer = ap (stopped 24) (sums_next R left t A); held = tt }; noted = tt })

    -- with an empty basis nothing is noted
    pub advanced-bare : Limited n basis s.stored coefficients → length basis ≡ 0
        → CertifiedTo sizes.shape table list' marks' keys' basis coefficients advanced (accepted t)
    advanced-bare L none = go (dec_lt s.stored t.stored)
      where
        width-none : width_of n basis ≡ 0
        width-none = ap (λ (k : ℕ). k / n) none ∙ zero-div n

        new_none : new ≡ []
        new_none =
            ap (λ (l : List Vector). new_coefficients l sequences before known) (vectors-none n basis none)
            ∙ new-empty sequences before known

        go : Dec (s.stored < t.stored)
            → CertifiedTo sizes.shape table list' marks' keys' basis coefficients advanced (accepted t)
        go (yes more) =
            stands more L
            (chunks-last (width_of n basis) s.stored coefficients
            ∙ ap (λ (c : List ℤ). known ++ c ∷ []) (chunk-none s.stored coefficients width-none ∙ sym new_none))
            (rw new_none none-past)
        go (no less) = advanced-kept L (omega arith)

    -- so where the code's test holds nothing is noted
    pub advanced-quiet : Limited n basis s.stored coefficients
        → (eqb (length basis) 0 || leb t.stored s.stored) ≡ true
        → CertifiedTo sizes.shape table list' marks' keys' basis coefficients advanced (accepted t)
    advanced-quiet L e = go (eqb (length basis) 0) refl e
      where
        go : (b : Bool) → eqb (length basis) 0 ≡ b → (b || leb t.stored s.stored) ≡ true
            → CertifiedTo sizes.shape table list' marks' keys' basis coefficients advanced (accepted t)
        go true none f = advanced-bare L (eqb-true (length basis) 0 none)
        go false some f = advanced-kept L (leb-true t.stored s.stored f)

-- .. and where it does not, a row was stored
pub test-more : (basis : List ℤ) (t s : ℕ) → (eqb (length basis) 0 || leb t s) ≡ false → s < t
test-more basis t s e = leb-false t s (or-false-right (eqb (length basis) 0) (leb t s) e)
