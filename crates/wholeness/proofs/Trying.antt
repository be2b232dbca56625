-- The sums over the brought rows, one after the other: those that are left decide refusal 21 as all do (Specification 5.1), and those
-- before them have remainder zero. Assumes nothing.
use Rattle.definitions.specs.Refusals.{Fault, no_fault, fault_at}
use mathlib.Core.Path.{◌≡◌, refl, sym, ◌∙◌, ap, subst}
use mathlib.Core.Bool.{true, false}
use mathlib.Core.List.{List}
use Prim.Native.Nat.{ℕ, zero, suc, ◌+◌, ◌-◌, ◌*◌, ◌/◌, ◌≤◌, ◌<◌}
use native.Mathlib.Omega.{arith}
use borrow.Author.Tests.{le-leb, lt-leb}
use lib.IntN.{ℤ}
use lib.ListN.{length, get_or}
use Rattle.definitions.specs.Limits.{entry_limit, list_limit}
use Rattle.definitions.specs.Vector.{Vector, is_zero}
use Rattle.definitions.specs.Group.{Exchange}
use Rattle.definitions.specs.Completion.{first_state, is_finished, next, remainder, sum_at, sum_count}
use Rattle.definitions.specs.Completion as Defined
use Rattle.definitions.specs.Lent.{vectors_of}
use Rattle.definitions.specs.Refusals.{sums_fault}
use Rattle.theory.proofs.Members.{Each}
use Rattle.theory.proofs.Bounds.{Within}
use Rattle.theory.proofs.Counting.{Counted, fewer, first_counted, next-counted, next-sums}
use Rattle.theory.proofs.Places.{first-before}
use Rattle.theory.proofs.Sums.{ZeroBefore, before-onward}
use Rattle.theory.proofs.CheckCall.{vectors-count}
use Rattle.reduction.specs.declared.Shape.{Shape}
use Rattle.reduction.specs.Areas.{rows_at, sequences_in}
use Rattle.reduction.proofs.Lent.{sequences-count}
use Rattle.completion.specs.declared.State.{State}
use Rattle.completion.specs.Machine.{Advanced, Countable, Summable, countable, first_at, remainder_in, state_of}
use Rattle.completion.proofs.Facts.{sums-small}
use Rattle.completion.proofs.Sums.{rest-repeated, summable-by}
use Rattle.wholeness.specs.Lists.{Brought, Ready, tried_fault}
use Rattle.wholeness.proofs.Given.{rows-ready, rows_same}

-- no sum is left
sums-over : (table : List Exchange) (fuel : ℕ) (s : Defined.State) → is_finished s ≡ true → sums_fault table fuel s ≡ no_fault
unfolding sums_fault
sums-over table zero s e = refl
sums-over table (suc fuel) s e = simp e

-- a sum is left
module _ (table : List Exchange) (fuel : ℕ) (s : Defined.State) where
  abbrev left-of : Vector
  left-of = remainder table s.rows (sum_at table s)

  -- its remainder is zero: on to the next
  sums_next : is_finished s ≡ false → is_zero left-of ≡ true
      → sums_fault table (suc fuel) s ≡ sums_fault table fuel (next (length table) s.rows s)
  unfolding sums_fault
  sums_next e z = simp (e, z)

  -- it is not
  sums-here : is_finished s ≡ false → is_zero left-of ≡ false → sums_fault table (suc fuel) s ≡ fault_at 21 (s.sums + 1)
  unfolding sums_fault
  sums-here e z = simp (e, z)

-- the sums over the rows
abbrev pub all_sums : Shape → (table : List ℕ) (rows : List ℤ) → ℕ
all_sums shape table rows = sum_count (length (sequences_in shape table)) (length (vectors_of shape.n rows))

-- what holds whenever the loop's test is reached
pub record Trying (shape : Shape) (table : List ℕ) (rows : List ℤ) (s : State) : Type 0 where
  pub held : s.stored ≡ length rows / shape.n
  pub counted : Counted (length (sequences_in shape table)) (length (vectors_of shape.n rows))
      (state_of s (vectors_of shape.n rows))
  pub same : sums_fault (sequences_in shape table) (all_sums shape table rows - s.sums) (state_of s (vectors_of shape.n rows))
      ≡ tried_fault shape table rows
  pub before : ZeroBefore (sequences_in shape table) (state_of s (vectors_of shape.n rows))

module _ {shape : Shape} {table : List ℕ} {rows : List ℤ} (B : Brought shape table rows) where
  abbrev G : List Exchange
  G = sequences_in shape table

  abbrev vs : List Vector
  vs = vectors_of shape.n rows

  abbrev all : ℕ
  all = all_sums shape table rows

  abbrev fault : Fault
  fault = tried_fault shape table rows

  members-are : length G ≡ shape.g
  members-are = sequences-count shape table

  counted-rows : length vs ≡ length rows / shape.n
  counted-rows = vectors-count shape.n rows

  -- before the first sum
  pub trying_start : Trying shape table rows (first_at (length rows / shape.n))
  unfolding first_state
  trying_start =
      let k : all - 0 ≡ all = omega arith in
      record {
        held = refl;
        counted = first_counted (length G) (length vs) vs (omega (arith, members-are, B.some)) (omega arith);
        same = ap (λ (m : ℕ). sums_fault G m (first_state vs)) k;
        before = λ i j p b l m k h. absurd (first-before vs i j p b h);
      }

  module _ {s : State} (T : Trying shape table rows s) where
    rows-held : rows_at shape.n s.stored rows ≡ vs
    rows-held = rows_same shape.n s.stored rows T.held

    -- no sum is left
    pub trying-end : length rows / shape.n ≤ s.i → no_fault ≡ fault
    unfolding is_finished
    trying-end h =
        let over = le-leb (length vs) s.i (omega (arith, counted-rows)) in
        sym (sums-over G (all - s.sums) (state_of s vs) over) ∙ T.same

    module _ (left : s.i < length rows / shape.n) where
      left-rows : s.i < length vs
      left-rows = omega (arith, counted-rows)

      few : s.sums < all
      few = fewer (length G) (length vs) (state_of s vs) T.counted left-rows

      position_in : s.position < shape.g
      position_in = omega (arith, T.counted.position_in, members-are)

      -- what `next` asks
      pub trying-countable : Countable shape.g s
      trying-countable =
          let small = sums-small (length G) (length vs) in
          record {
            i = (let h : list_limit < countable = omega arith in omega (arith, B.few));
            j = T.counted.j_in;
            position = position_in;
            sums = omega (
              arith,
              few,
              small (omega (arith, members-are, B.small)) (omega (arith, counted-rows, B.few)),
            );
          }

      -- what `try_sum` asks
      pub trying-summable : {marks keys : List ℕ} → Ready shape table rows marks keys → Summable shape table rows marks keys s
      trying-summable R =
          summable-by (rows-ready R s.stored T.held) (subst (Each (Within entry_limit)) (sym rows-held) B.entries)
          (omega (arith, T.held)) T.counted.j_in position_in

      -- a sum whose image has the mark 0 has remainder zero
      pub trying-repeated : {marks keys : List ℕ} → Ready shape table rows marks keys
          → get_or marks (s.j * shape.g + s.position) 0 ≡ 0 → is_zero (remainder_in shape table rows s) ≡ true
      trying-repeated R e =
          rest-repeated (trying-summable R) (subst (λ (l : List Vector). ZeroBefore G (state_of s l)) (sym rows-held) T.before) e

      open-test : fault ≡ sums_fault G (suc (all - (s.sums + 1))) (state_of s vs)
      open-test =
          let k : all - s.sums ≡ suc (all - (s.sums + 1)) = omega (arith, few) in
          sym T.same ∙ ap (λ (m : ℕ). sums_fault G m (state_of s vs)) k

      open-sum : is_finished (state_of s vs) ≡ false
      unfolding is_finished
      open-sum = lt-leb (length vs) s.i left-rows

      -- the remainder of the sum
      is-rest : is_zero (remainder G vs (sum_at G (state_of s vs))) ≡ is_zero (remainder_in shape table rows s)
      is-rest = ap (λ (l : List Vector). is_zero (remainder G l (sum_at G (state_of s l)))) (sym rows-held)

      -- is not zero
      pub trying-fault : is_zero (remainder_in shape table rows s) ≡ false → fault_at 21 (s.sums + 1) ≡ fault
      trying-fault z = sym (open-test ∙ sums-here G (all - (s.sums + 1)) (state_of s vs) open-sum (is-rest ∙ z))

      -- is zero: on to t
      module _ (t : State) (a : Advanced shape.g (length rows / shape.n) s t) where
        moved : state_of t vs ≡ next (length G) vs (state_of s vs)
        moved = a.state vs vs ∙ ap (λ (k : ℕ). next k vs (state_of s vs)) (sym members-are)

        sums-more : t.sums ≡ s.sums + 1
        sums-more = ap (λ (x : Defined.State). x.sums) moved ∙ next-sums (length G) vs (state_of s vs)

        pub trying-next : is_zero (remainder_in shape table rows s) ≡ true → Trying shape table rows t
        unfolding sum_at
        trying-next z =
            let count = next-counted (length G) (length vs) vs (state_of s vs) T.counted left-rows in
            record {
              held = a.rows;
              counted = subst (Counted (length G) (length vs)) (sym moved) (count (omega arith) (omega arith));
              same = (λ i. sums_fault G (all - sums-more i) (moved i))
                  ∙ sym (open-test ∙ sums_next G (all - (s.sums + 1)) (state_of s vs) open-sum (is-rest ∙ z));
              before = subst (ZeroBefore G) (sym moved)
                  (before-onward G (state_of s vs) vs left-rows (λ i j p b l m e. e) (is-rest ∙ z) T.before);
            }

        -- and fewer sums are left
        pub trying-less : all - t.sums < all - s.sums
        trying-less = omega (arith, few, sums-more)
