-- How often each row stands in a window, and how many different rows do, as one row leaves in front and one comes in
-- behind. Assumes nothing.
use mathlib.Core.Path.{◌≡◌, refl, sym, ap, subst, ◌∙◌}
use mathlib.Core.Bool.{Bool, true, false, ◌||◌, not, cond}
use mathlib.Core.List.{List, [], ◌∷◌, ◌++◌}
use Prim.Native.Nat.{ℕ, zero, suc, ◌+◌, ◌-◌, ◌≤◌, ◌<◌}
use native.Mathlib.Decide.{ℕ_discrete}
use native.Mathlib.Omega.{arith}
use borrow.Author.Tests.{eq-eqb, ne_eqb}
use lib.Dec.{eqb, eqb-suc-zero, eqb-suc-suc}
use lib.IntN.{ℤ}
use lib.ListN.{length, get_or, set, length-set}
use lib.Seq.{get_or-set_same, get_or-set_other}
use Rattle.definitions.specs.Limits.{list_limit}
use Rattle.definitions.specs.Lists.{any, select}
use Rattle.definitions.specs.Window.{different}
use Rattle.figures.specs.Window.{Counted, Named, row_in, rows_in, uses}
use Rattle.figures.proofs.Parts.{part-first, part-last, part_length}

-- 1 if two numbers are equal, else 0
abbrev pub same : (r x : ℕ) → ℕ
same r x = cond (eqb r x) 1 0

same-yes : {r x : ℕ} → r ≡ x → same r x ≡ 1
same-yes {r} {x} e = rw (eq-eqb r x e)

same-no : {r x : ℕ} → (r ≡ x → ⊥) → same r x ≡ 0
same-no {r} {x} e = rw (ne_eqb r x e)

-- 1 if a number is zero, else 0
pub same-zero : (n : ℕ) → same n 0 ≡ 1 - n
same-zero zero = refl
same-zero (suc n) = rw (eqb-suc-zero n) (omega arith)

-- ---- how often a number stands in a list

uses-first : (r x : ℕ) (numbers : List ℕ) → uses r (x ∷ numbers) ≡ same r x + uses r numbers
unfolding select
uses-first r x numbers = go (eqb r x)
  where
    go : (b : Bool) → length (cond b (x ∷ select (eqb r) numbers) (select (eqb r) numbers)) ≡ cond b 1 0 + uses r numbers
    go true = omega arith
    go false = omega arith

uses-last : (r x : ℕ) (numbers : List ℕ) → uses r (numbers ++ x ∷ []) ≡ uses r numbers + same r x
unfolding select
uses-last r x [] = omega (arith, uses-first r x [])
uses-last r x (y ∷ numbers) =
    omega (arith, uses-first r y numbers, uses-first r y (numbers ++ x ∷ []), uses-last r x numbers)

uses-few : (r : ℕ) (numbers : List ℕ) → uses r numbers ≤ length numbers
unfolding select
uses-few r [] = omega arith
uses-few r (x ∷ numbers) = omega (arith, uses-first r x numbers, same-few (eqb r x), uses-few r numbers)
  where
    same-few : (b : Bool) → cond b 1 0 ≤ 1
    same-few true = omega arith
    same-few false = omega arith

-- ---- how many different numbers there are

-- a number that stands nowhere has no uses
any-used : (x : ℕ) (numbers : List ℕ) → any (eqb x) numbers ≡ not (eqb (uses x numbers) 0)
unfolding any select
any-used x [] = refl
any-used x (y ∷ numbers) = go (any-used x numbers) (eqb x y)
  where
    go : any (eqb x) numbers ≡ not (eqb (uses x numbers) 0) → (b : Bool)
        → (b || any (eqb x) numbers) ≡ not (eqb (length (cond b (y ∷ select (eqb x) numbers) (select (eqb x) numbers))) 0)
    go ih true = rw (eqb-suc-zero (uses x numbers))
    go ih false = ih

different-first : (x : ℕ) (numbers : List ℕ) → different (x ∷ numbers) ≡ different numbers + (1 - uses x numbers)
unfolding different
different-first x numbers = rw (any-used x numbers, ← same-zero (uses x numbers)) (go (eqb (uses x numbers) 0))
  where
    go : (b : Bool) → cond (not b) (different numbers) (suc (different numbers)) ≡ different numbers + cond b 1 0
    go true = omega arith
    go false = omega arith

different-last : (x : ℕ) (numbers : List ℕ) → different (numbers ++ x ∷ []) ≡ different numbers + (1 - uses x numbers)
unfolding different any select
different-last x [] = refl
different-last x (y ∷ numbers) =
    omega (arith, different-first y numbers, different-first y (numbers ++ x ∷ []), different-last x numbers, uses-first x y numbers, uses-last y x numbers, go (ℕ_discrete x y))
  where
    -- equal numbers have equal uses, and others do not count each other
    go : Dec (x ≡ y)
        → (1 - uses x numbers) + (1 - (uses y numbers + same y x)) ≡ (1 - uses y numbers) + (1 - (same x y + uses x numbers))
    go (yes e) = omega (arith, same-yes e, same-yes (sym e), ap (λ (r : ℕ). uses r numbers) e)
    go (no e) = omega (arith, same-no e, same-no (λ (q : y ≡ x). e (sym q)))

pub different-few : (numbers : List ℕ) → different numbers ≤ length numbers
unfolding different
different-few [] = omega arith
different-few (x ∷ numbers) = omega (arith, different-first x numbers, different-few numbers)

-- ---- an area of uses

-- each number's uses in a list, and how many different numbers it has
pub record Tallied (numbers area : List ℕ) (count : ℕ) : Type 0 where
  pub long : length area ≡ list_limit
  pub used : (r : ℕ) → r < list_limit → get_or area r 0 ≡ uses r numbers
  pub counted : count ≡ different numbers

-- one number's uses are stored anew, and those of the others stay
stored : {old next area : List ℕ} {count total x n : ℕ} → Tallied old area count → x < list_limit → n ≡ uses x next
    → ((r : ℕ) → (r ≡ x → ⊥) → uses r old ≡ uses r next)
    → total ≡ different next
    → Tallied next (set area x n) total
stored {old} {next} {area} {count} {total} {x} {n} t small here others counted =
    record {
      long = length-set area x n ∙ t.long;
      used = λ r h. go r h (ℕ_discrete r x);
      counted = counted;
    }
  where
    go : (r : ℕ) → r < list_limit → Dec (r ≡ x) → get_or (set area x n) r 0 ≡ uses r next
    go r h (yes e) = rw (e, get_or-set_same area x n 0 (omega (arith, t.long))) here
    go r h (no e) = get_or-set_other area x r n 0 e ∙ t.used r h ∙ others r e

module _ {x : ℕ} {rest area : List ℕ} {count : ℕ} (small : x < list_limit) (t : Tallied (x ∷ rest) area count) where
  first-uses : get_or area x 0 ≡ suc (uses x rest)
  first-uses = omega (arith, t.used x small, uses-first x x rest, same-yes {r = x} refl)

  -- the first number has a use
  pub leaving-some : 1 ≤ get_or area x 0
  leaving-some = omega (arith, first-uses)

  only : same (get_or area x 0) 1 ≡ 1 - uses x rest
  only = rw (first-uses, eqb-suc-suc (uses x rest) 0) (same-zero (uses x rest))

  -- if that is its only one, it is counted
  pub leaving-less : same (get_or area x 0) 1 ≤ count
  leaving-less = omega (arith, only, t.counted, different-first x rest)

  -- it leaves
  pub leaving : Tallied rest (set area x (get_or area x 0 - 1)) (count - same (get_or area x 0) 1)
  leaving =
      stored t small (omega (arith, first-uses)) (λ r e. omega (arith, uses-first r x rest, same-no e))
      (omega (arith, only, t.counted, different-first x rest))

-- a number comes in behind
pub entering : {x : ℕ} {rest area : List ℕ} {count : ℕ} → x < list_limit → Tallied rest area count
    → Tallied (rest ++ x ∷ []) (set area x (suc (get_or area x 0))) (count + same (get_or area x 0) 0)
entering {x} {rest} {area} {count} small t =
    stored t small (omega (arith, t.used x small, uses-last x x rest, same-yes {r = x} refl))
    (λ r e. omega (arith, uses-last r x rest, same-no e))
    (omega (arith, same-zero (get_or area x 0), t.used x small, t.counted, different-last x rest))

-- ---- the rows of a window

module _ (records : List ℤ) (width i : ℕ) where
  -- the rows of the records that both windows share
  abbrev shared : List ℕ
  shared = rows_in records (suc i - width) i

  module _ {area : List ℕ} {count : ℕ} (some : 1 ≤ width) where
    tallied : {numbers : List ℕ} → rows_in records (i - width) i ≡ numbers → Counted records width i area count
        → Tallied numbers area count
    tallied e c =
        subst (λ (numbers : List ℕ). Tallied numbers area count) e
        (record { long = c.long; used = c.used; counted = c.counted })

    module _ (h : width ≤ i) (named : Named records i) (c : Counted records width i area count) {row : ℕ} (e : row ≡ row_in records (i - width)) where
      -- a full window begins with the record that leaves
      full : Tallied (row ∷ shared) area count
      full =
          let s : suc (i - width) ≡ suc i - width = omega arith in
          tallied
          (part-first (row_in records) (i - width) i (omega arith)
          ∙ ap (λ (from : ℕ). row_in records (i - width) ∷ rows_in records from i) s
          ∙ ap (λ (x : ℕ). x ∷ shared) (sym e)) c

      first_small : row < list_limit
      first_small = rw e (named.rows (i - width) (omega arith))

      pub oldest-some : 1 ≤ get_or area row 0
      oldest-some = leaving-some first_small full

      pub oldest-less : same (get_or area row 0) 1 ≤ count
      oldest-less = leaving-less first_small full

      pub oldest-left : Tallied shared (set area row (get_or area row 0 - 1)) (count - same (get_or area row 0) 1)
      oldest-left = leaving first_small full

    -- from any other none leaves
    pub none_left : i < width → Counted records width i area count → Tallied shared area count
    none_left h =
        let e : i - width ≡ suc i - width = omega arith in
        tallied (ap (λ (from : ℕ). rows_in records from i) e)

    module _ (named : Named records i) (t : Tallied shared area count) {row : ℕ} (e : row ≡ row_in records i) where
      last-small : row < list_limit
      last-small = rw e (named.rows i (omega arith))

      -- with room for one more, no row has more uses, and no more rows are counted, than there are records
      pub newest-few : get_or area row 0 < width
      newest-few = omega (arith, part_length (row_in records) (suc i - width) i, t.used row last-small, uses-few row shared)

      pub newest-room : count + same (get_or area row 0) 0 ≤ width
      newest-room =
          omega (arith, part_length (row_in records) (suc i - width) i, same-zero (get_or area row 0), t.counted, different-few shared)

      -- record i comes in
      pub newest-in : Counted records width (suc i) (set area row (suc (get_or area row 0))) (count + same (get_or area row 0) 0)
      newest-in =
          let last = part-last (row_in records) (suc i - width) i (omega arith) ∙ ap (λ (x : ℕ). shared ++ x ∷ []) (sym e) in
          let k = rw (← last) at (entering last-small t) in
          record { long = k.long; used = k.used; counted = k.counted }
