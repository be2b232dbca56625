-- A run, record by record: what was visited so far and what is left to visit. Assumes nothing.
use mathlib.Core.Path.{◌≡◌, refl, sym, ap, ap₂, subst, ◌∙◌}
use Rattle.std.proofs.Common.{Some, None}
use mathlib.Core.Bool.{Bool, true, false, cond}
use mathlib.Core.List.{List, [], ◌∷◌, ◌++◌, map, append-nil}
use Prim.Native.Nat.{ℕ, suc, ◌+◌, ◌-◌, ◌*◌, ◌/◌, ◌≤◌, ◌<◌}
use native.Mathlib.Nat.{suc-mul, zero-mul}
use native.Mathlib.Numerals.{add-one}
use native.Mathlib.Omega.{arith}
use borrow.Author.Tests.{eqb-true, eqb-false}
use lib.Dec.{eqb}
use lib.IntN.{ℤ, pos, nat_abs}
use lib.ListN.{length, get_or, take, drop, replicate, get_or-replicate, length-map, length-replicate, drop_of_length-le}
use lib.Seq.{append_snoc, drop-cons}
use Rattle.definitions.specs.declared.Draw.{Draw}
use Rattle.definitions.specs.declared.View.{View}
use Rattle.definitions.specs.Limits.{cells, list_limit, record_width}
use Rattle.definitions.specs.Lists.{concat, range, select}
use Rattle.definitions.specs.Vector.{Vector, plus}
use Rattle.definitions.specs.Group.{Exchange}
use Rattle.definitions.specs.Lent.{rows_of}
use Rattle.definitions.specs.Window.{Visit, answer_row, answer_rows, answer_width, chosen, different, draw_of, drawn_image, draws_of, is_contingency, is_drawable, larger, last_of, lesser, names_image, value_of, visits}
use Rattle.theory.proofs.Lists.{concat-append, range_length}
use Rattle.theory.proofs.Rows.{short-plus}
use Rattle.theory.proofs.Tests.{and-true-left, and-true-right}
use Rattle.theory.proofs.Vector.{length-plus}
use Rattle.vectors.proofs.Rows.{rows-count}
use Rattle.reduction.specs.declared.Extent.{Extent}
use Rattle.figures.specs.Window.{Named, Rows, Viewable, row_in, uses, value_in}
use Rattle.figures.proofs.Values.{fewer-rows}
use Rattle.figures.proofs.Parts.{part-last, part-over, part_same}
use Rattle.draws.specs.declared.Figures.{Figures}
use Rattle.draws.specs.Draws as draws
use Rattle.draws.specs.Draws.{Filled, Listed, drawn, names_in, table_in}
use Rattle.draws.specs.Run.{Answers, Ran, Shown, visit_in, visits_in, visits_of}
use Rattle.draws.proofs.Images.{image-filled, names-drawn, row_below}
use Rattle.draws.proofs.Records.{draw-from}
use Rattle.draws.proofs.Answering.{visit-kept, visits-part}

-- the answer row of one record more
rows_more : (view : View) (before after : List Visit) (visit : Visit)
    → answer_rows view before (after ++ visit ∷ []) ≡ answer_rows view before after ++ answer_row view visit (last_of view.width (before ++ (after ++ visit ∷ []))) ∷ []
unfolding answer_rows
rows_more view before [] visit = refl
rows_more view before (x ∷ after) visit =
    let all = before ++ x ∷ [] in
    let e : all ++ (after ++ visit ∷ []) ≡ before ++ x ∷ (after ++ visit ∷ []) = append_snoc before x (after ++ visit ∷ []) in
    ap (λ (l : List (List ℤ)). answer_row view x (last_of view.width all) ∷ l)
    (rows_more view all after visit ∙ ap (λ (l : List Visit). answer_rows view all after ++ answer_row view visit (last_of view.width l) ∷ []) e)

-- the numbers of records and of visits
pub draws-count : (records : List ℤ) → length (draws_of records) ≡ length records / record_width
unfolding draws_of
draws-count records = length-map (rows_of record_width records) draw_of ∙ rows-count record_width records

visits-count : (view : View) (records answers : List ℤ) (count : ℕ) → length (visits_in view records answers count) ≡ count
visits-count view records answers count = length-map (range 0 count) (visit_in view records answers) ∙ range_length 0 count

-- a record that was drawn names an image, and with it added the entries stay within their limits
record Taken (table : List Exchange) (rows : List Vector) (current : Vector) (draw : Draw) (next : Vector) : Type 0 where
  drawable : is_drawable table rows current draw ≡ true
  sum : next ≡ plus current (drawn_image table rows draw)

module _ (table : List Exchange) (rows : List Vector) (current : Vector) (draw : Draw) where
  taken : {next : Vector} → Some next ≡ drawn table rows current draw → Taken table rows current draw next
  taken {next} = go (is_drawable table rows current draw) refl
    where
      go : (b : Bool) → is_drawable table rows current draw ≡ b
          → Some next ≡ cond b (Some (plus current (drawn_image table rows draw))) None → Taken table rows current draw next
      go true q e = record { drawable = q; sum = cc }
      go false q e = absurd (cc)

  -- and one that was refused does not
  refused : None ≡ drawn table rows current draw → is_drawable table rows current draw ≡ false
  refused = go (is_drawable table rows current draw)
    where
      go : (b : Bool) → None ≡ cond b (Some (plus current (drawn_image table rows draw))) None → b ≡ false
      go true e = absurd (cc)
      go false e = refl

-- a sum of vectors of n cells
filled-plus : (n : ℕ) (u v : Vector) → Filled n u → Filled n v → Filled n (plus u v)
filled-plus n u v f g = record { long = length-plus cells u v f.long g.long; short = short-plus n u v f.short g.short }

module _ (view : View) (extent : Extent) (list : List ℤ) (group : List ℕ) (start : Vector) (records : List ℤ) where
  abbrev table : List Exchange
  table = table_in extent group

  abbrev rows : List Vector
  rows = draws.rows_in extent list

  abbrev w : ℕ
  w = answer_width view.n

  abbrev count : ℕ
  count = length records / record_width

  abbrev draw_at : (i : ℕ) → Draw
  draw_at i = get_or (draws_of records) i (draw_of [])

  abbrev due : List Visit
  due = visits_of extent list group start records

  -- before record i, with the contingency table `current`
  pub record Runs (answers : List ℤ) (uses : List ℕ) (i : ℕ) (f : Figures) (current : Vector) : Type 0 where
    pub roomy : Rows view answers count
    pub shown : Shown view records answers uses i f
    pub filled : Filled view.n current
    pub entries : is_contingency current ≡ true
    pub named : (j : ℕ) → j < i → row_in records j < list_limit
    pub visited : due ≡ visits_in view records answers i ++ visits table rows current (drop i (draws_of records))
    pub answered : take (i * w) answers ≡ concat (answer_rows view [] (visits_in view records answers i))

  -- no record is left
  ran : (answers : List ℤ) (uses : List ℕ) (i : ℕ) (f : Figures) (current : Vector) → Runs answers uses i f current → visits table rows current (drop i (draws_of records)) ≡ [] → Ran view due answers i
  ran answers uses i f current runs e =
      let all : due ≡ visits_in view records answers i = runs.visited ∙ ap (λ (l : List Visit). visits_in view records answers i ++ l) e ∙ append-nil _ in
      record {
        all = sym (ap length all ∙ visits-count view records answers i);
        rows = runs.answered ∙ ap (λ (l : List Visit). concat (answer_rows view [] l)) (sym all);
      }

  -- record i, and those behind it
  next-draw : (i : ℕ) → i < count → drop i (draws_of records) ≡ draw_at i ∷ drop (suc i) (draws_of records)
  next-draw i h = drop-cons (draws_of records) i (draw_of []) (omega (arith, draws-count records))

  module _ {answers : List ℤ} {uses : List ℕ} {i : ℕ} {f : Figures} {current : Vector} (runs : Runs answers uses i f current) where
    -- the last record was drawn
    pub run-ended : i ≡ count → Ran view due answers count
    unfolding visits
    run-ended e =
        let none : drop i (draws_of records) ≡ [] = drop_of_length-le (draws_of records) (omega (arith, draws-count records)) in
        subst (Ran view due answers) e (ran answers uses i f current runs (rw none))

    module _ (h : i < count) {draw : Draw} (read : draw ≡ draw_at i) where
      -- record i is refused
      pub run-refused : None ≡ drawn table rows current draw → Ran view due answers i
      unfolding visits
      run-refused e = ran answers uses i f current runs (rw (next-draw i h, ← read, refused table rows current draw e))

      -- record i is drawn, to a contingency table
      module _ {next : Vector} (e : Some next ≡ drawn table rows current draw) where
        pub sum-entries : is_contingency next ≡ true
        unfolding is_drawable
        sum-entries =
            let fit = taken table rows current draw e in
            rw fit.sum (and-true-right (names_image table rows draw) (is_contingency (plus current (drawn_image table rows draw))) fit.drawable)

      -- with a list and a table in their areas
      module _ {next : Vector} (e : Some next ≡ drawn table rows current draw) (listed : Listed extent list group) where
        abbrev fit : Taken table rows current draw next
        fit = taken table rows current draw e

        names : names_in extent draw ≡ true
        unfolding is_drawable
        names = sym (names-drawn extent list group draw) ∙ and-true-left (names_image table rows draw) (is_contingency (plus current (drawn_image table rows draw))) fit.drawable

        row_is : nat_abs draw.row ≡ row_in records i
        row_is = ap (λ (draw : Draw). nat_abs draw.row) (read ∙ draw-from records i h)

        -- its row is one of the list's
        pub row_named : (j : ℕ) → j ≤ i → row_in records j < list_limit
        row_named j l = go (eqb j i) refl
          where
            go : (b : Bool) → eqb j i ≡ b → row_in records j < list_limit
            go true q = rw (eqb-true j i q) (omega (arith, sym row_is, row_below listed draw names, listed.few))
            go false q = runs.named j (omega (arith, eqb-false j i q))

        pub records-named : Named records i
        records-named = record { sent = h; rows = row_named }

        -- it leads to a vector of n cells
        pub sum-filled : view.n ≡ extent.shape.n → Filled view.n next
        sum-filled same =
            rw fit.sum (filled-plus view.n current (drawn_image table rows draw) runs.filled (rw same (image-filled listed draw names)))

        -- there is room for its answer row
        room : Rows view answers (suc i)
        room = fewer-rows view answers (suc i) count h runs.roomy

        -- and it is written
        module _ (answers' : List ℤ) (uses' : List ℕ) (f' : Figures) (viewable : Viewable view) (same : view.n ≡ extent.shape.n) (long : length answers' ≡ length answers)
            (shown : Shown view records answers' uses' (suc i) f') (A : Answers view records answers answers' i next) where
          abbrev latest : Visit
          latest = visit_in view records answers' i

          abbrev before : List Visit
          before = visits_in view records answers i

          abbrev window : List Visit
          window = last_of view.width (visits_in view records answers' (suc i))

          abbrev values : List ℤ
          values = map (value_of view.cell) window

          written : take (i * w + w) answers'
              ≡ take (i * w) answers
              ++ (take view.n next ++ chosen lesser values ∷ chosen larger values ∷ pos (different (map (λ (visit : Visit). visit.row) window)) ∷ [])
          unfolding answer_row
          written =
              ap (λ (k : ℕ). take k answers') (sym (suc-mul i w)) ∙ A.row
              ∙ ap (λ (v : Vector). take (i * w) answers ++ (take view.n v ++ chosen lesser values ∷ chosen larger values ∷ pos (different (map (λ (visit : Visit). visit.row) window)) ∷ []))
              (ap (λ (visit : Visit). visit.reached) A.reached)

          all : visits_in view records answers' (suc i) ≡ before ++ latest ∷ []
          all =
              visits-part view records answers' (suc i) ∙ part-last (visit_in view records answers') 0 i (omega arith)
              ∙ ap (λ (l : List Visit). l ++ latest ∷ [])
              (part_same 0 i (λ j a b. visit-kept view records answers answers' i next _ viewable room long (sum-filled same) written j b) ∙ sym (visits-part view records answers i))

          latest-is : latest ≡ record { row = nat_abs draw.row; reached = next }
          latest-is = A.reached ∙ ap (λ (k : ℕ). record { row = k; reached = next }) (sym row_is)

          left : visits table rows current (drop i (draws_of records)) ≡ latest ∷ visits table rows next (drop (suc i) (draws_of records))
          unfolding visits
          left = rw (next-draw i h, ← read, fit.drawable, ← fit.sum) (ap (λ (v : Visit). v ∷ visits table rows next (drop (suc i) (draws_of records))) (sym latest-is))

          -- THE RUN GOES ON
          pub run_on : Runs answers' uses' (i + 1) f' next
          unfolding concat
          run_on = rw add-one (record {
            roomy = rw long runs.roomy;
            shown = shown;
            filled = sum-filled same;
            entries = sum-entries e;
            named = λ j l. row_named j (omega (arith, l));
            visited =
                runs.visited ∙ ap (λ (l : List Visit). before ++ l) left
                ∙ sym (append_snoc before latest (visits table rows next (drop (suc i) (draws_of records))))
                ∙ ap (λ (l : List Visit). l ++ visits table rows next (drop (suc i) (draws_of records))) (sym all);
            answered =
                A.row
                ∙ ap₂ (λ (l : List ℤ) (v : List Visit). l ++ answer_row view latest (last_of view.width v)) runs.answered all
                ∙ ap (λ (l : List ℤ). concat (answer_rows view [] before) ++ l) (sym (append-nil _))
                ∙ sym (concat-append (answer_rows view [] before) (answer_row view latest (last_of view.width (before ++ latest ∷ [])) ∷ []))
                ∙ ap concat (sym (rows_more view [] before latest))
                ∙ ap (λ (l : List Visit). concat (answer_rows view [] l)) (sym all);
          })

  -- before the first record
  pub run-begun : (answers : List ℤ) → Rows view answers count → Filled view.n start → is_contingency start ≡ true → Runs answers (replicate list_limit 0) 0 (record { extremes = record { smallest = pos 0; largest = pos 0 }; different = 0 }) start
  unfolding range answer_rows concat chosen different select
  run-begun answers roomy filled entries = record {
    roomy = roomy;
    shown = record {
      counted = record {
        long = length-replicate {A = ℕ} list_limit 0;
        used = λ r h. get_or-replicate list_limit r 0 0 h ∙ sym (ap (uses r) (part-over (row_in records) (0 - view.width) 0 (omega arith)));
        counted = sym (ap different (part-over (row_in records) (0 - view.width) 0 (omega arith)));
      };
      spans = record {
        smallest = sym (ap (chosen lesser) (part-over (value_in view answers) (0 - view.width) 0 (omega arith)));
        largest = sym (ap (chosen larger) (part-over (value_in view answers) (0 - view.width) 0 (omega arith)));
      };
    };
    filled = filled;
    entries = entries;
    named = λ j h. absurd (omega (arith, h));
    visited = refl;
    answered = ap (λ (k : ℕ). take k answers) (zero-mul w);
  }
